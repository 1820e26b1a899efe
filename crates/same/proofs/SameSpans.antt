-- Element names of the same bytes are equal.
use mathlib.Core.Path.{◌≡◌, refl, sym, ap, ◌∙◌}
use mathlib.Core.Bool.{Bool, true, false}
use mathlib.Core.List.{List}
use Prim.Native.Char.{code}
use Prim.Native.Nat.{ℕ, zero, suc, ◌+◌, ◌≤◌, ◌<◌}
use native.Mathlib.Omega.{arith}
use lib.ListN.{length}
use lib.Dec.{ltb}
use borrow.Author.Tests.{eq-eqb, ltb-true}
use Rattle.rules.specs.Rule.{Rule}
use Rattle.rules.specs.Parse.{pick, byte_at, no_char, code_at}
use Rattle.rules.proofs.Run.{never}
use Rattle.rules.proofs.Local.{up_got}
use Rattle.rules.proofs.Ends.{top_got}
use Rattle.rules.proofs.Flow.{advances}
use Rattle.rules.proofs.Advance.{advance}
use Rattle.jsx.specs.Byte.{is, ◌‥◌, need}
use Rattle.jsx.specs.Blank.{blanks}
use Rattle.jsx.specs.Name.{same, opens_name, opens_part, part as name_part}
use Rattle.lex.specs.Contract.{Past}
use Rattle.lex.proofs.Ranges.{in_range}
use Rattle.character.proofs.CodeSteps.{code_alone}
use Rattle.character.proofs.WidthSteps.{width_one}
use Rattle.character.proofs.Read.{by_first}
use Rattle.word.proofs.PartTests.{opens_ascii, none_opens}
use Rattle.word.proofs.Again.{part_opens, first_within}
use Rattle.same.specs.Contract.{ReadsAt, ReadTo, Named, behind_colon, behind_dot, same_parts}
use Rattle.same.proofs.Forms.{bytes_to, colon, dot, Several, Form, one, several, begins, blanks_behind, form_at}
use Rattle.same.proofs.Equal as Equal
use Rattle.same.proofs.Equal.{equal}
use Rattle.same.proofs.Member as Member
use Rattle.same.proofs.Member.{After, over, next}
use Rattle.same.proofs.NamespacedSteps as Namespaced
use Rattle.same.proofs.Twins.{ends, Edge, Twins, twin_same, blanks_twin, part_twin}

-- ---- what was read ends somewhere

module _ {s : List ℕ} {at : ℕ} where
  blanks_to : (r : ReadsAt s blanks at) → Past r.to s blanks at 0
  blanks_to r =
      let i = up_got s (suc (length s)) blanks 0 at r.read in
      record { is = r.read; far = (omega arith, top_got s (suc (length s)) blanks 0 at r.inside r.read) }

  part_to : (r : ReadsAt s name_part at) → Past r.to s name_part at 1
  unfolding advances name_part need
  part_to r =
      let i = advance s (suc (length s)) name_part refl 0 at _ _ r.read in
      record { is = r.read; far = (omega arith, top_got s (suc (length s)) name_part 0 at r.inside r.read) }

-- ---- the character behind blanks

module _ (s : List ℕ) (p b : ℕ) where
  -- A byte of ASCII,
  edge_byte : (k : ℕ) → byte_at s p ≡ k → ltb k 0x80 ≡ true → ends k ≡ true → p < b → Edge s p b
  edge_byte k e h i l =
      let j = ltb-true k 0x80 h in
      let c = code_alone s p {b = k} (sym e) j in
      let w = width_one {b = byte_at s p} (omega arith) in
      record { byte = ap ends e ∙ i; coded = λ x. absurd (omega arith); inside = omega arith }

  edge_colon : byte_at s p ≡ code ":" → p < b → Edge s p b
  unfolding ends
  edge_colon e l = edge_byte (code ":") e refl refl l

  edge_dot : byte_at s p ≡ code "." → p < b → Edge s p b
  unfolding ends
  edge_dot e l = edge_byte (code ".") e refl refl l

  -- and a part's first character.
  edge_part : {e : ℕ} → Past e s name_part p 1 → e ≤ b → Edge s p b
  unfolding ends
  edge_part {e} l le =
      let o = part_opens s p e l.is in
      let k : code_at s p ≡ no_char → ⊥ = λ z. never (sym none_opens ∙ sym (ap opens_part z) ∙ o) in
      let i = first_within s p e l.is in
      record {
        byte = by_first s p k (λ n. ends (byte_at s p) ≡ true)
            (λ h. low (opens_name_here o h))
            (λ h u j. high (in_range 0xC0 0xFF (byte_at s p) h (omega arith)))
            (λ h u j. high (in_range 0xC0 0xFF (byte_at s p) (omega arith) (omega arith)))
            (λ h u j. high (in_range 0xC0 0xFF (byte_at s p) (omega arith) (omega arith)));
        coded = k;
        inside = omega arith;
      }
    where
      opens_name_here : opens_part (code_at s p) ≡ true → byte_at s p < 0x80 → opens_name (byte_at s p) ≡ true
      opens_name_here o h = sym (opens_ascii (byte_at s p) h) ∙ ap opens_part (code_alone s p refl h) ∙ o

      low : opens_name (byte_at s p) ≡ true → ends (byte_at s p) ≡ true
      low h = go (is ":" (byte_at s p)) (is "." (byte_at s p))
        where
          go : (y z : Bool)
              → pick y true (pick z true (pick (opens_name (byte_at s p)) true ((0xC0 ‥ 0xFF) (byte_at s p)))) ≡ true
          go true z = refl
          go false true = refl
          go false false = rw h

      high : (0xC0 ‥ 0xFF) (byte_at s p) ≡ true → ends (byte_at s p) ≡ true
      high h = go (is ":" (byte_at s p)) (is "." (byte_at s p)) (opens_name (byte_at s p))
        where
          go : (x y z : Bool) → pick x true (pick y true (pick z true ((0xC0 ‥ 0xFF) (byte_at s p)))) ≡ true
          go true y z = refl
          go false true z = refl
          go false false true = refl
          go false false false = h

-- ---- behind a colon

colon_twin : {s : List ℕ} {a b c d x y : ℕ} → Twins s a b c d → x + c ≡ y + a → a ≤ x
    → ReadTo s behind_colon x b
    → ReadTo s behind_colon y d
    → same_parts s behind_colon x y ≡ true
colon_twin {s} {b = b} {d = d} v tw lo h g =
    let r = Namespaced.colon_blanks h refl refl in
    let r₂ = Namespaced.colon_blanks g refl refl in
    let k = blanks_to r in
    let k₂ = blanks_to r₂ in
    let o = Namespaced.colon_part h k in
    let l = part_to o in
    let e : o.to ≡ b = Namespaced.colon_part_ends h k in
    let far = k.far in
    let far₂ = l.far in
    let i = blanks_twin v tw lo k (edge_part s r.to b l (omega arith)) k₂ in
    let z = v.long in
    sym (Namespaced.second_parts h g k k₂ refl) ∙ twin_same v r.to b r₂.to d i (omega arith) z (omega arith)

-- ---- behind a dot

-- From x, behind a dot, to b, as the code goes: blanks to i, a part to e, blanks to q.
record Step (s : List ℕ) (x b : ℕ) : Type 0 where
  i : ℕ
  e : ℕ
  q : ℕ
  passed : Past i s blanks x 0
  part : Past e s name_part i 1
  behind : Past q s blanks e 0
  after : After s x b i e q

step : {s : List ℕ} {x b : ℕ} → ReadTo s behind_dot x b → Step s x b
step {s} h =
    let k = blanks_to (Member.dot_blanks h) in
    let l = part_to (Member.dot_part h k) in
    let m = blanks_to (Member.part_blanks h k l) in
    record {
      i = (Member.dot_blanks h).to;
      e = (Member.dot_part h k).to;
      q = (Member.part_blanks h k l).to;
      passed = k;
      part = l;
      behind = m;
      after = Member.after_at h k l m;
    }

after_within : {s : List ℕ} {x b i e q : ℕ} → After s x b i e q → e ≤ b
after_within (over l g) = omega arith
after_within (next l o r g) = omega arith

module _ {s : List ℕ} {a b c d : ℕ} (v : Twins s a b c d) where
  -- The rests at twins that begin less than n bytes before their ends are the same.
  abbrev Below : ℕ → Type 0
  Below n = (x y : ℕ) → x + c ≡ y + a → a ≤ x → b < x + n → ReadTo s behind_dot x b → ReadTo s behind_dot y d
      → same_parts s behind_dot x y ≡ true

  dot_turn : (n : ℕ) → Below n → Below (suc n)
  dot_turn n again x y tw lo big h g = go m.after m₂.after
    where
      m : Step s x b
      m = step h

      m₂ : Step s y d
      m₂ = step g

      starts : m.i + c ≡ m₂.i + a
      starts =
          let far = m.part.far in
          let w = after_within m.after in
          blanks_twin v tw lo m.passed (edge_part s m.i b m.part w) m₂.passed

      stops : m.e + c ≡ m₂.e + a
      stops =
          let far = m.passed.far in
          part_twin v starts (omega arith) m.part (after_within m.after) m₂.part (after_within m₂.after)

      parts : same (bytes_to s m.i m.e) (bytes_to s m₂.i m₂.e) ≡ true
      parts =
          let far = m.passed.far in
          twin_same v m.i m.e m₂.i m₂.e starts (omega arith) stops (after_within m.after)

      go : After s x b m.i m.e m.q → After s y d m₂.i m₂.e m₂.q → same_parts s behind_dot x y ≡ true
      go (over z w) o =
          let t = v.long in
          let u = stops in
          Member.first_over m.after m₂.after parts z ∙ eq-eqb m₂.e d (omega arith)
      go (next z o r w) (over z₂ w₂) =
          let t = v.long in
          let u = stops in
          absurd (omega arith)
      go (next z o r w) (next z₂ o₂ r₂ w₂) =
          let far = m.passed.far in
          let far₁ = m.part.far in
          let far₂ = m.behind.far in
          let up = up_got s (suc (length s)) behind_dot 0 (m.q + 1) r.read in
          let dots = blanks_twin v stops (omega arith) m.behind (edge_dot s m.q b o (omega arith)) m₂.behind in
          let on = Member.go_on m.after m₂.after parts (λ l. omega arith) (λ l. omega arith) in
          on.2 ∙ again (m.q + 1) (m₂.q + 1) (omega arith) (omega arith) (omega arith) r r₂

  dot_twin : (n : ℕ) → Below n
  dot_twin zero x y tw lo big h g =
      let i = up_got s (suc (length s)) behind_dot 0 x h.read in
      absurd (omega arith)
  dot_twin (suc n) x y tw lo big h g = dot_turn n (dot_twin n) x y tw lo big h g

-- ---- element names

-- From a to b, as the code goes: a part to e, blanks to q.
record Start (s : List ℕ) (a b : ℕ) : Type 0 where
  e : ℕ
  q : ℕ
  part : Past e s name_part a 1
  behind : Past q s blanks e 0
  form : Form s a b e q

start : {s : List ℕ} {a b : ℕ} → Named s a b → Start s a b
start n =
    let l = part_to (begins n) in
    let k = blanks_to (blanks_behind n l) in
    record { e = (begins n).to; q = (blanks_behind n l).to; part = l; behind = k; form = form_at n l k }

form_within : {s : List ℕ} {a b e q : ℕ} → Form s a b e q → e ≤ b
form_within (one l g) = omega arith
form_within (several i x m) = let l = m.longer in omega arith

-- Names of the same bytes.
pub names_twin : {s : List ℕ} {a b c d : ℕ} → Named s a b → Named s c d → Twins s a b c d → equal s a c ≡ true
names_twin {s} {a} {b} {c} {d} n n₂ v = go m.form m₂.form
  where
    m : Start s a b
    m = start n

    m₂ : Start s c d
    m₂ = start n₂

    stops : m.e + c ≡ m₂.e + a
    stops =
        part_twin v (omega arith) (omega arith) m.part (form_within m.form) m₂.part (form_within m₂.form)

    parts : same (bytes_to s a m.e) (bytes_to s c m₂.e) ≡ true
    parts = twin_same v a m.e c m₂.e (omega arith) (omega arith) stops (form_within m.form)

    separators : {t : Rule} {k : ℕ} → Several s a b m.e m.q k t → (m.q < b → Edge s m.q b)
        → (m.q + c ≡ m₂.q + a) × (a ≤ m.q) × (byte_at s m.q ≡ byte_at s m₂.q)
    separators {t} h o =
        let far = m.part.far in
        let far₂ = m.behind.far in
        let up = up_got s (suc (length s)) t 0 (m.q + 1) h.rest.read in
        let tw = blanks_twin v stops (omega arith) m.behind (o (omega arith)) m₂.behind in
        (tw, omega arith, v.bytes m.q m₂.q tw (omega arith) (omega arith))

    go : Form s a b m.e m.q → Form s c d m₂.e m₂.q → equal s a c ≡ true
    go (one z w) o =
        let t = v.long in
        let u = stops in
        Equal.one_part_lem m.form m₂.form parts z ∙ eq-eqb m₂.e d (omega arith)
    go (several i x h) (one z w) =
        let t = v.long in
        let u = stops in
        let l = h.longer in
        absurd (omega arith)
    go (several colon x h) (several colon x₂ g) =
        let t = separators h (edge_colon s m.q b x) in
        let tw = t.0 in
        let lo = t.1 in
        Equal.rests h g parts ∙ colon_twin v (omega arith) (omega arith) h.rest g.rest
    go (several colon x h) (several dot x₂ g) =
        let y = (separators h (edge_colon s m.q b x)).2 in
        absurd (omega arith)
    go (several dot x h) (several colon x₂ g) = let y = (separators h (edge_dot s m.q b x)).2 in absurd (omega arith)
    go (several dot x h) (several dot x₂ g) =
        let t = separators h (edge_dot s m.q b x) in
        let tw = t.0 in
        let lo = t.1 in
        Equal.rests h g parts
        ∙ dot_twin v (suc b) (m.q + 1) (m₂.q + 1) (omega arith) (omega arith) (omega arith) h.rest g.rest
