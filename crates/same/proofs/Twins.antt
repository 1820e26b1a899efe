-- Two spans with the same bytes: what a rule reads within the one, it reads within the other.
use mathlib.Core.Path.{◌≡◌, refl, sym, ap, subst, ◌∙◌}
use mathlib.Core.Bool.{Bool, true, false}
use mathlib.Core.List.{List}
use Prim.Native.Nat.{ℕ, zero, suc, ◌+◌, ◌-◌, ◌≤◌, ◌<◌}
use Prim.Native.Char.{code}
use native.Mathlib.Nat.{le_refl}
use native.Mathlib.Omega.{arith}
use lib.ListN.{length, get_or}
use lib.Dec.{leb}
use borrow.Author.Tests.{eq-eqb, lt-ltb, le-ltb, leb-true, eqb-true}
use Rattle.rules.specs.Forest.{Forest}
use Rattle.rules.specs.Rule.{Test, Rule, done, step}
use Rattle.rules.specs.Parse.{got, pick, byte_at, no_char, code_at, read_at}
use Rattle.rules.proofs.Local.{Seen, local_got}
use Rattle.rules.proofs.Run.{both}
use Rattle.rules.proofs.Agree.{heads, Lacks, stands_twin}
use Rattle.rules.proofs.Flow.{Mode, near, same, tight_near, seen_near, advances, lacking, Flow}
use Rattle.rules.proofs.Flow.{f_weak, f_stop, f_step, f_refuse, f_when, f_look, f_seq, f_many, f_marked}
use Rattle.rules.proofs.Reach.{reach}
use Rattle.jsx.specs.Byte.{is, ◌or◌, ◌‥◌, letter, character}
use Rattle.jsx.specs.Blank.{comment_turn, comment, line_turn, line_comment, blank, blanks}
use Rattle.jsx.specs.Name as Name
use Rattle.jsx.specs.Name.{opens_name, part as name_part}
use Rattle.lex.specs.Contract.{bytes_from, Past}
use Rattle.lex.proofs.SameBytes.{length_part}
use Rattle.character.specs.Width.{width_of}
use Rattle.character.proofs.Read.{character_wide}
use Rattle.character.proofs.Again.{code_again}
use Rattle.word.proofs.Ascii.{opens_low}
use Rattle.word.proofs.Again.{parts_twin}
use Rattle.same.proofs.Names as Names
use Rattle.same.proofs.Forms.{bytes_to}
use Rattle.same.proofs.Equal.{same_is}

-- ---- blanks look no further than the character at their end

-- No `look` of the rule goes on behind a byte that passes Q.
abbrev Near : Test → Rule → Mode → Type 0
Near Q t k = Flow (λ d. done) Q (λ l o. Unit {0}) near t near k

step_near : {Q : Test} {k : Mode} → Near Q step k
step_near = f_weak same tight_near same f_step

-- The bytes behind blanks within a name: a separator, or the first of a part.
unfoldable pub ends : Test
ends = is ":" or is "." or opens_name or (0xC0 ‥ 0xFF)

comment_near : {k : Mode} → Near ends comment k
unfolding comment comment_turn advances lacking ends opens_name letter
comment_near =
    f_marked (f_seq step_near (f_seq step_near (f_seq
    (f_many refl (f_when seen_near (f_refuse refl) (f_look seen_near refl f_stop step_near)))
    (f_seq step_near step_near))))

-- None of them goes on with a character.
ends_head : (b : ℕ) → ends b ≡ true → heads b ≡ true
unfolding ends
ends_head b h = go (is ":" b) (is "." b) (opens_name b) refl refl refl h
  where
    go : (x y z : Bool) → is ":" b ≡ x → is "." b ≡ y → opens_name b ≡ z
        → pick x true (pick y true (pick z true ((0xC0 ‥ 0xFF) b))) ≡ true
        → heads b ≡ true
    go true y z e f g k = rw (eqb-true b (code ":") e)
    go false true z e f g k = rw (eqb-true b (code ".") f)
    go false false true e f g k = rw (lt-ltb b 0x80 (opens_low b g))
    go false false false e f g k =
        let l = (both (leb 0xC0 b) (leb b 0xFF) k).0 in
        let i = leb-true 0xC0 b l in
        rw (le-ltb b 0x80 (omega arith), l)

line_near : {k : Mode} → Near ends line_comment k
unfolding line_comment line_turn advances
line_near =
    f_seq step_near
    (f_seq step_near (f_many refl (f_when seen_near f_stop (f_look seen_near ends_head f_stop step_near))))

character_near : Near ends character near
character_near =
    f_when seen_near (f_seq step_near step_near)
    (f_when seen_near (f_seq step_near (f_seq step_near step_near))
    (f_when seen_near (f_seq step_near (f_seq step_near (f_seq step_near step_near))) step_near))

blanks_near : Near ends blanks near
unfolding blanks blank comment line_comment advances lacking ends opens_name letter
blanks_near =
    f_many refl (f_look seen_near ends_head character_near
    (f_look seen_near refl comment_near (f_look seen_near refl line_near f_stop)))

-- A character at p, before b, behind blanks within a name.
pub record Edge (s : List ℕ) (p b : ℕ) : Type 0 where
  pub byte : ends (byte_at s p) ≡ true
  pub coded : code_at s p ≡ no_char → ⊥
  pub inside : p + width_of (byte_at s p) ≤ b

-- ---- spans with the same bytes

-- The byte at p, from a up to b, is the byte at its twin q, from c up to d.
pub record Twins (s : List ℕ) (a b c d : ℕ) : Type 0 where
  pub long : b + c ≡ d + a
  pub inside : b ≤ length s
  pub inside₂ : d ≤ length s
  pub bytes : (p q : ℕ) → p + c ≡ q + a → a ≤ p → p < b → byte_at s p ≡ byte_at s q

bytes_at : (s : List ℕ) (a n i : ℕ) → i < n → get_or (bytes_from s a n) i 256 ≡ byte_at s (a + i)
unfolding bytes_from
bytes_at s a zero i h = absurd (omega arith)
bytes_at s a (suc n) zero h = ap (λ (k : ℕ). byte_at s k) (omega arith)
bytes_at s a (suc n) (suc i) h = bytes_at s (a + 1) n i (omega arith) ∙ ap (λ (k : ℕ). byte_at s k) (omega arith)

-- Spans that were found the same.
pub twins : {s : List ℕ} {a b c d : ℕ} → a ≤ b → b ≤ length s → c ≤ d → d ≤ length s
    → Name.same (bytes_to s a b) (bytes_to s c d) ≡ true
    → Twins s a b c d
twins {s} {a} {b} {c} {d} i j k l h = record { long = omega (arith, n); inside = j; inside₂ = l; bytes = each }
  where
    e : bytes_to s a b ≡ bytes_to s c d
    e = same_is (bytes_to s a b) (bytes_to s c d) h

    n : b - a ≡ d - c
    n = sym (length_part s a (b - a)) ∙ ap length e ∙ length_part s c (d - c)

    each : (p q : ℕ) → p + c ≡ q + a → a ≤ p → p < b → byte_at s p ≡ byte_at s q
    each p q tw lo hi =
        ap (λ (x : ℕ). byte_at s x) (omega arith)
        ∙ sym (bytes_at s a (b - a) (p - a) (omega arith))
        ∙ ap (λ (u : List ℕ). get_or u (p - a) 256) e
        ∙ bytes_at s c (d - c) (p - a) (omega (arith, n))
        ∙ ap (λ (x : ℕ). byte_at s x) (omega arith)

-- Each of the two is the other's twin.
pub swapped : {s : List ℕ} {a b c d : ℕ} → Twins s a b c d → Twins s c d a b
swapped v =
    let l = v.long in
    record {
      long = omega arith;
      inside = v.inside₂;
      inside₂ = v.inside;
      bytes = λ p q tw lo hi. sym (v.bytes q p (omega arith) (omega arith) (omega arith));
    }

module _ {s : List ℕ} {a b c d : ℕ} (v : Twins s a b c d) where
  -- Parts of them that are twins.
  pub twin_same : (x e y f : ℕ) → x + c ≡ y + a → a ≤ x → e + c ≡ f + a → e ≤ b
      → Name.same (bytes_to s x e) (bytes_to s y f) ≡ true
  unfolding Name.same bytes_from
  twin_same x e y f tw lo tw₂ hi =
      let n : f - y ≡ e - x = omega arith in
      rw n (go (e - x) x y tw lo (omega arith))
    where
      go : (n p q : ℕ) → p + c ≡ q + a → a ≤ p → n ≤ e - p → Name.same (bytes_from s p n) (bytes_from s q n) ≡ true
      go zero p q t l h = refl
      go (suc n) p q t l h =
          rw (eq-eqb (byte_at s p) (byte_at s q) (v.bytes p q t l (omega arith)))
          (go n (p + 1) (q + 1) (omega arith) (omega arith) (omega arith))

  -- Where the byte before h passes a test, and the same character begins there in both, they show the same before h,
  -- if nothing is asked that goes on behind such a byte.
  seen_twin : (Q : Test) (h : ℕ) → h ≤ b → ((j : ℕ) → j + 1 ≡ h → Q (byte_at s j) ≡ true)
      → ((j k : ℕ) → j + c ≡ k + a → j + 1 ≡ h → code_at s j ≡ code_at s k)
      → (p q : ℕ) → p + c ≡ q + a
      → a ≤ p
      → p < h
      → Seen (Lacks Q) s s p q
  seen_twin Q h le al cs p q tw lo lt =
      let l = v.long in
      let i = v.inside in
      let j = v.inside₂ in (
        v.bytes p q tw lo (omega arith),
        lt-ltb p (length s) (omega arith) ∙ sym (lt-ltb q (length s) (omega arith)),
        λ w x. stands_twin s s a c a h (λ p₁ q₁ e m n. v.bytes p₁ q₁ e m (omega arith)) Q al
            (λ k p₁ q₁ e m n. cs p₁ q₁ e n) w p q tw lo lt x,
      )

  -- What a rule reads within the one span, it reads within the other.
  read_twin : {Q : Test} {t : Rule} → Near Q t near → (x y : ℕ) {p : ℕ} {o : Forest} → x + c ≡ y + a → a ≤ x → x ≤ p
      → read_at s t x ≡ got true o p
      → p < b
      → Q (byte_at s p) ≡ true
      → ((q : ℕ) → p + c ≡ q + a → code_at s p ≡ code_at s q)
      → (q : ℕ) × (read_at s t y ≡ got true o q) × (p + c ≡ q + a)
  read_twin {Q} {t} f x y {p} {o} tw lo up h lt k cs =
      let F = suc (length s) in
      let i = v.inside in
      let al : (j : ℕ) → j + 1 ≡ p + 1 → Q (byte_at s j) ≡ true =
      λ j e. let z : p ≡ j = omega arith in subst (λ (n : ℕ). Q (byte_at s n) ≡ true) z k in
      local_got (Lacks Q) s s a c x (p + 1) (p + 1) (le_refl _)
      (λ p₁ q₁ tw₁ lo₁ hi₁. seen_twin Q (p + 1) (omega arith) al
      (λ j m e₁ e₂. let z : p ≡ j = omega arith in
      subst (λ (n : ℕ). code_at s n ≡ code_at s m) z (cs m (omega arith))) p₁ q₁ tw₁ (omega arith) hi₁)
      F F t 0 0 x y (omega arith) tw (le_refl _)
      (reach (λ d. done) Q (λ l o. Unit {0}) s F f 0 x true o p h (p + 1) (omega arith)).0 h (omega arith)

  -- Blanks that end at such a character of the one span end at twins.
  pub blanks_twin : {x y p q : ℕ} → x + c ≡ y + a → a ≤ x → Past p s blanks x 0 → Edge s p b
      → Past q s blanks y 0
      → p + c ≡ q + a
  blanks_twin {x} {y} {p} {q} tw lo l k m =
      let far = l.far in
      let wide = character_wide s p k.coded in
      let in_span = k.inside in
      let cs : (z : ℕ) → p + c ≡ z + a → code_at s p ≡ code_at s z =
      λ z e. code_again s p z k.coded (λ i u. v.bytes (p + i) (z + i) (omega arith) (omega arith) (omega arith)) in
      let r = read_twin blanks_near x y tw lo (omega arith) l.is (omega arith) k.byte cs in
      let e : r.0 ≡ q = Names.past_same s r.1 m in
      let g = r.2 in
      omega arith

-- Parts of names in the two spans end at twins.
pub part_twin : {s : List ℕ} {a b c d : ℕ} → Twins s a b c d → {x y e f : ℕ} → x + c ≡ y + a → a ≤ x
    → Past e s name_part x 1
    → e ≤ b
    → Past f s name_part y 1
    → f ≤ d
    → e + c ≡ f + a
part_twin {s} {a} {b} {c} {d} v {x} {y} {e} {f} tw lo l le m le₂ =
    let long = v.long in
    let z = parts_twin s x y e f b d l.is m.is
    (λ i h. v.bytes (x + i) (y + i) (omega arith) (omega arith) h) (omega arith) le le₂ in
    omega arith
