-- A closing tag that repeats a one-part name byte for byte: what its rule reads, and that the verdict is fine.
use mathlib.Core.Path.{◌≡◌, refl, sym, ap, ◌∙◌}
use mathlib.Core.Bool.{Bool, true, false}
use mathlib.Core.List.{List, [], ◌∷◌}
use Prim.Native.Char.{Char, code}
use Prim.Native.Nat.{ℕ, suc, ◌+◌, ◌-◌, ◌≤◌, ◌<◌}
use native.Mathlib.Omega.{arith}
use lib.ListN.{length}
use lib.Dec.{eqb, ltb}
use borrow.Author.Tests.{eq-eqb, ne_eqb, ltb-true}
use Rattle.rules.specs.Forest.{Label, node, Forest, nil, byte, group, ◌⋈◌, width, direct, inside}
use Rattle.rules.specs.Rule.{Verdict, fine, step, many, ◌⨾◌}
use Rattle.rules.specs.Parse.{Answer, got, trouble, pick, and_then, behind, byte_at, code_at, judged, read_at}
use Rattle.rules.specs.Record.{count}
use Rattle.rules.proofs.Forests.{count_behind}
use Rattle.rules.proofs.Got.{trouble_got, got_same, false_true}
use Rattle.rules.proofs.Ends.{top_got}
use Rattle.rules.proofs.Moves.{moves, past_got}
use Rattle.rules.proofs.Turns.{many_last}
use Rattle.jsx.specs.Kind as Kind
use Rattle.jsx.specs.Byte.{is, ◌‥◌, letter, digit, need, expect}
use Rattle.jsx.specs.Blank.{blank, blanks}
use Rattle.jsx.specs.Name.{same, opens_name, in_word, opens_part, in_part, is_this, one_name, object_name, dashed, part}
use Rattle.jsx.specs.Name.{other_part, dotted, element_name}
use Rattle.jsx.specs.Tag.{close_name, close_tag}
use Rattle.jsx.specs.Closing.{further_on, name_in, named, parts_of, all_same, same_name, compared}
use Rattle.jsx.proofs.Unicode.{opens_no_blank}
use Rattle.jsx.proofs.Again.{node_around, one_part_of, other_part_of, object_of, element_name_once, close_tag_again}
use Rattle.lex.specs.Contract.{out_of}
use Rattle.lex.proofs.Laws as Lex
use Rattle.blank.proofs.Laws.{token_other, blank_other, blank_slash}
use Rattle.character.proofs.CodeSteps.{code_alone}
use Rattle.word.specs.Here.{name_byte}
use Rattle.word.proofs.PartTests.{opens_ascii, in_ascii}
use Rattle.word.proofs.Again.{part_again, part_opens}
use Rattle.same.specs.Contract.{ReadsAt, Named}
use Rattle.same.proofs.Forms.{name_at, kind_of, one_low, begins, blanks_behind}
use Rattle.closing.specs.Close.{Closes, name_from, closing, name_count}
use Rattle.closing.proofs.SamePart.{same_byte}

-- ---- a character that opens a part, and `>`, are no blank

module _ (s : List ℕ) (p : ℕ) (h : opens_part (code_at s p) ≡ true) where
  -- A byte of ASCII that opens no name does not stand here.
  opens_not : (k : ℕ) → ltb k 0x80 ≡ true → opens_name k ≡ false → eqb (byte_at s p) k ≡ false
  opens_not k l n =
      ne_eqb (byte_at s p) k (λ e.
      let i = ltb-true k 0x80 l in
      let c = code_alone s p {b = k} (sym e) i in
      false_true (ap opens_part (sym c) ∙ opens_ascii k i ∙ n) h)

  opens_no_slash : is "/" (byte_at s p) ≡ false
  unfolding opens_name letter
  opens_no_slash = opens_not (code "/") refl refl

  opens_no_star : is "*" (byte_at s p) ≡ false
  unfolding opens_name letter
  opens_no_star = opens_not (code "*") refl refl

  opens_no_end : is ">" (byte_at s p) ≡ false
  unfolding opens_name letter
  opens_no_end = opens_not (code ">") refl refl

no_part_shut : (s : List ℕ) (p : ℕ) → byte_at s p ≡ code ">" → in_part (code_at s p) ≡ false
unfolding name_byte in_word opens_name letter digit
no_part_shut s p h =
    let l : code ">" < 0x80 = omega arith in
    ap in_part (sym (code_alone s p {b = code ">"} (sym h) l)) ∙ in_ascii (code ">") l

module _ (s : List ℕ) (p : ℕ) where
  none_here : (0x21 ‥ 0x7F) (byte_at s p) ≡ true → is "/" (byte_at s p) ≡ false → read_at s blanks p ≡ got true nil p
  unfolding blanks
  none_here t u = many_last s blank 0 p (blank_other s (suc (length s)) 0 p (token_other s p t) u)

  none_at_name : opens_part (code_at s p) ≡ true → read_at s blanks p ≡ got true nil p
  unfolding blanks
  none_at_name h =
      many_last s blank 0 p
      (blank_other s (suc (length s)) 0 p (opens_no_blank (code_at s p) h) (opens_no_slash s p h))

  -- No blank stands at a `>`.
  pub none_at_shut : byte_at s p ≡ code ">" → read_at s blanks p ≡ got true nil p
  none_at_shut h = none_here (rw h) (rw h)

  none_at_slash : byte_at s p ≡ code "/" → opens_part (code_at s (p + 1)) ≡ true → read_at s blanks p ≡ got true nil p
  unfolding blanks
  none_at_slash h k =
      many_last s blank 0 p
      (blank_slash s (suc (length s)) 0 p (token_other s p (rw h)) (eq-eqb (byte_at s p) (code "/") h)
      (opens_no_star s (p + 1) k) (opens_no_slash s (p + 1) k))

  -- A byte that is asked for and is there.
  pub expect_is : (c : Char) → is c (byte_at s p) ≡ true → p < length s
      → read_at s (expect c) p ≡ got true (byte (byte_at s p) nil) (p + 1)
  unfolding expect
  expect_is c h i = Lex.when_yes s (suc (length s)) 0 p (is c) step need h ∙ Lex.step_is s (suc (length s)) 0 p i

-- ---- the closing tag

-- What is in the node: `<`, `/`, the name and, at q, `>`.
abbrev pub in_closed : List ℕ → (c q : ℕ) → Forest → Forest
in_closed s c q w = byte (byte_at s c) (byte (byte_at s (c + 1))
    (group (one_name (direct w)) w (byte (byte_at s q) nil)))

abbrev pub closed_forest : List ℕ → (c q : ℕ) → Forest → Forest
closed_forest s c q w = group (node Kind.closing_tag 0) (in_closed s c q w) nil

module _ (s : List ℕ) (c a e n : ℕ) {w : Forest} (h : read_at s part a ≡ got true w e) (k : e ≡ a + n)
    (v : Closes s c a n) where
  shut : byte_at s (c + 1 + 1 + n) ≡ code ">"
  shut = let j : c + 1 + 1 ≡ c + 2 = omega arith in rw j v.shut

  -- The part stands behind `</`.
  pub part_there : read_at s part (c + 1 + 1) ≡ got true w (c + 1 + 1 + n)
  part_there =
      let j : c + 2 ≡ c + 1 + 1 = omega arith in
      let i = v.inside in
      let m = rw j at v.name in
      part_again s a e h (c + 1 + 1) (λ i l. same_byte s n a (c + 1 + 1) i m (omega arith))
      (c + 1 + 1 + n) (omega arith)
      (no_part_shut s (c + 1 + 1 + n) shut) (omega arith)

  opens : opens_part (code_at s (c + 1 + 1)) ≡ true
  opens = part_opens s (c + 1 + 1) (c + 1 + 1 + n) part_there

  -- So does the name.
  pub name_there : read_at s element_name (c + 1 + 1) ≡ got true (one_part_of w) (c + 1 + 1 + n)
  name_there =
      element_name_once s (suc (length s)) 0 (c + 1 + 1) part_there (none_at_shut s (c + 1 + 1 + n) shut) ∙ rw shut

  rest : read_at s (expect "/" ⨾ blanks ⨾ close_name ⨾ blanks ⨾ expect ">") (c + 1)
      ≡ got true
      (byte (byte_at s (c + 1)) (group (one_name (direct w)) w (byte (byte_at s (c + 1 + 1 + n)) nil)))
      (c + 1 + 1 + n + 1)
  unfolding ◌⋈◌ close_name
  rest =
      let i = v.inside in
      let F = suc (length s) in
      Lex.seq_is s F 0 (c + 1) (expect "/") _ (expect_is s (c + 1) "/" (eq-eqb _ (code "/") v.slash) (omega arith))
      ∙ ap (behind (byte (byte_at s (c + 1)) nil))
      (Lex.seq_is s F 0 (c + 1 + 1) blanks _ (none_at_name s (c + 1 + 1) opens)
      ∙ ap (behind nil)
      (Lex.seq_is s F 0 (c + 1 + 1) close_name _
      (Lex.when_no s F 0 (c + 1 + 1) (is ">") _ element_name (opens_no_end s (c + 1 + 1) opens) ∙ name_there)
      ∙ ap (behind (one_part_of w))
      (Lex.seq_is s F 0 (c + 1 + 1 + n) blanks _ (none_at_shut s (c + 1 + 1 + n) shut)
      ∙ ap (behind nil) (expect_is s (c + 1 + 1 + n) ">" (eq-eqb _ (code ">") shut) (omega arith)))))

  -- The rule reads exactly these n + 3 bytes, as a closing tag with the same one-part name.
  pub close_reads : read_at s close_tag c ≡ got true (closed_forest s c (c + 1 + 1 + n) w) (c + 1 + 1 + n + 1)
  unfolding ◌⋈◌
  close_reads =
      let i = v.inside in
      close_tag_again s (suc (length s)) 0 c (omega arith) (none_at_slash s (c + 1) v.slash opens)
      (eq-eqb _ (code "<") v.opens)
      ∙ ap (λ (x : Answer). node_around Kind.closing_tag (behind (byte (byte_at s c) nil) x)) rest

-- ---- the verdict

same_refl : (l : List ℕ) → same l l ≡ true
unfolding same
same_refl [] = refl
same_refl (x ∷ l) = rw (eq-eqb x x refl) (same_refl l)

all_refl : (l : List (List ℕ)) → all_same l l ≡ true
unfolding all_same
all_refl [] = refl
all_refl (x ∷ l) = rw (same_refl x) (all_refl l)

name_refl : (k : ℕ) (w : Forest) → same_name k w k w ≡ true
unfolding same_name
name_refl k w = rw (eq-eqb k k refl) (all_refl (parts_of k w))

-- A name is equal to itself.
pub close_fine : (s : List ℕ) (at a c q wide : ℕ) {w : Forest} → name_at s a ≡ one_part_of w
    → compared wide (width (closed_forest s c q w)) (name_from s at a) (name_in (inside (closed_forest s c q w))) ≡ fine
unfolding name_from name_in inside further_on compared
close_fine s at a c q wide {w} h =
    let l = one_low (direct w) in
    let K = kind_of (one_name (direct w)) in
    let name : name_in (name_at s a) ≡ named 0 K w = ap name_in h ∙ ap (λ (x : Label). name_in (group x w nil)) l.1 in
    let other : name_in (group (one_name (direct w)) w (byte (byte_at s q) nil)) ≡ named 0 K w =
    ap (λ (x : Label). name_in (group x w (byte (byte_at s q) nil))) l.1 in
    (λ i. compared wide (width (closed_forest s c q w)) (further_on (a - at) (name i))
    (further_on 1 (further_on 1 (other i))))
    ∙ rw (name_refl K w)

-- So the closing tag, judged, is what its rule read.
pub close_judged : (s : List ℕ) (at a c e n wide : ℕ) {w : Forest}
    → read_at s part a ≡ got true w e
    → e ≡ a + n
    → Closes s c a n
    → name_at s a ≡ one_part_of w
    → closing s at wide (name_from s at a) c ≡ got true (closed_forest s c (c + 1 + 1 + n) w) (c + 1 + 1 + n + 1)
unfolding closing
close_judged s at a c e n wide {w} h k v m =
    ap (λ (x : Answer). and_then x (λ b r z.
    judged at c (compared wide (width r) (name_from s at a) (name_in (inside r))) (got true r z)))
    (close_reads s c a e n h k v)
    ∙ ap (λ (x : Verdict). judged at c x (got true (closed_forest s c (c + 1 + 1 + n) w) (c + 1 + 1 + n + 1)))
    (close_fine s at a c (c + 1 + 1 + n) wide m)

-- ---- a name with one record has one part

around_many : (k : ℕ) (u : Forest) (x : Answer) {o : Forest} {e : ℕ} → 1 ≤ count u
    → node_around k (behind u x) ≡ got true o e
    → count o ≡ 1
    → ⊥
unfolding count
around_many k u (got a v p) {o} {e} i h z =
    let g = got_same h in
    let c = count_behind u v in
    let y = ap count g.1 in
    omega arith
around_many k u (trouble n a b c d) i h z = trouble_got h

one_node : (w : Forest) → 1 ≤ count (object_of w)
unfolding count object_name
one_node w = go (is_this (direct w))
  where
    go : (b : Bool) → 1 ≤ count (group (pick b (node 5 0) (node 4 (dashed (direct w)))) w nil)
    go true = omega arith
    go false = omega arith

-- A part passes a byte wherever it is read.
pub moves_part : moves part ≡ true
unfolding moves part need
moves_part = refl

-- A name that was read with one record is one part.
pub one_by_count : {s : List ℕ} {a e : ℕ} → Named s a e → name_count s a ≡ 1
    → (read_at s part a ≡ got true (out_of (read_at s part a)) e)
    × (name_at s a ≡ one_part_of (out_of (read_at s part a)))
unfolding count
one_by_count {s} {a} {e} n z =
    go (is ":" (byte_at s q)) (is "." (byte_at s q)) (sym (element_name_once s (suc (length s)) 0 a h k) ∙ n.read)
  where
    b : ReadsAt s part a
    b = begins n

    h : read_at s part a ≡ got true (out_of (read_at s part a)) b.to
    h = b.read

    l : ReadsAt s blanks b.to
    l = blanks_behind n (record {
      is = h;
      far = (
        omega (arith, past_got s (suc (length s)) part 0 a moves_part h),
        top_got s (suc (length s)) part 0 a b.inside h,
      );
    })

    q : ℕ
    q = l.to

    k : read_at s blanks b.to ≡ got true (out_of (read_at s blanks b.to)) q
    k = l.read

    go : (x y : Bool)
        → pick x
        (node_around 6 (behind (other_part_of (out_of (read_at s part a))) (behind (out_of (read_at s blanks b.to))
        (read_at s (expect ":" ⨾ blanks ⨾ other_part) q))))
        (pick y (node_around 7 (behind (object_of (out_of (read_at s part a))) (read_at s (many dotted) b.to)))
        (got true (one_part_of (out_of (read_at s part a))) b.to))
        ≡ got true (name_at s a) e
        → (read_at s part a ≡ got true (out_of (read_at s part a)) e)
        × (name_at s a ≡ one_part_of (out_of (read_at s part a)))
    go true y m =
        absurd (around_many 6 (other_part_of (out_of (read_at s part a)))
        (behind (out_of (read_at s blanks b.to)) (read_at s (expect ":" ⨾ blanks ⨾ other_part) q)) (omega arith) m z)
    go false true m =
        absurd (around_many 7 (object_of (out_of (read_at s part a))) (read_at s (many dotted) b.to)
        (one_node (out_of (read_at s part a))) m z)
    go false false m =
        let g = got_same m in
        (h ∙ ap (got true (out_of (read_at s part a))) g.2, sym g.1)
