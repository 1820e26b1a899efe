-- What a member's name has from behind a dot on, and the equality of two such rests.
use mathlib.Core.Path.{◌≡◌, sym, ap, ◌∙◌}
use mathlib.Core.Bool.{true, false}
use mathlib.Core.List.{List, [], ◌∷◌}
use Prim.Native.Char.{code}
use Prim.Native.Nat.{ℕ, ◌+◌, ◌<◌}
use native.Mathlib.Omega.{arith}
use lib.Dec.{eqb}
use borrow.Author.Tests.{eq-eqb, ne_eqb}
use Rattle.rules.specs.Forest.{Forest}
use Rattle.rules.specs.Rule.{many}
use Rattle.rules.specs.Parse.{got, byte_at, read_at}
use Rattle.jsx.specs.Blank.{blanks}
use Rattle.jsx.specs.Name.{same, part as name_part, dotted}
use Rattle.jsx.specs.Closing.{nodes_of, all_same}
use Rattle.lex.specs.Contract.{Past}
use Rattle.same.specs.Contract.{ReadsAt, ReadTo, behind_dot, parts_from, same_parts}
use Rattle.same.proofs.Names as Names
use Rattle.same.proofs.Forms.{bytes_to}
use Rattle.same.proofs.Equal.{all_differ, all_same_lem}

-- The parts of a member's name behind a dot, from x on.
abbrev pub dot_parts : List ℕ → ℕ → List (List ℕ)
dot_parts s x = parts_from s behind_dot x

-- From x, behind a dot, to b: a part from i to e, and the end, or blanks to q and a dot there.
pub data After (s : List ℕ) (x b i e q : ℕ) : Type 0 where
  over : e ≡ b → dot_parts s x ≡ bytes_to s i e ∷ [] → After s x b i e q
  next : e < b → byte_at s q ≡ code "." → ReadTo s behind_dot (q + 1) b
      → dot_parts s x ≡ bytes_to s i e ∷ dot_parts s (q + 1)
      → After s x b i e q

module _ {s : List ℕ} {x b : ℕ} (h : ReadTo s behind_dot x b) where
  part : Names.Part s x b
  part = Names.part_read s h

  -- Blanks were read here.
  pub dot_blanks : ReadsAt s blanks x
  dot_blanks = Names.reads s (Names.begins_inside s h) part.passed

  module _ {i : ℕ} (k : Past i s blanks x 0) where
    there : part.i ≡ i
    there = Names.past_same s part.passed k

    here : read_at s name_part i ≡ got true part.w part.e
    here = ap (λ (z : ℕ). read_at s name_part z) (sym there) ∙ part.read

    -- A part was read behind the blanks.
    pub dot_part : ReadsAt s name_part i
    dot_part = Names.reads s k.far.1 here

    module _ {e : ℕ} (l : Past e s name_part i 1) where
      part_ends : part.e ≡ e
      part_ends = Names.past_same s here l

      rest : read_at s (many dotted) e ≡ got true part.u b
      rest = ap (λ (z : ℕ). read_at s (many dotted) z) (sym part_ends) ∙ part.rest

      parts : dot_parts s x ≡ bytes_to s i e ∷ nodes_of part.u
      parts = part.parts ∙ (λ n. bytes_to s (there n) (part_ends n) ∷ nodes_of part.u)

      -- Blanks were read behind the part.
      pub part_blanks : ReadsAt s blanks e
      part_blanks = Names.reads s l.far.1 (Names.dotted_blanks s e rest).2

      after : {q : ℕ} {v : Forest} → read_at s blanks e ≡ got true v q → After s x b i e q
      after {q} m = go (Names.rest_read s h.inside m rest)
        where
          go : Names.Rest s e b q part.u → After s x b i e q
          go (Names.over d y n) = over y (parts ∙ ap (λ (z : List (List ℕ)). bytes_to s i e ∷ z) n)
          go (Names.more y z d n) = next y z d (parts ∙ ap (λ (z : List (List ℕ)). bytes_to s i e ∷ z) n)

      -- What is behind those blanks.
      pub after_there : After s x b i e part_blanks.to
      after_there = after part_blanks.read

      -- The same, where the code has found their end.
      pub after_at : {q : ℕ} → Past q s blanks e 0 → After s x b i e q
      after_at m = after m.is

-- ---- two rests

head : {s : List ℕ} {x b i e q : ℕ} → After s x b i e q → (ps : List (List ℕ)) × (dot_parts s x ≡ bytes_to s i e ∷ ps)
head (over l g) = (_, g)
head (next l o d g) = (_, g)

-- A part is behind a dot.
none_left : {s : List ℕ} {q b : ℕ} → ReadTo s behind_dot q b → all_same [] (dot_parts s q) ≡ false
unfolding all_same
none_left {s} h = ap (λ (z : List (List ℕ)). all_same [] z) (Names.part_read s h).parts

none_right : {s : List ℕ} {q b : ℕ} → ReadTo s behind_dot q b → all_same (dot_parts s q) [] ≡ false
unfolding all_same
none_right {s} h = ap (λ (z : List (List ℕ)). all_same z []) (Names.part_read s h).parts

-- The first parts are the same: what is left decides.
rests : {u v : List ℕ} {us vs ps qs : List (List ℕ)} → same u v ≡ true → ps ≡ u ∷ us → qs ≡ v ∷ vs
    → all_same ps qs ≡ all_same us vs
rests {u} {v} {us} {vs} h g k = (λ z. all_same (g z) (k z)) ∙ all_same_lem u v us vs h

module _ {s : List ℕ} {x b i e p y d j f q : ℕ} where
  -- The parts differ.
  pub differ : After s x b i e p → After s y d j f q → same (bytes_to s i e) (bytes_to s j f) ≡ false
      → same_parts s behind_dot x y ≡ false
  differ m n h =
      let g = head m in
      let k = head n in
      (λ z. all_same (g.1 z) (k.1 z)) ∙ all_differ (bytes_to s i e) (bytes_to s j f) g.0 k.0 h

  -- They are the same, and the first name is over.
  pub first_over : After s x b i e p → After s y d j f q → same (bytes_to s i e) (bytes_to s j f) ≡ true → e ≡ b
      → same_parts s behind_dot x y ≡ eqb f d
  unfolding all_same
  first_over (over l g) (over l' k) h z = rests h g k ∙ sym (eq-eqb f d l')
  first_over (over l g) (next l' o r k) h z = rests h g k ∙ none_left r ∙ sym (ne_eqb f d (λ t. omega arith))
  first_over (next l o r g) n h z = absurd (omega arith)

  -- Only the second is.
  pub second_over : After s x b i e p → After s y d j f q → same (bytes_to s i e) (bytes_to s j f) ≡ true
      → (e ≡ b → ⊥)
      → f ≡ d
      → same_parts s behind_dot x y ≡ false
  second_over (over l g) n h z t = absurd (z l)
  second_over (next l o r g) (over l' k) h z t = rests h g k ∙ none_right r
  second_over (next l o r g) (next l' o' r' k) h z t = absurd (omega arith)

  -- Neither is.
  pub go_on : After s x b i e p → After s y d j f q → same (bytes_to s i e) (bytes_to s j f) ≡ true
      → (e ≡ b → ⊥)
      → (f ≡ d → ⊥)
      → ReadTo s behind_dot (p + 1) b
      × ReadTo s behind_dot (q + 1) d
      × (same_parts s behind_dot x y ≡ same_parts s behind_dot (p + 1) (q + 1))
  go_on (over l g) n h z t = absurd (z l)
  go_on (next l o r g) (over l' k) h z t = absurd (t l')
  go_on (next l o r g) (next l' o' r' k) h z t = (r, r', rests h g k)
