-- The second parts of two namespaced names: what each need of their comparison follows from.
use mathlib.Core.Path.{◌≡◌, sym, ap, ◌∙◌}
use mathlib.Core.Bool.{Bool, true}
use mathlib.Core.List.{List, [], ◌∷◌}
use Prim.Native.Nat.{ℕ, suc, ◌≤◌}
use lib.ListN.{length}
use borrow.Author.Rules.{rules}
use Rattle.rules.specs.Parse.{got, read_at}
use Rattle.rules.proofs.Got.{got_same}
use Rattle.rules.proofs.Local.{up_got}
use Rattle.jsx.specs.Blank.{blanks}
use Rattle.jsx.specs.Name.{same, part as name_part, other_part}
use Rattle.jsx.specs.Closing.{all_same}
use Rattle.lex.specs.Contract.{out_of, Past}
use Rattle.same.specs.Contract.{ReadsAt, ReadTo, behind_colon, parts_from, same_parts}
use Rattle.same.proofs.Names as Names
use Rattle.same.proofs.Forms.{bytes_to}
use Rattle.same.proofs.Equal.{all_one}

-- From x, behind a colon, to b: blanks to i, and a part.
module _ {s : List ℕ} {x b : ℕ} (h : ReadTo s behind_colon x b) where
  passed : Names.Passed s other_part x b (out_of (read_at s behind_colon x))
  unfolding behind_colon
  passed = Names.blanks_passed s other_part x b h.read

  -- Blanks were read here.
  pub colon_blanks : {u : List ℕ} {y : ℕ} → u ≡ s → y ≡ x → ReadsAt u blanks y
  colon_blanks f g = rw (f, g) (Names.reads s (Names.begins_inside s h) passed.passed)

  module _ {i : ℕ} (k : Past i s blanks x 0) where
    second : read_at s other_part i ≡ got true passed.o b
    second = ap (λ (z : ℕ). read_at s other_part z) (sym (Names.past_same s passed.passed k)) ∙ passed.behind

    -- The part ends behind its start.
    pub colon_ordered : {y z : ℕ} → y ≡ i → z ≡ b → y ≤ z
    colon_ordered f g = rw (f, g) (up_got s (suc (length s)) other_part 0 i second)

    one_part_lem : Names.OnePart s i b passed.o
    one_part_lem = Names.other_read s 0 i second

    -- A part was read behind the blanks, and ends the name.
    pub colon_part : ReadsAt s name_part i
    colon_part = Names.reads s k.far.1 one_part_lem.read

    -- It ends where the name does.
    pub colon_part_ends : colon_part.to ≡ b
    colon_part_ends = (got_same (sym colon_part.read ∙ one_part_lem.read)).2

    parts : parts_from s behind_colon x ≡ bytes_to s i b ∷ []
    parts = passed.nodes ∙ one_part_lem.nodes

-- Both parts were compared.
pub second_parts : {s : List ℕ} {p b q d i j : ℕ} {r : Bool} → ReadTo s behind_colon p b → ReadTo s behind_colon q d
    → Past i s blanks p 0
    → Past j s blanks q 0
    → r ≡ same (bytes_to s i b) (bytes_to s j d)
    → r ≡ same_parts s behind_colon p q
second_parts {s} {b = b} {d = d} {i} {j} g h k l z =
    z ∙ sym ((λ n. all_same (parts g k n) (parts h l n)) ∙ all_one (bytes_to s i b) (bytes_to s j d))

pub ruleset namespaced_steps = (rules, second_parts)

pub ruleset namespaced_asked = (rules, colon_blanks, colon_ordered)
