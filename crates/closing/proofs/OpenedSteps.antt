-- The name of an opening tag, the bytes that close it, and what opens a closing tag: what each need of `closes`,
-- `close_open` and `close` follows from.
use mathlib.Core.Path.{◌≡◌, sym, ◌∙◌}
use mathlib.Core.Bool.{Bool, true, false}
use mathlib.Core.List.{List}
use Prim.Native.Char.{code}
use Prim.Native.Nat.{ℕ, suc, ◌+◌, ◌-◌, ◌≤◌, ◌<◌}
use native.Mathlib.Omega.{arith}
use lib.Dec.{lit<}
use lib.ListN.{length}
use Rattle.lex.proofs.Results.{results}
use Rattle.rules.specs.Parse.{byte_at}
use Rattle.rules.proofs.Run.{never}
use Rattle.rules.proofs.Moves.{past_got}
use Rattle.jsx.specs.Name.{same, element_name}
use Rattle.lex.specs.Contract.{nothing, bytes_from, Leaf}
use Rattle.lex.specs.Answer.{Ans, Got, No}
use Rattle.lex.proofs.Laws as Lex
use Rattle.table.proofs.Asked.{reader_asked}
use Rattle.closing.specs.declared.Opened.{Opened}
use Rattle.tag.specs.Token.{open_by, close_open}
use Rattle.closing.specs.Close.{Closes, Told, Opening}
use Rattle.tag.proofs.Rules.{goes_open, moves_element_name}
use Rattle.tag.proofs.TokenSteps.{two_stop, two_are}

-- ---- `</`, a name's bytes, `>`

-- They are not looked for any further.
pub closes_not : {s : List ℕ} {c a n : ℕ} → Told false s c a n
closes_not = record { so = λ h. never h }

-- The bytes around the name are there: the name decides.
pub closes_is : {s : List ℕ} {c a n : ℕ} {b₁ b₂ b₃ : ℕ} {f : Bool}
    → b₁ ≡ byte_at s c
    → b₁ ≡ code "<"
    → b₂ ≡ byte_at s (c + 1)
    → b₂ ≡ code "/"
    → b₃ ≡ byte_at s (c + 2 + n)
    → b₃ ≡ code ">"
    → f ≡ same (bytes_from s a n) (bytes_from s (c + 2) n)
    → Told f s c a n
closes_is {s} {c} {a} {n} e₁ h₁ e₂ h₂ e₃ h₃ e = record {
  so = λ f. record {
    opens = sym e₁ ∙ h₁;
    slash = sym e₂ ∙ h₂;
    name = sym e ∙ f;
    shut = sym e₃ ∙ h₃;
    inside = Lex.before_end s (c + 2 + n) (code ">") (sym e₃ ∙ h₃) (lit< tt);
  };
}

pub ruleset closes_steps = (results, closes_not, closes_is)

-- ---- `<`, blanks, `/`, blanks

module _ {s : List ℕ} {c : ℕ} {r : Ans} (l : Leaf nothing r s (open_by (code "<")) c 1) where
  -- The `<` or the blanks behind it refuse.
  pub less_stops : {x a b g y : ℕ} → r ≡ No x a b g y → Leaf nothing r s close_open c 2
  unfolding close_open
  less_stops h = two_stop l 2 h

  -- The rest decides.
  pub less_is : {r₂ : Ans} {p j : ℕ} → r ≡ Got p j → Leaf nothing r₂ s (open_by (code "/")) p 1
      → Leaf nothing r₂ s close_open c 2
  unfolding close_open
  less_is h l₂ = two_are l 2 (goes_open (code "<")) h l₂ (omega arith)

pub ruleset less_steps = (results, less_stops, less_is)

-- ---- the opening tag's name

module _ {s : List ℕ} {o : Opened} (v : Opening s o) where
  -- It has a byte.
  pub name_longer : o.start < o.end
  name_longer = past_got s (suc (length s)) element_name 0 o.start moves_element_name v.read.read

  -- So its width may be taken.
  pub name_ordered : {x y : ℕ} → x ≡ o.start → y ≡ o.end → x ≤ y
  name_ordered e f = let i = name_longer in rw (e, f) (omega arith)

  -- It ends within the input.
  pub name_inside : (u : List ℕ) {x y : ℕ} → x ≡ o.start → y ≡ o.end - o.start → u ≡ s → x + y ≤ length u
  name_inside u e f g =
      let i = name_longer in
      let j = v.read.inside in
      rw (e, f, g) (omega arith)

  -- It is handed on.
  pub opening_copy : {u : List ℕ} {o₁ : Opened} → u ≡ s → o₁ ≡ o → Opening u o₁
  opening_copy e f = rw (e, f) v

-- The bytes stand there, if it was told.
pub closes_told : {f : Bool} {s : List ℕ} {c a n : ℕ} → Told f s c a n → f ≡ true
    → {u : List ℕ} {c₁ a₁ n₁ : ℕ} → u ≡ s
    → c₁ ≡ c
    → a₁ ≡ a
    → n₁ ≡ n
    → Closes u c₁ a₁ n₁
closes_told l h e₁ e₂ e₃ e₄ = rw (e₁, e₂, e₃, e₄) (l.so h)

pub ruleset close_asked = (reader_asked, name_ordered, name_inside, opening_copy, closes_told)
