-- A reply as C has it: its number is returned, and its values stand where the caller says.
use Rattle.std.specs.Prelude.{ℕ, ◌≡◌, Bool, List, [], ◌∷◌}
use Rattle.rules.specs.Rule.{Rule}
use Rattle.jsx.specs.Table.{Part}
use Rattle.stage.specs.Reply.{Reply, Accepted, Refused}
use Rattle.stage.specs.Call.{Checks, Reads}

-- D: "Accepted is number 0."
abbrev pub number_of : Reply → ℕ
number_of (Accepted m) = 0
number_of (Refused n a b c d) = n

-- The count of an acceptance, then zeros; the two places of a refusal, start and end.
abbrev pub values_of : Reply → List ℕ
values_of (Accepted m) = m ∷ 0 ∷ 0 ∷ 0 ∷ []
values_of (Refused n a b c d) = a ∷ b ∷ c ∷ d ∷ []

-- The number r and the values say the reply.
pub record Says (reply : Reply) (r : ℕ) (values : List ℕ) : Type 0 where
  pub number : r ≡ number_of reply
  pub is : values ≡ values_of reply

-- What a check says of the input s.
pub record SaysOfCheck (reading : ℕ → Rule) (s : List ℕ) (r : ℕ) (values : List ℕ) : Type 0 where
  pub reply : Reply
  pub right : Checks reading s reply
  pub says : Says reply r values

-- What a read says, where it was lent the table t and leaves t'.
pub record SaysOfRead (reading : ℕ → Rule) (s t t' : List ℕ) (r : ℕ) (values : List ℕ) : Type 0 where
  pub reply : Reply
  pub right : Reads reading s t reply t'
  pub says : Says reply r values

-- What is said of a part p of the input: whether it was found, and its start and end; D: "For a record number or span
-- out of range it is the empty part at the input's start, and a yes or no tells which."
pub record SaysPart (p : Part) (r : Bool) (part : List ℕ) : Type 0 where
  pub tells : r ≡ p.found
  pub is : part ≡ p.start ∷ p.end ∷ []
