-- How tight the promises of the public calls are. D: "Each public call's statement determines number, places, count and
-- the table after it for every input, refusals too. Show that any two results allowed by it are equal".
-- proofs/Tight.antt proves each statement.
use Rattle.std.specs.Prelude.{ℕ, ◌≡◌, Bool, List, Result}
use Rattle.std.specs.Borrow.{Bor}
use Rattle.rules.specs.Rule.{Rule}
use Rattle.jsx.specs.Table.{Part}
use Rattle.part.specs.Contract.{Answered}
use Rattle.lex.specs.declared.refusal.Refusal.{Refusal}
use Rattle.stage.specs.Reply.{Reply}
use Rattle.stage.specs.Call.{replied, Checks, Reads}

-- `check_stage`, `check_run`: the reply, which has number, places and count.
abbrev pub OneAnswerOfCheck : (reading : ℕ → Rule) → Type 0
OneAnswerOfCheck reading = (s : List ℕ) (r r' : Reply) → Checks reading s r → Checks reading s r' → r ≡ r'

-- `read_stage`, `read_run`: the reply, and the whole table after it.
abbrev pub OneAnswerOfRead : (reading : ℕ → Rule) → Type 0
OneAnswerOfRead reading = (s t : List ℕ) (r r' : Reply) (t₁ t₂ : List ℕ)
    → Reads reading s t r t₁
    → Reads reading s t r' t₂
    → (r ≡ r') × (t₁ ≡ t₂)

-- A result is known by what it says: so one reply is one result.
abbrev pub OneResultOfReply : Type 0
OneResultOfReply = (r r' : Result ℕ Refusal) → replied r ≡ replied r' → r ≡ r'

-- `span_bytes`, `record_bytes`: whether there is such a part, its bytes, and where in memory they stand.
abbrev pub OneAnswerOfBytes : Type 0
OneAnswerOfBytes = (s : Bor (List ℕ)) (p : Part) (r r' : Bor (List ℕ)) (found found' : Bool)
    → Answered s p r found
    → Answered s p r' found'
    → (found ≡ found') × (r.now ≡ r'.now) × (r.ref_ptr ≡ r'.ref_ptr)
