-- What the public calls promise.
use Rattle.std.specs.Prelude.{ℕ, ◌≤◌, ◌≡◌, List, [], length, Result, Ok, Err}
use Rattle.rules.specs.Rule.{Rule}
use Rattle.rules.specs.Parse.{trouble}
use Rattle.jsx.specs.Reading.{standard, answer, stage, run}
use Rattle.jsx.specs.Table.{Outcome, missing, accepted, refused, check, read}
use Rattle.jsx.specs.Compose.{WellFormed}
use Rattle.lex.specs.Answer.{Ans, Got, No, refused as refusal_of}
use Rattle.table.specs.Slot.{Seat}
use Rattle.lex.specs.declared.refusal.Refusal as code
use Rattle.stage.specs.declared.Reading.{Reading}
use Rattle.stage.specs.declared.Reading.TheVariants.{Stage, Run}
use Rattle.stage.specs.Reply.{Reply, Accepted, Refused}

-- D: "a definition gives this paper's number and values for each of its cases": what a reply says, with the table t
-- behind it.
abbrev pub outcome : Reply → List ℕ → Outcome
outcome (Accepted m) t = accepted m t
outcome (Refused n a b c d) t = refused n a b c d t

-- D: "Accepted is number 0": so no refusal has it.
abbrev pub Numbered : Reply → Type 0
Numbered (Accepted m) = Unit {0}
Numbered (Refused n a b c d) = 1 ≤ n

-- What the check of a reading, `stage` or `run`, promises of its reply r on the input s: D: "Each has a check (counts
-- the records)".
pub record Checks (reading : ℕ → Rule) (s : List ℕ) (r : Reply) : Type 0 where
  pub is : outcome r [] ≡ check standard reading s
  pub numbered : Numbered r

-- What its read promises, where it was lent the table t and leaves t': D: "and a read (also writes them)".
pub record Reads (reading : ℕ → Rule) (s t : List ℕ) (r : Reply) (t' : List ℕ) : Type 0 where
  pub is : outcome r t' ≡ read standard reading s t
  pub numbered : Numbered r

-- ---- how the code says it

-- A reader's answer as a reply.
abbrev pub reply_of : Ans → Reply
reply_of (Got p m) = Accepted m
reply_of (No n a b c d) = Refused n a b c d

-- What a call's result says.
abbrev pub replied : Result ℕ code.Refusal → Reply
replied (Ok m) = Accepted m
replied (Err e) = reply_of (refusal_of e)

-- The rule of a reading.
abbrev pub rule_of : Reading → ℕ → Rule
rule_of Stage = stage
rule_of Run = run

-- ---- inside the calls

-- The front of the table, in no record.
abbrev pub whole : Seat
whole = record { number = 0; parent = missing; depth = 0 }

-- The first two tests of an input: they are passed, or every reading gives their refusal.
pub record Sound (r : Ans) (s : List ℕ) : Type 0 where
  pub passed : (p m : ℕ) → r ≡ Got p m → (length s ≤ 1_048_576) × WellFormed s
  pub stopped : (n a b c d : ℕ) → r ≡ No n a b c d → (reading : ℕ → Rule)
      → answer standard reading s ≡ trouble n a b c d
