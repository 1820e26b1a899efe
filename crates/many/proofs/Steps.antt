-- What an answer's text asks.
use mathlib.Core.Path.{◌≡◌}
use mathlib.Core.Bool.{Bool, true, false}
use mathlib.Core.List.{List}
use Prim.Native.Nat.{ℕ, ◌*◌, ◌≤◌}
use Prim.Native.Char.{code}
use lib.Dec.{eqb}
use native.Mathlib.Omega.{arith}
use lib.ListN.{length}
use borrow.Author.Rules.{rules}
use Rattle.rules.specs.Record.{row_words}
use Rattle.rules.specs.Parse.{pick}
use Rattle.jsx.specs.Reading.{stage, run}
use Rattle.jsx.specs.Table.{holds}
use Rattle.std.specs.Prelude.{Result}
use Rattle.lex.specs.declared.refusal.Refusal.{Refusal}
use Rattle.stage.specs.Reply.{Reply, Accepted, Refused}
use Rattle.stage.specs.Call.{replied, rule_of, Reads}
use Rattle.stage.specs.Demand2.{WritesWhatIsRead}
use Rattle.stage.proofs.Demand2.{stage_writes, run_writes, reads_fit}
use Rattle.print.specs.Answer.{Small}
use Rattle.stage.specs.declared.Reading.{Reading}
use Rattle.stage.specs.declared.Reading.TheVariants as R
use Rattle.many.specs.Item.{reading, letter_of}

-- What is read of an item is written.
letter_writes : (letter : ℕ) → WritesWhatIsRead (reading letter)
unfolding reading
letter_writes letter = go (eqb letter (code "s"))
  where
    go : (b : Bool) → WritesWhatIsRead (pick b stage run)
    go true = stage_writes
    go false = run_writes

-- What a reading reads is read by the letter that names it.
pub named_reads : (x : Reading) {letter : ℕ} (r : Reply) {s t t' : List ℕ} → letter ≡ letter_of x
    → Reads (rule_of x) s t r t'
    → Reads (reading letter) s t r t'
unfolding reading
named_reads R.Stage r h v = rw h v
named_reads R.Run r h v = rw h v

-- The count of an answer is a word.
pub answer_small : (x : ℕ) (r : Result ℕ Refusal) {s t t' : List ℕ} → Reads (reading x) s t (replied r) t'
    → length t ≤ row_words * 131_072
    → Small (replied r)
unfolding holds
answer_small x r {s} {t} {t'} v h = by (replied r) v
  where
    by : (r : Reply) → Reads (reading x) s t r t' → Small r
    by (Accepted m) w = let f = reads_fit (letter_writes x) s t m t' w in omega arith
    by (Refused n a b c d) w = tt

pub ruleset answer_steps = (rules, answer_small, named_reads)
