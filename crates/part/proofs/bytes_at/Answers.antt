-- The part is lent from its start on.
use Rattle.part.proofs.Parts.{answers_none, answers_part}
use Rattle.part.proofs.bytes_at.Goals as goal

pub slice_bounds-result-count : goal.slice_bounds-result-count
slice_bounds-result-count c = (rw c.in-Some.is at c.requires).0

pub returns-in-Some : goal.returns-in-Some
returns-in-Some c = rw c.in-Some.is (answers_part c.args.s c.in-Some.start c.in-Some.end)

pub returns-in-None : goal.returns-in-None
returns-in-None c = rw c.in-None.is (answers_none c.args.s)
