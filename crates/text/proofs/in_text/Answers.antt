use Rattle.text.proofs.TestSteps.{test_steps}
use Rattle.text.proofs.in_text.Goals as goal
use Rattle.text.proofs.in_text.Goals.{in-60, in_default}

pub returns : goal.returns
returns c = elim c.match-matches.branch [
  | in-60 w ↦ rw w.matches-is (search test_steps)
  | in_default w ↦ rw w.matches-is (search test_steps)
]
