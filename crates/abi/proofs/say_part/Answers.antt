use Rattle.abi.proofs.Steps.{says_some, says_none}
use Rattle.abi.proofs.say_part.Goals as goal

pub returns-in-Some : goal.returns-in-Some
returns-in-Some c = rw c.in-Some.is (says_some c.in-Some.start c.in-Some.end)

pub returns-in-None : goal.returns-in-None
returns-in-None c = rw c.in-None.is says_none
