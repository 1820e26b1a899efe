-- Each test of the code is one of the span.
use Rattle.part.proofs.Parts.{place_steps}
use Rattle.part.proofs.span.Goals as goal

pub returns-then-end-start : goal.returns-then-end-start
returns-then-end-start c = search place_steps

pub returns-then-s-end : goal.returns-then-s-end
returns-then-s-end c = search place_steps

pub returns : goal.returns
returns c = search place_steps
