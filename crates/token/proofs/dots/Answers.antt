use Rattle.token.proofs.BetweenSteps.{dots_steps, dots_asked}
use Rattle.token.proofs.dots.Goals as goal

pub three_at-requires : goal.three_at-requires
three_at-requires c = search dots_asked

pub overflow_add-at : goal.overflow_add-at
overflow_add-at c = search dots_asked

pub skip_blanks-requires : goal.skip_blanks-requires
skip_blanks-requires c = search dots_asked

pub returns-then-three_at : goal.returns-then-three_at
returns-then-three_at c = search dots_steps

pub byte-requires : goal.byte-requires
byte-requires c = search dots_asked

pub returns-then-byte-eq-DOT : goal.returns-then-byte-eq-DOT
returns-then-byte-eq-DOT c = search dots_steps

pub unexpected-requires : goal.unexpected-requires
unexpected-requires c = search dots_asked

pub returns : goal.returns
returns c = search dots_steps
