use Rattle.closing.proofs.OpenedSteps.{close_asked, closes_steps}
use Rattle.closing.proofs.closes.Goals as goal

pub overflow_sub-s : goal.overflow_sub-s
overflow_sub-s c = search close_asked

pub overflow_add-n : goal.overflow_add-n
overflow_add-n c = search close_asked

pub returns-then-s-c : goal.returns-then-s-c
returns-then-s-c c = search closes_steps

pub byte-requires : goal.byte-requires
byte-requires c = search close_asked

pub returns-then-byte-ne-LESS : goal.returns-then-byte-ne-LESS
returns-then-byte-ne-LESS c = search closes_steps

pub overflow_add-c : goal.overflow_add-c
overflow_add-c c = search close_asked

pub byte-requires-2 : goal.byte-requires-2
byte-requires-2 c = search close_asked

pub returns-then-byte-ne-SLASH : goal.returns-then-byte-ne-SLASH
returns-then-byte-ne-SLASH c = search closes_steps

pub overflow_add-c-2 : goal.overflow_add-c-2
overflow_add-c-2 c = search close_asked

pub overflow_add-c-3 : goal.overflow_add-c-3
overflow_add-c-3 c = search close_asked

pub byte-requires-3 : goal.byte-requires-3
byte-requires-3 c = search close_asked

pub returns-then-byte-ne-GREATER : goal.returns-then-byte-ne-GREATER
returns-then-byte-ne-GREATER c = search closes_steps

pub overflow_add-c-4 : goal.overflow_add-c-4
overflow_add-c-4 c = search close_asked

pub same_at-requires : goal.same_at-requires
same_at-requires c = search close_asked

pub returns : goal.returns
returns c = search closes_steps
