use Rattle.same.proofs.SpanSteps.{span_steps}
use Rattle.same.proofs.same_bytes.Goals as goal

pub overflow_sub-n : goal.overflow_sub-n
overflow_sub-n c = search span_steps

pub overflow_sub-e : goal.overflow_sub-e
overflow_sub-e c = search span_steps

pub returns-then-n-e : goal.returns-then-n-e
returns-then-n-e c = search span_steps

pub same_at-requires : goal.same_at-requires
same_at-requires c = search span_steps

pub returns : goal.returns
returns c = search span_steps
