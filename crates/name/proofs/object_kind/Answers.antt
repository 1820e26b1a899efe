use Rattle.name.proofs.Labels.{kind_steps}
use Rattle.name.proofs.object_kind.Goals as goal

pub is_this-requires : goal.is_this-requires
is_this-requires c = search kind_steps

pub returns-then-is_this : goal.returns-then-is_this
returns-then-is_this c = search kind_steps

pub returns-else-is_this : goal.returns-else-is_this
returns-else-is_this c = search kind_steps
