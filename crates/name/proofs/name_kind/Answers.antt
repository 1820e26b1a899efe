use Rattle.name.proofs.Labels.{kind_steps}
use Rattle.name.proofs.name_kind.Goals as goal

pub returns-then-dash : goal.returns-then-dash
returns-then-dash c = search kind_steps

pub byte-requires : goal.byte-requires
byte-requires c = search kind_steps

pub opens_reference-requires : goal.opens_reference-requires
opens_reference-requires c = search kind_steps

pub returns-then-opens_reference : goal.returns-then-opens_reference
returns-then-opens_reference c = search kind_steps

pub is_this-requires : goal.is_this-requires
is_this-requires c = search kind_steps

pub returns-then-is_this : goal.returns-then-is_this
returns-then-is_this c = search kind_steps

pub returns-else-is_this : goal.returns-else-is_this
returns-else-is_this c = search kind_steps
