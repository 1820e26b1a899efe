-- The part that is there, from where it is.
use Rattle.part.proofs.Parts.{answers_placed}
use Rattle.part.proofs.record_bytes.Goals as goal

pub bytes_at-requires : goal.bytes_at-requires
bytes_at-requires c = c.record.ensures.within

pub returns : goal.returns
returns c = answers_placed c.record.ensures c.bytes_at.ensures
