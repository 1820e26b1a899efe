use Rattle.abi.proofs.Steps.{says_placed}
use Rattle.abi.proofs.lorikvar_record_bytes.Goals as goal

pub returns : goal.returns
returns c = says_placed c.record.ensures c.say_part.ensures
