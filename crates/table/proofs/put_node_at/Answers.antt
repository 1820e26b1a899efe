-- What the writer stored in its part is stored at k of the whole.
use Rattle.table.proofs.Laws.{stored_at}
use Rattle.table.proofs.put_node_at.Goals as goal

pub returns : goal.returns
returns g c = search stored_at
