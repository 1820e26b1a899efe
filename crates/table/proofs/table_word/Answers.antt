use Rattle.std.proofs.Common.{rules}
use Rattle.std.proofs.lemmas.Option.{unwrap_or-slice_get}
use Rattle.table.proofs.table_word.Goals as goal

pub returns : goal.returns
returns c = search (rules, unwrap_or-slice_get)
