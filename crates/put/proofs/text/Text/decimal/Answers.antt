use native.Mathlib.Omega.{arith}
use Rattle.put.proofs.Steps.{decimal_put}
use Rattle.put.proofs.text.Text.decimal.Goals as goal

pub returns : goal.returns
returns c =
    let k = c.decimal-k in
    let e = k.ensures in
    decimal_put c.args.n k.result k.new.out c.literal.ensures e.digits e.len e.in_bounds.1 (omega arith)
