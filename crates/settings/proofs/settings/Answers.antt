use borrow.Author.Rules.{rules}
use Rattle.settings.proofs.Steps.{read_again, store_steps}
use Rattle.settings.proofs.settings.Goals as goal

pub loop-at-init : goal.loop-at-init
loop-at-init c = search store_steps

pub returns-in_err-l : goal.returns-in_err-l
returns-in_err-l c = search store_steps

pub loop-at-preserved : goal.loop-at-preserved
loop-at-preserved c =
    read_again c.args.s.now c.loop-at.invariant (search rules) c.judge.result c.judge.ensures c.in_ok-l.was
    c.size.ensures.value

pub returns : goal.returns
returns c = search store_steps
