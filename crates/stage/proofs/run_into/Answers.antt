use Rattle.stage.proofs.IntoSteps.{run_steps, made_refusal, into_asked}
use Rattle.lex.proofs.Results.{counted_ok, err_is, refused_is}
use Rattle.stage.proofs.run_into.Goals as goal

pub whole-requires : goal.whole-requires
whole-requires c = search into_asked

pub parse_jsx_children-requires : goal.parse_jsx_children-requires
parse_jsx_children-requires c = search into_asked

pub shape_of-t-in_err-p : goal.shape_of-t-in_err-p
shape_of-t-in_err-p c = search into_asked

pub returns-in_err-p : goal.returns-in_err-p
returns-in_err-p c = rw (err_is _ c.from_residual.ensures.1)
    (search (run_steps, c.in_err-p.ensures, refused_is c.in_err-p.field-0.0))

pub byte-requires : goal.byte-requires
byte-requires c = search (into_asked, counted_ok c.branch-p.ensures c.in_ok-p.is)

pub shape_of-t-then-byte-eq-END : goal.shape_of-t-then-byte-eq-END
shape_of-t-then-byte-eq-END c = search (into_asked, counted_ok c.branch-p.ensures c.in_ok-p.is)

pub returns-then-byte-eq-END : goal.returns-then-byte-eq-END
returns-then-byte-eq-END c = search (run_steps, counted_ok c.branch-p.ensures c.in_ok-p.is)

pub shape_of-t : goal.shape_of-t
shape_of-t c = search (into_asked, counted_ok c.branch-p.ensures c.in_ok-p.is)

pub returns : goal.returns
returns c = search (run_steps, made_refusal, counted_ok c.branch-p.ensures c.in_ok-p.is)
