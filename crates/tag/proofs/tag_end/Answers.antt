use Rattle.tag.proofs.TokenSteps.{end_asked, end_steps}
use Rattle.lex.proofs.Results.{err_is, refused_is, said_ok}
use Rattle.tag.proofs.tag_end.Goals as goal

pub byte-b-requires : goal.byte-b-requires
byte-b-requires c = search end_asked

pub overflow_add-result : goal.overflow_add-result
overflow_add-result c = search end_asked

pub returns-then-b-eq-GREATER : goal.returns-then-b-eq-GREATER
returns-then-b-eq-GREATER c = search end_steps

pub unexpected-requires : goal.unexpected-requires
unexpected-requires c = search end_asked

pub returns-then-b-ne-SLASH : goal.returns-then-b-ne-SLASH
returns-then-b-ne-SLASH c = search end_steps

pub overflow_add-at : goal.overflow_add-at
overflow_add-at c = search end_asked

pub close_by-requires : goal.close_by-requires
close_by-requires c = search end_asked

pub returns-in_err-p : goal.returns-in_err-p
returns-in_err-p c = rw (err_is _ c.from_residual.ensures.1)
    (search (end_steps, c.in_err-p.ensures, refused_is c.in_err-p.field-0.0))

pub returns : goal.returns
returns c = search (end_steps, said_ok c.branch-p.ensures c.in_ok-p.is)
