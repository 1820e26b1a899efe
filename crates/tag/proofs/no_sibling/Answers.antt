use Rattle.tag.proofs.TokenSteps.{sibling_steps, token_asked}
use Rattle.lex.specs.Answer.{ends}
use Rattle.lex.proofs.Results.{err_says_as, refused_is, said_ok}
use Rattle.tag.proofs.no_sibling.Goals as goal
use Rattle.tag.proofs.no_sibling.Goals.{then-two_at-via-then-two_at, then-two_at-via-else-two_at+then-two_at-2}

pub skip_blanks-requires : goal.skip_blanks-requires
skip_blanks-requires g c = search token_asked

pub returns-in_err-p : goal.returns-in_err-p
returns-in_err-p g c = rw (err_says_as g.N.Numbered.number_of ends c.from_residual.result c.from_residual.ensures.1)
    (search (sibling_steps, c.in_err-p.ensures, refused_is c.in_err-p.field-0.0))

pub byte-requires : goal.byte-requires
byte-requires g c = search token_asked

pub returns-then-byte-ne-LESS : goal.returns-then-byte-ne-LESS
returns-then-byte-ne-LESS g c = search (sibling_steps, said_ok c.branch-p.ensures c.in_ok-p.is)

pub two_at-requires : goal.two_at-requires
two_at-requires g c = search (token_asked, said_ok c.branch-p.ensures c.in_ok-p.is)

pub returns-then-two_at : goal.returns-then-two_at
returns-then-two_at g c =
    let got = said_ok c.branch-p.ensures c.in_ok-p.is in
    elim c.then-two_at.branch [
      | then-two_at-via-then-two_at w ↦ rw c.at.ensures (search (sibling_steps, got, w.if-two_at.true))
      | then-two_at-via-else-two_at+then-two_at-2 w ↦
          let other = w.two_at-else-two_at.ensures in
          rw c.at.ensures (search (sibling_steps, got, w.if-two_at.false, other, w.if-two_at-2.true))
    ]

pub returns : goal.returns
returns g c = search (sibling_steps, said_ok c.branch-p.ensures c.in_ok-p.is)
