use mathlib.Core.Path.{refl, ap}
use Rattle.lex.specs.Answer.{said}
use Rattle.same.proofs.EndSteps.{blanks_ok, blanks_past, end_asked}
use Rattle.same.proofs.blanks_end.Goals as goal

pub skip_blanks-requires : goal.skip_blanks-requires
skip_blanks-requires c = search end_asked

pub unwrap-requires : goal.unwrap-requires
unwrap-requires c = blanks_ok _ c.requires c.skip_blanks.ensures

pub returns : goal.returns
returns c = blanks_past c.skip_blanks.ensures (ap said c.unwrap.ensures) refl
