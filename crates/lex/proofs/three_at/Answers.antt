use Rattle.lex.proofs.Steps.{lex_steps}
use Rattle.lex.proofs.three_at.Goals as goal

pub returns-then-byte-a : goal.returns-then-byte-a
returns-then-byte-a c = search lex_steps

pub returns-else-byte-a : goal.returns-else-byte-a
returns-else-byte-a c = search lex_steps
