use Rattle.lex.proofs.Steps.{lex_steps}
use Rattle.lex.proofs.expect.Goals as goal

pub returns-then-byte-b : goal.returns-then-byte-b
returns-then-byte-b c = search lex_steps

pub returns-else-byte-b : goal.returns-else-byte-b
returns-else-byte-b c = search lex_steps
