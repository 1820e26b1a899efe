use Rattle.lex.proofs.Steps.{lex_steps}
use Rattle.lex.proofs.unexpected.Goals as goal

pub returns-then-b-eq-END : goal.returns-then-b-eq-END
returns-then-b-eq-END c = search lex_steps

pub returns-else-b-eq-END : goal.returns-else-b-eq-END
returns-else-b-eq-END c = search lex_steps
