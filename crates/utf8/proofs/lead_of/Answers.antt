use Rattle.utf8.proofs.LeadSteps.{lead_steps}
use Rattle.utf8.proofs.lead_of.Goals as goal

pub returns-in-224 : goal.returns-in-224
returns-in-224 c = search lead_steps

pub returns-in-237 : goal.returns-in-237
returns-in-237 c = search lead_steps

pub returns-in-240 : goal.returns-in-240
returns-in-240 c = search lead_steps

pub returns-in-244 : goal.returns-in-244
returns-in-244 c = search lead_steps

pub returns-in-0-to-127 : goal.returns-in-0-to-127
returns-in-0-to-127 c = search lead_steps

pub returns-in-194-to-223 : goal.returns-in-194-to-223
returns-in-194-to-223 c = search lead_steps

pub returns-in-225-to-236 : goal.returns-in-225-to-236
returns-in-225-to-236 c = search lead_steps

pub returns-in-241-to-243 : goal.returns-in-241-to-243
returns-in-241-to-243 c = search lead_steps

pub returns-in_default : goal.returns-in_default
returns-in_default c = search lead_steps

pub returns-in_default-2 : goal.returns-in_default-2
returns-in_default-2 c = search lead_steps
