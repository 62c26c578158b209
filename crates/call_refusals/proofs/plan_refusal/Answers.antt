use Rattle.refusal.specs.Refusal.{or_else}
use Rattle.call_refusals.specs.Calls.{plan_refusal}
use Rattle.call_refusals.proofs.plan_refusal.Goals as goal

pub returns : goal.returns
unfolding plan_refusal or_else
returns c = c.refuse_when.ensures
