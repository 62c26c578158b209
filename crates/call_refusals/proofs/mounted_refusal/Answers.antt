use mathlib.Core.Path.{refl}
use Rattle.refusal.specs.Refusal.{or_else}
use Rattle.call_refusals.specs.Calls.{mounted_refusal}
use Rattle.call_refusals.proofs.mounted_refusal.Goals as goal

pub returns-in-Some : goal.returns-in-Some
unfolding mounted_refusal or_else
returns-in-Some c = rw c.in-Some.is c.refuse_when.ensures

pub returns-in-None : goal.returns-in-None
unfolding mounted_refusal or_else
returns-in-None c = rw c.in-None.is refl
