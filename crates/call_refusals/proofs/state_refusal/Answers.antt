use mathlib.Core.Path.{◌∙◌}
use Rattle.refusal.proofs.Laws.{told_err, or_err, or_ok}
use Rattle.call_refusals.specs.State.{state_refusal}
use Rattle.call_refusals.proofs.state_refusal.Goals as goal

pub returns-in_err-sound_refusal : goal.returns-in_err-sound_refusal
unfolding state_refusal
returns-in_err-sound_refusal c =
    told_err _ _ c.from_residual.ensures ∙ or_err _ _ c.in_err-sound_refusal.ensures

pub returns : goal.returns
unfolding state_refusal
returns c = or_ok _ c.in_ok-sound_refusal.ensures c.stage_refusal.ensures
