use mathlib.Core.Path.{◌∙◌}
use Rattle.refusal.specs.Refusal.{scan}
use Rattle.refusal.proofs.Laws.{refused_place}
use Rattle.call_refusals.proofs.run_refusal.Goals as goal

pub returns : goal.returns
unfolding scan
returns c = c.refuse_at.ensures ∙ rw c.first_not_run.ensures (refused_place 25 _ _)
