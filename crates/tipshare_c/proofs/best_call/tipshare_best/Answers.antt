use mathlib.Core.Path.{sym, ◌∙◌}
use Rattle.tipshare_c.proofs.best_call.tipshare_best.Goals as goal

pub returns-clause-entries : goal.returns-clause-entries
returns-clause-entries c z = c.best_outcome-outcome.ensures.entries (sym c.put_answer.ensures.number ∙ z)
