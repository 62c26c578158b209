use Rattle.head.specs.OnHead.{on_head}
use Rattle.best.proofs.Ranks.{nothing}
use Rattle.best.proofs.plan_ranks.Goals as goal

pub returns-then-r-eq0 : goal.returns-then-r-eq0
returns-then-r-eq0 c =
    let (plan, table) = nothing (on_head c.args.mounted) c.requires c.if-r-eq0.true in
    record { plan = plan; table = table }
