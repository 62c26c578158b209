use Rattle.std.proofs.Common.{◌∙◌}
use Rattle.head.specs.OnHead.{on_head}
use Rattle.layout.proofs.Plan.{plan_laid}
use Rattle.layout.proofs.Counted.plan_lines.Goals as goal

pub returns : goal.returns
returns c =
    let s = c.args.self.now in
    let p = c.requires in
    λ lines k filled. c.plan_owners.ensures ∙ rw c.lay.ensures (plan_laid (on_head s.mounted) k filled c.args.owner.now p.places p.domains p.runs)
