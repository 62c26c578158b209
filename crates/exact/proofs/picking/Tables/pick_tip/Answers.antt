use Rattle.std.proofs.Common.{◌∙◌, ap}
use Rattle.head.specs.OnHead.{on_head, chosen}
use Rattle.exact.proofs.Picks.{chosen-pick}
use Rattle.exact.proofs.picking.Tables.pick_tip.Goals as goal

pub returns : goal.returns
returns c =
    let on = on_head c.args.mounted in
    c.choose.ensures ∙ ap (chosen on) c.tied_tips.ensures ∙ chosen-pick c.args.self.now.scored on c.args.u c.requires.some c.requires.inside
