use mathlib.Core.Path.{refl}
use Rattle.refusal.specs.Refusal.{none}
use Rattle.line_calls.proofs.CommonTip.{common_accepted}
use Rattle.line_calls.proofs.common.Goals as goal

pub returns : goal.returns
returns c =
    let told = c.common_tip.ensures in
    let l = c.args.lines in
    let both = common_accepted none l.rack l.quantities.now l.sets.now refl l.good told.top told.off told.tips in
    record { answer = both.0; rule = both.1 }
