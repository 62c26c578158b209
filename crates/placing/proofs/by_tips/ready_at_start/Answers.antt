use Rattle.std.proofs.Common.{◌<◌, length}
use lib.Dec.{ltb→lt}
use Rattle.model.specs.Limits.{most_tips}
use Rattle.model.specs.Choice.{is_on}
use Rattle.placing.proofs.Flagged.{has_nothing}
use Rattle.placing.proofs.Readied.{tip_ready}
use Rattle.placing.proofs.by_tips.ready_at_start.Goals as goal

pub returns-in-Some : goal.returns-in-Some
returns-in-Some c =
    let t = c.in-Some.tip in
    let k : t < most_tips = ltb→lt t most_tips (rw c.in-Some.is at c.requires.head) in
    λ plan on x l. rw c.in-Some.is (tip_ready plan (length plan) c.args.on_tip.now c.requires.tips on t x k l)

pub returns-in-None : goal.returns-in-None
unfolding is_on
returns-in-None c = λ plan on x l. rw c.in-None.is (has_nothing x)
