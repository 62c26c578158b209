use Rattle.std.proofs.Common.{◌≡◌, arith}
use Rattle.striking.proofs.Early.{widest_none, widest_more}
use Rattle.striking.proofs.live.Live.list_widest.Goals as goal

pub loop-a-init : goal.loop-a-init
loop-a-init c = widest_none c.requires

pub loop-a-preserved : goal.loop-a-preserved
loop-a-preserved c =
    widest_more c.loop-a.invariant (omega arith) c.widest_from.result c.widest_from.ensures.inside c.widest_from.ensures.past

pub returns : goal.returns
returns c = let e : c.loop-a.a ≡ c.args.self.now.m = omega arith in rw e at c.loop-a.invariant
