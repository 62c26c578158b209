use Rattle.common_tip.specs.Common.{margin_by}
use Rattle.common_tip.proofs.Signed.{margin-is}
use Rattle.common_tip.proofs.margin.Goals as goal

pub returns : goal.returns
unfolding margin_by
returns c = rw c.from.ensures (margin-is c.args.top c.args.n c.args.k c.requires.top c.requires.n c.ranges.k.fits)
