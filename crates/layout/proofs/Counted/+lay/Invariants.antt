use Rattle.std.specs.Prelude.{◌+◌, ◌-◌}
use Rattle.layout.proofs.Counted.+lay.Given as goal

-- the tip of an interval comes after the interval, and before the two beside it
abbrev pub decreases-lay : goal.decreases-lay
decreases-lay l = l.w + l.w

abbrev pub decreases-lay_tip : goal.decreases-lay_tip
decreases-lay_tip l = l.w + l.w - 1
