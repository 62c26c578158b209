use Rattle.std.proofs.Common.{◌≡◌, ◌++◌, take, drop}
use mathlib.Core.List.{zip_with}
use Rattle.counts.specs.Picked.{pick_by}
use Rattle.counts.proofs.picking.pick_lines.Given as goal

abbrev pub invariant-loop-i : goal.invariant-loop-i
invariant-loop-i l = l.chosen ≡ zip_with (pick_by l.j) (take l.i l.quantities) (take l.i l.lines) ++ drop l.i l.initial.chosen
