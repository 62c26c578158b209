use Rattle.std.proofs.Common.{◌≡◌, ◌++◌, take, drop}
use mathlib.Core.List.{map}
use Rattle.model.specs.Plan.{prefer}
use Rattle.junior.proofs.lay_lines.Given as goal

abbrev pub invariant-loop-i : goal.invariant-loop-i
invariant-loop-i l = l.plan ≡ map (prefer l.tip (λ s. l.other)) (take l.i l.lines) ++ drop l.i l.initial.plan
