use Rattle.std.proofs.Common.{◌≡◌}
use Rattle.model.proofs.Loops.{mapped}
use Rattle.ranks.specs.Listed.{run_by}
use Rattle.ranks.proofs.renumber_lines.Given as goal

abbrev pub invariant-loop-line : goal.invariant-loop-line
invariant-loop-line l = l.lines ≡ mapped (run_by l.ranks) l.line-index l.initial.lines
