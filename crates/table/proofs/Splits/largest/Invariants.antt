use Rattle.std.proofs.Common.{◌≡◌, ◌<◌, ◌*◌, ◌^◌, max}
use Rattle.model.specs.Count.{largest}
use Rattle.table.specs.Cells.{split_at}
use Rattle.table.proofs.Splits.largest.Given as goal

abbrev pub invariant-loop-k : goal.invariant-loop-k
invariant-loop-k l =
    let s = l.self in
    (l.best < 2 ^ 31) × (l.best ≡ max l.first (largest (split_at s.base s.allows.now s.sums.now s.lefts.now s.rights.now) (2 * l.k)))
