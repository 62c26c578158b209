use Rattle.std.proofs.Common.{rules}
use native.Mathlib.Nat.{le_refl}
use Rattle.model.specs.Plan.{Domain}
use Rattle.model.proofs.Run.{low-high, high-below}
use Rattle.tips.proofs.Bits.{run_none, run-count}
use Rattle.tips.proofs.is_run_of.Goals as goal

pub returns-then-is_empty : goal.returns-then-is_empty
returns-then-is_empty c = search (rules, run_none)

pub between-span-requires-clause-order : goal.between-span-requires-clause-order
between-span-requires-clause-order c =
    let d : Domain 64 c.args.set = record { some = search rules; below = c.ranges.set.fits } in
    rw (c.lowest.ensures, c.highest.ensures) (low-high (le_refl _) d)

pub between-span-requires-clause-below : goal.between-span-requires-clause-below
between-span-requires-clause-below c =
    let d : Domain 64 c.args.set = record { some = search rules; below = c.ranges.set.fits } in
    rw c.highest.ensures (high-below (le_refl _) d)

pub returns : goal.returns
returns c =
    let d : Domain 64 c.args.set = record { some = search rules; below = c.ranges.set.fits } in
    rw (c.between-span.ensures, c.lowest.ensures, c.highest.ensures) (run-count (le_refl _) d c.args.names c.requires)
