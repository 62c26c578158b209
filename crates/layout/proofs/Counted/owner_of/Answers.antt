use Rattle.std.proofs.Common.{◌+◌, ◌*◌, ◌<◌, ◌≤◌, ℕ, List, length, arith}
use lib.Arith.{digits_lt}
use Rattle.model.specs.Plan.{Domain}
use Rattle.model.specs.Limits.{most_tips}
use Rattle.model.specs.Interval.{low, high}
use Rattle.model.proofs.Run.{low-high, high-below}
use Rattle.layout.specs.Owners.{owner_of}
use Rattle.layout.proofs.Counted.owner_of.Goals as goal

-- the line's place is one of the owners
in_owners : {m line : ℕ} (owner : List ℕ) → m ≤ most_tips → Domain m line → m * m ≤ length owner → low line * m + high line < length owner
in_owners {m} {line} owner narrow d room =
    let h = high-below narrow d in
    let l = low-high narrow d in
    omega (arith, digits_lt {q = low line} {m = m} {r = high line} {c = m} (omega arith) h)

pub overflow_mul-result : goal.overflow_mul-result
overflow_mul-result c =
    let a = c.args in
    rw c.lowest.ensures
    (record { fits = omega (arith, in_owners a.owner.now a.self.now.searchable.readable.rack c.requires.domain c.requires.places) })

pub overflow_add-result : goal.overflow_add-result
overflow_add-result c =
    rw (c.lowest.ensures, c.highest.ensures)
    (record { fits = omega (arith, in_owners c.args.owner.now c.args.self.now.searchable.readable.rack c.requires.domain c.requires.places) })

pub bounds-owner-lowest : goal.bounds-owner-lowest
bounds-owner-lowest c =
    rw (c.lowest.ensures, c.highest.ensures) (in_owners c.args.owner.now c.args.self.now.searchable.readable.rack c.requires.domain c.requires.places)

pub returns : goal.returns
unfolding owner_of
returns c = rw (c.lowest.ensures, c.highest.ensures)
