use Rattle.std.proofs.Common.{◌≡◌, ◌≤◌, ◌==◌, length, nat_le, slice_index}
use Rattle.model.specs.Count.{every}
use Rattle.checking.specs.Checking.{split_at}
use Rattle.checking.proofs.tabled.Splits.bounded.Given as goal

-- none of the places passed is lacking exactly where each of them fits
abbrev pub invariant-loop-next : goal.invariant-loop-next
invariant-loop-next l =
    let s = l.fn.self in
    let i = length l.yielded in
    record {
      few : l.lacking ≤ i;
      counted : (l.lacking == 0)
          ≡ every (λ j. nat_le (split_at s.left s.shift s.nexts.now s.firsts.now s.rights.now j) (slice_index s.mosts.now j)) i;
    }
