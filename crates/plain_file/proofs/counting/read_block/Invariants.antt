use Rattle.std.proofs.Common.{◌≡◌, ◌+◌, take}
use Rattle.model.specs.Count.{list_of}
use Rattle.plain_file.specs.Swapped.{swapped_in}
use Rattle.plain_file.proofs.counting.read_block.Given as goal

abbrev pub invariant-loop-k : goal.invariant-loop-k
invariant-loop-k l = take l.k l.block ≡ list_of (λ k. swapped_in l.file.bytes.now (l.first + k)) l.k
