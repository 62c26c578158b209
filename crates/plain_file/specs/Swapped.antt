-- The lines of a file by the order of its bytes.
use Rattle.std.specs.Prelude.{ℕ, List}
use Rattle.std.specs.Int.{w64, swap_bytes}
use Rattle.model.specs.Count.{list_of}
use Rattle.job.specs.Job.{count_in, set_in}

-- the set of line i with its bytes the other way round, and of each line
abbrev pub swapped_in : List ℕ → ℕ → ℕ
swapped_in file i = swap_bytes w64 (set_in file i)

unfoldable pub swapped_sets : List ℕ → List ℕ
swapped_sets file = list_of (swapped_in file) (count_in file)
