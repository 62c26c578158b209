-- Counts in planes less other counts.
use Rattle.std.specs.Prelude.{ℕ, ◌+◌, ◌≤◌, ◌≡◌, List, length}
use Rattle.counts.specs.Counts.{plane_count, count_at}

-- planes that hold at least what is taken off for each tip
pub record Subtractable (gone planes : List ℕ) : Type 0 where
  pub gone_size : length gone ≡ plane_count
  pub size : length planes ≡ plane_count
  pub some : (t : ℕ) → count_at gone t ≤ count_at planes t

-- planes that hold what remains
pub record Subtracted (gone old planes : List ℕ) : Type 0 where
  pub size : length planes ≡ plane_count
  pub sum : (t : ℕ) → count_at planes t + count_at gone t ≡ count_at old t
