-- What reading a job file leaves in the sets and the quantities that it is lent.
use Rattle.std.specs.Prelude.{ℕ, ◌≡◌, ◌≤◌, List, ◌++◌, drop}
use Rattle.job.specs.Job.{rack_in, count_in, sets_in, quantities_in, header_number}

-- n places have room for the lines of a file: it has at most as many if its header is good
abbrev pub HasRoom : ℕ → List ℕ → Type 0
HasRoom n file = header_number file ≡ 0 → count_in file ≤ n

-- the most lines of a short file
abbrev pub few_lines : ℕ
few_lines = 72

-- what reading an accepted file gives: its rack, the number of its lines, and in the first places their sets and their quantities
pub record LinesRead (file : List ℕ) (m n : ℕ) (old-sets sets old-qs qs : List ℕ) : Type 0 where
  pub rack-is : m ≡ rack_in file
  pub count-is : n ≡ count_in file
  pub sets_are : sets ≡ sets_in file ++ drop (count_in file) old-sets
  pub quantities_are : qs ≡ quantities_in file ++ drop (count_in file) old-qs
