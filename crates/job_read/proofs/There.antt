-- A line that a good header counts is in the file; and what is read after the last line.
use Prim.Native.Nat.{ℕ, ◌+◌, ◌≤◌, ◌<◌}
use mathlib.Core.Path.{◌≡◌, sym, ap, ◌∙◌}
use mathlib.Core.Bool.{Bool, ◌&&◌}
use mathlib.Core.List.{List}
use lib.Dec.{leb}
use lib.ListN.{length, take}
use lib.Seq.{take_all}
use Rattle.model.specs.Count.{list_of}
use Rattle.model.specs.Limits.{most_placements}
use Rattle.job.specs.Job.{file_length, version_in, rack_in, count_in, header_number, good_lines}
use Rattle.job.proofs.Good.{ReadUpTo, all_good, read_end}
use Rattle.job.proofs.HeaderLaws.{header_good}
use Rattle.job.proofs.Lines.{file_inside}

pub line_there : (file : List ℕ) → header_number file ≡ 0 → (v i : ℕ) → v ≡ version_in file → i < count_in file → file_length v (i + 1) ≤ length file
line_there file z v i e h = file_inside (header_good file z) e i h

-- the list whose first i places are filled, where it has no others
pub all_filled : (f : ℕ → ℕ) (xs : List ℕ) (i : ℕ) {n : ℕ} → length xs ≤ i → i ≡ n → take i xs ≡ list_of f i → xs ≡ list_of f n
all_filled f xs i h e filled = sym (take_all i xs h) ∙ filled ∙ ap (list_of f) e

-- what is gathered of all lines tells whether they are good
pub all_read : (file : List ℕ) (i union zeros sum : ℕ) {m : ℕ} {good : Bool} → m ≡ rack_in file → count_in file ≤ i → ReadUpTo file i union zeros sum
    → good ≡ (all_good m union zeros && leb sum most_placements) → good ≡ good_lines file
all_read file i union zeros sum e h read told =
    told ∙ ap (λ k. all_good k union zeros && leb sum most_placements) e ∙ read_end file i union zeros sum h read
