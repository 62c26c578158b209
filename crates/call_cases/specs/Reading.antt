-- The cases of reading a job file, as sentences.
use Rattle.std.specs.Prelude.{ℕ, suc, ◌<◌, ◌≡◌, ◌⊎◌, List, [], ◌∷◌, ◌++◌, length, take}
use Rattle.model.specs.Limits.{most_lines, most_placements}
use Rattle.placements.specs.Repeated.{total}
use Rattle.refusal.specs.declared.Reason.TheVariants.{RackSize, EmptyLine, TipOutside, ShortFile, WrongMark, WrongVersion, FileLines, FileLength}
use Rattle.refusal.specs.declared.Reason.TheVariants.{ZeroQuantity, TooManyPlacements}
use Rattle.job.specs.Job.{header_length, mark, file_length, mark_in, version_in, rack_in, count_in, set_in, quantity_in, quantities_in}
use Rattle.cases.specs.Cases.{Case, plain, placed}
use Rattle.call_cases.specs.State.{RackOut, HasOutside}

-- line i of the file has an empty set, a tip outside the rack or quantity 0
abbrev pub BadLine : List ℕ → ℕ → Type 0
BadLine file i = (set_in file i ≡ 0) ⊎ (HasOutside (rack_in file) (set_in file i) ⊎ (quantity_in file i ≡ 0))

-- no line before line i is bad
pub record NoneBefore (file : List ℕ) (i : ℕ) : Type 0 where
  pub inside : i < count_in file
  pub good_before : (j : ℕ) → j < i → BadLine file j → ⊥

-- 6, 7, 8 and 1: the first 8 bytes, which mending asks for too
abbrev pub start_cases : List ℕ → List Case
start_cases file =
    plain ShortFile (length file < header_length)
    ∷ plain WrongMark (mark_in file ≡ mark → ⊥)
    ∷ plain WrongVersion ((version_in file ≡ 1) ⊎ (version_in file ≡ 2) → ⊥)
    ∷ plain RackSize (RackOut (rack_in file))
    ∷ []

-- then 9 and 10: the number of lines and the length
abbrev pub header_cases : List ℕ → List Case
header_cases file =
    start_cases file
    ++ (plain FileLines (most_lines < count_in file)
    ∷ plain FileLength (length file ≡ file_length (version_in file) (count_in file) → ⊥)
    ∷ [])

-- 2, 3 or 15 of the first bad line
abbrev pub bad_cases : List ℕ → List Case
bad_cases file =
    placed EmptyLine (λ i. NoneBefore file i × (set_in file i ≡ 0))
    ∷ placed TipOutside (λ i. NoneBefore file i × HasOutside (rack_in file) (set_in file i))
    ∷ placed ZeroQuantity (λ i. NoneBefore file i × (quantity_in file i ≡ 0))
    ∷ []

-- 6, 7, 8, 1, 9, 10, then 2, 3 or 15 of the first bad line, then 30 of the first line with which the placements pass
abbrev pub read_cases : List ℕ → List Case
read_cases file =
    header_cases file ++ bad_cases file
    ++ (placed TooManyPlacements (λ i. (i < count_in file) × (most_placements < total (take (suc i) (quantities_in file)))) ∷ [])
