-- Two job files that reading accepts, merged.
use Rattle.std.specs.Prelude.{ℕ, ◌≡◌, ◌+◌, ◌≤◌, List, ◌++◌}
use Rattle.model.specs.Limits.{most_lines}
use Rattle.refusal.specs.Told.{Refusal}
use Rattle.refusal.specs.Refusal.{none}
use Rattle.job.specs.declared.Header.{Header}
use Rattle.job.specs.Job.{version_for, rack_in, count_in, sets_in, quantities_in}
use Rattle.job.specs.Header.{version_number}
use Rattle.panel.specs.Panel.{merge_of}

-- the refusal of merging their lines
abbrev pub merge_of_read : List ℕ → List ℕ → Refusal
merge_of_read first second =
    merge_of none (rack_in first) (quantities_in first) (sets_in first) (rack_in second) (quantities_in second) (sets_in second)

-- the header of the lines of both
pub record IsPanelHeader (first second : List ℕ) (header : Header) : Type 0 where
  pub version-is : version_number header.version ≡ version_for (quantities_in first ++ quantities_in second)
  pub rack-is : header.rack ≡ rack_in first
  pub count-is : header.count ≡ count_in first + count_in second
  pub few-lines : header.count ≤ most_lines
