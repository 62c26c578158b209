-- The parts of the mended file and of the report that the contracts of the passes cite.
use Rattle.std.specs.Prelude.{ℕ, ◌+◌, Bool, cond, List, [], ◌++◌}
use Rattle.model.specs.Limits.{most_placements}
use Rattle.job.specs.Job.{JobLine, line_of, bytes_of_lines, version_in, rack_in}
use Rattle.mend_rules.specs.Mending.{mended_line, stays, noted, codes, on_line, changes, read_lines, lines_kept_in, bytes_of_changes}
use Rattle.mend_rules.specs.Mending.{whole_file, recounted, has_more_bytes}

-- the line of a set and a quantity
abbrev pub line_with : ℕ → ℕ → JobLine
line_with s q = record { tips = s; quantity = q }

-- the largest running total: 2,048, and one line that passed it
abbrev pub most_running : ℕ
most_running = most_placements + 255

-- the changes of the lines read
abbrev pub line_changes : List ℕ → List (ℕ × ℕ)
line_changes file = changes (rack_in file) 0 0 (read_lines file)

-- the bytes of a line in version v: none where it does not stay
abbrev pub kept_bytes : ℕ → ℕ → ℕ → JobLine → List ℕ
kept_bytes v m t l = cond (stays m t l) (line_of v (mended_line m l)) []

-- the bytes of all lines kept of a file
abbrev pub kept_lines : List ℕ → List ℕ
kept_lines file = bytes_of_lines (version_in file) (lines_kept_in file)

-- the bytes of the changes of line i
abbrev pub line_report : ℕ → ℕ → ℕ → JobLine → List ℕ
line_report i m t l = bytes_of_changes (on_line i (codes m t l))

-- the bytes of a change of line i, where its test passes
abbrev pub change : Bool → ℕ → ℕ → List ℕ
change test i code = bytes_of_changes (noted test (i, code) [])

-- the bytes of the changes of the whole file
abbrev pub whole_report : List ℕ → List ℕ
whole_report file = change (recounted file) whole_file 5 ++ change (has_more_bytes file) whole_file 6
