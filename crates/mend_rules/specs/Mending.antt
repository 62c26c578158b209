-- Mending a job file: what is kept of its lines, and the changes made, in one pass over the lines read.
use Rattle.std.specs.Prelude.{ℕ, suc, ◌+◌, ◌-◌, ◌/◌, ◌%◌, ◌^◌, min, max, Bool, not, cond, ◌&&◌, ◌||◌, List, [], ◌∷◌, ◌++◌, map, ltb, eqb, length}
use Rattle.model.specs.Count.{list_of}
use Rattle.model.specs.Plan.{is_empty, in_rack}
use Rattle.model.specs.Limits.{most_lines, most_placements}
use Rattle.refusal.specs.Told.{Refusal}
use Rattle.refusal.specs.Refusal.{refuse, or_else, when}
use Rattle.job.specs.Job.{bytes_of, header_length, line_length, file_length, JobLine, paired, file_of, version_in, rack_in, count_in}
use Rattle.job.specs.Job.{set_in, quantity_in, start_number}

-- ---- the lines read

-- the first n lines of a file, each with its set and its quantity
unfoldable pub lines_in : List ℕ → ℕ → List JobLine
lines_in file n = paired (list_of (set_in file) n) (list_of (quantity_in file) n)

-- the number of lines read: as many as the count says, the file holds whole, and 512 allows
unfoldable pub read_count : List ℕ → ℕ
read_count file = min (count_in file) (min ((length file - header_length) / line_length (version_in file)) most_lines)

abbrev pub read_lines : List ℕ → List JobLine
read_lines file = lines_in file (read_count file)

-- ---- one line; t is the running total before it: the placements kept, and above 2,048 once a line was dropped for the total

-- the line without the tips outside a rack of m tips, and with a quantity of at least 1
unfoldable pub mended_line : ℕ → JobLine → JobLine
mended_line m l = record { tips = l.tips % 2 ^ m; quantity = max 1 l.quantity }

-- no tip of the line is in the rack
unfoldable pub left_empty : ℕ → JobLine → Bool
left_empty m l = is_empty (mended_line m l).tips

-- a line was dropped for the total
abbrev pub over : ℕ → Bool
over t = ltb most_placements t

-- the running total after the line: an empty line adds nothing, and none does after one that was dropped for the total
unfoldable pub after : ℕ → ℕ → JobLine → ℕ
after m t l = cond (over t || left_empty m l) t (t + (mended_line m l).quantity)

-- the line is kept
unfoldable pub stays : ℕ → ℕ → JobLine → Bool
stays m t l = not (left_empty m l) && not (over (after m t l))

-- x first, where the test passes
abbrev pub noted : {A : Type 0} → Bool → A → List A → List A
noted test x xs = cond test (x ∷ xs) xs

-- tips of the set are cleared, the line is dropped as empty, its quantity is raised, it is dropped for the total
abbrev pub is_cleared : ℕ → ℕ → ℕ → Bool
is_cleared m t s = not (over t) && not (in_rack m s)

abbrev pub is_emptied : ℕ → ℕ → JobLine → Bool
is_emptied m t l = not (over t) && left_empty m l

abbrev pub is_raised : ℕ → ℕ → JobLine → Bool
is_raised m t l = not (over t) && not (left_empty m l) && eqb l.quantity 0

abbrev pub is_dropped : ℕ → ℕ → JobLine → Bool
is_dropped m t l = over (after m t l)

-- the codes of the changes made to the line
unfoldable pub codes : ℕ → ℕ → JobLine → List ℕ
codes m t l = noted (is_cleared m t l.tips) 1 (noted (is_emptied m t l) 2 (noted (is_raised m t l) 3 (noted (is_dropped m t l) 4 [])))

-- ---- all lines

-- the running total after the lines
unfoldable pub running : ℕ → ℕ → List JobLine → ℕ
running m t [] = t
running m t (l ∷ lines) = running m (after m t l) lines

-- the lines kept, mended
unfoldable pub kept : ℕ → ℕ → List JobLine → List JobLine
kept m t [] = []
kept m t (l ∷ lines) = noted (stays m t l) (mended_line m l) (kept m (after m t l) lines)

-- the codes as changes of line i; a change is a line number and a code
abbrev pub on_line : ℕ → List ℕ → List (ℕ × ℕ)
on_line i cs = map (λ c. (i, c)) cs

-- the changes made to the lines; the first line has number i
unfoldable pub changes : ℕ → ℕ → ℕ → List JobLine → List (ℕ × ℕ)
changes m i t [] = []
changes m i t (l ∷ lines) = on_line i (codes m t l) ++ changes m (suc i) (after m t l) lines

-- ---- a file

-- the lines kept of a file
abbrev pub lines_kept_in : List ℕ → List JobLine
lines_kept_in file = kept (rack_in file) 0 (read_lines file)

-- the mended file, of the same version
unfoldable pub mended_file : List ℕ → List ℕ
mended_file file = file_of (version_in file) (rack_in file) (lines_kept_in file)

-- the line number that stands for the whole file
abbrev pub whole_file : ℕ
whole_file = 65535

-- the count written is not the count found
abbrev pub recounted : List ℕ → Bool
recounted file = not (eqb (length (lines_kept_in file)) (count_in file))

-- bytes follow the last line read, or the header where none was read
abbrev pub has_more_bytes : List ℕ → Bool
has_more_bytes file = ltb (file_length (version_in file) (read_count file)) (length file)

-- all changes made to a file
unfoldable pub changes_in : List ℕ → List (ℕ × ℕ)
changes_in file = changes (rack_in file) 0 0 (read_lines file) ++ noted (recounted file) (whole_file, 5)
    (noted (has_more_bytes file) (whole_file, 6) [])

-- changes as bytes, three for each: two for the line and one for the code
unfoldable pub bytes_of_changes : List (ℕ × ℕ) → List ℕ
bytes_of_changes [] = []
bytes_of_changes (c ∷ cs) = bytes_of 2 c.0 ++ bytes_of 1 c.1 ++ bytes_of_changes cs

abbrev pub mended_report : List ℕ → List ℕ
mended_report file = bytes_of_changes (changes_in file)

-- the refusal of mending, for outputs of room bytes for the file and space bytes for the report: by the first 8 bytes, then by the room
unfoldable pub mend_refusal : List ℕ → ℕ → ℕ → Refusal
mend_refusal file room space =
    or_else (refuse (start_number file)) (when (ltb room (length (mended_file file)) || ltb space (length (mended_report file))) 11)
