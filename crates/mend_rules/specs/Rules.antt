-- What mending promises of the bytes written: the lines kept, the changes told, and how it goes with reading.
use Rattle.std.specs.Prelude.{ℕ, ◌+◌, ◌*◌, ◌≤◌, ◌<◌, ◌≡◌, ◌↔◌, not, ◌&&◌, ltb, length, take, get_or}
use mathlib.Core.List.{List, [], ◌∷◌, map, Memᴰ}
use Rattle.model.specs.Count.{All, select}
use Rattle.model.specs.Plan.{is_empty, has}
use Rattle.model.specs.Limits.{most_placements}
use Rattle.placements.specs.Repeated.{total}
use Rattle.placements.specs.Totals.{first_over}
use Rattle.job.specs.Job.{file_length, JobLine, version_in, rack_in, count_in, read_refusal, ReadsAs}
use Rattle.mend_rules.specs.Mending.{mended_line, read_count, read_lines, mended_file, whole_file, mended_report}

-- the sets and the quantities of lines, and the placements of them all
abbrev pub sets_of : List JobLine → List ℕ
sets_of lines = map (λ l. l.tips) lines

abbrev pub quantities_of : List JobLine → List ℕ
quantities_of lines = map (λ l. l.quantity) lines

abbrev pub placements_of : List JobLine → ℕ
placements_of lines = total (quantities_of lines)

-- the mended lines that are not left empty
abbrev pub mended_lines : ℕ → List JobLine → List JobLine
mended_lines m lines = select (λ l. not (is_empty l.tips)) (map (mended_line m) lines)

-- those of them up to the first with which the total passes
abbrev pub lines_within : ℕ → List JobLine → List JobLine
lines_within m lines =
    let mended = mended_lines m lines in
    take (first_over most_placements (quantities_of mended)) mended

-- a line without tips, of quantity 0
abbrev pub no_line : JobLine
no_line = record { tips = 0; quantity = 0 }

-- line n of those read, and the same mended
abbrev pub read_line : List ℕ → ℕ → JobLine
read_line file n = get_or (read_lines file) n no_line

abbrev pub new_line : List ℕ → ℕ → JobLine
new_line file n = mended_line (rack_in file) (read_line file n)

-- the placements of the first n lines read, mended, without those left empty
unfoldable pub placed : List ℕ → ℕ → ℕ
placed file n = placements_of (mended_lines (rack_in file) (take n (read_lines file)))

-- line n is read, and the total has not passed before it
abbrev pub Reached : List ℕ → ℕ → Type 0
Reached file n = (n < read_count file) × (placed file n ≤ most_placements)

-- ---- the report

-- the changes that the bytes of a report tell: of each three, two for the line and one for the code
unfoldable pub changes_told : List ℕ → List (ℕ × ℕ)
changes_told [] = []
changes_told (a ∷ []) = []
changes_told (a ∷ b ∷ []) = []
changes_told (a ∷ b ∷ c ∷ report) = (256 * a + b, c) ∷ changes_told report

-- the report has the change with code c of line n
abbrev pub Told : ℕ → ℕ → List (ℕ × ℕ) → Type 0
Told n c cs = Memᴰ {A = ℕ × ℕ} (n, c) cs

-- each number is below the next
pub data Rising : List ℕ → Type 0 where
  end : Rising []
  first : {x : ℕ} {xs : List ℕ} → All (λ y. x < y) xs → Rising xs → Rising (x ∷ xs)

-- the place of a change in the sequence of the report: by line, then by code
abbrev pub place : ℕ × ℕ → ℕ
place c = 256 * c.0 + c.1

-- the changes reported for a file and the lines written of it: those made and no other, each once, by line and then by code
pub record ExactReport (file : List ℕ) (written : ℕ) (cs : List (ℕ × ℕ)) : Type 0 where
  -- 1: tips are cleared
  pub cleared : (n : ℕ) → Told n 1 cs ↔ (Reached file n × ((new_line file n).tips ≡ (read_line file n).tips → ⊥))
  -- 2: no tip is left
  pub emptied : (n : ℕ) → Told n 2 cs ↔ (Reached file n × ((new_line file n).tips ≡ 0))
  -- 3: the quantity of a line not left empty is raised
  pub raised : (n : ℕ)
      → Told n 3 cs ↔ (Reached file n × ((new_line file n).tips ≡ 0 → ⊥) × ((new_line file n).quantity ≡ (read_line file n).quantity → ⊥))
  -- 4: the total passes with the line, or passed before it
  pub dropped : (n : ℕ) → Told n 4 cs ↔ ((n < read_count file) × (most_placements < placed file (n + 1)))
  -- 5: the count written differs from the count found; 6: bytes follow what was read
  pub recounted : (n : ℕ) → Told n 5 cs ↔ ((n ≡ whole_file) × (written ≡ count_in file → ⊥))
  pub has_more : (n : ℕ) → Told n 6 cs ↔ ((n ≡ whole_file) × (file_length (version_in file) (read_count file) < length file))
  -- there are no other codes
  pub codes : (n c : ℕ) → Told n c cs → (1 ≤ c) × (c ≤ 6)
  pub in_order : Rising (map place cs)

-- ---- all of it

-- what mending gives for a file whose first 8 bytes are not refused: the bytes written to the output and to the report
pub record MendRule (file out report : List ℕ) : Type 0 where
  -- the output is always read; its lines are the mended lines read that are not left empty, up to the first with which the total passes
  pub is_read : let lines = lines_within (rack_in file) (read_lines file) in ReadsAs (rack_in file) (quantities_of lines) (sets_of lines) out
  pub same_version : version_in out ≡ version_in file
  -- a mended line has the tips of the line that the rack has
  pub tips : (l : JobLine) (t : ℕ) → has (mended_line (rack_in file) l).tips t ≡ (ltb t (rack_in file) && has l.tips t)
  -- the report is exact
  pub exact : ExactReport file (count_in out) (changes_told report)
  -- a file that reading accepts comes back the same with no report, and mending the output adds nothing
  pub same : (read_refusal file).number ≡ 0 → (out ≡ file) × (report ≡ [])
  pub again : (mended_file out ≡ out) × (mended_report out ≡ [])
  -- lengths
  pub shorter : length out ≤ length file
  pub out_bound : length out ≤ 4616
  pub report_bound : length report ≤ 3081
