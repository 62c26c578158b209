-- What merging two job files and planning each alone give, and what that means of the number, the counts and the buffers that a caller sees.
use Rattle.std.specs.Prelude.{ℕ, ◌≡◌, List, ◌++◌, take}
use Rattle.refusal.specs.Told.{Refusal}
use Rattle.refusal.specs.Refusal.{none, or_else}
use Rattle.job.specs.Job.{rack_in, sets_in, quantities_in, read_refusal, InShorterForm}
use Rattle.line_calls.specs.Lines.{write_of, write_buffer}
use Rattle.panel.specs.Answers.{AloneAnswer}
use Rattle.panel.specs.Panel.{merge_of, alone_of, alone_buffer}
use Rattle.panel.specs.Rules.{PanelRule, AloneRule}
use Rattle.file_calls.specs.Outcomes.{Outcome}
use Rattle.file_calls.specs.Calls.{file_outcome}

-- the refusals of reading the first file, then those of reading the second
abbrev pub reads_refusal : List ℕ → List ℕ → Refusal
reads_refusal first second = or_else (read_refusal first) (read_refusal second)

-- then those of merging their lines
abbrev pub merge_refusal_in : List ℕ → List ℕ → Refusal
merge_refusal_in first second =
    merge_of (reads_refusal first second) (rack_in first) (quantities_in first) (sets_in first) (rack_in second) (quantities_in second)
    (sets_in second)

-- merge: the panel's lines with their quantities written to an output of room bytes
unfoldable pub merge_of_files : List ℕ → List ℕ → ℕ → Outcome
merge_of_files first second room =
    file_outcome
    (write_of (merge_refusal_in first second) (quantities_in first ++ quantities_in second) (sets_in first ++ sets_in second) room)

-- the output after it
unfoldable pub merge_file_in : List ℕ → List ℕ → List ℕ → List ℕ
merge_file_in first second out =
    write_buffer (merge_refusal_in first second) (rack_in first) (quantities_in first ++ quantities_in second) (sets_in first ++ sets_in second) out

-- of the bytes in the output: it is a job file that is read, in the shorter form, with the same rack and the lines of both files: occurrences add,
-- and its off count and its best pairs are at least the sums
pub record MergeRuleOf (first second out : List ℕ) (o : Outcome) : Type 0 where
  pub is_read : o.refusal.number ≡ 0 → read_refusal (take o.first out) ≡ none
  pub shorter_form : o.refusal.number ≡ 0 → InShorterForm (take o.first out)
  pub same_rack : o.refusal.number ≡ 0 → rack_in (take o.first out) ≡ rack_in first
  pub rule : o.refusal.number ≡ 0
      → PanelRule (rack_in first) (quantities_in first) (sets_in first) (quantities_in second) (sets_in second)
      (quantities_in (take o.first out)) (sets_in (take o.first out))

-- the pairs in the plan of each
abbrev pub alone_outcome : AloneAnswer → Outcome
alone_outcome a = record { refusal = a.refusal; first = a.first_pairs; second = a.second_pairs; third = 0 }

-- planning each alone, with a plan buffer of room bytes
unfoldable pub alone_in : List ℕ → List ℕ → ℕ → Outcome
alone_in first second room =
    alone_outcome
    (alone_of (reads_refusal first second) (rack_in first) (quantities_in first) (sets_in first)
    (rack_in second) (quantities_in second) (sets_in second) room)

-- the plan buffer after it
unfoldable pub alone_plan_in : List ℕ → List ℕ → List ℕ → List ℕ
alone_plan_in first second plan =
    alone_buffer (reads_refusal first second) (rack_in first) (quantities_in first) (sets_in first)
    (rack_in second) (quantities_in second) (sets_in second) plan

-- the half rule of each, of the bytes in the plan buffer: the second plan's from the first file's line count on
abbrev pub AloneRuleOf : List ℕ → List ℕ → List ℕ → Outcome → Type 0
AloneRuleOf first second plan o =
    AloneRule (quantities_in first) (sets_in first) (quantities_in second) (sets_in second) plan o.refusal.number o.first o.second
