-- Strike tips that miss a pair goal on a job file: what is given and written, and what it means.
use Rattle.std.specs.Prelude.{ℕ, ◌≡◌, List, take}
use Rattle.refusal.specs.Told.{Refusal}
use Rattle.refusal.specs.Refusal.{none}
use Rattle.goal_rules.specs.Goal.{strike}
use Rattle.job.specs.Job.{rack_in, sets_in, quantities_in, read_refusal, InShorterForm}
use Rattle.line_calls.specs.Lines.{write_of, write_buffer}
use Rattle.line_calls.specs.Goal.{goal_asked, goal_of, GoalRule}
use Rattle.file_calls.specs.Outcomes.{Outcome}
use Rattle.file_calls.specs.Calls.{file_outcome}

-- the refusal of the goal, and the struck lines
abbrev pub goal_refusal_in : List ℕ → ℕ → Refusal
goal_refusal_in file K = goal_of (read_refusal file) (rack_in file) (quantities_in file) (sets_in file) K

abbrev pub struck_in : List ℕ → ℕ → List ℕ
struck_in file K = strike (rack_in file) (quantities_in file) (sets_in file) K

-- a goal of K pairs, and the struck lines written with their quantities to an output of room bytes
unfoldable pub goal_in : List ℕ → ℕ → ℕ → Outcome
goal_in file K room = file_outcome (write_of (goal_refusal_in file K) (quantities_in file) (struck_in file K) room)

-- the output after it
unfoldable pub goal_file_in : List ℕ → ℕ → List ℕ → List ℕ
goal_file_in file K out = write_buffer (goal_refusal_in file K) (rack_in file) (quantities_in file) (struck_in file K) out

-- of the bytes in the output: it is a job file that is read, in the shorter form, with the same rack and quantities, in which a tip stays on a line
-- exactly when some valid plan with at least K placement pairs uses it there; and a file that is not refused before gives 34 exactly when no valid
-- plan has K
pub record GoalRuleOf (file : List ℕ) (K : ℕ) (out : List ℕ) (o : Outcome) : Type 0 where
  pub is_read : o.refusal.number ≡ 0 → read_refusal (take o.first out) ≡ none
  pub shorter_form : o.refusal.number ≡ 0 → InShorterForm (take o.first out)
  pub same_rack : o.refusal.number ≡ 0 → rack_in (take o.first out) ≡ rack_in file
  pub same_quantities : o.refusal.number ≡ 0 → quantities_in (take o.first out) ≡ quantities_in file
  pub goal : GoalRule (goal_asked (read_refusal file) (sets_in file)).number (rack_in file) (quantities_in file) (sets_in file) K
      (sets_in (take o.first out)) o.refusal.number
