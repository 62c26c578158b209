-- The demands, of the number, the counts and the buffers that a caller with a job file sees.
use Rattle.std.specs.Prelude.{ℕ, ◌≡◌, ◌↔◌, List, T, length, take}
use Rattle.placements.specs.Keep.{ExactQ}
use Rattle.refusal.specs.Refusal.{none}
use Rattle.sound.specs.Sound.{sound_board}
use Rattle.call_refusals.specs.Calls.{best_refusal}
use Rattle.job.specs.Job.{rack_in, sets_in, quantities_in, read_refusal, InShorterForm}
use Rattle.line_calls.specs.Rules.{CommonRule, NoneWithin, HalfRule, BestRule, CheckRule}
use Rattle.line_calls.specs.Table.{TableRule}
use Rattle.file_calls.specs.Outcomes.{Outcome}
use Rattle.file_calls.specs.Calls.{check_outcome, check_in}

-- the numbers of an accepted read are those of a sound board, whose lines are those of the file
pub record ReadRuleOf (file : List ℕ) (o : Outcome) : Type 0 where
  pub sound : o.refusal.number ≡ 0 → T (sound_board o.first o.second (quantities_in file) (sets_in file))
  pub count : o.refusal.number ≡ 0 → length (sets_in file) ≡ o.second

-- off is the least over all valid plans, and the set has the tips that as many placements allow as top
abbrev pub CommonRuleOf : List ℕ → Outcome → Type 0
CommonRuleOf file o = CommonRule (rack_in file) (quantities_in file) (sets_in file) o.refusal.number o.first o.second o.third

-- the half rule, of the bytes in the plan buffer
abbrev pub HalfRuleOf : List ℕ → List ℕ → Outcome → Type 0
HalfRuleOf file plan o = HalfRule (quantities_in file) (sets_in file) plan o.refusal.number o.first

-- the best rule, of the bytes in the plan buffer
abbrev pub BestRuleOf : List ℕ → List ℕ → Outcome → Type 0
BestRuleOf file plan o = BestRule (quantities_in file) (sets_in file) plan o.refusal.number o.first

-- the table, of the numbers in the places lent
abbrev pub TableRuleOf : List ℕ → List ℕ → Outcome → Type 0
TableRuleOf file table o = TableRule (rack_in file) (quantities_in file) (sets_in file) table o.refusal.number

-- the check accepts a plan that best sharing hands out, with its pairs as the claim and its table
abbrev pub CheckAcceptsOf : List ℕ → List ℕ → List ℕ → Outcome → Type 0
CheckAcceptsOf file plan tab o = o.refusal.number ≡ 0 → check_in file plan o.first tab ≡ check_outcome none

-- accepted exactly where the plan, the claim and the table are what they say, and then the plan is best
abbrev pub CheckRuleOf : List ℕ → List ℕ → ℕ → List ℕ → Outcome → Type 0
CheckRuleOf file plan claim tab o =
    let asked = best_refusal (read_refusal file) (rack_in file) (sets_in file) (length plan) (length tab) in
    CheckRule asked.number (rack_in file) (quantities_in file) (sets_in file) plan claim tab o.refusal.number

-- demand 2, of the bytes in the output: it is a job file that is read, in the shorter form, with the same rack and quantities, in which a tip stays
-- on a line exactly when some valid plan within k uses it there; and a file that reading accepts gives 26 exactly when no valid plan is within k
pub record KeepRuleOf (file : List ℕ) (k : ℕ) (out : List ℕ) (o : Outcome) : Type 0 where
  pub is_read : o.refusal.number ≡ 0 → read_refusal (take o.second out) ≡ none
  pub shorter_form : o.refusal.number ≡ 0 → InShorterForm (take o.second out)
  pub same_rack : o.refusal.number ≡ 0 → rack_in (take o.second out) ≡ rack_in file
  pub same_quantities : o.refusal.number ≡ 0 → quantities_in (take o.second out) ≡ quantities_in file
  pub exact : o.refusal.number ≡ 0 → ExactQ (rack_in file) (quantities_in file) (sets_in file) k (sets_in (take o.second out))
  pub refuses : read_refusal file ≡ none → (o.refusal.number ≡ 26) ↔ NoneWithin (rack_in file) (quantities_in file) (sets_in file) k
