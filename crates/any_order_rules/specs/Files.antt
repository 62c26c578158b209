-- Two job files with the same lines, each with its quantity, in any order; and what the calls on both have in common.
use Rattle.std.specs.Prelude.{ℕ, ◌*◌, ◌≤◌, ◌<◌, ◌≡◌, length, get_or, take}
use mathlib.Core.List.{List, zip, Perm}
use Rattle.model.specs.Choice.{Mounted}
use Rattle.refusal.specs.Refusal.{none}
use Rattle.job.specs.Job.{rack_in, count_in, sets_in, quantities_in, read_refusal}
use Rattle.file_calls.specs.Outcomes.{Outcome}
use Rattle.file_calls.specs.Calls.{read_in, common_in, keep_in, keep_file_in, quick_in, quick_plan_in, best_in, best_plan_in, best_table_in}

-- both files are read, their racks are equal, and the lines of the second are those of the first in another order
pub record ReorderedFiles (f₁ f₂ : List ℕ) : Type 0 where
  pub read₁ : read_refusal f₁ ≡ none
  pub read₂ : read_refusal f₂ ≡ none
  pub racks : rack_in f₁ ≡ rack_in f₂
  pub parts : Perm (zip (sets_in f₁) (quantities_in f₁)) (zip (sets_in f₂) (quantities_in f₂))

-- a plan buffer with a byte for each line, and a table with m * m places
pub record LongEnoughFor (file plan cells : List ℕ) : Type 0 where
  pub bytes : count_in file ≤ length plan
  pub places : rack_in file * rack_in file ≤ length cells

-- wherever a line of the first file and a line of the second have equal sets, us and vs are equal at their places
abbrev pub AlikeInFiles : List ℕ → List ℕ → List ℕ → List ℕ → Type 0
AlikeInFiles f₁ f₂ us vs =
    (i j : ℕ) → i < count_in f₁ → j < count_in f₂ → get_or (sets_in f₁) i 0 ≡ get_or (sets_in f₂) j 0 → get_or us i 0 ≡ get_or vs j 0

-- the sets that keep leaves on the lines of the file that it writes
abbrev pub sets_kept : List ℕ → ℕ → List ℕ → List ℕ
sets_kept file k out = sets_in (take (keep_in file k (length out)).second (keep_file_in file k out))

-- wherever the sets and the quantities of a line of the first file and a line of the second are equal, so are the sets that keep leaves
abbrev pub KeptAlike : List ℕ → List ℕ → ℕ → List ℕ → List ℕ → Type 0
KeptAlike f₁ f₂ k out₁ out₂ =
    (i j : ℕ) → i < count_in f₁ → j < count_in f₂ → get_or (sets_in f₁) i 0 ≡ get_or (sets_in f₂) j 0
    → get_or (quantities_in f₁) i 0 ≡ get_or (quantities_in f₂) j 0 → get_or (sets_kept f₁ k out₁) i 0 ≡ get_or (sets_kept f₂ k out₂) j 0

-- the refusal's number and the first count: the pairs of a plan, or the margin of keep
pub record SameFirst (o₁ o₂ : Outcome) : Type 0 where
  pub number : o₁.refusal.number ≡ o₂.refusal.number
  pub first : o₁.first ≡ o₂.first

-- what keep within k gives and writes where both outputs have room, so that 11 is not given
pub record SameKept (k : ℕ) (f₁ f₂ out₁ out₂ : List ℕ) : Type 0 where
  pub keep : SameFirst (keep_in f₁ k (length out₁)) (keep_in f₂ k (length out₂))
  pub kept : (keep_in f₁ k (length out₁)).refusal.number ≡ 0 → KeptAlike f₁ f₂ k out₁ out₂

-- what the other calls on both files give and leave in their buffers; plans and tables are handed out where the call is accepted
pub record SameOutcomes (mounted : Mounted) (f₁ f₂ plan₁ plan₂ cells₁ cells₂ : List ℕ) : Type 0 where
  pub read : read_in f₁ ≡ read_in f₂
  pub common : common_in f₁ ≡ common_in f₂
  pub quick : SameFirst (quick_in f₁ mounted (length plan₁)) (quick_in f₂ mounted (length plan₂))
  pub quick_tips : (quick_in f₁ mounted (length plan₁)).refusal.number ≡ 0
      → AlikeInFiles f₁ f₂ (quick_plan_in f₁ mounted plan₁) (quick_plan_in f₂ mounted plan₂)
  pub best : SameFirst (best_in f₁ mounted (length plan₁) (length cells₁)) (best_in f₂ mounted (length plan₂) (length cells₂))
  pub best_tips : (best_in f₁ mounted (length plan₁) (length cells₁)).refusal.number ≡ 0
      → AlikeInFiles f₁ f₂ (best_plan_in f₁ mounted plan₁ (length cells₁)) (best_plan_in f₂ mounted plan₂ (length cells₂))
  pub tables : (best_in f₁ mounted (length plan₁) (length cells₁)).refusal.number ≡ 0
      → take (rack_in f₁ * rack_in f₁) (best_table_in f₁ mounted (length plan₁) cells₁)
      ≡ take (rack_in f₂ * rack_in f₂) (best_table_in f₂ mounted (length plan₂) cells₂)
