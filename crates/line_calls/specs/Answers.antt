-- The answer of a call on lines: its refusal, and its counts, which are 0 where it refuses; and the answer by the result.
use Rattle.std.specs.Prelude.{ℕ, ℤ, Result, Ok, Err}
use Rattle.refusal.specs.Told.{Refusal}
use Rattle.refusal.specs.Refusal.{none}
use Rattle.refusal.specs.declared.Refused.{Refused}
use Rattle.refusal.specs.declared.Unkept.{Unkept}
use Rattle.refusal.specs.Reasons.{told_of, refusal_of, unkept_of, count_in, margin_in}
use Rattle.along.specs.declared.AlongCounts.{AlongCounts}
use Rattle.common_tip.specs.declared.Common.{Common}
use Rattle.junior.specs.declared.Found.{Found}
use Rattle.exact.specs.declared.Shared.{Shared}

-- the most placements that allow one tip, the least number of placements off the common tip, and the set of the tips that reach top
pub record CommonAnswer : Type 0 where
  pub refusal : Refusal
  pub top : ℕ
  pub off : ℕ
  pub tips : ℕ

-- the margin of keep, which a refusal has too
pub record KeepAnswer : Type 0 where
  pub refusal : Refusal
  pub margin : ℤ

-- the number of pairs of placements on one tip in the plan that is handed out
pub record PlanAnswer : Type 0 where
  pub refusal : Refusal
  pub pairs : ℕ

-- the plan's pairs, and the tips u and v that it is on
pub record JuniorAnswer : Type 0 where
  pub refusal : Refusal
  pub pairs : ℕ
  pub u : ℕ
  pub v : ℕ

-- the plan's tip changes along the list, and its pairs
pub record AlongAnswer : Type 0 where
  pub refusal : Refusal
  pub changes : ℕ
  pub pairs : ℕ

-- the plan's pairs, and how many different tips it uses
pub record ExactAnswer : Type 0 where
  pub refusal : Refusal
  pub pairs : ℕ
  pub tips : ℕ

-- the bytes of the job file that is written
pub record FileAnswer : Type 0 where
  pub refusal : Refusal
  pub bytes : ℕ

-- ---- the answer by a result

abbrev pub common_told : Result Common Refused → CommonAnswer
common_told (Ok x) = record { refusal = none; top = x.top; off = x.off; tips = x.tips }
common_told (Err e) = record { refusal = told_of e; top = 0; off = 0; tips = 0 }

abbrev pub keep_told : Result ℤ Unkept → KeepAnswer
keep_told r = record { refusal = unkept_of r; margin = margin_in r }

abbrev pub plan_told : Result ℕ Refused → PlanAnswer
plan_told r = record { refusal = refusal_of r; pairs = count_in r }

abbrev pub junior_told : Result Found Refused → JuniorAnswer
junior_told (Ok x) = record { refusal = none; pairs = x.pairs; u = x.u; v = x.v }
junior_told (Err e) = record { refusal = told_of e; pairs = 0; u = 0; v = 0 }

abbrev pub along_told : Result AlongCounts Refused → AlongAnswer
along_told (Ok x) = record { refusal = none; changes = x.changes; pairs = x.pairs }
along_told (Err e) = record { refusal = told_of e; changes = 0; pairs = 0 }

abbrev pub exact_told : Result Shared Refused → ExactAnswer
exact_told (Ok x) = record { refusal = none; pairs = x.pairs; tips = x.tips }
exact_told (Err e) = record { refusal = told_of e; pairs = 0; tips = 0 }

abbrev pub file_told : Result ℕ Refused → FileAnswer
file_told r = record { refusal = refusal_of r; bytes = count_in r }
