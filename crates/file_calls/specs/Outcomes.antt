-- What a call on a file gives: its refusal, and three counts, which are 0 where it refuses; but 26 gives its margin.
use Rattle.std.specs.Prelude.{ℕ, suc, ◌-◌, ◌^◌, ℤ, pos, negsuc, Result, Ok, Err}
use Rattle.refusal.specs.Told.{Refusal}
use Rattle.refusal.specs.Refusal.{none}
use Rattle.refusal.specs.declared.Refused.{Refused}
use Rattle.refusal.specs.declared.Unkept.{Unkept}
use Rattle.refusal.specs.Reasons.{told_of}
use Rattle.file_calls.specs.declared.Counts.{Counts}

pub record Outcome : Type 0 where
  pub refusal : Refusal
  pub first : ℕ
  pub second : ℕ
  pub third : ℕ

-- a signed number in the 64 bits of two's complement
unfoldable pub twos_complement : ℤ → ℕ
twos_complement (pos n) = n
twos_complement (negsuc n) = 2 ^ 64 - suc n

-- what a refusal gives, with its first count
abbrev pub refused_outcome : Refused → ℕ → Outcome
refused_outcome e first = record { refusal = told_of e; first = first; second = 0; third = 0 }

-- what is given by a result
abbrev pub outcome_of : Result Counts Refused → Outcome
outcome_of (Ok x) = record { refusal = none; first = x.first; second = x.second; third = x.third }
outcome_of (Err e) = refused_outcome e 0

-- of keep: a refusal gives its margin
abbrev pub kept_outcome_of : Result Counts Unkept → Outcome
kept_outcome_of (Ok x) = record { refusal = none; first = x.first; second = x.second; third = x.third }
kept_outcome_of (Err e) = refused_outcome e.refused (twos_complement e.margin)
