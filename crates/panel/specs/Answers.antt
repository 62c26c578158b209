-- The answer of planning two boards alone: its refusal, and the pairs of both plans, which are 0 where it refuses.
use Rattle.std.specs.Prelude.{ℕ, Result, Ok, Err}
use Rattle.refusal.specs.Told.{Refusal}
use Rattle.refusal.specs.Refusal.{none}
use Rattle.refusal.specs.declared.Refused.{Refused}
use Rattle.refusal.specs.Reasons.{told_of}
use Rattle.panel.specs.declared.AlonePairs.{AlonePairs}

-- the pairs of placements on one tip in each of the two plans
pub record AloneAnswer : Type 0 where
  pub refusal : Refusal
  pub first_pairs : ℕ
  pub second_pairs : ℕ

abbrev pub alone_told : Result AlonePairs Refused → AloneAnswer
alone_told (Ok x) = record { refusal = none; first_pairs = x.first; second_pairs = x.second }
alone_told (Err e) = record { refusal = told_of e; first_pairs = 0; second_pairs = 0 }
