-- What mending tells: its refusal, and the bytes of the mended file and of the report, which are 0 where it refuses.
use Rattle.std.specs.Prelude.{ℕ, Result, Ok, Err}
use Rattle.refusal.specs.Told.{Refusal}
use Rattle.refusal.specs.Refusal.{none}
use Rattle.refusal.specs.declared.Refused.{Refused}
use Rattle.refusal.specs.Reasons.{told_of}
use Rattle.mend.specs.declared.Sizes.{Sizes}

pub record Mended : Type 0 where
  pub refusal : Refusal
  pub bytes : ℕ
  pub report_bytes : ℕ

-- the answer in a result
abbrev pub mended_told : Result Sizes Refused → Mended
mended_told (Ok x) = record { refusal = none; bytes = x.bytes; report_bytes = x.report_bytes }
mended_told (Err e) = record { refusal = told_of e; bytes = 0; report_bytes = 0 }
