-- What mending gives for a job file: the bytes of the mended file are the first count, those of the report the second.
use Rattle.std.specs.Prelude.{ℕ, List}
use Rattle.file_calls.specs.Outcomes.{Outcome}
use Rattle.mend.specs.Answers.{Mended}
use Rattle.mend.specs.Call.{mend_of, MendRuleOf}

abbrev pub mend_outcome : Mended → Outcome
mend_outcome a = record { refusal = a.refusal; first = a.bytes; second = a.report_bytes; third = 0 }

-- for outputs of room bytes for the file and space bytes for the report
abbrev pub mend_in : List ℕ → ℕ → ℕ → Outcome
mend_in file room space = mend_outcome (mend_of file room space)

-- the demands, of the bytes in both buffers
abbrev pub MendRuleIn : List ℕ → List ℕ → List ℕ → Outcome → Type 0
MendRuleIn file out report o = MendRuleOf file out report o.refusal.number o.first o.second
