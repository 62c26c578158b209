-- What a call of mending answers, what it leaves in both buffers, and what it promises of their bytes.
use Rattle.std.specs.Prelude.{ℕ, ◌≡◌, List, length, take}
use Rattle.refusal.specs.Refusal.{refuse, told, lent_by}
use Rattle.mend_rules.specs.Mending.{mended_file, mended_report, mend_refusal}
use Rattle.mend_rules.specs.Rules.{MendRule}
use Rattle.mend.specs.Answers.{Mended}

-- the answer of a call that is refused by n
abbrev pub refused_by : ℕ → Mended
refused_by n = record { refusal = refuse n; bytes = 0; report_bytes = 0 }

-- the answer for outputs of room bytes for the file and space bytes for the report; after a refusal both lengths are 0
unfoldable pub mend_of : List ℕ → ℕ → ℕ → Mended
mend_of file room space =
    let r = mend_refusal file room space in
    record { refusal = r; bytes = told r (length (mended_file file)); report_bytes = told r (length (mended_report file)) }

-- the output after it, and the report
unfoldable pub out_after : List ℕ → List ℕ → ℕ → List ℕ
out_after file out space = lent_by (mend_refusal file (length out) space) (length (mended_file file)) (mended_file file) out

unfoldable pub report_after : List ℕ → ℕ → List ℕ → List ℕ
report_after file room report = lent_by (mend_refusal file room (length report)) (length (mended_report file)) (mended_report file) report

-- the demands, of the bytes in both buffers
abbrev pub MendRuleOf : List ℕ → List ℕ → List ℕ → ℕ → ℕ → ℕ → Type 0
MendRuleOf file out report number bytes report_bytes = number ≡ 0 → MendRule file (take bytes out) (take report_bytes report)
