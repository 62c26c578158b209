-- What tipshare_report prints of a file that is refused is the number that the cases of reading tell.
use Prim.Native.Nat.{ℕ, ◌≤◌}
use mathlib.Core.Path.{◌≡◌}
use mathlib.Core.List.{List}
use lib.ListN.{length, take}
use borrow.Author.Tests.{le-ltb, ne_eqb}
use Rattle.text.specs.Buffer.{Printed}
use Rattle.job.specs.Job.{read_refusal}
use Rattle.refusal.specs.Told.{Refusal}
use Rattle.report.specs.Report.{refused_text}
use Rattle.cases.specs.Cases.{Told}
use Rattle.cases.proofs.Laws.{told_one}
use Rattle.call_cases.proofs.Reading.{read_told}
use Rattle.file_calls.specs.Cases.{read_cases}
use Rattle.file_report.specs.Summary.{summary_of, text_of, text_room, taken_bytes}

pub report_told : (file out : List ℕ) (n : ℕ) (after : List ℕ) → Printed (summary_of file (length out)) out n after
    → (r : Refusal) → text_room ≤ length out → Told (read_cases (take taken_bytes file)) r → (r.number ≡ 0 → ⊥)
    → Printed (refused_text r.number) out n after
unfolding summary_of text_of
report_told file out n after p r room told not_0 =
    let taken = take taken_bytes file in
    let same : read_refusal taken ≡ r = told_one (read_cases taken) (read_refusal taken) r (read_told taken) told in
    rw (le-ltb (length out) text_room room, same, ne_eqb r.number 0 not_0) at p
