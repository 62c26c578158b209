-- What a call gives: where it is refused, and where it is not.
use Prim.Native.Nat.{ℕ, ◌≤◌}
use native.Mathlib.Omega.{arith}
use mathlib.Core.Path.{◌≡◌, refl, sym, ap, ap₂, subst, ◌∙◌}
use mathlib.Core.Bool.{Bool, true, false, ◌||◌}
use mathlib.Core.List.{List}
use lib.Dec.{ltb}
use lib.ListN.{length, take}
use lib.Seq.{take_at}
use borrow.Author.Tests.{le-ltb, ne_eqb}
use Rattle.text.specs.Buffer.{Printed}
use Rattle.refusal.specs.Told.{Refusal}
use Rattle.refusal.specs.Refusal.{none, refuse}
use Rattle.refusal.proofs.Laws.{or_first, or_next, lent_refused, lent_accepted}
use Rattle.job.specs.Job.{Bytes, start_number, read_refusal}
use Rattle.mend_rules.specs.Mending.{mended_file, mended_report, mend_refusal}
use Rattle.mend_rules.proofs.Files.{accepted_same}
use Rattle.mend_rules.proofs.Rule.{mend_rule}
use Rattle.mend.specs.Answers.{Mended}
use Rattle.cases.specs.Cases.{Told}
use Rattle.mend.specs.Cases.{mend_cases}
use Rattle.mend.proofs.CasesTold.{refusal_told}
use Rattle.mend.specs.Call.{refused_by, mend_of, out_after, report_after, MendRuleOf}

-- the contract of the call: its answer, both buffers, and the rule
abbrev pub Called : (file before space : List ℕ) → Mended → (after told : List ℕ) → Type 0
Called file before space r after told =
    record {
      answer : r ≡ mend_of file (length before) (length space);
      out : after ≡ out_after file before (length space);
      report : told ≡ report_after file (length before) space;
      rule : MendRuleOf file after told r.refusal.number r.bytes r.report_bytes;
      cases : Told (mend_cases file (length before) (length space)) r.refusal;
    }

module _ (file out report : List ℕ) where
  abbrev decided : Refusal
  decided = mend_refusal file (length out) (length report)

  -- the refusal: by the first 8 bytes, by an output that is too short, or none
  pub start_refused : (start_number file ≡ 0 → ⊥) → refuse (start_number file) ≡ decided
  unfolding mend_refusal
  start_refused h = or_first {d = refuse (start_number file)} refl _ h

  -- an output is too short
  abbrev pub short : Bool
  short = ltb (length out) (length (mended_file file)) || ltb (length report) (length (mended_report file))

  pub short-refused : start_number file ≡ 0 → short ≡ true → refuse 11 ≡ decided
  unfolding mend_refusal
  short-refused s h = or_next {d = refuse (start_number file)} refl _ s (rw h)

  none-refused : start_number file ≡ 0 → short ≡ false → none ≡ decided
  unfolding mend_refusal
  none-refused s h = or_next {d = refuse (start_number file)} refl _ s (rw h)

  told_so : Told (mend_cases file (length out) (length report)) decided
  told_so = refusal_told file (length out) (length report)

  -- a call that is refused by n
  pub call_refused : (r : Mended) (n : ℕ) → r ≡ refused_by n → refuse n ≡ decided → (n ≡ 0 → ⊥) → Called file out report r out report
  unfolding mend_of out_after report_after
  call_refused r n e d z = record {
    answer = e ∙ rw (← d, ne_eqb n 0 z) refl;
    out = lent_refused d (length (mended_file file)) (mended_file file) out z;
    report = lent_refused d (length (mended_report file)) (mended_report file) report z;
    rule = rw e (λ h. absurd (z h));
    cases = subst (Told (mend_cases file (length out) (length report))) (sym (ap (λ q. q.refusal) e ∙ d)) told_so;
  }

  -- a call that is not refused
  pub call_done : {bytes report_bytes : ℕ} {out' report' : List ℕ} → Bytes file → start_number file ≡ 0 → short ≡ false
      → Printed (mended_file file) out bytes out' → Printed (mended_report file) report report_bytes report'
      → {r : Refusal} → r ≡ none → Called file out report (record { refusal = r; bytes = bytes; report_bytes = report_bytes }) out' report'
  unfolding mend_of out_after report_after
  call_done {bytes = bytes} {report_bytes = report_bytes} {out' = out'} {report' = report'} b s h p q z =
      let d = none-refused s h in
      let written : take bytes out' ≡ mended_file file = ap (take bytes) p.bytes ∙ take_at (mended_file file) _ bytes (sym p.size) in
      let told : take report_bytes report' ≡ mended_report file =
      ap (take report_bytes) q.bytes ∙ take_at (mended_report file) _ report_bytes (sym q.size) in
      rw z record {
        answer = rw (← d) (ap₂ (λ x y. record { refusal = none; bytes = x; report_bytes = y }) p.size q.size);
        out = p.bytes ∙ lent_accepted d (length (mended_file file)) (mended_file file) out refl refl;
        report = q.bytes ∙ lent_accepted d (length (mended_report file)) (mended_report file) report refl refl;
        rule = λ _. rw (written, told) (mend_rule file b s);
        cases = subst (Told (mend_cases file (length out) (length report))) (sym d) told_so;
      }

  -- a call on a file that reading accepts: it stays as it is, and nothing is told
  pub call_same : {bytes : ℕ} {out' : List ℕ} → Bytes file → start_number file ≡ 0 → (read_refusal file).number ≡ 0 → length file ≤ length out
      → Printed file out bytes out'
      → {r : Refusal} → r ≡ none → Called file out report (record { refusal = r; bytes = bytes; report_bytes = 0 }) out' report
  call_same b s e h p z =
      let (same, quiet) = accepted_same file e b in
      let fits : short ≡ false = rw (same, quiet) (rw (le-ltb (length out) (length file) h, le-ltb (length report) 0 (omega arith)) refl) in
      call_done b s fits (rw same p) (rw quiet (record { size = refl; bytes = refl })) z
