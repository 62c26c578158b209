use Rattle.std.proofs.Common.{◌≡◌, ◌<◌, length, refl, sym, ap, ◌∙◌, arith, ℕ, Bool, true, false, ltb}
use lib.Dec.{eqb→eq}
use borrow.Author.Tests.{lt-ltb, ltb-true, ltb-false}
use Rattle.model.proofs.Lists.{all_get_d}
use Rattle.model.proofs.Tests.{T_true}
use Rattle.refusal.specs.Refusal.{none, refuse, when}
use Rattle.refusal.specs.declared.Refused.{Refused}
use Rattle.refusal.specs.Reasons.{reason_number, told_of}
use Rattle.refusal.proofs.Laws.{err_of, reason_not_0, when-none}
use Rattle.text.proofs.Buffer.{printed}
use Rattle.job.specs.Job.{Bytes, start_number, read_refusal}
use Rattle.mend_rules.specs.Mending.{mended_file}
use Rattle.mend_rules.proofs.Files.{accepted_same}
use Rattle.mend.specs.Call.{refused_by}
use Rattle.mend.proofs.Answer.{short, start_refused, short-refused, call_refused, call_done, call_same}
use Rattle.mend.proofs.Room.{both-fit}
use Rattle.mend.proofs.mend.Goals as goal

-- where a test refuses, it is passed
refused_taken : (e : Refused) (test : Bool) (n : ℕ) → told_of e ≡ when test n → test ≡ true
refused_taken e true n h = refl
refused_taken e false n h = absurd (reason_not_0 e.reason (ap (λ r. r.number) h))

pub returns-in_err-started : goal.returns-in_err-started
returns-in_err-started c =
    let a = c.args in
    let reason = c.in_err-started.field-0.0 in
    let n = reason_number reason in
    let e : Refused = record { reason = reason; place = 0 } in
    let same = err_of _ e c.from_residual.ensures in
    let told : n ≡ start_number a.file.now = c.in_err-started.ensures.refusal in
    rw same (call_refused a.file.now a.out.now a.report.now (refused_by n) n refl
    (ap refuse told ∙ start_refused a.file.now a.out.now a.report.now (λ z. reason_not_0 reason (told ∙ z))) (reason_not_0 reason))

pub returns-in_err-refuse_when : goal.returns-in_err-refuse_when
returns-in_err-refuse_when c =
    let file = c.args.file.now in
    let out = c.args.out.now in
    let report = c.args.report.now in
    let e = c.in_err-refuse_when.field-0.0 in
    let same = err_of _ e c.from_residual-in_err-refuse_when.ensures in
    let test = ltb (length out) (length file) in
    let told : told_of e ≡ when test 11 = c.in_err-refuse_when.ensures in
    let taken : test ≡ true = refused_taken e test 11 told in
    let started : start_number file ≡ 0 = sym c.in_ok-started.ensures.refusal in
    let made_of_bytes : Bytes file = all_get_d 0 file (λ i l. (c.type_inv.file i).fits) in
    let accepted : (read_refusal file).number ≡ 0 = eqb→eq _ 0 (T_true (sym c.is_accepted.ensures ∙ c.if-is_accepted.true)) in
    let whole = (accepted_same file accepted made_of_bytes).0 in
    let room : length out < length (mended_file file) = omega (arith, ltb-true (length out) (length file) taken, ap length whole) in
    let long : short file out report ≡ true = rw (lt-ltb (length out) (length (mended_file file)) room) refl in
    let refused : told_of e ≡ refuse 11 = told ∙ ap (λ b. when b 11) taken in
    rw same (call_refused file out report (record { refusal = told_of e; bytes = 0; report_bytes = 0 }) 11
    (ap (λ r. record { refusal = r; bytes = 0; report_bytes = 0 }) refused) (short-refused file out report started long) (λ z. omega arith))

pub returns-then-is_accepted : goal.returns-then-is_accepted
returns-then-is_accepted c =
    let file = c.args.file.now in
    let out = c.args.out.now in
    let started : start_number file ≡ 0 = sym c.in_ok-started.ensures.refusal in
    let made_of_bytes : Bytes file = all_get_d 0 file (λ i l. (c.type_inv.file i).fits) in
    let accepted : (read_refusal file).number ≡ 0 = eqb→eq _ 0 (T_true (sym c.is_accepted.ensures ∙ c.if-is_accepted.true)) in
    let test = ltb (length out) (length file) in
    let told : none ≡ when test 11 = c.in_ok-refuse_when.ensures in
    let room = ltb-false (length out) (length file) (when-none test 11 (λ z. omega arith) (ap (λ r. r.number) (sym told))) in
    call_same file out c.args.report.now made_of_bytes started accepted room (printed c.put_word.ensures) refl

pub returns-then-is_short : goal.returns-then-is_short
returns-then-is_short c =
    let file = c.args.file.now in
    let out = c.args.out.now in
    let report = c.args.report.now in
    let started : start_number file ≡ 0 = sym c.in_ok-started.ensures.refusal in
    let tested = rw c.in_ok-started.ensures.same at c.is_short.ensures in
    rw c.at.ensures (call_refused file out report (refused_by 11) 11 refl
    (short-refused file out report started (sym tested ∙ c.if-is_short.true)) (λ e. omega arith))

pub write_both-requires-clause-out_room : goal.write_both-requires-clause-out_room
write_both-requires-clause-out_room c = (both-fit _ _ _ _ (sym c.is_short.ensures ∙ c.if-is_short.false)).0

pub write_both-requires-clause-report_room : goal.write_both-requires-clause-report_room
write_both-requires-clause-report_room c = (both-fit _ _ _ _ (sym c.is_short.ensures ∙ c.if-is_short.false)).1

pub returns : goal.returns
returns c =
    let file = c.args.file.now in
    let started : start_number file ≡ 0 = sym c.in_ok-started.ensures.refusal in
    let made_of_bytes : Bytes file = all_get_d 0 file (λ i l. (c.type_inv.file i).fits) in
    let same = c.in_ok-started.ensures.same in
    let tested = rw same at c.is_short.ensures in
    call_done file c.args.out.now c.args.report.now made_of_bytes started (sym tested ∙ c.if-is_short.false)
    (rw same at c.write_both.ensures.out) (rw same at c.write_both.ensures.report) refl
