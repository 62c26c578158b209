use mathlib.Core.Path.{◌≡◌, refl, sym, ap, ◌∙◌}
use native.Mathlib.Omega.{arith}
use borrow.Author.Tests.{lt-ltb, le-ltb}
use Rattle.std.proofs.Common.{ℕ, Bool, cond, true, false}
use Rattle.model.specs.Plan.{rack_ok}
use Rattle.refusal.specs.Reasons.{number_in}
use Rattle.refusal.proofs.Laws.{err_of, reason_not_0}
use Rattle.job.specs.Job.{version_ok, version_in, rack_in, start_number}
use Rattle.job.proofs.Numbers.{number_one}
use Rattle.job.proofs.Header.read.Goals as goal

-- the version is known where its number is accepted, and unknown where it is refused
accepted : (known : Bool) {number : ℕ} → number ≡ 0 → number ≡ cond known 0 8 → known ≡ true
accepted true z e = refl
accepted false z e = absurd (omega arith)

refused : (known : Bool) {number : ℕ} → (number ≡ 0 → ⊥) → number ≡ cond known 0 8 → known ≡ false
refused true n e = absurd (n e)
refused false n e = refl

pub returns-then-file-lt-HEADER-clause-refusal : goal.returns-then-file-lt-HEADER-clause-refusal
unfolding start_number
returns-then-file-lt-HEADER-clause-refusal c = rw (lt-ltb _ _ c.if-file-lt-HEADER.true) refl

pub returns-then-not-has_mark-clause-refusal : goal.returns-then-not-has_mark-clause-refusal
unfolding start_number
returns-then-not-has_mark-clause-refusal c =
    rw (le-ltb _ _ c.if-file-lt-HEADER.false, sym c.has_mark.ensures ∙ c.if-not-has_mark.true) refl

pub returns-in_err-version-clause-refusal : goal.returns-in_err-version-clause-refusal
unfolding start_number
returns-in_err-version-clause-refusal c =
    let reason = c.in_err-version.field-0.0 in
    let told = ap number_in (err_of _ reason c.from_residual.ensures) in
    let n = c.in_err-version.ensures.0 in
    let out = refused _ (reason_not_0 reason) n in
    let unknown : version_ok (version_in c.args.file.now) ≡ false = ap version_ok (sym c.two_at.ensures) ∙ out in
    rw (
      le-ltb _ _ c.if-file-lt-HEADER.false,
      sym c.has_mark.ensures ∙ c.if-not-has_mark.false,
      unknown,
    )
    (told ∙ n ∙ ap (λ known. cond known 0 8) out)

pub returns-then-not-rack_ok-clause-refusal : goal.returns-then-not-rack_ok-clause-refusal
unfolding start_number
returns-then-not-rack_ok-clause-refusal c =
    let known : version_ok (version_in c.args.file.now) ≡ true =
    ap version_ok (sym c.two_at.ensures) ∙ accepted _ refl c.in_ok-version.ensures.0 in
    let rack : c.from-rack.result ≡ rack_in c.args.file.now = omega (arith, c.from-rack.ensures, number_one c.args.file.now 5 (omega arith)) in
    rw (
      le-ltb _ _ c.if-file-lt-HEADER.false,
      sym c.has_mark.ensures ∙ c.if-not-has_mark.false,
      known,
      ap rack_ok (sym rack) ∙ sym c.rack_ok.ensures ∙ c.if-not-rack_ok.true,
    ) refl

pub returns-clause-refusal : goal.returns-clause-refusal
unfolding start_number
returns-clause-refusal c =
    let known : version_ok (version_in c.args.file.now) ≡ true =
    ap version_ok (sym c.two_at.ensures) ∙ accepted _ refl c.in_ok-version.ensures.0 in
    let rack : c.from-rack.result ≡ rack_in c.args.file.now = omega (arith, c.from-rack.ensures, number_one c.args.file.now 5 (omega arith)) in
    rw (
      le-ltb _ _ c.if-file-lt-HEADER.false,
      sym c.has_mark.ensures ∙ c.if-not-has_mark.false,
      known,
      ap rack_ok (sym rack) ∙ sym c.rack_ok.ensures ∙ c.if-not-rack_ok.false,
    ) refl

pub returns-clause-header : goal.returns-clause-header
returns-clause-header c =
    record {
      version-is = c.in_ok-version.ensures.1 ∙ c.two_at.ensures;
      rack-is = omega (arith, c.from-rack.ensures, number_one c.args.file.now 5 (omega arith));
      count-is = omega (arith, c.from-count.ensures, c.two_at-2.ensures);
    }
