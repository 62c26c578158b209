use Rattle.std.proofs.Common.{◌≡◌, ℕ, List, Bool, true, false, eqb, sym, ap, refl, ◌∙◌, Result, Ok, Err, IfOk}
use Rattle.std.specs.Result.{MatchResult}
use borrow.Author.Tests.{eq-eqb, ne_eqb}
use Rattle.refusal.specs.declared.Reason.{Reason}
use Rattle.refusal.specs.Reasons.{number_in}
use Rattle.refusal.proofs.Laws.{number_of, reason_not_0}
use Rattle.job.specs.Job.{header_number, good_lines, read_refusal}
use Rattle.job.proofs.Reading.{read_refused}
use Rattle.job.proofs.Good.{good_accepted, bad_refused}
use Rattle.mend.proofs.read.is_accepted.Goals as goal

-- with a good header the lines decide
decided : (file : List ℕ) → header_number file ≡ 0 → (b : Bool) → good_lines file ≡ b → b ≡ eqb (read_refusal file).number 0
decided file z true g = sym (eq-eqb (read_refusal file).number 0 (ap (λ r. r.number) (good_accepted file z g)))
decided file z false g = sym (ne_eqb (read_refusal file).number 0 (bad_refused file z g))

-- a file that is opened, with its bytes, is accepted where its lines are good; one that is not opened is refused
opened : {A : Type 0} (bytes : A → List ℕ) (file : List ℕ) (r : Result A Reason) (b : Bool) → number_in r ≡ header_number file
    → IfOk r (λ o. bytes o ≡ file) → MatchResult r (λ o. b ≡ good_lines (bytes o)) (λ _. b ≡ false) → b ≡ eqb (read_refusal file).number 0
opened bytes file (Ok o) b e same lines = lines ∙ ap good_lines same ∙ decided file (sym e) (good_lines file) refl
opened bytes file (Err reason) b e same lines =
    let h : header_number file ≡ 0 → ⊥ = λ z. reason_not_0 reason (e ∙ z) in
    lines ∙ sym (ne_eqb (read_refusal file).number 0 (λ z. h (number_of (read_refused file h) z)))

pub returns : goal.returns
returns c =
    opened (λ o. o.bytes.now) c.args.file.now c.open.result c.is_ok_and.result c.open.ensures.refusal c.open.ensures.same c.is_ok_and.ensures
