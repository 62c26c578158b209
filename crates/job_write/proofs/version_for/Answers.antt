use Rattle.std.proofs.Common.{◌≡◌, ℕ, ◌+◌, ◌≤◌, List, ◌&&◌, eqb, get_or, length, drop, refl, sym, ap, ◌∙◌, arith}
use mathlib.Core.Bool.{and-true, and_assoc}
use lib.ListN.{drop_of_length-le}
use borrow.Author.Tests.{eq-eqb, ne_eqb}
use Rattle.model.specs.Count.{each}
use Rattle.model.proofs.Loops.{each-rest}
use Rattle.job.specs.Job.{version_for}
use Rattle.job_write.proofs.Laws.{others-more}
use Rattle.job_write.proofs.version_for.Goals as goal

pub loop-quantity-preserved : goal.loop-quantity-preserved
loop-quantity-preserved c =
    let at = c.loop-quantity in
    let qs = c.args.quantities.now in
    let i = at.quantity-index in
    let q = get_or qs i 0 in
    let rest = each (λ x. eqb x 1) (drop (i + 1) qs) in
    at.invariant
    ∙ ap (λ t. eqb at.others 0 && t) (each-rest (λ x. eqb x 1) qs i (omega arith))
    ∙ sym (and_assoc (eqb at.others 0) (eqb q 1) rest)
    ∙ ap (λ t. t && rest) (sym (others-more at.others q))

-- past the loop each quantity is 1 exactly where nothing was gathered
gathered : (qs : List ℕ) (others i : ℕ) → length qs ≤ i
    → each (λ q. eqb q 1) qs ≡ (eqb others 0 && each (λ q. eqb q 1) (drop i qs)) → each (λ q. eqb q 1) qs ≡ eqb others 0
unfolding each
gathered qs others i past inv =
    inv ∙ ap (λ l. eqb others 0 && each (λ q. eqb q 1) l) (drop_of_length-le qs past) ∙ and-true (eqb others 0)

pub returns-then-others-eq0 : goal.returns-then-others-eq0
unfolding version_for
returns-then-others-eq0 c =
    let at = c.loop-quantity in
    rw (gathered c.args.quantities.now at.others at.quantity-index (omega arith) at.invariant ∙ eq-eqb _ 0 c.if-others-eq0.true) refl

pub returns-else-others-eq0 : goal.returns-else-others-eq0
unfolding version_for
returns-else-others-eq0 c =
    let at = c.loop-quantity in
    rw (gathered c.args.quantities.now at.others at.quantity-index (omega arith) at.invariant ∙ ne_eqb _ 0 c.if-others-eq0.false) refl
