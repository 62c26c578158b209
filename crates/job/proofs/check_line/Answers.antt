use mathlib.Core.Path.{refl, sym, ◌∙◌}
use borrow.Author.Tests.{eq-eqb, ne_eqb}
use Rattle.job.specs.Job.{line_number}
use Rattle.job.proofs.check_line.Goals as goal

pub returns-then-is_empty : goal.returns-then-is_empty
unfolding line_number
returns-then-is_empty c = rw (sym c.is_empty.ensures ∙ c.if-is_empty.true) refl

pub returns-then-not-in_rack : goal.returns-then-not-in_rack
unfolding line_number
returns-then-not-in_rack c =
    rw (sym c.is_empty.ensures ∙ c.if-is_empty.false, sym c.in_rack.ensures ∙ c.if-not-in_rack.true) refl

pub returns-then-quantity-eq0 : goal.returns-then-quantity-eq0
unfolding line_number
returns-then-quantity-eq0 c =
    rw (
      sym c.is_empty.ensures ∙ c.if-is_empty.false,
      sym c.in_rack.ensures ∙ c.if-not-in_rack.false,
      eq-eqb _ 0 c.if-quantity-eq0.true,
    ) refl

pub returns : goal.returns
unfolding line_number
returns c =
    rw (
      sym c.is_empty.ensures ∙ c.if-is_empty.false,
      sym c.in_rack.ensures ∙ c.if-not-in_rack.false,
      ne_eqb _ 0 c.if-quantity-eq0.false,
    ) refl
