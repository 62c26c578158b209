use Rattle.std.proofs.Common.{◌∙◌, sym, ap, arith, rules}
use lib.Dec.{not_T}
use Rattle.model.specs.Limits.{most_tips}
use Rattle.model.specs.Plan.{has}
use Rattle.model.specs.Choice.{tip}
use Rattle.model.specs.Renumber.{rank_on}
use Rattle.model.proofs.Tests.{T_true, false_T}
use Rattle.model.proofs.Sets.{has-below}
use Rattle.ranks.proofs.renumber_mounted.Goals as goal

pub returns-in-Some : goal.returns-in-Some
unfolding rank_on
returns-in-Some c =
    let passed = sym c.has_tip.ensures ∙ c.if-has_tip.true in
    rw (c.in-Some.is, passed, c.from.ensures) (ap tip (c.requires.places c.in-Some.t (T_true passed)))

pub returns-in_default : goal.returns-in_default
unfolding rank_on
returns-in_default c = rw (c.in-Some.is, sym c.has_tip.ensures ∙ c.if-has_tip.false)

pub returns-in_default-2 : goal.returns-in_default-2
unfolding rank_on
returns-in_default-2 c =
    let set = c.args.set in
    let t = c.in-Some.t in
    let free = not_T (has set t) (λ h. omega (arith, has-below most_tips set t (search rules) h)) in
    rw (c.in-Some.is, false_T (has set t) free)

pub returns-in_default-3 : goal.returns-in_default-3
unfolding rank_on
returns-in_default-3 c = rw c.in_default.is
