use mathlib.Core.Path.{◌≡◌, refl, sym, ◌∙◌}
use mathlib.Core.Bool.{true, false}
use Rattle.refusal.specs.Refusal.{or_else}
use Rattle.call_refusals.specs.Calls.{is_negative, keep_refusal}
use Rattle.call_refusals.proofs.Calls.{sign_test}
use Rattle.call_refusals.proofs.keep_refusal.Goals as goal

pub returns-then-margin-lt0-clause-refusal : goal.returns-then-margin-lt0-clause-refusal
unfolding keep_refusal or_else
returns-then-margin-lt0-clause-refusal c =
    let negative : is_negative c.args.margin ≡ true = sym (sign_test c.args.margin c.ranges.margin) ∙ c.if-margin-lt0.true in
    rw (c.at.ensures, negative) refl

pub returns-clause-refusal : goal.returns-clause-refusal
unfolding keep_refusal or_else
returns-clause-refusal c =
    let whole : is_negative c.args.margin ≡ false = sym (sign_test c.args.margin c.ranges.margin) ∙ c.if-margin-lt0.false in
    rw whole refl
