use mathlib.Core.Path.{◌≡◌, refl}
use Rattle.std.proofs.Common.{rules, Err}
use Rattle.refusal.specs.Refusal.{none}
use Rattle.refusal.proofs.Laws.{or_err, or_ok}
use Rattle.file_calls.proofs.Left.{alone_few}
use Rattle.file_calls.proofs.TwoFiles.{alone-in, alone_read}
use Rattle.file_calls.proofs.CasesTold.{alone_told}
use Rattle.file_calls.proofs.panel_calls.alone_in.Goals as goal

pub returns-in_err-lines : goal.returns-in_err-lines
returns-in_err-lines g c =
    let a = c.args in
    let e = c.in_err-lines.field-0.0 in
    let same : c.from_residual.result ≡ Err e = search rules in
    let (outcome, (plan, rule)) = alone_read a.first.now a.second.now e (or_err _ e c.in_err-lines.ensures.refusal) a.plan.now in
    let told = alone_told a.first.now a.second.now _ outcome in
    rw same (record {
      outcome = outcome;
      plan = plan;
      rule = rule;
      first_few = (alone_few a.first.now a.second.now _ outcome).0;
      second_few = (alone_few a.first.now a.second.now _ outcome).1;
      cases = told;
    })

pub returns-in_err-others : goal.returns-in_err-others
returns-in_err-others g c =
    let a = c.args in
    let e = c.in_err-others.field-0.0 in
    let same : c.from_residual-in_err-others.result ≡ Err e = search rules in
    let told = or_ok _ c.in_ok-lines.ensures.refusal c.in_err-others.ensures.refusal in
    let (outcome, (plan, rule)) = alone_read a.first.now a.second.now e told a.plan.now in
    let told = alone_told a.first.now a.second.now _ outcome in
    rw same (record {
      outcome = outcome;
      plan = plan;
      rule = rule;
      first_few = (alone_few a.first.now a.second.now _ outcome).0;
      second_few = (alone_few a.first.now a.second.now _ outcome).1;
      cases = told;
    })

pub returns-in_err-pairs : goal.returns-in_err-pairs
returns-in_err-pairs g c =
    let a = c.args in
    let e = c.in_err-pairs.field-0.0 in
    let same : c.from_residual-in_err-pairs.result ≡ Err e = search rules in
    let read = c.in_ok-lines.ensures in
    let other = c.in_ok-others.ensures in
    let told = c.in_err-pairs.ensures in
    let (outcome, (plan, rule)) =
    alone-in a.first.now a.second.now read.refusal other.refusal (or_ok none refl refl)
    (λ _. (read.rack, read.quantities, read.sets)) (λ _. (other.rack, other.quantities, other.sets)) a.plan.now told.answer told.plan told.rule in
    let told = alone_told a.first.now a.second.now _ outcome in
    rw same (record {
      outcome = outcome;
      plan = plan;
      rule = rule;
      first_few = (alone_few a.first.now a.second.now _ outcome).0;
      second_few = (alone_few a.first.now a.second.now _ outcome).1;
      cases = told;
    })

pub returns : goal.returns
returns g c =
    let a = c.args in
    let read = c.in_ok-lines.ensures in
    let other = c.in_ok-others.ensures in
    let told = c.in_ok-pairs.ensures in
    let (outcome, (plan, rule)) =
    alone-in a.first.now a.second.now read.refusal other.refusal (or_ok none refl refl)
    (λ _. (read.rack, read.quantities, read.sets)) (λ _. (other.rack, other.quantities, other.sets)) a.plan.now told.answer told.plan told.rule in
    let told = alone_told a.first.now a.second.now _ outcome in
    rw (c.from.ensures, c.from-2.ensures) (record {
      outcome = outcome;
      plan = plan;
      rule = rule;
      first_few = (alone_few a.first.now a.second.now _ outcome).0;
      second_few = (alone_few a.first.now a.second.now _ outcome).1;
      cases = told;
    })
