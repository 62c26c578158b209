use mathlib.Core.Path.{refl, sym, ap}
use Rattle.refusal.specs.Refusal.{none}
use Rattle.refusal.proofs.Laws.{err_of, reason_not_0}
use Rattle.line_calls.proofs.PairGoal.{asked_runs, asked-none, goal-stopped, goal-all, goal-ruled}
use Rattle.line_calls.proofs.goal_call.goal.Goals as goal

pub returns-in_err-run_refusal : goal.returns-in_err-run_refusal
returns-in_err-run_refusal c =
    let a = c.args in
    let e = c.in_err-run_refusal.field-0.0 in
    let same = err_of _ e c.from_residual.ensures in
    let struck =
    goal-stopped none a.lines.rack a.lines.quantities.now a.lines.sets.now a.goal a.struck.now
    (asked_runs none a.lines.sets.now refl c.in_err-run_refusal.ensures) (reason_not_0 e.reason) in
    let rule = goal-ruled a.lines.rack a.lines.quantities.now a.lines.sets.now a.goal a.struck.now c.requires a.lines.good struck in
    rw same (record { answer = struck.0; sets = struck.1; rule = rule })

pub strike-requires-clause-named : goal.strike-requires-clause-named
strike-requires-clause-named c =
    let sets = c.args.lines.sets.now in
    let all = asked-none none sets (ap (λ r. r.number) (sym (asked_runs none sets refl c.in_ok-run_refusal.ensures))) in
    record { runs = all.1; all = c.names_of.ensures }

pub returns : goal.returns
returns c =
    let a = c.args in
    let struck =
    goal-all a.lines.rack a.lines.quantities.now a.lines.sets.now a.goal a.struck.now c.requires
    (asked_runs none a.lines.sets.now refl c.in_ok-run_refusal.ensures) c.strike.ensures.answer c.strike.ensures.struck in
    let rule = goal-ruled a.lines.rack a.lines.quantities.now a.lines.sets.now a.goal a.struck.now c.requires a.lines.good struck in
    record { answer = struck.0; sets = struck.1; rule = rule }
