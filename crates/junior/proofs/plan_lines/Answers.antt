use Rattle.std.proofs.Common.{arith, rules, ◌≡◌, ◌∙◌, ap, length, take, None}
use Rattle.few_tips.proofs.Narrow.{few_narrow}
use Rattle.junior.proofs.Laid.{answer-none, plan_none, tips-inside, answer_some, plan_some}
use Rattle.junior.proofs.plan_lines.Goals as goal

pub pad_sets-sets-requires-clause-narrow : goal.pad_sets-sets-requires-clause-narrow
pad_sets-sets-requires-clause-narrow c = few_narrow c.args.lines.good.domains c.requires.narrow

pub returns-in_err-tips : goal.returns-in_err-tips
returns-in_err-tips c =
    let l = c.args.lines in
    let is : take (length l.quantities.now) c.pad_sets-sets.result ≡ l.sets.now
    = ap (λ n. take n c.pad_sets-sets.result) l.good.same ∙ c.pad_sets-sets.ensures.front in
    let same : c.from_residual.result ≡ None = search rules in
    let none = rw is at c.in_err-tips.ensures in
    rw same (record { answer = answer-none l.good none; plan = plan_none l.good none c.args.plan.now })

pub lay_tips-requires-clause-u : goal.lay_tips-requires-clause-u
lay_tips-requires-clause-u c =
    let l = c.args.lines in
    let is : take (length l.quantities.now) c.pad_sets-sets.result ≡ l.sets.now
    = ap (λ n. take n c.pad_sets-sets.result) l.good.same ∙ c.pad_sets-sets.ensures.front in
    omega (arith, tips-inside l.good (rw is at c.in_ok-tips.ensures), c.requires.narrow)

pub lay_tips-requires-clause-v : goal.lay_tips-requires-clause-v
lay_tips-requires-clause-v c =
    let l = c.args.lines in
    let is : take (length l.quantities.now) c.pad_sets-sets.result ≡ l.sets.now
    = ap (λ n. take n c.pad_sets-sets.result) l.good.same ∙ c.pad_sets-sets.ensures.front in
    omega (arith, tips-inside l.good (rw is at c.in_ok-tips.ensures), c.requires.narrow)

pub returns-clause-answer : goal.returns-clause-answer
returns-clause-answer c =
    let l = c.args.lines in
    let is : take (length l.quantities.now) c.pad_sets-sets.result ≡ l.sets.now
    = ap (λ n. take n c.pad_sets-sets.result) l.good.same ∙ c.pad_sets-sets.ensures.front in
    answer_some l.good (rw is at c.in_ok-tips.ensures)

pub returns-clause-plan : goal.returns-clause-plan
returns-clause-plan c =
    let l = c.args.lines in
    let is : take (length l.quantities.now) c.pad_sets-sets.result ≡ l.sets.now
    = ap (λ n. take n c.pad_sets-sets.result) l.good.same ∙ c.pad_sets-sets.ensures.front in
    rw (c.len.ensures, c.pad_sets-sets.ensures.front) at c.lay_tips.ensures ∙ plan_some l.good (rw is at c.in_ok-tips.ensures) c.args.plan.now
