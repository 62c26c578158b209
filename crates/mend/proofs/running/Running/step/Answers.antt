use Rattle.std.proofs.Common.{◌≡◌, ℕ, ◌+◌, ◌≤◌, true, ◌&&◌, [], length, eqb, leb, sym, ap, ◌∙◌}
use lib.Dec.{eqb→eq, leb→le}
use Rattle.model.specs.Limits.{most_placements}
use Rattle.model.proofs.Tests.{T_true, and_left, and_right}
use Rattle.job.specs.Job.{line_number}
use Rattle.job.proofs.Reading.{line-number}
use Rattle.mend_rules.specs.Mending.{after, stays, codes}
use Rattle.mend_rules.proofs.Lines.{GoodLine}
use Rattle.mend_rules.proofs.Kept.{good_fate}
use Rattle.mend_rules.proofs.Codes.{codes-none}
use Rattle.mend.specs.Mend.{line_with}
use Rattle.mend.proofs.running.Running.step.Goals as goal

-- a good line with which the total does not pass stays as it is
good-line : (m t s q : ℕ) → (eqb (line_number m s q) 0 && leb (t + q) most_placements) ≡ true
    → (stays m t (line_with s q) ≡ true) × (codes m t (line_with s q) ≡ []) × (after m t (line_with s q) ≡ t + q)
good-line m t s q told =
    let number = line_number m s q in
    let tests = T_true told in
    let good_number : number ≡ 0 = eqb→eq number 0 (and_left (eqb number 0) (leb (t + q) most_placements) tests) in
    let few : t + q ≤ most_placements = leb→le (t + q) most_placements (and_right (eqb number 0) (leb (t + q) most_placements) tests) in
    let (domain, some) = (line-number m s q).0 good_number in
    let good : GoodLine m (line_with s q) = record { domain = domain; some = some } in
    let (_, total, kept) = good_fate m t (line_with s q) good few in
    (kept, codes-none m t (line_with s q) good few, total)

pub returns-then-is_good-clause-kept : goal.returns-then-is_good-clause-kept
returns-then-is_good-clause-kept c =
    let a = c.args in
    sym (good-line a.self.rack a.self.total a.line.set a.line.quantity (sym c.is_good.ensures ∙ c.if-is_good.true)).0

pub returns-then-is_good-clause-changes : goal.returns-then-is_good-clause-changes
returns-then-is_good-clause-changes c =
    let a = c.args in
    sym (ap length (good-line a.self.rack a.self.total a.line.set a.line.quantity (sym c.is_good.ensures ∙ c.if-is_good.true)).1)

pub returns-then-is_good-clause-total : goal.returns-then-is_good-clause-total
returns-then-is_good-clause-total c =
    let a = c.args in
    let good = good-line a.self.rack a.self.total a.line.set a.line.quantity (sym c.is_good.ensures ∙ c.if-is_good.true) in
    ap (λ q. a.self.total + q) c.from.ensures ∙ sym good.2
