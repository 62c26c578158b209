use Rattle.std.proofs.Common.{List, take}
use Rattle.order_rules.specs.declared.Rule.{Rule}
use Rattle.placing.specs.Rows.{GivesRules, Marked}
use Rattle.placing.proofs.marking.add_rules.Given as goal

abbrev pub invariant-loop-place : goal.invariant-loop-place
invariant-loop-place g l = (rules : List Rule) → GivesRules (λ i r. g.F.Fn.post l.rule_at (i, tt) r) l.count rules
    → Marked l.n l.initial.rows l.rows (take l.place rules)
