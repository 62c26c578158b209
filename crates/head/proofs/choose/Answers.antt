use Rattle.std.proofs.Common.{◌∙◌, sym, arith, rules}
use lib.Dec.{not_T}
use Rattle.model.specs.Limits.{most_tips}
use Rattle.model.specs.Plan.{has}
use Rattle.model.proofs.Tests.{false_T}
use Rattle.model.proofs.Sets.{has-below}
use Rattle.head.proofs.choose.Goals as goal
use Rattle.head.proofs.choose.Goals.{in_default-via-in-Some+then-tip-lt-MOST_TIPS+else-has_tip, in_default-via-in-Some+else-tip-lt-MOST_TIPS}
use Rattle.head.proofs.choose.Goals.{in_default-via-in_default}

-- no tip is mounted, or the set does not have it
pub returns-in_default : goal.returns-in_default
returns-in_default c =
    let set = c.args.set in
    elim c.in_default.branch [
      | in_default-via-in-Some+then-tip-lt-MOST_TIPS+else-has_tip w ↦
          rw (w.in-Some.is, sym w.has_tip.ensures ∙ w.if-has_tip.false) (search rules)
      | in_default-via-in-Some+else-tip-lt-MOST_TIPS w ↦
          let t = w.in-Some.tip in
          let free = not_T (has set t) (λ h. omega (arith, has-below most_tips set t (search rules) h)) in
          rw (w.in-Some.is, false_T (has set t) free) (search rules)
      | in_default-via-in_default w ↦ rw w.in_default.is (search rules)
    ]
