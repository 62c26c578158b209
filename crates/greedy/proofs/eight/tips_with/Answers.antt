use Rattle.std.proofs.Common.{ℕ, ◌+◌, ◌≤◌, ◌^◌, arith, sym, refl, Bool, eqb}
use lib.Pow.{pow_mono}
use Rattle.model.specs.CommonTip.{set_of}
use Rattle.model.proofs.Sets.{set_of_lt}
use Rattle.greedy.specs.Eight.{count_in}
use Rattle.greedy.proofs.FewTips.{set_of-more}
use Rattle.greedy.proofs.eight.tips_with.Goals as goal

pub loop-tip-init : goal.loop-tip-init
unfolding set_of
loop-tip-init c = refl

pub overflow_add-tips : goal.overflow_add-tips
overflow_add-tips c =
    let at = c.loop-tip in
    let f : ℕ → Bool = λ t. eqb (count_in c.args.counts.now t) c.args.most in
    let few : 2 ^ (at.tip + 1) ≤ 2 ^ 8 = pow_mono {j = 8} (omega arith) in
    record { fits = omega (arith, at.invariant, c.one_tip-tips.ensures, set_of-more f at.tip, set_of_lt f (at.tip + 1), few) }

pub loop-tip-preserved : goal.loop-tip-preserved
loop-tip-preserved c =
    let at = c.loop-tip in
    let f : ℕ → Bool = λ t. eqb (count_in c.args.counts.now t) c.args.most in
    rw (c.one_tip-tips.ensures, at.invariant) (sym (set_of-more f at.tip))
