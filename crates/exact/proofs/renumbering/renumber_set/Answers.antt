use Rattle.std.proofs.Common.{◌<◌, get_or, length-take, sym, ◌∙◌, arith}
use Rattle.std.proofs.lemmas.List.{get_or-take}
use lib.Dec.{T}
use Rattle.model.specs.Plan.{has}
use Rattle.model.proofs.Tests.{true_T, T_true}
use Rattle.exact.proofs.Picks.{bit_is}
use Rattle.exact.proofs.RankBits.{ranks_zero, rank_few, bits-more, bits_few}
use Rattle.exact.proofs.renumbering.renumber_set.Goals as goal
use Rattle.exact.proofs.renumbering.renumber_set.Goals.{then-has_tip, else-has_tip}

pub loop-t-init : goal.loop-t-init
loop-t-init c = λ names r. sym (ranks_zero (has names) c.args.set)

-- the tip is one of the rack, and its rank is in the list
turn : (c : goal.Then-has_tip) → c.loop-t.t < c.args.m
turn c = omega (arith, c.loop-t-test.true, length-take c.args.m c.args.list.now)

own : (c : goal.Then-has_tip) → T (has c.args.set c.loop-t.t)
own c = T_true (sym c.has_tip.ensures ∙ c.if-has_tip.true)

pub overflow_shl-out : goal.overflow_shl-out
overflow_shl-out c =
    let (names, r) = c.requires in
    omega (arith, get_or-take c.args.m c.args.list.now c.loop-t.t 0 (turn c), rank_few r c.loop-t.t (turn c) (own c))

pub overflow_add-out : goal.overflow_add-out
overflow_add-out c =
    let (names, r) = c.requires in
    let l = c.loop-t in
    let is = get_or-take c.args.m c.args.list.now l.t 0 (turn c) in
    let bit = bit_is (get_or c.args.list.now l.t 0) (omega (arith, rank_few r l.t (turn c) (own c))) in
    let more = rw (true_T (has c.args.set l.t) (own c)) at (bits-more r l.t (turn c)) in
    rw is (record { fits = omega (arith, bit, more, l.invariant names r, bits_few r l.t (turn c)) })

pub loop-t-preserved : goal.loop-t-preserved
loop-t-preserved c = λ names r.
    let l = c.loop-t in
    let t : l.t < c.args.m = omega (arith, c.loop-t-test.true, length-take c.args.m c.args.list.now) in
    let is = get_or-take c.args.m c.args.list.now l.t 0 t in
    elim c.if-has_tip.branch [
      | then-has_tip w ↦
          let few = rank_few r l.t t (T_true (sym c.has_tip.ensures ∙ w.if-has_tip.true)) in
          let bit = bit_is (get_or c.args.list.now l.t 0) (omega (arith, few)) in
          rw (w.out-is, bits-more r l.t t, ← (l.invariant names r), ← c.has_tip.ensures, w.if-has_tip.true, is) (omega (arith, bit))
      | else-has_tip w ↦ rw (w.out-is, bits-more r l.t t, ← (l.invariant names r), ← c.has_tip.ensures, w.if-has_tip.false) (omega arith)
    ]
