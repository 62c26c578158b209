-- The order that the call by tips accepts is the best that obeys. If no other number refuses, 29 refuses exactly when no order obeys.
use Prim.Native.Nat.{ℕ, ◌≤◌, ◌<◌}
use native.Mathlib.Omega.{arith}
use mathlib.Core.Path.{◌≡◌, refl, ap, sym, ◌∙◌}
use mathlib.Core.Bool.{Bool, true, false, not, cond}
use mathlib.Core.List.{List, ◌++◌}
use mathlib.Core.Option.{Option, none, some}
use lib.Dec.{T, ltb}
use lib.ListN.{length, take, drop}
use lib.Seq.{take_at}
use borrow.Author.Tests.{eq-eqb, ltb-false}
use Rattle.model.specs.Choice.{Mounted}
use Rattle.model.specs.Count.{each, first_fail}
use Rattle.model.proofs.Lists.{each_iff}
use Rattle.model.proofs.Tests.{T_true}
use Rattle.refusal.specs.Told.{Refusal}
use Rattle.refusal.specs.Refusal as R
use Rattle.refusal.proofs.Laws.{or_none, or_first, when-none, scan-none, refused, accepted, lent_refused, lent_accepted}
use Rattle.order_rules.specs.declared.Part.{Part}
use Rattle.order_rules.specs.declared.Rule.{Rule}
use Rattle.order_rules.specs.Prefer.{Best}
use Rattle.order_rules.specs.Parts.{task_of, placing_order}
use Rattle.order_rules.specs.Call.{absent, ordered, given_refusal, order_refusal, order_after}
use Rattle.order_rules.specs.Tips.{tip_at, head_after, by_tip, placing_by_tips, changes}
use Rattle.order_rules.specs.TipCall.{tip_ok, head_ok, tips_refusal, given_by_tips, refusal_by_tips, buffer_by_tips, changes_by_tips, TipsRule}
use Rattle.order_rules.proofs.Best.{best_obeys, best_none}
use Rattle.order_rules.proofs.Tips.{placing-by-tips, placing_one_tip, best_by_tips}
use Rattle.order_rules.proofs.Searched.{or_not, number_only, accepted_some, none_told, one_told, none_obeys}
use Rattle.order_rules.proofs.Ruling.{windows_passed, given_not}

module _ (parts : List Part) (rules : List Rule) (plan : List ℕ) (mounted : Mounted) where
  abbrev n : ℕ
  n = length parts

  abbrev answer : Option (List ℕ)
  answer = placing_by_tips parts rules plan mounted

  module _ (room : ℕ) where
    abbrev given : Refusal
    given = given_by_tips parts rules plan mounted room

    -- past 12, 13 and 14 the placing order by tips is the best order that obeys
    passed : (given_refusal parts rules room).number ≡ 0 → Best (by_tip plan) (head_after plan) mounted (task_of parts rules) answer
    passed z = placing-by-tips plan parts rules mounted (windows_passed parts rules room z)

    parts_given : given.number ≡ 0 → (given_refusal parts rules room).number ≡ 0
    unfolding given_by_tips
    parts_given z = (or_none (given_refusal parts rules room) _ z).0

    -- 29 is none of the numbers before it
    tips_not : given.number ≡ 29 → ⊥
    unfolding given_by_tips tips_refusal R.scan
    tips_not =
        or_not (given_refusal parts rules room) (tips_refusal n plan mounted) (given_not parts rules room)
        (or_not (R.when (ltb (length plan) n) 4) _ (no (ltb (length plan) n) 4 0 (λ e. omega (arith, e)))
        (or_not (R.refuse_at 3 bad (length (take n plan))) _ (no (ltb bad (length (take n plan))) 3 bad (λ e. omega (arith, e)))
        (no (not (head_ok mounted)) 16 0 (λ e. omega (arith, e)))))
      where
        bad : ℕ
        bad = first_fail tip_ok (take n plan)

        no : (test : Bool) (number place : ℕ) → (number ≡ 29 → ⊥)
            → (cond {A = Refusal} test (record { number = number; place = place }) R.none).number ≡ 29 → ⊥
        no test number place a = number_only test number place a (λ e. omega (arith, e))

    -- the first refusal
    pub given_told : {d : Refusal} → d ≡ given → (d.number ≡ 0 → ⊥) → d ≡ refusal_by_tips parts rules plan mounted room
    unfolding refusal_by_tips
    given_told e f = or_first e _ f

    module _ {d : Refusal} (e : d ≡ given) (z : d.number ≡ 0) where
      pub lost_told : none ≡ answer → R.refuse 29 ≡ refusal_by_tips parts rules plan mounted room
      unfolding refusal_by_tips
      lost_told h = none_told given answer e z h

      pub found_told : (order : List ℕ) → some order ≡ answer → R.none ≡ refusal_by_tips parts rules plan mounted room
      unfolding refusal_by_tips
      found_told order h = one_told given answer e z order h

  module _ (buffer : List ℕ) where
    abbrev refusal : Refusal
    refusal = refusal_by_tips parts rules plan mounted (length buffer)

    -- after a refusal the buffer is as it was, and no change is told
    pub refused_tips : {d : Refusal} → d ≡ refusal → (d.number ≡ 0 → ⊥)
        → (buffer ≡ buffer_by_tips parts rules plan mounted buffer) × (0 ≡ changes_by_tips parts rules plan mounted (length buffer))
    unfolding buffer_by_tips changes_by_tips
    refused_tips e z = (lent_refused e n (ordered answer) buffer z, sym (refused _ _ e z))

    pub accepted_tips : (order : List ℕ) → {d : Refusal} → d ≡ refusal → d.number ≡ 0 → some order ≡ answer
        → (order ++ drop n buffer ≡ buffer_by_tips parts rules plan mounted buffer)
        × (changes plan mounted order ≡ changes_by_tips parts rules plan mounted (length buffer))
    unfolding buffer_by_tips changes_by_tips
    accepted_tips order e z h =
        (lent_accepted e n (ordered answer) buffer z (ap ordered h), ap (λ o. changes plan mounted (ordered o)) h ∙ sym (accepted _ _ e z))

    -- the order found, and where it begins the buffer
    found : refusal.number ≡ 0 → (order : List ℕ) × (some order ≡ answer)
        × Best (by_tip plan) (head_after plan) mounted (task_of parts rules) (some order)
        × (take n (buffer_by_tips parts rules plan mounted buffer) ≡ order)
    unfolding refusal_by_tips
    found z =
        let (a, (order, h)) = accepted_some (given (length buffer)) answer z in
        let best : Best (by_tip plan) (head_after plan) mounted (task_of parts rules) (some order) =
        rw h (passed (length buffer) (parts_given (length buffer) a)) in (
          order,
          h,
          best,
          ap (take n) (sym (accepted_tips order refl z h).0) ∙ take_at order (drop n buffer) n (best_obeys best).count,
        )

    pub tips_rule : TipsRule parts rules plan mounted (length buffer) (buffer_by_tips parts rules plan mounted buffer) refusal
        (changes_by_tips parts rules plan mounted (length buffer))
    unfolding refusal_by_tips
    tips_rule = record {
      best = λ z. let (order, h, best, e) = found z in rw e (best_by_tips plan best);
      counted = λ z. let (order, h, best, e) = found z in rw e (sym (accepted_tips order refl z h).1);
      none = none_obeys (given (length buffer)) answer (task_of parts rules) (tips_not (length buffer))
          (λ z. best_none (passed (length buffer) (parts_given (length buffer) z)));
    }

-- past 4, 3 and 16: each part has a tip, and so has the head or it is bare
pub record TipsPassed (n : ℕ) (plan : List ℕ) (mounted : Mounted) : Type 0 where
  pub long : n ≤ length plan
  pub tips : T (each tip_ok (take n plan))
  pub head : T (head_ok mounted)

pub tips_passed : (n : ℕ) (plan : List ℕ) (mounted : Mounted) → (tips_refusal n plan mounted).number ≡ 0 → TipsPassed n plan mounted
unfolding tips_refusal
tips_passed n plan mounted z =
    let (a, b) = or_none (R.when (ltb (length plan) n) 4) _ z in
    let (d, e) = or_none (R.scan tip_ok (λ _. 3) (take n plan)) _ b in
    record {
      long = ltb-false (length plan) n (when-none (ltb (length plan) n) 4 (λ k. omega (arith, k)) a);
      tips = (each_iff tip_ok (take n plan)).1 (scan-none tip_ok (λ _. 3) (take n plan) (λ _ k. omega (arith, k)) d);
      head = kept (head_ok mounted) (when-none (not (head_ok mounted)) 16 (λ k. omega (arith, k)) e);
    }
  where
    kept : (b : Bool) → not b ≡ false → T b
    kept true e = tt
    kept false e = absurd (T_true {b = false} (sym e))

-- WITHOUT TIPS: where all parts are on one tip and no tip is refused, number, place and order buffer are those of the placing order by number
module _ (parts : List Part) (rules : List Rule) (plan : List ℕ) (mounted : Mounted)
    (one : (i j : ℕ) → i < length parts → j < length parts → tip_at plan i ≡ tip_at plan j)
    (fine : (tips_refusal (length parts) plan mounted).number ≡ 0) where
  pub refusal_one_tip : (room : ℕ) → refusal_by_tips parts rules plan mounted room ≡ order_refusal parts rules room
  unfolding refusal_by_tips given_by_tips order_refusal R.or_else
  refusal_one_tip room = rw (placing_one_tip plan parts rules mounted one) (by (R.accepts first) refl)
    where
      first : Refusal
      first = given_refusal parts rules room

      tips : Refusal
      tips = tips_refusal (length parts) plan mounted

      last : Refusal
      last = R.when (absent (placing_order parts rules)) 29

      by : (b : Bool) → R.accepts first ≡ b → cond (R.accepts (cond b tips first)) last (cond b tips first) ≡ cond b last first
      by true e = rw (eq-eqb tips.number 0 fine) refl
      by false e = rw e refl

  pub buffer_one_tip : (buffer : List ℕ) → buffer_by_tips parts rules plan mounted buffer ≡ order_after parts rules buffer
  unfolding buffer_by_tips order_after
  buffer_one_tip buffer = rw (refusal_one_tip (length buffer), placing_one_tip plan parts rules mounted one) refl
