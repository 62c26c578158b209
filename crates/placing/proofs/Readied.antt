-- The parts that are ready, as sets of the parts on each tip; the best order by them is the placing order by tips.
use Prim.Native.Nat.{ℕ, ◌≤◌, ◌<◌}
use native.Mathlib.Omega.{arith}
use mathlib.Core.Path.{◌≡◌, ap, sym, ◌∙◌}
use mathlib.Core.Bool.{not}
use mathlib.Core.List.{List, ◌++◌}
use mathlib.Core.Option.{some}
use lib.Dec.{T, ltb→lt}
use lib.ListN.{length, get_or, take, drop}
use lib.Seq.{get_or-take, length-take-le, take_at}
use borrow.Author.Tests.{lt-ltb}
use Rattle.model.specs.Limits.{most_tips}
use Rattle.model.specs.Choice.{Mounted, tip, is_on}
use Rattle.model.specs.Count.{each, first_fail, place_in}
use Rattle.std.specs.List.{position}
use Rattle.model.proofs.Fails.{fail_position}
use Rattle.model.proofs.Lists.{all-at, each_iff}
use Rattle.refusal.specs.Refusal.{scan}
use Rattle.refusal.specs.Reasons.{refused_at}
use Rattle.refusal.proofs.Laws.{refused_place}
use Rattle.order_rules.specs.TipCall.{tip_ok}
use Rattle.model.proofs.Pairs.{eqb_comm}
use Rattle.order_rules.specs.declared.Part.{Part}
use Rattle.order_rules.specs.declared.Rule.{Rule}
use Rattle.order_rules.specs.Order.{Task, Obeys}
use Rattle.order_rules.specs.Parts.{window_ok}
use Rattle.order_rules.specs.Tips.{tip_at, is_ready, head_after, choose_by_tip, placing_by_tips}
use Rattle.order_rules.proofs.First.{first_asym, on_same}
use Rattle.order_rules.proofs.Best.{best_unique}
use Rattle.order_rules.proofs.Agree.{best_agree, best-alike}
use Rattle.order_rules.proofs.Tips.{order-by-tips, placing-by-tips}
use Rattle.flat_order.specs.declared.sets.PartSet.{PartSet}
use Rattle.flat_order.specs.Sets.{has_part}
use Rattle.flat_order.specs.Flat.{row_at, flat_task, choose_ready, ready_order, InPlace, Tipped}
use Rattle.flat_order.proofs.Ready.{ready_obeys}
use Rattle.placing.specs.Rows.{FlatOf}
use Rattle.placing.specs.ByTips.{OnTips}
use Rattle.placing.proofs.Windows.{parts_agree, below}

-- where each part has a tip, so has the one at place i
pub tip_in : (plan : List ℕ) → T (each tip_ok plan) → (i : ℕ) → i < length plan → get_or plan i 0 < most_tips
tip_in plan h i l = ltb→lt (get_or plan i 0) most_tips (all-at 0 ((each_iff tip_ok plan).0 h) i l)

-- the first place whose tip is none of 64
pub tips_scan : (xs : List ℕ) → refused_at (position (λ t. not (tip_ok t)) xs) 3 ≡ scan tip_ok (λ _. 3) xs
unfolding scan
tips_scan xs =
    ap (λ k. refused_at (place_in k (length xs)) 3) (sym (fail_position tip_ok xs)) ∙ refused_place 3 (first_fail tip_ok xs) (length xs)

-- a part of the set of a tip is ready where that tip is on the head
pub tip_ready : (plan : List ℕ) (n : ℕ) (sets : List PartSet) → length sets ≡ most_tips → OnTips plan n sets → (t x : ℕ) → t < most_tips → x < n
    → has_part (row_at sets t) x ≡ is_ready plan (tip t) x
unfolding is_on
tip_ready plan n sets e o t x k l = o.each t x (omega (arith, e)) ∙ rw (lt-ltb x n l) (eqb_comm (tip_at plan x) t)

-- the tip of each of the first n parts is one of 64
pub tip_below : (n : ℕ) (plan : List ℕ) → n ≤ length plan → T (each tip_ok (take n plan)) → (y : ℕ) → y < n → tip_at plan y < most_tips
tip_below n plan long tips y k = rw (get_or-take n plan y 0 k) at (tip_in (take n plan) tips y (omega (arith, length-take-le n plan long)))

-- after a part those on its tip are ready
abbrev pub next_ready : List ℕ → List PartSet → ℕ → PartSet
next_ready plan sets y = row_at sets (tip_at plan y)

-- ---- the best order by the parts that are ready

module _ (parts : List Part) (windows : T (each (window_ok (length parts)) parts)) (rules : List Rule) (firsts lasts : List ℕ)
    (rows : List PartSet) (f : FlatOf parts rules firsts lasts rows) (plan : List ℕ) (mounted : Mounted) (long : length parts ≤ length plan)
    (start : PartSet) (sets : List PartSet) (tips : T (each tip_ok (take (length parts) plan))) (size : length sets ≡ most_tips)
    (on : OnTips (take (length parts) plan) (length (take (length parts) plan)) sets)
    (begins : (x : ℕ) → x < length (take (length parts) plan) → has_part start x ≡ is_ready (take (length parts) plan) mounted x) where
  abbrev n : ℕ
  n = length parts

  abbrev t : Task
  t = flat_task firsts lasts rows

  taken : length (take n plan) ≡ n
  taken = length-take-le n plan long

  -- the set has of the parts those that are ready
  abbrev Alike : PartSet → Mounted → Type 0
  Alike s head = (x : ℕ) → x < n → has_part s x ≡ is_ready plan head x

  -- the tip of a part is in the part of the plan that is read
  same_tip : (x : ℕ) → x < n → tip_at (take n plan) x ≡ tip_at plan x
  same_tip x l = get_or-take n plan x 0 l

  starts_alike : Alike start mounted
  starts_alike x l = begins x (omega (arith, taken)) ∙ ap (is_on mounted) (same_tip x l)

  abbrev next : ℕ → PartSet
  next = next_ready plan sets

  goes_alike : (y : ℕ) → y < t.size → Alike (next y) (head_after plan y)
  goes_alike y k x l =
      let below = tip_below n plan long tips y (omega (arith, f.size)) in
      tip_ready (take n plan) (length (take n plan)) sets size on (tip_at plan y) x below (omega (arith, taken))
      ∙ ap (is_on (tip (tip_at plan y))) (same_tip x l)

  pub flat-by-tips : ready_order start next t ≡ placing_by_tips parts rules plan mounted
  flat-by-tips =
      best-alike choose_ready (choose_by_tip plan) next (head_after plan) Alike t
      (λ s head h g. on_same (has_part s) (is_ready plan head) g t.size (λ x l. h x (omega (arith, f.size))))
      goes_alike start mounted starts_alike
      ∙ best_unique (λ head. first_asym (is_ready plan head))
      (best_agree (parts_agree parts windows rules firsts lasts rows f)
      (order-by-tips plan mounted t (below parts windows rules firsts lasts rows f)))
      (placing-by-tips plan parts rules mounted windows)

-- ---- the order that is found

module _ (n : ℕ) (firsts lasts : List ℕ) (rows : List PartSet) (start : PartSet) (next : ℕ → PartSet) (size : length lasts ≡ n)
    (within : InPlace (length lasts) lasts) (found : List ℕ)
    (is : some (take (length lasts) found) ≡ ready_order start next (flat_task firsts lasts rows)) where
  found_obeys : Obeys (flat_task firsts lasts rows) (take n found)
  found_obeys =
      ready_obeys start next (flat_task firsts lasts rows) within (ap (λ k. some (take k found)) (sym size) ∙ is)

  pub found_size : length (take n found) ≡ n
  found_size = found_obeys.count ∙ size

  -- the front of the buffer is the order
  pub found_front : (buffer out : List ℕ) → out ≡ take n found → take n (out ++ drop n buffer) ≡ take n found
  found_front buffer out e = ap (λ o. take n (o ++ drop n buffer)) e ∙ take_at (take n found) (drop n buffer) n found_size

  -- each of its parts has a byte in the plan
  pub found_tipped : (plan buffer out : List ℕ) → n ≤ length plan → out ≡ take n found → Tipped plan (take n (out ++ drop n buffer))
  found_tipped plan buffer out long e =
      rw (found_front buffer out e) (λ p l. omega (arith, found_size, size, long, found_obeys.parts p (omega (arith, found_size, size))))
