-- What the placing order refuses is what its cases tell.
use Prim.Native.Nat.{ℕ, zero, suc, ◌≤◌, ◌<◌}
use native.Mathlib.Omega.{arith}
use mathlib.Core.Path.{◌≡◌, refl}
use mathlib.Core.Logic.{◌↔◌, inl, inr, ⊎_elim}
use mathlib.Core.Bool.{Bool, true, false, not, cond, ◌&&◌}
use mathlib.Core.List.{List, [], ◌∷◌, ◌++◌}
use mathlib.Core.Option.{Option}
use lib.Dec.{T, T_not, not_T, ltb, leb, eqb, eqb→eq, ltb→lt, lt→ltb, leb→le, le→leb}
use lib.ListN.{length, get_or, take}
use lib.Seq.{get_or-take, length-take-le}
use borrow.Author.Tests.{ltb-false}
use Rattle.model.specs.Limits.{most_tips}
use Rattle.model.specs.Choice.{Mounted, bare, tip}
use Rattle.model.specs.Count.{first_fail}
use Rattle.model.proofs.Tests.{le_or_lt, test, true_T, false_T, not_and, and_left, and_right, and_in, eqb_T}
use Rattle.refusal.specs.Told.{Refusal}
use Rattle.refusal.specs.Refusal.{accepts, or_else, when, scan}
use Rattle.refusal.proofs.Laws.{when-none}
use Rattle.refusal.specs.declared.Reason.TheVariants.{BadWindow, BadRule, ShortOrder, NoOrder, ShortPlan, TipOutside, MountedOutside}
use Rattle.refusal.specs.declared.Reason.{Reason}
use Rattle.refusal.specs.Reasons.{reason_number}
use Rattle.cases.specs.Cases.{Told, plain, placed}
use Rattle.cases.proofs.Laws.{told_or, told_when, told_at}
use Rattle.order_rules.specs.declared.Part.{Part}
use Rattle.order_rules.specs.declared.Rule.{Rule}
use Rattle.order_rules.specs.Order.{Task, Obeys, Least, found, absent}
use Rattle.order_rules.specs.Parts.{no_part, no_rule, part_at, window_ok, rule_ok, placing_order}
use Rattle.order_rules.specs.Call as Call
use Rattle.order_rules.specs.Call.{given_refusal, order_refusal}
use Rattle.order_rules.proofs.Parts.{placing-order}
use Rattle.order_rules.proofs.Ruling.{windows_passed}
use Rattle.order_rules.specs.Prefer as Prefer
use Rattle.order_rules.specs.Prefer.{Preference, Best}
use Rattle.order_rules.specs.Tips.{placing_by_tips}
use Rattle.order_rules.specs.TipCall.{tip_ok, head_ok, tips_refusal, given_by_tips, refusal_by_tips}
use Rattle.order_rules.proofs.Tips.{placing-by-tips}
use Rattle.order_cases.specs.Cases.{WrongPart, WrongRule, NoHead, given_cases, lost_cases, tips_cases, order_cases, tip_order_cases}

-- the first element that fails does so, and those before it pass
module _ {A : Type 0} (f : A → Bool) (d : A) where
  fails_at : (xs : List A) → first_fail f xs < length xs → T (not (f (get_or xs (first_fail f xs) d)))
  unfolding first_fail
  fails_at [] h = absurd (omega arith)
  fails_at (x ∷ xs) h =
      ⊎_elim
      (λ t. let g = rw (true_T (f x) t) at h in rw (true_T (f x) t) (fails_at xs (omega arith)))
      (λ n. rw (false_T (f x) n) n)
      (test (f x))

  fails_first : (xs : List A) (i : ℕ) → i < first_fail f xs → T (f (get_or xs i d))
  unfolding first_fail
  fails_first [] i h = absurd (omega arith)
  fails_first (x ∷ xs) i h =
      ⊎_elim
      (λ t. go i t (rw (true_T (f x) t) at h) (fails_first xs))
      (λ n. let g = rw (false_T (f x) n) at h in absurd (omega arith))
      (test (f x))
    where
      go : (i : ℕ) → T (f x) → i < suc (first_fail f xs) → ((j : ℕ) → j < first_fail f xs → T (f (get_or xs j d))) → T (f (get_or (x ∷ xs) i d))
      go zero t g ih = t
      go (suc i) t g ih = ih i (omega arith)

  -- a scan of a list whose test fails exactly where the sentence holds
  told_scan : (reason : Reason) (xs : List A) {P : A → Type 0} → ((x : A) → T (not (f x)) ↔ P x)
      → Told (placed reason (λ i. (i < length xs) × P (get_or xs i d)) ∷ []) (scan f (λ _. reason_number reason) xs)
  unfolding scan
  told_scan reason xs {P} fails =
      told_at reason (first_fail f xs) (length xs) (λ l. (l, (fails (get_or xs (first_fail f xs) d)).0 (fails_at xs l))) (λ j (l, p). (
        l,
        ⊎_elim
            (λ h. h)
            (λ h. absurd (T_not (f (get_or xs j d)) ((fails (get_or xs j d)).1 p) (fails_first xs j h)))
            (le_or_lt (first_fail f xs) j),
      ))

part_iff : (n : ℕ) (p : Part) → T (not (window_ok n p)) ↔ WrongPart n p
unfolding window_ok
part_iff n p = (
  λ t. ⊎_elim
      (λ x. inl (⊎_elim (λ l. absurd (T_not (leb p.first p.last) x (le→leb p.first p.last l))) (λ l. l) (le_or_lt p.first p.last)))
      (λ x. inr (⊎_elim (λ l. l) (λ l. absurd (T_not (ltb p.last n) x (lt→ltb p.last n l))) (le_or_lt n p.last)))
      (not_and (leb p.first p.last) (ltb p.last n) t),
  λ b. not_T (leb p.first p.last && ltb p.last n) (λ t.
      let low = leb→le p.first p.last (and_left (leb p.first p.last) (ltb p.last n) t) in
      let high = ltb→lt p.last n (and_right (leb p.first p.last) (ltb p.last n) t) in
      ⊎_elim (λ l. omega arith) (λ l. omega arith) b),
)

rule_iff : (n : ℕ) (r : Rule) → T (not (rule_ok n r)) ↔ WrongRule n r
unfolding rule_ok
rule_iff n r = (
  λ t. ⊎_elim (λ l. inl l) (λ l. ⊎_elim (λ k. inr (inl k)) (λ k. inr (inr (same t l k))) (le_or_lt n r.later)) (le_or_lt n r.earlier),
  λ b. not_T (rule_ok n r) (λ t. refused b t),
)
  where
    a : Bool
    a = ltb r.earlier n

    b : Bool
    b = ltb r.later n

    c : Bool
    c = eqb r.earlier r.later

    same : T (not (rule_ok n r)) → r.earlier < n → r.later < n → r.earlier ≡ r.later
    same t l k =
        ⊎_elim
        (eqb→eq r.earlier r.later)
        (λ x. absurd (T_not (a && b && not c) t (and_in (a && b) (not c) (and_in a b (lt→ltb _ n l) (lt→ltb _ n k)) x)))
        (test c)

    refused : WrongRule n r → T (rule_ok n r) → ⊥
    refused (inl l) t = omega (arith, ltb→lt r.earlier n (and_left a b (and_left (a && b) (not c) t)))
    refused (inr (inl l)) t = omega (arith, ltb→lt r.later n (and_right a b (and_left (a && b) (not c) t)))
    refused (inr (inr e)) t = T_not c (and_right (a && b) (not c) t) (eqb_T r.earlier r.later e)

-- the first of three refusals, however they are taken together
or_assoc : (a b c : Refusal) → or_else (or_else a b) c ≡ or_else a (or_else b c)
unfolding or_else
or_assoc a b c = by (accepts a) refl
  where
    by : (t : Bool) → accepts a ≡ t → cond (accepts (cond t b a)) c (cond t b a) ≡ cond t (cond (accepts b) c b) a
    by true e = refl
    by false e = rw e refl

-- no order is found exactly where none obeys
absent_best : {S : Type 0} {prefers : Preference S} {after : ℕ → S} {s : S} {t : Task} {o : Option (List ℕ)} → Best prefers after s t o
    → T (Call.absent o) ↔ ((order : List ℕ) → Obeys t order → ⊥)
absent_best (Prefer.found {order = a} q h) = (λ x. absurd x, λ n. n a q)
absent_best (Prefer.absent n) = (λ _. n, λ _. tt)

absent_iff : {t : Task} {o : Option (List ℕ)} → Least t o → T (Call.absent o) ↔ ((order : List ℕ) → Obeys t order → ⊥)
absent_iff (found {order = a} q h) = (λ x. absurd x, λ n. n a q)
absent_iff (absent n) = (λ _. n, λ _. tt)

-- no tip is on the head that is none of 64
head_iff : (mounted : Mounted) → T (not (head_ok mounted)) ↔ NoHead mounted
head_iff bare = (λ x. x, λ x. x)
head_iff (tip t) = (
  λ u. ⊎_elim (λ l. l) (λ l. absurd (T_not (ltb t most_tips) u (lt→ltb t most_tips l))) (le_or_lt most_tips t),
  λ l. not_T (ltb t most_tips) (λ u. omega (arith, ltb→lt t most_tips u)),
)

-- the first part whose tip is none of 64, where the plan has a byte for each part
tips_scan : (n : ℕ) (plan : List ℕ) → n ≤ length plan
    → Told (placed TipOutside (λ i. (i < n) × (most_tips ≤ get_or plan i 0)) ∷ []) (scan tip_ok (λ _. 3) (take n plan))
unfolding scan
tips_scan n plan l =
    let xs = take n plan in
    let size = length-take-le n plan l in
    let at : (i : ℕ) → i < n → get_or xs i 0 ≡ get_or plan i 0 = λ i k. get_or-take n plan i 0 k in
    told_at TipOutside (first_fail tip_ok xs) (length xs)
    (λ k.
    let i = first_fail tip_ok xs in
    let m : i < n = omega (arith, size) in
    let bad : T (not (tip_ok (get_or plan i 0))) = rw (at i m) at (fails_at tip_ok 0 xs k) in (
      m,
      ⊎_elim (λ h. h) (λ h. absurd (T_not (tip_ok (get_or plan i 0)) bad (lt→ltb (get_or plan i 0) most_tips h)))
          (le_or_lt most_tips (get_or plan i 0)),
    ))
    (λ j (m, p). (
      omega (arith, size),
      ⊎_elim
          (λ h. h)
          (λ h. absurd (omega (arith, at j m, ltb→lt (get_or xs j 0) most_tips (fails_first tip_ok 0 xs j h))))
          (le_or_lt (first_fail tip_ok xs) j),
    ))

module _ (parts : List Part) (rules : List Rule) (room : ℕ) where
  given_told : Told (given_cases parts rules room) (given_refusal parts rules room)
  unfolding given_refusal
  given_told =
      let n = length parts in
      let many = when (ltb 128 n) 12 in
      let bad = scan (window_ok n) (λ _. 12) parts in
      let wrong = scan (rule_ok n) (λ _. 13) rules in
      let short = when (ltb room n) 14 in
      told_or (or_else many bad) (or_else wrong short)
      (plain BadWindow (128 < n) ∷ placed BadWindow (λ i. (i < n) × WrongPart n (part_at parts i)) ∷ []) _
      (told_or many bad _ _ (told_when BadWindow (ltb 128 n) (ltb→lt 128 n, lt→ltb 128 n))
      (λ _. told_scan (window_ok n) no_part BadWindow parts (part_iff n)))
      (λ _. told_or wrong short _ _ (told_scan (rule_ok n) no_rule BadRule rules (rule_iff n))
      (λ _. told_when ShortOrder (ltb room n) (ltb→lt room n, lt→ltb room n)))

  -- THE REFUSAL OF THE PLACING ORDER is the one that its cases tell
  pub order_told : Told (order_cases parts rules room) (order_refusal parts rules room)
  unfolding order_refusal
  order_told =
      told_or (given_refusal parts rules room) (when (Call.absent (placing_order parts rules)) 29) (given_cases parts rules room)
      (lost_cases parts rules) given_told
      (λ z. told_when NoOrder (Call.absent (placing_order parts rules)) (absent_iff (placing-order parts rules (windows_passed parts rules room z))))

  module _ (plan : List ℕ) (mounted : Mounted) where
    tips_told : Told (tips_cases (length parts) plan mounted) (tips_refusal (length parts) plan mounted)
    unfolding tips_refusal
    tips_told =
        let n = length parts in
        let short = when (ltb (length plan) n) 4 in
        let outside = scan tip_ok (λ _. 3) (take n plan) in
        let wrong = when (not (head_ok mounted)) 16 in
        told_or short (or_else outside wrong) (plain ShortPlan (length plan < n) ∷ []) _
        (told_when ShortPlan (ltb (length plan) n) (ltb→lt (length plan) n, lt→ltb (length plan) n))
        (λ z.
        let long = ltb-false (length plan) n (when-none (ltb (length plan) n) 4 (λ e. omega (arith, e)) z) in
        told_or outside wrong (placed TipOutside (λ i. (i < n) × (most_tips ≤ get_or plan i 0)) ∷ []) _ (tips_scan n plan long)
        (λ _. told_when MountedOutside (not (head_ok mounted)) (head_iff mounted)))

    -- AND BY TIPS
    pub tip_order_told : Told (tip_order_cases parts rules plan mounted room) (refusal_by_tips parts rules plan mounted room)
    unfolding refusal_by_tips given_by_tips
    tip_order_told =
        let given = given_refusal parts rules room in
        let tips = tips_refusal (length parts) plan mounted in
        let lost = when (Call.absent (placing_by_tips parts rules plan mounted)) 29 in
        rw (or_assoc given tips lost)
        (told_or given (or_else tips lost) (given_cases parts rules room) (tips_cases (length parts) plan mounted ++ lost_cases parts rules)
        given_told
        (λ z. told_or tips lost (tips_cases (length parts) plan mounted) (lost_cases parts rules) tips_told
        (λ _. told_when NoOrder (Call.absent (placing_by_tips parts rules plan mounted))
        (absent_best (placing-by-tips plan parts rules mounted (windows_passed parts rules room z))))))
