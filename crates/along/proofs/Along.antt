-- The plan along the list is valid, has as many changes as are counted, and no valid plan has fewer.
use Prim.Native.Nat.{ℕ, ◌+◌, ◌≤◌, ◌<◌, zero-le}
use native.Mathlib.Omega.{arith}
use native.Mathlib.Nat.{pos_of_ne-zero, lt_of_lt_of_le}
use mathlib.Core.Path.{◌≡◌, refl}
use mathlib.Core.Logic.{⊎_elim}
use mathlib.Core.Bool.{Bool, true, false, not, cond, ◌&&◌}
use mathlib.Core.List.{List, [], ◌∷◌}
use lib.Bits.{bit_and, and_le_r}
use lib.ListN.{length}
use lib.Pow.{pow_mono}
use lib.Dec.{T, T_not, eqb, eqb→eq, eqb_refl, ltb, lt→ltb}
use borrow.Author.Tests.{ne_eqb}
use Rattle.model.specs.Limits.{most_tips}
use Rattle.model.specs.Count.{All, none, more}
use Rattle.model.specs.Plan.{has, is_empty, Domain, Valid, empty, line}
use Rattle.model.specs.Choice.{Mounted, bare, tip}
use Rattle.model.specs.Interval.{low}
use Rattle.model.proofs.Tests.{test, true_T, false_T, cond_case, and_left, and_right, and_in}
use Rattle.model.proofs.Sets.{has-below, has_and, has-set_of, empty_has}
use Rattle.model.proofs.Lists.{all_map}
use Rattle.model.proofs.Run.{low-tip}
use Rattle.along.specs.Along.{changes_after, changes, parted, common, fewest_from, final, plan_from}
use Rattle.along.specs.Along.{can_start, start_set, fewest, plan_along, FewestChanges}

-- a set of tips that is not empty
abbrev pub Tips : ℕ → Type 0
Tips s = Domain most_tips s

-- ---- common tips

module _ (k s : ℕ) where
  both_in : (t : ℕ) → T (has k t) → T (has s t) → T (has (bit_and k s) t)
  both_in t a b = rw (has_and k s t) (and_in (has k t) (has s t) a b)

  both_first : (t : ℕ) → T (has (bit_and k s) t) → T (has k t)
  both_first t h = and_left (has k t) (has s t) (rw (has_and k s t) at h)

  both_second : (t : ℕ) → T (has (bit_and k s) t) → T (has s t)
  both_second t h = and_right (has k t) (has s t) (rw (has_and k s t) at h)

  -- parted sets have no tip in common
  parted_apart : T (parted k s) → (t : ℕ) → T (has k t) → T (has s t) → ⊥
  unfolding parted
  parted_apart y t a b = T_not (has (bit_and k s) t) (rw (empty_has (bit_and k s) t y) tt) (both_in t a b)

  both_tips : Tips s → T (not (parted k s)) → Tips (bit_and k s)
  unfolding parted
  both_tips d n = record {
    some = pos_of_ne-zero (λ e. T_not (is_empty (bit_and k s)) n (rw e tt));
    below = omega (arith, and_le_r k s, d.below);
  }

  common_tips : Tips s → Tips (common k s)
  unfolding common
  common_tips d = cond_case Tips (parted k s) (λ _. d) (both_tips d)

  common_own : (t : ℕ) → T (has (common k s) t) → T (has s t)
  unfolding common
  common_own t = cond_case (λ x. T (has x t) → T (has s t)) (parted k s) (λ _ h. h) (λ _. both_second t)

-- a segment ends with some of the tips that it has in common so far
final-part : (k : ℕ) (lines : List ℕ) (t : ℕ) → T (has (final k lines) t) → T (has k t)
unfolding final
final-part k [] t h = h
final-part k (s ∷ lines) t h =
    cond_case (λ x. T (has x t) → T (has k t)) (parted k s) (λ _ g. g)
    (λ _ g. both_first k s t (final-part (bit_and k s) lines t g)) h

final_tips : (k : ℕ) {lines : List ℕ} → Tips k → All Tips lines → Tips (final k lines)
unfolding final
final_tips k d none = d
final_tips k d (more {x = s} e es) = cond_case Tips (parted k s) (λ _. d) (λ n. final_tips (bit_and k s) (both_tips k s e n) es)

-- its lowest tip at the end
final-low : (k : ℕ) {lines : List ℕ} → Tips k → All Tips lines → T (has k (low (final k lines)))
final-low k {lines} d ds = final-part k lines (low (final k lines)) (low-tip (omega arith) (final_tips k d ds))

-- ---- the plan

plan_valid : (k : ℕ) {lines : List ℕ} → All Tips lines → Valid lines (plan_from k lines)
unfolding plan_from
plan_valid k none = empty
plan_valid k (more {x = s} d ds) =
    line (common_own k s _ (final-low (common k s) (common_tips k s d) ds)) (plan_valid (common k s) ds)

-- it has tips of the largest rack
plan_tips : (k : ℕ) {lines : List ℕ} → All Tips lines → All (λ t. t < most_tips) (plan_from k lines)
unfolding plan_from
plan_tips k none = none
plan_tips k (more {x = s} {xs = lines} d ds) =
    let j = common k s in
    let t = low (final j lines) in
    more (has-below most_tips s t d.below (common_own k s t (final-low j (common_tips k s d) ds))) (plan_tips j ds)

-- with the lowest tip of the segment on the head
plan_counted : (k : ℕ) {lines : List ℕ} → Tips k → All Tips lines
    → changes_after (low (final k lines)) (plan_from k lines) ≡ fewest_from k lines
unfolding plan_from fewest_from final common changes_after
plan_counted k d none = refl
plan_counted k d (more {x = s} {xs = lines} e es) =
    ⊎_elim
    (λ y.
    let differ : low k ≡ low (final s lines) → ⊥ = λ q.
    parted_apart k s y (low k) (low-tip (omega arith) d) (rw q (final-low s e es)) in
    rw (true_T (parted k s) y, ne_eqb (low k) (low (final s lines)) differ, plan_counted s e es))
    (λ n.
    let t = low (final (bit_and k s) lines) in
    rw (false_T (parted k s) n, true_T (eqb t t) (eqb_refl t), plan_counted (bit_and k s) (both_tips k s e n) es))
    (test (parted k s))

-- ---- any valid plan

-- 1 where the test fails
abbrev miss : Bool → ℕ
miss b = cond b 0 1

miss_T : (b : Bool) → T b → miss b ≡ 0
miss_T b y = rw (true_T b y)

miss_le : (b : Bool) → miss b ≤ 1
miss_le true = zero-le
miss_le false = omega arith

-- a tip of s is reached from no tip of k without a change
first_change : (k s u v : ℕ) → T (parted k s) → T (has s v) → 1 ≤ miss (eqb u v) + miss (has k u)
first_change k s u v y h =
    ⊎_elim
    (λ e.
    let n : T (not (has k u)) = not_has (rw (eqb→eq u v e) h) in
    rw (false_T (has k u) n) (omega arith))
    (λ n. rw (false_T (eqb u v) n) (omega arith))
    (test (eqb u v))
  where
    not_has : T (has s u) → T (not (has k u))
    not_has g = ⊎_elim (λ a. absurd (parted_apart k s y u a g)) (λ n. n) (test (has k u))

-- a tip outside k is reached from a tip of k by a change
left_common : (k s u v : ℕ) → T (has s v) → miss (has (bit_and k s) v) ≤ miss (eqb u v) + miss (has k u)
left_common k s u v h =
    ⊎_elim
    (λ e. rw (eqb→eq u v e, has_and k s v, true_T (has s v) h) (by (has k v) (miss (eqb v v))))
    (λ n. rw (false_T (eqb u v) n) (omega (arith, miss_le (has (bit_and k s) v))))
    (test (eqb u v))
  where
    by : (b : Bool) (x : ℕ) → miss (b && true) ≤ x + miss b
    by true x = zero-le
    by false x = omega arith

-- with any tip u on the head, no valid plan has fewer changes, but one where u is not a common tip
lower_bound : (k u : ℕ) {lines plan : List ℕ} → Valid lines plan → fewest_from k lines ≤ changes_after u plan + miss (has k u)
unfolding fewest_from changes_after common
lower_bound k u empty = zero-le
lower_bound k u (line {s} {t = v} {lines} {plan} h w) =
    ⊎_elim
    (λ y. rw (true_T (parted k s) y) (omega (arith, lower_bound s v w, miss_T (has s v) h, first_change k s u v y h)))
    (λ n. rw (false_T (parted k s) n) (omega (arith, lower_bound (bit_and k s) v w, left_common k s u v h)))
    (test (parted k s))

-- ---- the first line

-- it is a change where its tip cannot be on the head at the start
changes-first : (on : Mounted) (v : ℕ) (plan : List ℕ) → changes on (v ∷ plan) ≡ miss (can_start on v) + changes_after v plan
unfolding changes changes_after
changes-first bare v plan = omega arith
changes-first (tip t) v plan = refl

changes_none : (on : Mounted) → changes on [] ≡ 0
unfolding changes changes_after
changes_none bare = refl
changes_none (tip t) = refl

module _ (on : Mounted) (s v : ℕ) where
  -- the start set has the tips that can be on the head, and no other
  start_in : v < most_tips → T (can_start on v) → T (has (start_set on) v)
  unfolding start_set
  start_in l y = rw (has-set_of (can_start on) most_tips v) (and_in (ltb v most_tips) (can_start on v) (lt→ltb v most_tips l) y)

  start_out : T (has (start_set on) v) → T (can_start on v)
  unfolding start_set
  start_out h = and_right (ltb v most_tips) (can_start on v) (rw (has-set_of (can_start on) most_tips v) at h)

  -- the change that is counted is made by the plan
  first_plan : T (has (common (start_set on) s) v) → miss (can_start on v) ≤ cond (parted (start_set on) s) 1 0
  unfolding common
  first_plan h =
      let k = start_set on in
      ⊎_elim
      (λ y. rw (true_T (parted k s) y) (miss_le (can_start on v)))
      (λ n.
      let b : T (has (bit_and k s) v) = rw (false_T (parted k s) n) at h in
      omega (arith, miss_T (can_start on v) (start_out (both_first k s v b))))
      (test (parted k s))

  -- and by any valid plan, which else leaves the common tips
  first_any : Tips s → T (has s v) → cond (parted (start_set on) s) 1 0 + miss (has (common (start_set on) s) v) ≤ miss (can_start on v)
  unfolding common
  first_any d h =
      let k = start_set on in
      let l : v < most_tips = has-below most_tips s v d.below h in
      ⊎_elim
      (λ y. ⊎_elim
      (λ a. absurd (parted_apart k s y v (start_in l a) h))
      (λ n. rw (true_T (parted k s) y, false_T (can_start on v) n) (omega (arith, miss_T (has s v) h)))
      (test (can_start on v)))
      (λ n. rw (false_T (parted k s) n) (⊎_elim
      (λ a. omega (arith, miss_T (has (bit_and k s) v) (both_in k s v (start_in l a) h)))
      (λ a. rw (false_T (can_start on v) a) (omega (arith, miss_le (has (bit_and k s) v))))
      (test (can_start on v))))
      (test (parted k s))

-- ---- the laws

-- the plan is valid
pub along_valid : (on : Mounted) {lines : List ℕ} → All Tips lines → Valid lines (plan_along on lines)
unfolding plan_along
along_valid on good = plan_valid (start_set on) good

-- it has tips of the largest rack
pub along_tips : (on : Mounted) {lines : List ℕ} → All Tips lines → All (λ t. t < most_tips) (plan_along on lines)
unfolding plan_along
along_tips on good = plan_tips (start_set on) good

-- it has as many changes as are counted
pub along_counted : (on : Mounted) {lines : List ℕ} → All Tips lines → changes on (plan_along on lines) ≡ fewest on lines
unfolding plan_along fewest plan_from fewest_from
along_counted on none = changes_none on
along_counted on (more {x = s} {xs = lines} d ds) =
    let k = start_set on in
    let j = common k s in
    let dj = common_tips k s d in
    let v = low (final j lines) in
    let h = final-low j dj ds in
    omega (
      arith,
      changes-first on v (plan_from j lines),
      plan_counted j dj ds,
      first_plan on s v h,
      first_any on s v d (common_own k s v h),
    )

-- NO VALID PLAN HAS FEWER
pub along_least : (on : Mounted) {lines : List ℕ} → All Tips lines → {plan : List ℕ} → Valid lines plan → fewest on lines ≤ changes on plan
unfolding fewest fewest_from
along_least on none empty = zero-le
along_least on (more {x = s} d ds) (line {t = v} {plan = plan} h w) =
    omega (arith, changes-first on v plan, lower_bound (common (start_set on) s) v w, first_any on s v d h)

pub along_rule : (on : Mounted) {lines : List ℕ} → All Tips lines → FewestChanges on lines (plan_along on lines) (fewest on lines)
along_rule on good = record { valid = along_valid on good; counted = along_counted on good; least = λ other. along_least on good }

-- the lines of a board of a smaller rack
pub rack_tips : {m : ℕ} {lines : List ℕ} → m ≤ most_tips → All (Domain m) lines → All Tips lines
rack_tips h = all_map (λ s d. record { some = d.some; below = lt_of_lt_of_le d.below (pow_mono h) })

-- ---- what a mounted tip costs

changed_le : (t : ℕ) (plan : List ℕ) → changes_after t plan ≤ length plan
unfolding changes_after
changed_le t [] = zero-le
changed_le t (u ∷ plan) = omega (arith, miss_le (eqb t u), changed_le u plan)

-- no more changes than lines
pub changes_le : (on : Mounted) (plan : List ℕ) → changes on plan ≤ length plan
unfolding changes
changes_le (tip t) plan = changed_le t plan
changes_le bare [] = zero-le
changes_le bare (u ∷ plan) = omega (arith, changed_le u plan)

-- for one plan: none or one
mounted_plan : (t : ℕ) (plan : List ℕ) → (changes bare plan ≤ changes (tip t) plan) × (changes (tip t) plan ≤ 1 + changes bare plan)
unfolding changes changes_after
mounted_plan t [] = (zero-le, zero-le)
mounted_plan t (u ∷ plan) = (omega arith, omega (arith, miss_le (eqb t u)))

-- a mounted tip saves no change, and costs at most one
pub mounted_costs : (t : ℕ) {lines : List ℕ} → All Tips lines
    → (fewest bare lines ≤ fewest (tip t) lines) × (fewest (tip t) lines ≤ 1 + fewest bare lines)
mounted_costs t {lines} good =
    let p = plan_along (tip t) lines in
    let q = plan_along bare lines in (
      omega (arith, along_least bare good (along_valid (tip t) good), mounted_plan t p, along_counted (tip t) good),
      omega (arith, along_least (tip t) good (along_valid bare good), mounted_plan t q, along_counted bare good),
    )
