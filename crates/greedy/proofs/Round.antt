-- What the rounds leave: the plan so far with the lines left on the tips of the rounds to come is the plan of quick sharing.
use Prim.Native.Nat.{ℕ, zero, suc, ◌+◌, ◌≤◌, ◌<◌}
use native.Mathlib.Omega.{arith}
use native.Mathlib.Nat.{pos_of_ne-zero}
use mathlib.Core.Path.{◌≡◌, refl, ap, sym, ◌∙◌}
use mathlib.Core.Logic.{⊎_elim}
use mathlib.Core.Bool.{cond}
use mathlib.Core.List.{List, [], ◌∷◌, map}
use lib.Dec.{T_not, not_T, eqb→eq}
use lib.ListN.{length, get_or, replicate, length-map}
use Rattle.model.specs.Count.{All, more, largest}
use Rattle.model.specs.Limits.{most_placements, most_pairs}
use Rattle.model.specs.Plan.{has, occ, is_empty, pairs, choose2, Domain, prefer}
use Rattle.model.specs.Choice.{Mounted}
use Rattle.model.specs.Greedy.{busiest, rest, rounds, first, quick_tip, quick_plan}
use Rattle.model.proofs.Choice.{choice_cong}
use Rattle.model.proofs.Tests.{test, true_T, false_T}
use Rattle.model.proofs.Lists.{all_get_d, all_map, all_same, count_pos}
use Rattle.model.proofs.Pairs.{pairs_taken}
use Rattle.model.specs.CommonTip.{top}
use Rattle.model.proofs.Largest.{largest_cong}
use Rattle.model.proofs.Limits.{pairs_few}
use Rattle.model.proofs.Sets.{some_tip, not_empty}
use Rattle.model.proofs.Occ.{occ_le, occ-length, top_le, top-length, busiest_lt}
use Rattle.model.proofs.Valid.{prefer_mix, rest-free}
use Rattle.model.proofs.Greedy.{rest_fewer, rest_domains, length_quick, quick_valid}
use Rattle.placements.specs.Repeated.{repeated}
use Rattle.placements.specs.Good.{GoodLines}
use Rattle.placements.specs.Plans.{quick_plan_q}
use Rattle.placements.proofs.Repeated.{length-repeated, repeated-map, all-repeated, all_once}
use Rattle.placements.proofs.Plans.{quick_repeated}
use Rattle.placements.proofs.Good.{good_placements}
use Rattle.unplanned.specs.Listed.{Unplanned}
use Rattle.counts.specs.Counts.{count_at, busy_tips, Counts}
use Rattle.head.specs.OnHead.{chosen}
use Rattle.head.proofs.Chosen.{chosen-busiest}
use Rattle.greedy.specs.Rounds.{Sizes, plan_by, cleared, placed, Taken, ListsFit, RoundReady}
use Rattle.greedy.proofs.PlanBy.{length-plan_by, plan_by_same, plan_by-map, plan_by-twice}
use Rattle.greedy.proofs.Unplanned.{unplanned, occ-unplanned, unplanned-all, unplanned-cleared, unplanned-none, none-unplanned}

-- the tips of the rounds to come
pub order : Mounted → ℕ → List ℕ → List ℕ
order mounted m lines = rounds mounted (length lines) m lines

module _ (mounted : Mounted) (m : ℕ) where
  -- as many rounds as lines are enough
  rounds_enough : (j k : ℕ) (lines : List ℕ) → All (Domain m) lines → length lines ≤ j → length lines ≤ k
      → rounds mounted j m lines ≡ rounds mounted k m lines
  unfolding rounds
  rounds_enough zero zero [] ds a b = refl
  rounds_enough zero (suc k) [] ds a b = refl
  rounds_enough (suc j) zero [] ds a b = refl
  rounds_enough (suc j) (suc k) [] ds a b = refl
  rounds_enough zero k (s ∷ lines) ds a b = absurd (omega arith)
  rounds_enough (suc j) zero (s ∷ lines) ds a b = absurd (omega arith)
  rounds_enough (suc j) (suc k) (s ∷ lines) ds a b =
      let t = busiest mounted (s ∷ lines) m in
      let l = rest_fewer mounted m s lines ds in
      ap (λ o. t ∷ o) (rounds_enough j k (rest (s ∷ lines) t) (rest_domains ds t) (omega arith) (omega arith))

  order_next : (s : ℕ) (lines : List ℕ) → All (Domain m) (s ∷ lines)
      → order mounted m (s ∷ lines) ≡ busiest mounted (s ∷ lines) m ∷ order mounted m (rest (s ∷ lines) (busiest mounted (s ∷ lines) m))
  unfolding rounds order
  order_next s lines ds =
      let t = busiest mounted (s ∷ lines) m in
      let l = rest_fewer mounted m s lines ds in
      let left = rest (s ∷ lines) t in
      ap (λ o. t ∷ o) (rounds_enough (length lines) (length left) left (rest_domains ds t) (omega arith) (omega arith))

  -- a busiest tip that no line allows: no line is left
  none_left : (lines : List ℕ) → All (Domain m) lines → occ lines (busiest mounted lines m) ≡ 0 → lines ≡ []
  unfolding occ
  none_left [] ds e = refl
  none_left (s ∷ lines) (more d ds) e =
      let (u, h, l) = some_tip d in
      absurd (omega (arith, count_pos (λ x. has x u) 0 (s ∷ lines) 0 (omega arith) h, occ_le (more d ds) u, top_le mounted m (s ∷ lines)))

-- a round over the lines, which takes tip t
module _ (mounted : Mounted) (m : ℕ) (lines : List ℕ) (ds : All (Domain m) lines) (some : 0 < length lines)
    (t : ℕ) (busy : t ≡ busiest mounted lines m) where
  order_round : order mounted m lines ≡ t ∷ order mounted m (rest lines t)
  order_round = rw busy (by lines ds some)
    where
      by : (lines : List ℕ) → All (Domain m) lines → 0 < length lines
          → order mounted m lines ≡ busiest mounted lines m ∷ order mounted m (rest lines (busiest mounted lines m))
      by [] ds l = absurd (omega arith)
      by (s ∷ lines) ds l = order_next mounted m s lines ds

  first_round : (s : ℕ) → first (order mounted m lines) s ≡ prefer t (first (order mounted m (rest lines t))) s
  unfolding first
  first_round s = ap (λ o. first o s) order_round

  pairs_round : pairs (quick_plan mounted m lines) ≡ choose2 (occ lines t) + pairs (quick_plan mounted m (rest lines t))
  unfolding first quick_plan quick_tip order
  pairs_round =
      ap (λ o. pairs (map (first o) lines)) order_round
      ∙ pairs_taken (occ lines t) t (prefer_mix t (first (order mounted m (rest lines t))) lines)
      (rest-free t lines (quick_valid mounted (rest_domains ds t)))

  fewer_round : length (rest lines t) < length lines
  fewer_round = rw busy (by lines ds some)
    where
      by : (lines : List ℕ) → All (Domain m) lines → 0 < length lines → length (rest lines (busiest mounted lines m)) < length lines
      by [] ds l = absurd (omega arith)
      by (s ∷ lines) ds l = rest_fewer mounted m s lines ds

no_pairs : (mounted : Mounted) (m : ℕ) → pairs (quick_plan mounted m []) ≡ 0
unfolding quick_plan quick_tip pairs
no_pairs mounted m = refl

-- ---- the working copy and the plan between two rounds

-- the tip by g for a line that is left; where it is for one that is planned
pub filled : (ℕ → ℕ) → ℕ → ℕ → ℕ
filled g s p = cond (is_empty s) p (g s)

filled-unplanned : (g : ℕ → ℕ) {m : ℕ} (s : ℕ) → Domain m s → (p : ℕ) → filled g s p ≡ g s
unfolding filled
filled-unplanned g s d p = rw (false_T (is_empty s) (not_T (is_empty s) (λ e. omega (arith, d.some, eqb→eq s 0 e))))

filled_empty : (g : ℕ → ℕ) (s : ℕ) → s ≡ 0 → (p : ℕ) → filled g s p ≡ p
unfolding filled
filled_empty g s e p = rw e

filled_round : (t : ℕ) (f g : ℕ → ℕ) → ((s : ℕ) → f s ≡ prefer t g s) → (s p : ℕ) → filled f s p ≡ filled g (cleared t s) (placed t s p)
unfolding filled
filled_round t f g e s p =
    ⊎_elim
    (λ y. rw (e s, not_empty s t y, true_T (has s t) y))
    (λ n. rw (e s, false_T (has s t) n))
    (test (has s t))

-- the placements of the lines left
pub to_plan : List ℕ → List ℕ → List ℕ
to_plan qs left = unplanned (repeated qs left)

-- empty sets allow no tip
pub occ-to_plan : (qs left : List ℕ) (t : ℕ) → occ (repeated qs left) t ≡ occ (to_plan qs left) t
unfolding to_plan
occ-to_plan qs left t = occ-unplanned (repeated qs left) t

pub record State (mounted : Mounted) (m : ℕ) (qs lines left plan : List ℕ) (shared : ℕ) : Type 0 where
  pub domains : All (Domain m) (to_plan qs left)
  pub size : length left ≡ length lines
  pub plan_size : length plan ≡ length left
  pub plan_is : quick_plan_q mounted m qs lines ≡ plan_by (filled (first (order mounted m (to_plan qs left)))) left plan
  pub pairs_are : pairs (quick_plan mounted m (repeated qs lines)) ≡ shared + pairs (quick_plan mounted m (to_plan qs left))

pub start : {mounted : Mounted} {m : ℕ} (qs : List ℕ) {lines plan : List ℕ} → All (Domain m) lines → length plan ≡ length lines
    → State mounted m qs lines lines plan 0
unfolding quick_plan_q quick_tip order to_plan
start {mounted} {m} qs {lines} {plan} ds e =
    let placed = all-repeated qs ds in
    let l = unplanned-all placed in
    let g = first (order mounted m (repeated qs lines)) in
    record {
      domains = rw l placed;
      size = refl;
      plan_size = e;
      plan_is = rw l (sym (plan_by-map (filled g) g (all_map (filled-unplanned g) ds) plan e));
      pairs_are = rw l (omega arith);
    }

-- no line is left: the plan is done
module _ {mounted : Mounted} {m : ℕ} {qs lines left plan : List ℕ} {shared : ℕ} (st : State mounted m qs lines left plan shared)
    (empty : All (λ s. s ≡ 0) left) where
  pub end_left : left ≡ replicate (length lines) 0
  end_left = rw (← st.size) (all_same 0 empty)

  pub end_plan : plan ≡ quick_plan_q mounted m qs lines
  end_plan = sym (st.plan_is ∙ plan_by_same _ (all_map (filled_empty _) empty) plan)

  pub end_pairs : shared ≡ pairs (repeated qs (quick_plan_q mounted m qs lines))
  unfolding to_plan
  end_pairs =
      let done = ap (λ l. pairs (quick_plan mounted m l)) (none-unplanned (all-repeated qs empty)) ∙ no_pairs mounted m in
      rw (quick_repeated mounted m qs lines) (omega (arith, st.pairs_are, done))

pub none-listed : {n : ℕ} {list : List ℕ} (left : List ℕ) → Unplanned n list left → n ≡ 0 → All (λ s. s ≡ 0) left
none-listed left u z =
    all_get_d 0 left (λ i l.
    ⊎_elim
    (λ y. eqb→eq (get_or left i 0) 0 y)
    (λ n. let a = u.each i l (pos_of_ne-zero (λ e. T_not (is_empty (get_or left i 0)) n (rw e tt))) in
    let early = a.early in
    absurd (omega arith))
    (test (is_empty (get_or left i 0))))

pub sizes_on : {list₀ places₀ sets₀ taken₀ list₁ places₁ sets₁ taken₁ list places sets taken : List ℕ}
    → Sizes list₀ places₀ sets₀ taken₀ list₁ places₁ sets₁ taken₁ → Sizes list₁ places₁ sets₁ taken₁ list places sets taken
    → Sizes list₀ places₀ sets₀ taken₀ list places sets taken
sizes_on a b = record {
  list_size = b.list_size ∙ a.list_size;
  places_size = b.places_size ∙ a.places_size;
  sets_size = b.sets_size ∙ a.sets_size;
  taken_size = b.taken_size ∙ a.taken_size;
}

pub still_fit : {n : ℕ} {list₀ places₀ sets₀ taken₀ list places sets taken : List ℕ} → ListsFit n list₀ places₀ sets₀ taken₀
    → Sizes list₀ places₀ sets₀ taken₀ list places sets taken → ListsFit n list places sets taken
still_fit f s = record {
  for_lines = omega (arith, f.for_lines, s.list_size);
  for_places = omega (arith, f.for_places, s.places_size);
  for_sets = omega (arith, f.for_sets, s.sets_size);
  paired = s.taken_size ∙ f.paired ∙ sym s.sets_size;
  narrow = f.narrow;
}

-- between two rounds: the state, the lines left counted and listed
pub record Ongoing (mounted : Mounted) (m shared : ℕ) (qs lines left plan counts : List ℕ) (n : ℕ) (list : List ℕ) : Type 0 where
  pub state : State mounted m qs lines left plan shared
  pub counts_are : Counts (repeated qs left) counts
  pub most : n ≤ length left
  pub unplanned : Unplanned n list left

-- a round begins: each tip in the rack is counted, and the largest count is found
pub record Begun (mounted : Mounted) (m : ℕ) (qs lines left plan : List ℕ) (count : ℕ → ℕ) (shared most : ℕ) : Type 0 where
  pub state : State mounted m qs lines left plan shared
  pub counted : (t : ℕ) → t < m → count t ≡ occ (repeated qs left) t
  pub good : GoodLines m qs lines
  pub is_most : most ≡ largest count m

pub begins : {mounted : Mounted} {m shared : ℕ} {qs lines left plan counts : List ℕ} {n : ℕ} {list : List ℕ} {most : ℕ}
    → Ongoing mounted m shared qs lines left plan counts n list → GoodLines m qs lines → most ≡ largest (count_at counts) m
    → Begun mounted m qs lines left plan (count_at counts) shared most
begins o g e = record { state = o.state; counted = λ t _. o.counts_are.counted t; good = g; is_most = e }

-- the largest count is that of the lines that are counted
largest-top : {m : ℕ} (lines : List ℕ) {count : ℕ → ℕ} → ((t : ℕ) → t < m → count t ≡ occ lines t) → largest count m ≡ top m lines
unfolding top
largest-top {m} lines c = largest_cong _ _ m c

module _ {mounted : Mounted} {m : ℕ} {qs lines left plan : List ℕ} {count : ℕ → ℕ} {shared most : ℕ}
    (b : Begun mounted m qs lines left plan count shared most) where
  st : State mounted m qs lines left plan shared
  st = b.state

  same : length qs ≡ length left
  same = b.good.same ∙ sym st.size

  counted : (t : ℕ) → t < m → count t ≡ occ (to_plan qs left) t
  counted t l = b.counted t l ∙ occ-to_plan qs left t

  -- a tip has at most all placements
  pub few_placements : most ≤ most_placements
  few_placements =
      let placements = length-repeated qs left same in
      omega (arith, b.good.few, b.is_most, largest-top (repeated qs left) b.counted, top-length m (repeated qs left), placements)

  -- a busiest tip has them
  most_is : most ≡ occ (to_plan qs left) (busiest mounted (to_plan qs left) m)
  most_is =
      let below = occ_le st.domains (busiest mounted (to_plan qs left) m) in
      omega (arith, b.is_most, largest-top (to_plan qs left) counted, top_le mounted m (to_plan qs left))

  -- no tip has a placement: no line is left
  pub each_empty : most ≡ 0 → All (λ s. s ≡ 0) left
  unfolding to_plan
  each_empty z =
      let none = none_left mounted m (to_plan qs left) st.domains (sym most_is ∙ z) in
      all_once b.good.placed left same (unplanned-none (repeated qs left) none)

-- a round takes one of the tips that have the largest count: the mounted one, else the lowest
pub record Chosen (mounted : Mounted) (m : ℕ) (qs lines left plan : List ℕ) (count : ℕ → ℕ) (shared most tip : ℕ) : Type 0 where
  pub begun : Begun mounted m qs lines left plan count shared most
  pub lines_left : most ≡ 0 → ⊥
  pub is_tip : tip ≡ chosen mounted (busy_tips count most m)

pub chooses : {mounted : Mounted} {m : ℕ} {qs lines left plan : List ℕ} {count : ℕ → ℕ} {shared most tips tip : ℕ}
    → Begun mounted m qs lines left plan count shared most → (most ≡ 0 → ⊥) → tips ≡ busy_tips count most m
    → tip ≡ chosen mounted tips → Chosen mounted m qs lines left plan count shared most tip
chooses {mounted} b s t e = record { begun = b; lines_left = s; is_tip = e ∙ ap (chosen mounted) t }

module _ {mounted : Mounted} {m : ℕ} {qs lines left plan : List ℕ} {count : ℕ → ℕ} {shared most tip : ℕ}
    (r : Chosen mounted m qs lines left plan count shared most tip) where
  was : State mounted m qs lines left plan shared
  was = r.begun.state

  busiest_is : tip ≡ busiest mounted (to_plan qs left) m
  unfolding busiest
  busiest_is =
      r.is_tip ∙ chosen-busiest mounted count m most r.lines_left r.begun.is_most r.begun.good.most
      ∙ choice_cong mounted _ _ m (counted r.begun)

  pub tip_lt : tip < m
  tip_lt = omega (arith, busiest_is, busiest_lt mounted m (to_plan qs left) r.begun.good.some)

  pub round_ready : {n : ℕ} {counts list₀ places₀ sets₀ taken₀ list places sets taken : List ℕ}
      → Ongoing mounted m shared qs lines left plan counts n list → Sizes list₀ places₀ sets₀ taken₀ list places sets taken
      → ListsFit (length lines) list₀ places₀ sets₀ taken₀ → RoundReady tip n qs left plan counts list places sets taken
  round_ready o s f = record {
    tip_inside = omega (arith, tip_lt, r.begun.good.most);
    same = same r.begun;
    few = r.begun.good.few;
    size = was.plan_size;
    counts_are = o.counts_are;
    most = o.most;
    unplanned = o.unplanned;
    fit = rw was.size (still_fit f s);
  }

  count-is : most ≡ occ (to_plan qs left) tip
  count-is = most_is r.begun ∙ ap (occ (to_plan qs left)) (sym busiest_is)

  some_unplanned : 0 < length (to_plan qs left)
  some_unplanned = omega (arith, r.lines_left, count-is, occ-length (to_plan qs left) tip)

  -- with here pairs among its placements
  module _ {here : ℕ} (e : here ≡ choose2 most) where
    round : pairs (quick_plan mounted m (to_plan qs left)) ≡ here + pairs (quick_plan mounted m (rest (to_plan qs left) tip))
    round = rw (e, count-is) (pairs_round mounted m (to_plan qs left) was.domains some_unplanned tip busiest_is)

    pub pairs_fit : shared + here ≤ most_pairs
    pairs_fit =
        let few = (good_placements r.begun.good).few in
        let size = length_quick mounted m (repeated qs lines) in
        omega (arith, was.pairs_are, round, pairs_few (quick_plan mounted m (repeated qs lines)) (omega arith))

    module _ {left' plan' : List ℕ} (taken : Taken tip left plan left' plan') where
      unplanned-rest : to_plan qs left' ≡ rest (to_plan qs left) tip
      unfolding to_plan
      unplanned-rest = rw (taken.left_is, repeated-map (cleared tip) qs left) (unplanned-cleared tip (repeated qs left))

      pub next_fewer : length (to_plan qs left') < length (to_plan qs left)
      next_fewer = rw unplanned-rest (fewer_round mounted m (to_plan qs left) was.domains some_unplanned tip busiest_is)

      pub next : State mounted m qs lines left' plan' (shared + here)
      next =
          let old = first (order mounted m (to_plan qs left)) in
          let new = first (order mounted m (rest (to_plan qs left) tip)) in
          let size-left = ap length taken.left_is ∙ length-map left (cleared tip) in
          let same = filled_round tip old new (first_round mounted m (to_plan qs left) was.domains some_unplanned tip busiest_is) in
          let twice = plan_by-twice (filled new) (placed tip) (filled old) (cleared tip) same left plan in
          record {
            domains = rw unplanned-rest (rest_domains was.domains tip);
            size = size-left ∙ was.size;
            plan_size = ap length taken.plan_is ∙ length-plan_by (placed tip) left plan ∙ was.plan_size ∙ sym size-left;
            plan_is = rw unplanned-rest (was.plan_is ∙ rw (taken.left_is, taken.plan_is) twice);
            pairs_are = rw unplanned-rest (omega (arith, was.pairs_are, round));
          }
