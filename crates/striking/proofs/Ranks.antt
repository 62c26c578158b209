-- The goal of a board by the board renumbered: the same refusal, and the struck sets of ranks name the struck sets.
use Prim.Native.Nat.{ℕ, ◌≤◌, ◌<◌}
use native.Mathlib.Omega.{arith}
use native.Mathlib.Nat.{lt_of_lt_of_le}
use mathlib.Core.Path.{◌≡◌, ap, sym, ◌∙◌}
use mathlib.Core.Bool.{Bool}
use mathlib.Core.List.{List, map}
use lib.Dec.{T, ltb}
use lib.ListN.{length, get_or, length-map}
use lib.Pow.{pow_mono}
use Rattle.model.specs.Limits.{most_tips}
use Rattle.model.specs.Count.{All}
use Rattle.model.specs.Plan.{has}
use Rattle.model.specs.Interval.{named, C}
use Rattle.model.specs.Renumber.{names, rank, tip_at, renumbered}
use Rattle.model.proofs.Tests.{same_test}
use Rattle.model.proofs.Lists.{all_map, all-at, get_d_map}
use Rattle.model.proofs.ListOf.{length-list_of, list_of-at, list_is}
use Rattle.model.proofs.Sets.{has-below, set_of_lt, set_same}
use Rattle.model.proofs.Run.{high-below}
use Rattle.model.proofs.Best.{C_zero}
use Rattle.model.proofs.Rank.{rank_le, rank_lt, tip-at, tip-rank}
use Rattle.model.proofs.RenumberBoard.{length-renumbered}
use Rattle.placements.specs.Repeated.{repeated}
use Rattle.placements.proofs.Renumbered.{pairs-renumbered}
use Rattle.refusal.specs.Refusal.{when}
use Rattle.goal_rules.specs.Goal.{goal_tips, strike, Struck}
use Rattle.goal_rules.proofs.Strike.{strike_runs}
use Rattle.goal_rules.proofs.Ranked.{tips-ranks}
use Rattle.goal_rules.proofs.Starts.{tips-reach}
use Rattle.ranks.specs.Listed.{Ranks, Named, run_by, named_by, Nameable}
use Rattle.ranks.specs.Runs.{NamedRuns, FullRuns}
use Rattle.ranks.proofs.Joined.{joined-has}
use Rattle.ranks.proofs.Runs.{fits, same_names, full_ranks, no_ranks, renumbered-by, size_is, full-named}
use Rattle.striking.specs.Striking.{goal_refusal, struck_by}
use Rattle.striking.proofs.Kept.{goal_missed, goal-met, met-by, missed-by}

module _ {m : ℕ} {qs sets : List ℕ} (n : NamedRuns m qs sets) (K : ℕ) where
  abbrev N : ℕ → Bool
  N = named sets

  abbrev r : ℕ
  r = rank (named sets) m

  abbrev sets' : List ℕ
  sets' = renumbered (named sets) m sets

  -- THE PAIRS, and so the refusal
  pairs-by_ranks : C (repeated qs sets) 0 m ≡ C (repeated qs (renumbered (named sets) m sets)) 0 (rank (named sets) m)
  pairs-by_ranks = pairs-renumbered n.good.most n.good.domains n.good.placed n.good.same

  refusal-by_ranks : goal_refusal (rank (named sets) m) qs (renumbered (named sets) m sets) K ≡ goal_refusal m qs sets K
  unfolding goal_refusal
  refusal-by_ranks = ap (λ p. when (ltb p K) 34) (sym pairs-by_ranks)

  -- where no tip is named there is no line
  pairs-none : rank (named sets) m ≡ 0 → C (repeated qs sets) 0 m ≡ 0
  pairs-none z = pairs-by_ranks ∙ (rw z (C_zero (repeated qs sets') 0))

  struck-none : rank (named sets) m ≡ 0 → {old : List ℕ} → length old ≡ length sets → old ≡ strike m qs sets K
  unfolding strike
  struck-none z {old} size =
      let none : length sets ≡ 0 = omega (arith, length-renumbered N m sets, ap length (no_ranks n z)) in
      list_is (goal_tips m qs sets K) (length sets) old size (λ i l. absurd (omega arith))

  -- where the goal is missed nothing is struck
  struck-missed : ((goal_refusal (rank (named sets) m) qs (renumbered (named sets) m sets) K).number ≡ 0 → ⊥) → (old : List ℕ)
      → struck_by (rank (named sets) m) qs (renumbered (named sets) m sets) K old ≡ struck_by m qs sets K old
  struck-missed z old =
      let less = missed-by r qs sets' K old z in
      sym (goal_missed r qs sets' K old less).1 ∙ (goal_missed m qs sets K old (omega (arith, pairs-by_ranks, less))).1

  module _ (some : 0 < rank (named sets) m) (met : K ≤ C (repeated qs (renumbered (named sets) m sets)) 0 (rank (named sets) m))
      {list : List ℕ} (p : Named (named sets) m list) where
    full : FullRuns r qs sets'
    full = full_ranks n some

    struck : Struck r qs sets' K (strike r qs sets' K)
    struck = strike_runs full.good (full-named full) K met

    few : r ≤ most_tips
    few = omega (arith, rank_le N m, n.good.most)

    -- each struck set of ranks can be named
    all_nameable : All (Nameable list) (strike (rank (named sets) m) qs (renumbered (named sets) m sets) K)
    all_nameable = all_map (λ s d. record {
      domain = record { some = d.some; below = lt_of_lt_of_le d.below (pow_mono few) };
      size = p.size;
      below = λ j l.
          let top = high-below few d in
          let (b, o, e) = tip-at N m j (omega arith) in
          omega (arith, p.places j (omega arith), n.good.most);
    }) struck.domains

    -- a set of ranks named has the tips of its ranks
    tips-named : (i : ℕ) → i < length sets → named_by list (goal_tips r qs sets' K i) ≡ goal_tips m qs sets K i
    unfolding named_by goal_tips
    tips-named i l = set_same _ _ (λ t. same_test _ _ (into t) (back t))
      where
        into : (t : ℕ) → T (has (named_by list (goal_tips r qs sets' K i)) t) → T (has (goal_tips m qs sets K i) t)
        into t h =
            let (j, _, own, e) = (joined-has list (goal_tips r qs sets' K i) most_tips t).0 h in
            let inside = has-below r (goal_tips r qs sets' K i) j (set_of_lt _ r) own in
            let (below, o, back) = tip-at N m j inside in
            let tip : tip_at N m j ≡ t = sym (p.places j inside) ∙ e in
            let same = tips-ranks n.good i (tip_at N m j) below o K l in
            let here : T (has (goal_tips r qs sets' K i) (rank N (tip_at N m j))) = rw back own in
            rw tip at (rw same at here)

        back : (t : ℕ) → T (has (goal_tips m qs sets K i) t) → T (has (named_by list (goal_tips r qs sets' K i)) t)
        back t h =
            let below = has-below m (goal_tips m qs sets K i) t (set_of_lt _ m) h in
            let line = all-at 0 (fits n) i l in
            let o = line.own t (own-tip t h) in
            let inside = rank_lt N t m o below in
            (joined-has list (goal_tips r qs sets' K i) most_tips t).1
            (rank N t, omega (arith, inside, few), rw (tips-ranks n.good i t below o K l) h, p.places (rank N t) inside ∙ tip-rank N m t below o)
          where
            own-tip : (t : ℕ) → T (has (goal_tips m qs sets K i) t) → T (has (get_or sets i 0) t)
            own-tip t h = ((tips-reach n.good n.runs i l K t).0 h).0

    -- THE STRUCK SETS of ranks, named, are the struck sets
    strike-named : map (named_by list) (strike (rank (named sets) m) qs (renumbered (named sets) m sets) K) ≡ strike m qs sets K
    unfolding strike
    strike-named = list_is (goal_tips m qs sets K) (length sets) _ size each
      where
        sets-kept : List ℕ
        sets-kept = strike r qs sets' K

        count : length sets-kept ≡ length sets
        count = length-list_of (goal_tips r qs sets' K) (length sets') ∙ length-renumbered N m sets

        size : length (map (named_by list) sets-kept) ≡ length sets
        size = length-map sets-kept (named_by list) ∙ count

        each : (i : ℕ) → i < length sets → get_or (map (named_by list) sets-kept) i 0 ≡ goal_tips m qs sets K i
        each i l =
            get_d_map (named_by list) 0 0 sets-kept i (omega (arith, count))
            ∙ ap (named_by list) (list_of-at (goal_tips r qs sets' K) (length sets') i (omega (arith, length-renumbered N m sets)))
            ∙ tips-named i l

    module _ (old : List ℕ) {kept : List ℕ} (e : kept ≡ struck_by r qs sets' K old) where
      kept_is : kept ≡ strike r qs sets' K
      kept_is = e ∙ sym (goal-met r qs sets' K old met).1

      kept_nameable : All (Nameable list) kept
      kept_nameable = rw kept_is all_nameable

      kept-named : map (named_by list) kept ≡ struck_by m qs sets K old
      kept-named = ap (map (named_by list)) kept_is ∙ strike-named ∙ (goal-met m qs sets K old (omega (arith, pairs-by_ranks, met))).1

-- ---- what a call finds: the tips listed, and the lines renumbered by the list

module _ {m : ℕ} {qs sets : List ℕ} (n : NamedRuns m qs sets) (K : ℕ) {set count : ℕ} (s : set ≡ names sets) (e : count ≡ rank (has set) m) where
  -- no tip is named
  pub pairs-0 : count ≡ 0 → C (repeated qs sets) 0 m ≡ 0
  pairs-0 z = pairs-none n K (sym (size_is n s e) ∙ z)

  pub struck-0 : count ≡ 0 → {old : List ℕ} → length old ≡ length sets → old ≡ strike m qs sets K
  struck-0 z = struck-none n K (sym (size_is n s e) ∙ z)

  module _ {list out : List ℕ} (p : Ranks (has set) m list) (o : out ≡ map (run_by list) sets) where
    pub full-out : (count ≡ 0 → ⊥) → FullRuns count qs out
    full-out some =
        let r = size_is n s e in
        rw (r, renumbered-by n s p o) (full_ranks n (omega (arith, r, some)))

    pub refusal-out : goal_refusal count qs out K ≡ goal_refusal m qs sets K
    refusal-out = rw (size_is n s e, renumbered-by n s p o) (refusal-by_ranks n K)

    pub struck-refused : ((goal_refusal count qs out K).number ≡ 0 → ⊥) → (old : List ℕ)
        → struck_by count qs out K old ≡ struck_by m qs sets K old
    struck-refused z old = rw (size_is n s e, renumbered-by n s p o) (struck-missed n K (rw (size_is n s e, renumbered-by n s p o) at z) old)

    module _ (some : count ≡ 0 → ⊥) (z : (goal_refusal count qs out K).number ≡ 0) {tips : List ℕ} (q : Named (has set) m tips)
        (old : List ℕ) {kept : List ℕ} (k : kept ≡ struck_by count qs out K old) where
      found : 0 < rank (named sets) m
      found = omega (arith, size_is n s e, some)

      met : K ≤ C (repeated qs (renumbered (named sets) m sets)) 0 (rank (named sets) m)
      met = met-by (rank (named sets) m) qs (renumbered (named sets) m sets) K old (rw (size_is n s e, renumbered-by n s p o) at z)

      listed : Named (named sets) m tips
      listed = rw (same_names n s) at q

      kept-is : kept ≡ struck_by (rank (named sets) m) qs (renumbered (named sets) m sets) K old
      kept-is = rw (size_is n s e, renumbered-by n s p o) at k

      -- THE STRUCK SETS
      pub nameable-out : All (Nameable tips) kept
      nameable-out = kept_nameable n K found met listed old kept-is

      pub named-out : map (named_by tips) kept ≡ struck_by m qs sets K old
      named-out = kept-named n K found met listed old kept-is
