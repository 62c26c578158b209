-- From the board renumbered back to the board: its lines are unbroken runs, its plan gives the best plan, and its table the table.
use Prim.Native.Nat.{ℕ, ◌+◌, ◌-◌, ◌*◌, ◌/◌, ◌%◌, ◌^◌, ◌≤◌, ◌<◌}
use native.Mathlib.Omega.{arith}
use native.Mathlib.Nat.{div-add-mod', div-lt_iff_lt-mul, mod-lt, mul-le-mul}
use mathlib.Core.Path.{◌≡◌, refl, ap, sym, ◌∙◌}
use mathlib.Core.Logic.{⊎_elim}
use mathlib.Core.Bool.{Bool}
use mathlib.Core.List.{List, [], ◌∷◌, ◌++◌, map}
use lib.Arith.{digits_lt}
use lib.ListN.{length, length-append, get_or, get_or-append, take}
use lib.Seq.{get_or-take}
use borrow.Author.Tests.{lt-ltb, le-ltb}
use Rattle.model.specs.Count.{All, none, more, list_of}
use Rattle.model.specs.Limits.{most_tips}
use Rattle.model.specs.Plan.{has, Domain, Valid, empty, line}
use Rattle.model.specs.Choice.{Mounted}
use Rattle.model.specs.Interval.{named, C, table as table_of}
use Rattle.model.specs.Renumber.{names, rank, renumbered, rank_on}
use Rattle.model.proofs.Tests.{le_or_lt}
use Rattle.model.proofs.Lists.{all_map, map_cong}
use Rattle.model.proofs.ListOf.{list_is}
use Rattle.model.proofs.Sets.{has-below}
use Rattle.model.proofs.Unbroken.{unbroken_runs}
use Rattle.model.proofs.Table.{length-table, table-last}
use Rattle.model.proofs.Rank.{rank_le, rank_mono}
use Rattle.model.proofs.Renumber.{renumbered_domains, renumbered_runs}
use Rattle.model.proofs.RenumberBoard.{length-renumbered}
use Rattle.placements.specs.Repeated.{repeated}
use Rattle.placements.specs.Plans.{best_plan_q}
use Rattle.placements.proofs.Plans.{best_valid_lines}
use Rattle.placements.proofs.Renumbered.{table-renumbered, plan_renumbered}
use Rattle.ranks.specs.Listed.{Ranks, Named, run_by}
use Rattle.spread.specs.Spread.{cell_at, cell_of, spread}
use Rattle.ranks.specs.Runs.{NamedRuns}
use Rattle.ranks.proofs.Runs.{all_full, fits, same_names, full_ranks, no_ranks, renumbered-by, size_is}
use Rattle.best.proofs.Room.{rank_all}
use Rattle.best.specs.Runs.{Ranked, rank_places, TableByRanks}

-- a valid plan of lines in a rack has tips of the rack
valid_tips : {m : ℕ} {lines plan : List ℕ} → All (Domain m) lines → Valid lines plan → All (λ t. t < m) plan
valid_tips none empty = none
valid_tips {m} (more {x = s} d ds) (line {t} h v) = more (has-below m s t d.below h) (valid_tips ds v)

no_places : (plan : List ℕ) → length plan ≡ 0 → plan ≡ []
no_places [] e = refl
no_places (t ∷ plan) e = absurd (omega arith)

-- and then nothing is to be done
pub nothing : (mounted : Mounted) {r : ℕ} {qs sets plan table : List ℕ} → Ranked r qs sets plan table → r ≡ 0
    → (plan ≡ best_plan_q mounted r qs sets) × (take (r * r) table ≡ table_of r (repeated qs sets))
unfolding table_of list_of best_plan_q
nothing mounted {plan} p z =
    let e = p.none z in
    let f : plan ≡ [] = no_places plan (p.size ∙ ap length e) in
    (rw (f, e), rw z)

module _ {m : ℕ} {qs sets : List ℕ} (n : NamedRuns m qs sets) where
  abbrev N : ℕ → Bool
  N = named sets

  -- the lines renumbered
  pub ranked : {plan table : List ℕ} → length plan ≡ length sets → rank (named sets) m * rank (named sets) m ≤ length table
      → Ranked (rank (named sets) m) qs (renumbered (named sets) m sets) plan table
  ranked size room = record {
    runs = full_ranks n;
    none = no_ranks n;
    size = size ∙ sym (length-renumbered N m sets);
    room = room;
  }

  -- the plan of the lines renumbered has ranks
  plan_below : (on : Mounted) → All (λ t. t < rank (named sets) m) (best_plan_q on (rank (named sets) m) qs (renumbered (named sets) m sets))
  plan_below on =
      let g = n.good in
      let h : rank N m ≤ 64 = omega (arith, rank_le N m, g.most) in
      let ds = renumbered_domains g.most (fits n) in
      let rs = unbroken_runs h ds (renumbered_runs g.most (fits n) n.runs) in
      valid_tips ds (best_valid_lines on ds g.placed (g.same ∙ sym (length-renumbered N m sets)) h rs)

  -- THE PLAN with its ranks replaced by the listed tips is the best plan
  plan-named : (mounted : Mounted) {list : List ℕ} → Named (named sets) m list
      → map (λ t. get_or list t 0) (best_plan_q (rank_on (named sets) mounted) (rank (named sets) m) qs (renumbered (named sets) m sets))
      ≡ best_plan_q mounted m qs sets
  plan-named mounted p =
      let g = n.good in
      map_cong (all_map (λ t l. p.places t l) (plan_below (rank_on N mounted)))
      ∙ sym (plan_renumbered g.most g.domains g.placed g.same n.runs mounted)

  -- a number of the table, from that of the lines renumbered
  number : (old : List ℕ) → TableByRanks m qs sets old → (a b : ℕ) → a < m → b < m
      → get_or (table_of m (repeated qs sets)) (a * m + b) 0 ≡ cell_of (named sets) (rank (named sets) m) old a b
  unfolding cell_of cell_at
  number old e a b h g =
      let k = n.good in
      let last : rank N (b + 1) ≤ rank N m = rank_mono N (b + 1) m (omega arith) in
      table-renumbered k.most k.domains k.placed k.same a b h g
      ∙ ⊎_elim
      (λ p. rw (le-ltb (rank N a) (rank N (b + 1)) p))
      (λ p. rw (lt-ltb (rank N a) (rank N (b + 1)) p, ← e)
      (get_or-take (rank N m * rank N m) old (rank N a * rank N m + (rank N (b + 1) - 1)) 0
      (digits_lt {q = rank N a} {m = rank N m} {r = rank N (b + 1) - 1} {c = rank N m} (omega arith) (omega arith))))
      (le_or_lt (rank N (b + 1)) (rank N a))

  -- THE TABLE spread from that of the lines renumbered is the table
  table-spread : (old : List ℕ) → TableByRanks m qs sets old
      → spread (named sets) m (rank (named sets) m) old ≡ table_of m (repeated qs sets)
  unfolding spread
  table-spread old e =
      let some = n.good.some in
      sym (list_is _ (m * m) (table_of m (repeated qs sets)) (length-table m (repeated qs sets)) (λ k l.
      rw (div-add-mod' k m) at (number old e (k / m) (k % m) ((div-lt_iff_lt-mul some).1 l) (mod-lt k some))))

  -- the table of a rack has room for the table by ranks
  pub rank_room : (set : ℕ) (table : List ℕ) → length table ≡ m * m → rank_places set m ≤ length table
  rank_room set table size =
      let least = rank_le (has set) m in
      omega (arith, mul-le-mul {n₁ = rank (has set) m} {m₁ = rank (has set) m} {n₂ = m} {m₂ = m} least least, size)

  -- the largest table for any of its tips
  pub most_places : (set : ℕ) → rank_places set m ≤ most_tips * most_tips
  most_places set =
      let least : rank (has set) m ≤ most_tips = omega (arith, rank_le (has set) m, n.good.most) in
      mul-le-mul least least

  -- where each tip is named it has room for the table of the rack
  pub full_room : {set places : ℕ} → set ≡ names sets → set ≡ 2 ^ (m - 1 + 1) - 2 ^ 0 → rank_places set m ≤ places → m * m ≤ places
  full_room s e room =
      let full = all_full n s e in
      rw (same_names n s, rank_all (named sets) m full.full) at room

  module _ {set r : ℕ} (s : set ≡ names sets) (e : r ≡ rank (has set) m) where
    pub table-is : (old : List ℕ) {table : List ℕ} → TableByRanks m qs sets old → table ≡ spread (has set) m r old
        → table ≡ table_of m (repeated qs sets)
    table-is old front t = t ∙ rw (same_names n s, size_is n s e) (table-spread old front)

    -- THE PAIRS are those of all ranks
    pub pairs-are : (old : List ℕ) → TableByRanks m qs sets old → cell_at r old 0 r ≡ C (repeated qs sets) 0 m
    unfolding cell_of rank
    pairs-are old front =
        let some = n.good.some in
        let last : m - 1 + 1 ≡ m = omega arith in
        let all = number old front 0 (m - 1) some (omega arith) in
        let place : 0 * m + (m - 1) ≡ m - 1 = omega arith in
        rw (size_is n s e) (sym (rw (last, place) at all) ∙ table-last m (repeated qs sets) some)

  -- of the table of the rack at the front
  module _ {front : List ℕ} (rest : List ℕ) (t : front ≡ table_of m (repeated qs sets)) where
    -- the last place of its first row
    pub last_place : 0 < m → 0 * m + (m - 1) < length (front ++ rest)
    last_place some =
        omega (
          arith,
          length-append front rest,
          ap length t,
          length-table m (repeated qs sets),
          digits_lt {q = 0} {m = m} {r = m - 1} {c = m} some (omega arith),
        )

    -- has the pairs
    pub pairs_full : cell_at m (front ++ rest) 0 m ≡ C (repeated qs sets) 0 m
    unfolding cell_at
    pairs_full =
        let some = n.good.some in
        let size = length-table m (repeated qs sets) in
        let inside : 0 * m + (m - 1) < length front =
        omega (arith, ap length t, size, digits_lt {q = 0} {m = m} {r = m - 1} {c = m} some (omega arith)) in
        let e : 0 * m + (m - 1) ≡ m - 1 = omega arith in
        rw (lt-ltb 0 m some, get_or-append front rest 0 (0 * m + (m - 1)) inside, t, e) (table-last m (repeated qs sets) some)

  -- what is known of the lists
  module _ {set r : ℕ} {list tips : List ℕ} (s : set ≡ names sets) (e : r ≡ rank (has set) m)
      (p : Ranks (has set) m list) (q : Named (has set) m tips) where
    -- the plan and the table of the lines renumbered can be made
    pub ranks_ready : {out plan table : List ℕ} → out ≡ map (run_by list) sets → length plan ≡ length sets
        → rank_places set m ≤ length table → Ranked r qs out plan table
    ranks_ready o size room = rw (size_is n s e, renumbered-by n s p o) (ranked size (rw (same_names n s) at room))

    -- each rank of the plan has a place in the list of tips
    pub plan_fits : (on : Mounted) {out plan : List ℕ} → out ≡ map (run_by list) sets → plan ≡ best_plan_q on r qs out
        → All (λ t. t < length tips) plan
    plan_fits on o f =
        rw (f, size_is n s e, renumbered-by n s p o) (all_map (λ t l. omega (arith, rank_le (named sets) m, n.good.most, q.size)) (plan_below on))

    -- ALL STEPS of the plan: renumbered, planned and named
    pub plan-is : (mounted : Mounted) {on : Mounted} {out plan plan' : List ℕ} → out ≡ map (run_by list) sets
        → on ≡ rank_on (has set) mounted → plan ≡ best_plan_q on r qs out → plan' ≡ map (λ t. get_or tips t 0) plan
        → plan' ≡ best_plan_q mounted m qs sets
    plan-is mounted o u f f' =
        let same = same_names n s in
        let tips-named : Named (named sets) m tips = rw same at q in
        f' ∙ rw (f, u, same, size_is n s e, renumbered-by n s p o) (plan-named mounted tips-named)

    -- and the table that they leave at the front
    pub front-is : {out : List ℕ} (table : List ℕ) → out ≡ map (run_by list) sets → take (r * r) table ≡ table_of r (repeated qs out)
        → TableByRanks m qs sets table
    front-is table o t = rw (size_is n s e, renumbered-by n s p o) at t
