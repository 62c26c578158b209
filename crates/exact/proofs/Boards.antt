-- The plan and the table of a board, from those of the board renumbered.
use Prim.Native.Nat.{ℕ, ◌<◌}
use native.Mathlib.Omega.{arith}
use mathlib.Core.Path.{◌≡◌, ap, sym, ◌∙◌}
use mathlib.Core.Bool.{Bool}
use mathlib.Core.List.{List, map}
use lib.ListN.{length, get_or}
use Rattle.model.specs.Count.{All}
use Rattle.model.specs.Plan.{has, Valid, pairs}
use Rattle.model.specs.Choice.{Mounted}
use Rattle.model.specs.Interval.{named}
use Rattle.model.specs.Renumber.{names, rank, tip_at, renumbered, rank_on}
use Rattle.model.proofs.Lists.{all_map, map_cong}
use Rattle.model.proofs.Names.{names-named, names_lt}
use Rattle.model.proofs.Rank.{rank_le}
use Rattle.model.proofs.Renumber.{renumbered_domains, named-fits}
use Rattle.model.proofs.RenumberBoard.{length-renumbered}
use Rattle.model.proofs.Sets.{has-below}
use Rattle.model.proofs.Valid.{valid_all}
use Rattle.placements.specs.Repeated.{repeated}
use Rattle.ranks.specs.Listed.{Ranks, Named, RanksOf}
use Rattle.ranks.proofs.Listed.{ranks_of}
use Rattle.subset_rules.specs.Subsets.{tips_used, exact_plan_q}
use Rattle.subset_rules.specs.Table.{exact_table, rank_table}
use Rattle.subset_rules.proofs.Exact.{names_own}
use Rattle.subset_rules.proofs.Placements.{exact_shared}
use Rattle.subset_rules.proofs.Ranked.{plan-renumbered, pairs-renumbered, used_renumbered}
use Rattle.subset_rules.proofs.Table.{table-renumbered}
use Rattle.exact.specs.Leaf.{RanksLent, BoardLent, Renumbering}

module _ {m : ℕ} {qs sets plan table : List ℕ} (b : BoardLent m qs sets plan table) where
  abbrev N : ℕ → Bool
  N = named sets

  abbrev sets' : List ℕ
  sets' = renumbered (named sets) m sets

  -- the lines renumbered can be planned
  lent-ranks : RanksLent (rank (named sets) m) qs (renumbered (named sets) m sets) plan table
  lent-ranks =
      let g = b.good in
      let lines = length-renumbered N m sets in
      record {
        lines = record {
          narrow = b.few_tips;
          same = g.same ∙ sym lines;
          placed = g.placed;
          few = g.few;
          domains = renumbered_domains g.most (named-fits g.domains);
        };
        bytes = b.bytes ∙ sym lines;
        places = b.places;
      }

  -- what is known of the lists
  module _ {set r : ℕ} {list tips : List ℕ} (s : set ≡ names sets) (e : r ≡ rank (has set) m)
      (p : Ranks (has set) m list) (q : Named (has set) m tips) where
    same_names : has set ≡ named sets
    same_names = ap has s ∙ names-named sets

    size-is : r ≡ rank (named sets) m
    size-is = e ∙ ap (λ ok. rank ok m) same_names

    -- the lines can be renumbered by them, and the mounted tip too
    pub renumberable : All (Renumbering set m list) sets
    renumberable =
        all_map (λ x own. record {
          listed = p;
          narrow = b.good.most;
          few = omega (arith, e, size-is, b.few_tips);
          own = λ t h. rw s (own t h);
        }) (names_own sets)

    pub tips_listed : RanksOf set list
    tips_listed = ranks_of (rw s (names_lt m (all_map (λ x d. d.below) b.good.domains))) p

    module _ {out : List ℕ} (o : out ≡ renumbered (has set) m sets) where
      out-is : out ≡ renumbered (named sets) m sets
      out-is = o ∙ ap (λ ok. renumbered ok m sets) same_names

      pub lent : RanksLent r qs out plan table
      lent = rw (size-is, out-is) lent-ranks

      -- the table is that of the board
      pub table-is : (price : ℕ) {table' : List ℕ} → table' ≡ rank_table price r (repeated qs out) → table' ≡ exact_table price m (repeated qs sets)
      table-is price f =
          let g = b.good in
          f ∙ rw (size-is, out-is) (table-renumbered price g.most g.domains g.placed g.same)

      module _ (mounted : Mounted) {on : Mounted} (u : on ≡ rank_on (has set) mounted) (price : ℕ) {plan' : List ℕ}
          (x : plan' ≡ exact_plan_q on price r qs out) where
        valid-ranks : Valid out plan'
        valid-ranks =
            let l = lent.lines in
            rw x (exact_shared l.domains l.placed l.same on price).valid

        -- each rank of the plan has a place in the list of tips
        below : All (λ t. t < r) plan'
        below = valid_all (λ a t d h. has-below r a t d.below h) lent.lines.domains valid-ranks

        pub plan_fits : All (λ t. t < length tips) plan'
        plan_fits = all_map (λ t l. omega (arith, l, size-is, rank_le N m, b.good.most, q.size)) below

        abbrev ours : List ℕ
        ours = exact_plan_q mounted price m qs sets

        abbrev theirs : List ℕ
        theirs = exact_plan_q (rank_on N mounted) price (rank N m) qs sets'

        theirs-is : plan' ≡ theirs
        theirs-is =
            x
            ∙ ap (λ w. exact_plan_q w price r qs out) (u ∙ ap (λ ok. rank_on ok mounted) same_names)
            ∙ ap (λ n. exact_plan_q (rank_on N mounted) price n qs out) size-is
            ∙ ap (exact_plan_q (rank_on N mounted) price (rank N m) qs) out-is

        -- the plan with its tips named is that of the board, with as many pairs and tips
        module _ {plan'' : List ℕ} (f : plan'' ≡ map (λ t. get_or tips t 0) plan') where
          pub plan-is : plan'' ≡ exact_plan_q mounted price m qs sets
          plan-is =
              let g = b.good in
              let tip : (t : ℕ) → t < r → get_or tips t 0 ≡ tip_at N m t =
              λ t l. q.places t (omega (arith, l, e)) ∙ ap (λ ok. tip_at ok m t) same_names in
              f
              ∙ map_cong (all_map tip below)
              ∙ ap (map (tip_at N m)) theirs-is
              ∙ sym (plan-renumbered g.most g.domains g.placed g.same mounted price)

          pub pairs-are : {shared : ℕ} → shared ≡ pairs (repeated qs plan') → shared ≡ pairs (repeated qs plan'')
          pairs-are h =
              let g = b.good in
              h
              ∙ ap (λ l. pairs (repeated qs l)) theirs-is
              ∙ pairs-renumbered g.most g.domains g.placed g.same mounted price
              ∙ ap (λ l. pairs (repeated qs l)) (sym plan-is)

          pub tips-are : {used : ℕ} → used ≡ tips_used r plan' → used ≡ tips_used m plan''
          tips-are h =
              let g = b.good in
              h
              ∙ ap (λ n. tips_used n plan') size-is
              ∙ ap (tips_used (rank N m)) theirs-is
              ∙ used_renumbered g.most g.domains g.placed g.same mounted price
              ∙ ap (tips_used m) (sym plan-is)
