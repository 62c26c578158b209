-- Runs of the named tips, renumbered: unbroken runs that name each tip of their rack.
use Prim.Native.Nat.{ℕ, ◌+◌, ◌-◌, ◌^◌, ◌<◌}
use native.Mathlib.Omega.{arith}
use mathlib.Core.Path.{◌≡◌, refl, ap, sym, ◌∙◌}
use mathlib.Core.Bool.{Bool}
use mathlib.Core.List.{List, [], map}
use lib.Dec.{T}
use Rattle.model.specs.Count.{All, none, more}
use Rattle.model.specs.Plan.{has, Domain}
use Rattle.model.specs.Interval.{any, named, is_run_of, Line}
use Rattle.model.specs.Renumber.{names, rank, renumbered, Fits}
use Rattle.model.proofs.Lists.{all_map, all_both}
use Rattle.model.proofs.Names.{names-named, names_lt}
use Rattle.model.proofs.Run.{run_full, run-lines}
use Rattle.model.proofs.Unbroken.{unbroken_runs}
use Rattle.model.proofs.Rank.{rank_le}
use Rattle.model.proofs.Renumber.{named-fits, renumbered_domains, renumbered_runs}
use Rattle.model.proofs.RenumberBoard.{length-renumbered}
use Rattle.model.proofs.RenumberFull.{all_named}
use Rattle.tips.proofs.Bits.{has-between}
use Rattle.ranks.specs.Listed.{Ranks, Ranked, RanksOf, run_by}
use Rattle.ranks.specs.Runs.{NamedRuns, FullRuns}
use Rattle.ranks.proofs.Listed.{lines_ranked, lines-renumbered, ranks_of}

-- a rack of no tips has no line
no_lines : {lines : List ℕ} → All (Domain 0) lines → lines ≡ []
no_lines none = refl
no_lines (more d ds) = absurd (omega (arith, d.some, d.below))

module _ {m : ℕ} {qs sets : List ℕ} (n : NamedRuns m qs sets) where
  abbrev N : ℕ → Bool
  N = named sets

  pub fits : All (Fits (named sets) m) sets
  fits = named-fits n.good.domains

  -- the tips of the union are the named tips
  pub same_names : {set : ℕ} → set ≡ names sets → has set ≡ named sets
  same_names s = ap has s ∙ names-named sets

  -- WHERE EACH TIP IS NAMED the runs are unbroken
  pub all_full : {set : ℕ} → set ≡ names sets → set ≡ 2 ^ (m - 1 + 1) - 2 ^ 0 → FullRuns m qs sets
  all_full {set} s e = record {
    good = n.good;
    runs = all_map (λ s (d, r). run_full n.good.most d (named sets) full r) (all_both n.good.domains n.runs);
    full = full;
  }
    where
      full : (t : ℕ) → t < m → T (named sets t)
      full t l =
          let own : T (has set t) = rw e ((has-between 0 (m - 1) t (omega arith)).1 (omega arith, omega arith)) in
          rw (same_names s) at own

  -- renumbered they are unbroken too, where a tip is named
  pub full_ranks : 0 < rank (named sets) m → FullRuns (rank (named sets) m) qs (renumbered (named sets) m sets)
  full_ranks p =
      let g = n.good in
      let lines = length-renumbered N m sets in record {
        good = record {
          some = p;
          most = omega (arith, rank_le N m, g.most);
          few-lines = omega (arith, lines, g.few-lines);
          same = g.same ∙ sym lines;
          placed = g.placed;
          few = g.few;
          domains = renumbered_domains g.most fits;
        };
        runs = renumbered_runs g.most fits n.runs;
        full = all_named m sets;
      }

  -- and none where no tip is named
  pub no_ranks : rank (named sets) m ≡ 0 → renumbered (named sets) m sets ≡ []
  no_ranks z = no_lines (rw z at (renumbered_domains n.good.most fits))

  -- what is known of the list of ranks
  module _ {set : ℕ} {list : List ℕ} (s : set ≡ names sets) (p : Ranks (has set) m list) where
    by_names : Ranks (named sets) m list
    by_names = rw (same_names s) at p

    -- the lines can be renumbered by it, and the mounted tip too
    pub listable : All (Ranked list) sets
    listable = lines_ranked n.good.most by_names fits

    pub tips-listed : RanksOf set list
    tips-listed = ranks_of (rw s (names_lt m (all_map (λ x d. d.below) n.good.domains))) p

    pub renumbered-by : {out : List ℕ} → out ≡ map (run_by list) sets → out ≡ renumbered (named sets) m sets
    renumbered-by o = o ∙ lines-renumbered n.good.most by_names fits n.runs

  pub size_is : {set r : ℕ} → set ≡ names sets → r ≡ rank (has set) m → r ≡ rank (named sets) m
  size_is s e = rw (same_names s) at e

module _ {m : ℕ} {qs sets : List ℕ} (f : FullRuns m qs sets) where
  -- unbroken runs are runs of the named tips
  pub full-named : All (λ s. T (is_run_of (named sets) s)) sets
  full-named = unbroken_runs f.good.most f.good.domains f.runs

  -- and lines where any tip may be chosen
  pub full-lines : All (Line any m) sets
  full-lines = run-lines f.good.most f.good.domains f.runs
