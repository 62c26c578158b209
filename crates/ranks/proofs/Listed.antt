-- One tip more in the lists, and lines renumbered by the list of ranks.
use Prim.Native.Nat.{ℕ, ◌+◌, ◌^◌, ◌<◌, ◌≤◌}
use native.Mathlib.Omega.{arith}
use mathlib.Core.Path.{◌≡◌, refl, ap, sym, ◌∙◌}
use mathlib.Core.Logic.{⊎_elim}
use mathlib.Core.Bool.{Bool, true, false, cond}
use mathlib.Core.List.{List, map}
use mir.Val.{bool_byte}
use lib.Dec.{T}
use lib.ListN.{get_or, set, length-set}
use lib.Pow.{pow_mono}
use lib.Seq.{get_or-set_same, get_or-set_other}
use native.Mathlib.Nat.{lt_of_lt_of_le}
use Rattle.model.specs.Limits.{most_tips}
use Rattle.model.specs.Count.{All}
use Rattle.model.specs.Plan.{has}
use Rattle.model.specs.Interval.{low, high, is_run_of}
use Rattle.model.specs.Renumber.{rank, tip_at, ranks, renumbered, Fits}
use Rattle.model.proofs.Tests.{le_or_lt, one_le, one_T}
use Rattle.model.proofs.Lists.{all_map, all_both, map_cong}
use Rattle.model.proofs.Sets.{has-below}
use Rattle.model.proofs.Run.{low-high, high-below, high-tip}
use Rattle.model.proofs.Rank.{rank_le, rank_mono, rank_lt, rank-more, tip_same, tip-rank}
use Rattle.model.proofs.Renumber.{ranks_domain, low-ranks, high-ranks, run-ranks}
use Rattle.tips.proofs.Bits.{run_is}
use Rattle.ranks.specs.Listed.{Ranks, Named, run_by, Ranked, RanksOf}

-- the rank of the next tip: one more where the test passes, as usize::from counts it
pub rank_next : (ok : ℕ → Bool) (t : ℕ) {b : Bool} {r n : ℕ} → r ≡ rank ok t → b ≡ ok t → n ≡ bool_byte b → r + n ≡ rank ok (t + 1)
rank_next ok t {b} {r} {n} e f g = rw (e, g, f, rank-more ok t) (ap (λ k. rank ok t + k) (byte_is (ok t)))
  where
    byte_is : (b : Bool) → bool_byte b ≡ cond b 1 0
    byte_is true = refl
    byte_is false = refl

-- ---- the lists with one tip more

module _ {ok : ℕ → Bool} {t : ℕ} {list : List ℕ} (h : t < most_tips) where
  -- its rank stored at tip t
  pub ranks-more : Ranks ok t list → Ranks ok (t + 1) (set list t (rank ok t))
  ranks-more p = record {
    size = length-set list t (rank ok t) ∙ p.size;
    places = λ u l.
        ⊎_elim
        (λ q. let e : u ≡ t = omega arith in rw e (get_or-set_same list t (rank ok t) 0 (omega (arith, p.size))))
        (λ q. get_or-set_other list t u (rank ok t) 0 (λ e. omega arith) ∙ p.places u q)
        (le_or_lt t u);
  }

  -- tip t stored at its rank: it is listed if it is ok, and no listed tip is lost if not
  pub named_more : Named ok t list → Named ok (t + 1) (set list (rank ok t) t)
  named_more p = record { size = length-set list (rank ok t) t ∙ p.size; places = places }
    where
      places : (j : ℕ) → j < rank ok (t + 1) → get_or (set list (rank ok t) t) j 0 ≡ tip_at ok (t + 1) j
      places j l =
          ⊎_elim
          (λ q.
          let o = one_T (ok t) (omega (arith, rank-more ok t)) in
          let e : j ≡ rank ok t = omega (arith, rank-more ok t, one_le (ok t) true (λ _. tt)) in
          rw e (get_or-set_same list (rank ok t) t 0 (omega (arith, rank_le ok t, p.size)) ∙ sym (tip-rank ok (t + 1) t (omega arith) o)))
          (λ q. get_or-set_other list (rank ok t) j t 0 (λ e. omega arith) ∙ p.places j q ∙ sym (tip_same ok (t + 1) t j (omega arith) q))
          (le_or_lt (rank ok t) j)

-- ---- by the ranks of all tips of the rack

module _ {ok : ℕ → Bool} {m : ℕ} {list : List ℕ} (narrow : m ≤ most_tips) (p : Ranks ok m list) where
  -- the lowest and the highest tip of a line are in the list
  ends : {s : ℕ} → Fits ok m s → (get_or list (low s) 0 ≡ rank ok (low s)) × (get_or list (high s) 0 ≡ rank ok (high s))
  ends {s} f =
      let top = high-below narrow f.domain in
      (p.places (low s) (omega (arith, low-high narrow f.domain)), p.places (high s) top)

  pub line_ranked : {s : ℕ} → Fits ok m s → Ranked list s
  line_ranked {s} f =
      let d = f.domain in
      let (l, h) = ends f in
      record {
        domain = record { some = d.some; below = lt_of_lt_of_le d.below (pow_mono narrow) };
        size = p.size;
        order = omega (arith, rank_mono ok (low s) (high s) (low-high narrow d));
        below = omega (arith, rank_lt ok (high s) m (f.own (high s) (high-tip narrow d).0) (high-below narrow d), rank_le ok m);
      }

  -- A RUN AMONG THE TIPS THAT ARE OK, RENUMBERED by the ranks of its lowest and its highest tip
  pub line-renumbered : {s : ℕ} → Fits ok m s → T (is_run_of ok s) → run_by list s ≡ ranks ok m s
  unfolding run_by
  line-renumbered {s} f r =
      let (l, h) = ends f in
      let few : rank ok m ≤ most_tips = omega (arith, rank_le ok m) in
      let run = run_is few (ranks_domain narrow f) ((run-ranks narrow f).0 r) in
      rw (l, h, ← low-ranks narrow f, ← high-ranks narrow f) (sym run)

  pub lines_ranked : {lines : List ℕ} → All (Fits ok m) lines → All (Ranked list) lines
  lines_ranked = all_map (λ s f. line_ranked f)

  pub lines-renumbered : {lines : List ℕ} → All (Fits ok m) lines → All (λ s. T (is_run_of ok s)) lines
      → map (run_by list) lines ≡ renumbered ok m lines
  unfolding renumbered
  lines-renumbered fs rs = map_cong (all_map (λ s (f, r). line-renumbered f r) (all_both fs rs))

-- the tips of a set of the rack are in the list
pub ranks_of : {m names : ℕ} {list : List ℕ} → names < 2 ^ m → Ranks (has names) m list → RanksOf names list
ranks_of {m} {names} b p = record { size = p.size; places = λ t h. p.places t (has-below m names t b h) }
