-- THE BEST PLAN IS THE PLAN OF THE BOARD RENUMBERED, each rank replaced by its tip.
use Prim.Native.Nat.{ℕ, zero, suc, ◌+◌, ◌-◌, ◌≤◌, ◌<◌}
use native.Mathlib.Omega.{arith}
use mathlib.Core.Path.{◌≡◌, ap, sym, ◌∙◌}
use mathlib.Core.Logic.{⊎_elim}
use mathlib.Core.Bool.{Bool, cond}
use mathlib.Core.List.{List}
use lib.Dec.{T, ltb, ltb→lt, lt→ltb}
use Rattle.model.specs.Count.{All, lowest_at}
use Rattle.model.specs.Plan.{has}
use Rattle.model.specs.Choice.{Mounted, is_on, from}
use Rattle.model.specs.Interval.{any, low, high, lies, most_of, worth, pick_of, tip_by, Line}
use Rattle.model.specs.Renumber.{rank, tip_at, ranks, renumbered, rank_on, width, Fits}
use Rattle.model.proofs.Tests.{same_test}
use Rattle.model.proofs.Lists.{all_map}
use Rattle.model.proofs.Largest.{largest_ge, lowest_attains, lowest-first, lowest-only}
use Rattle.model.proofs.Choice.{favour, choice-favour, from_on}
use Rattle.model.proofs.Run.{low-high, low-tip, high-tip}
use Rattle.model.proofs.Interval.{span, in_span, by_sides}
use Rattle.model.proofs.Most.{pick_attains, worth_ok}
use Rattle.model.proofs.Rank.{rank_ok, rank_lt, lt_rank, tip-rank, width_end, rank-on}
use Rattle.model.proofs.Renumber.{has-ranks, high-ranks}
use Rattle.model.proofs.RenumberBest.{place, back, behind, split-ranks, most-ranks}

-- a line's tips are ok
pub line-fits : {ok : ℕ → Bool} {m s : ℕ} → Line ok m s → Fits ok m s
line-fits l = record { domain = l.domain; own = l.fits }

module _ {ok : ℕ → Bool} {m : ℕ} {lines : List ℕ} (narrow : m ≤ 64) (ls : All (Line ok m) lines) (mounted : Mounted) where
  abbrev pick : ℕ → ℕ → ℕ
  pick = pick_of mounted ok lines

  abbrev pick' : ℕ → ℕ → ℕ
  pick' = pick_of (rank_on ok mounted) any (renumbered ok m lines)

  fs : All (Fits ok m) lines
  fs = all_map (λ s. line-fits) ls

  -- THE PICK of the interval renumbered is the rank of the interval's pick, both counted from the first tip
  pick-ranks : (a w : ℕ) → a + w ≤ m → pick a w < w → T (ok (a + pick a w)) → pick' (rank ok a) (width ok a w) ≡ width ok a (pick a w)
  unfolding pick_of
  pick-ranks a w b l o =
      choice-favour (from (rank ok a) (rank_on ok mounted)) (worth any E' (renumbered ok m lines) (rank ok a) (width ok a w)) (width ok a w)
      ∙ lowest-only g (width ok a w) (width ok a (pick a w)) (place narrow fs a w (pick a w) l o) most least
    where
      E : ℕ → ℕ → ℕ
      E = most_of ok lines

      E' : ℕ → ℕ → ℕ
      E' = most_of any (renumbered ok m lines)

      f : ℕ → ℕ
      f = favour (from a mounted) (worth ok E lines a w)

      g : ℕ → ℕ
      g = favour (from (rank ok a) (rank_on ok mounted)) (worth any E' (renumbered ok m lines) (rank ok a) (width ok a w))

      one : Bool → ℕ
      one b = cond b 1 0

      on : (j : ℕ) → T (ok (a + j)) → is_on (from (rank ok a) (rank_on ok mounted)) (width ok a j) ≡ is_on (from a mounted) j
      on j o =
          let here = from_on (rank ok a) (rank_on ok mounted) (width ok a j) in
          here ∙ rw (width_end ok a j) (rank-on ok mounted (a + j) o) ∙ sym (from_on a mounted j)

      same : (j : ℕ) → j < w → T (ok (a + j)) → g (width ok a j) ≡ f j
      same j l o =
          omega (
            arith,
            worth_ok ok lines E a w j o,
            worth_ok any (renumbered ok m lines) E' (rank ok a) (width ok a w) (width ok a j) tt,
            split-ranks narrow fs a w j b l o (most-ranks narrow fs a j (omega arith))
                (most-ranks narrow fs (a + j + 1) (w - (j + 1)) (omega arith)),
            ap one (on j o),
          )

      e : pick a w ≡ lowest_at f w
      e = choice-favour (from a mounted) (worth ok E lines a w) w

      below : (j : ℕ) → j < pick a w → f j < f (pick a w)
      below j h =
          let h' : j < lowest_at f w = omega (arith, e) in
          rw e (lowest-first f w j h')

      most : (t : ℕ) → t < width ok a w → g t ≤ g (width ok a (pick a w))
      most t h =
          let (j, p, q, x) = back narrow fs a w t b h in
          let y : f j ≤ f (pick a w) = rw e (omega (arith, largest_ge f w j p, lowest_attains f w)) in
          rw (← x) (omega (arith, same j p q, same (pick a w) l o))

      least : (t : ℕ) → t < width ok a (pick a w) → g t < g (width ok a (pick a w))
      least t h =
          let (j, p, q, x) = back narrow fs a w t b (omega (arith, place narrow fs a w (pick a w) l o)) in
          let z : a + j < a + pick a w = lt_rank ok (a + j) (a + pick a w) (omega (arith, width_end ok a j, width_end ok a (pick a w))) in
          let y = below j (omega arith) in
          rw (← x) (omega (arith, same j p q, same (pick a w) l o))

  abbrev tip : ℕ → ℕ → ℕ → ℕ → ℕ
  tip = tip_by pick

  abbrev tip' : ℕ → ℕ → ℕ → ℕ → ℕ
  tip' = tip_by pick'

  module _ {s : ℕ} (l : Line ok m s) where
    abbrev s' : ℕ
    s' = ranks ok m s

    -- the line is before a tip that is ok exactly when it is so renumbered
    before-ranks : (c : ℕ) → ltb (high s') (rank ok c) ≡ ltb (high s) c
    before-ranks c =
        rw (high-ranks narrow (line-fits l)) (same_test (ltb (rank ok (high s)) (rank ok c)) (ltb (high s) c)
        (λ t. lt→ltb (high s) c (lt_rank ok (high s) c (ltb→lt (rank ok (high s)) (rank ok c) t)))
        (λ t. lt→ltb (rank ok (high s)) (rank ok c)
        (rank_lt ok (high s) c (l.fits (high s) (high-tip narrow l.domain).0) (ltb→lt (high s) c t))))

    -- one interval of the board renumbered
    step' : (k a w : ℕ) → a + w ≤ m → pick a w < w → T (ok (a + pick a w))
        → tip' (suc k) (rank ok a) (width ok a w) s'
        ≡ cond (has s (a + pick a w)) (rank ok (a + pick a w)) (cond (ltb (high s) (a + pick a w)) (tip' k (rank ok a) (width ok a (pick a w)) s')
        (tip' k (rank ok (a + pick a w + 1)) (width ok (a + pick a w + 1) (w - (pick a w + 1))) s'))
    unfolding tip_by
    step' k a w b p o =
        let i = pick a w in
        rw (
          pick-ranks a w b p o,
          width_end ok a i,
          has-ranks ok m s (a + i) (omega arith) o,
          before-ranks (a + i),
          sym (rank_ok ok (a + i) o),
          behind narrow fs a w i p o,
        )

    Ranked : ℕ → ℕ → ℕ → ℕ → Type 0
    Ranked k j a w = tip k a w s ≡ tip_at ok m (tip' j (rank ok a) (width ok a w) s')

    -- THE TIP of a line is the tip of the rank that it has renumbered
    pub tip-ranks : (k j a w : ℕ) → w ≤ k → width ok a w ≤ j → a + w ≤ m → T (lies a w s)
        → tip_by (pick_of mounted ok lines) k a w s
        ≡ tip_at ok m (tip_by (pick_of (rank_on ok mounted) any (renumbered ok m lines)) j (rank ok a) (width ok a w) (ranks ok m s))
    unfolding tip_by Ranked
    tip-ranks zero j a w h g b t = absurd (omega (arith, span a w s t, low-high narrow l.domain))
    tip-ranks (suc k) j a w h g b t =
        let e = span a w s t in
        ⊎_elim
        (λ (p, o, x). go j g p o (tip-ranks k))
        (λ (f, x). absurd (f (low s) e.0 (omega (arith, low-high narrow l.domain)) (l.fits (low s) (low-tip narrow l.domain))))
        (pick_attains ok lines mounted a w)
      where
        go : (j : ℕ) → width ok a w ≤ j → pick a w < w → T (ok (a + pick a w))
            → ((j a w : ℕ) → w ≤ k → width ok a w ≤ j → a + w ≤ m → T (lies a w s) → Ranked k j a w)
            → Ranked (suc k) j a w
        go zero g p o ih = absurd (omega (arith, place narrow fs a w (pick a w) p o))
        go (suc j) g p o ih =
            let i = pick a w in
            let e = span a w s t in
            let n = place narrow fs a w i p o in
            rw (step' j a w b p o) (by_sides l (a + i) o (λ x x'. x ≡ tip_at ok m x') (sym (tip-rank ok m (a + i) (omega arith) o))
            (λ q. ih j a i (omega arith) (omega arith) (omega arith) (in_span a i s e.0 q))
            (λ q. ih j (a + i + 1) (w - (i + 1)) (omega arith) (omega (arith, behind narrow fs a w i p o)) (omega arith)
            (in_span (a + i + 1) (w - (i + 1)) s (omega arith) (omega arith))))
