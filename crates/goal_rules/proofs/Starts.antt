-- A tip of a line by the tables of all lines alone, along the chain of intervals that have the line whole: the chain ends at the tip, and the
-- tip has the goal's pairs; or it leaves the line at another of its tips.
use Prim.Native.Nat.{ℕ, zero, suc, ◌+◌, ◌*◌, ◌-◌, ◌≤◌, ◌<◌}
use native.Mathlib.Omega.{arith}
use native.Mathlib.Nat.{mul-le-mul_left}
use mathlib.Core.Path.{◌≡◌, ap, ap₂}
use mathlib.Core.Logic.{◌⊎◌, inl, inr, ◌↔◌, ⊎_elim}
use mathlib.Core.Bool.{◌&&◌}
use mathlib.Core.List.{List}
use lib.Dec.{T, leb, ltb, leb→le, le→leb, lt→ltb}
use lib.ListN.{length, get_or}
use Rattle.model.specs.Count.{All}
use Rattle.model.specs.Plan.{has, choose2}
use Rattle.model.specs.Interval.{low, high, Line, named, is_run_of, lies, inside, split, C}
use Rattle.model.proofs.Tests.{le_or_lt, true_T, false_not, and_left, and_right, and_in}
use Rattle.model.proofs.Sets.{has-set_of}
use Rattle.model.proofs.Lists.{all-at}
use Rattle.model.proofs.Interval.{in_span}
use Rattle.model.proofs.Run.{low_le, le_high, high-below}
use Rattle.placements.specs.Repeated.{repeated}
use Rattle.placements.specs.Good.{GoodLines}
use Rattle.placements.proofs.Repeated.{all-repeated}
use Rattle.goal_rules.specs.Goal.{others, joined, reach, goal_tips}
use Rattle.goal_rules.specs.Tables.{before, behind, Out, always, Whole, First, Start}
use Rattle.goal_rules.proofs.Solved.{whole_le}
use Rattle.goal_rules.proofs.Outer.{largest_le, Out_le, Out_open, around-before, around-behind}
use Rattle.goal_rules.proofs.Fast.{after-t, before-t, at-t, splits, more_le}
use Rattle.goal_rules.proofs.Narrow.{narrower_le}
use Rattle.goal_rules.proofs.Strike.{ls, rest_lines, inside-placed, fewer, bounds, own_tip, own_below, reached, apart}

module _ {m : ℕ} {qs sets : List ℕ} (good : GoodLines m qs sets) (rs : All (λ s. T (is_run_of (named sets) s)) sets)
    (i : ℕ) (l : i < length sets) where
  abbrev s : ℕ
  s = get_or sets i 0

  abbrev q : ℕ
  q = get_or qs i 0

  abbrev rest : List ℕ
  rest = others qs sets i

  abbrev placed : List ℕ
  placed = repeated qs sets

  abbrev D : ℕ → ℕ → ℕ
  D = C placed

  abbrev U : ℕ → ℕ → ℕ
  U = Out always m D placed

  line : Line (named sets) m s
  line = all-at 0 (ls good rs) i l

  -- the goal's tips are those of the line that reach it
  pub tips-reach : (K t : ℕ) → T (has (goal_tips m qs sets K i) t) ↔ (T (has s t) × (K ≤ reach m rest q t))
  unfolding goal_tips
  tips-reach K t =
      let r = reach m rest q t in
      rw (has-set_of (λ u. has s u && leb K (reach m rest q u)) m t) (
        λ x. let y = and_right (ltb t m) (has s t && leb K r) x in
            (and_left (has s t) (leb K r) y, leb→le K r (and_right (has s t) (leb K r) y)),
        λ (h, k). and_in (ltb t m) (has s t && leb K r) (lt→ltb t m (own_below good rs i l t h)) (and_in (has s t) (leb K r) h (le→leb K r k)),
      )

  -- ---- the counts of an interval that has the line whole, at a tip of the line and at any other

  pub own_count : (a w c : ℕ) → Whole m s a w → T (has s c) → inside placed a w c ≡ inside rest a w c + q
  own_count a w c x g =
      let b = lies a w s && has s c in
      let e = true_T b (and_in (lies a w s) (has s c) (in_span a w s x.from x.to) g) in
      rw (inside-placed good rs i l a w c, e) (omega arith)

  other_count : (a w c : ℕ) → (T (has s c) → ⊥) → inside placed a w c ≡ inside rest a w c
  other_count a w c n =
      let b = lies a w s && has s c in
      rw (inside-placed good rs i l a w c, false_not b (λ k. n (and_right (lies a w s) (has s c) k))) (omega arith)

  past_count : (a w c : ℕ) → high s < c → choose2 (inside placed a w c) ≡ choose2 (inside rest a w c)
  past_count a w c p = ap choose2 (other_count a w c (λ g. omega (arith, le_high good.most line.domain c g)))

  early_count : (a w c : ℕ) → c < low s → choose2 (inside placed a w c) ≡ choose2 (inside rest a w c)
  early_count a w c p = ap choose2 (other_count a w c (λ g. omega (arith, low_le s c g)))

  module _ (t : ℕ) (h : T (has s t)) where
    abbrev all : List ℕ
    all = joined rest q t

    abbrev E : ℕ → ℕ → ℕ
    E = C all

    from_low : low s ≤ t
    from_low = low_le s t h

    to_high : t ≤ high s
    to_high = le_high good.most line.domain t h

    -- the splits of the lines with q more on t
    module _ (a w j : ℕ) (g : j < w) (b : a + w ≤ m) where
      after : t < a + j → split E all a w j ≡ choose2 (inside rest a w (a + j)) + (E a j + D (a + j + 1) (w - (j + 1)))
      after = after-t good.most (rest_lines good rs i l) q t (own_below good rs i l t h) (own_tip good rs i l t h)
          (reached good rs i l t h) (apart good rs i l t h) a w j g b

      early : a + j < t → split E all a w j ≡ choose2 (inside rest a w (a + j)) + (D a j + E (a + j + 1) (w - (j + 1)))
      early = before-t good.most (rest_lines good rs i l) q t (own_below good rs i l t h) (own_tip good rs i l t h)
          (reached good rs i l t h) (apart good rs i l t h) a w j g b

      here : a + j ≡ t → split E all a w j ≡ choose2 (inside rest a w (a + j) + q) + (D a j + D (a + j + 1) (w - (j + 1)))
      here = at-t good.most (rest_lines good rs i l) q t (own_below good rs i l t h) (own_tip good rs i l t h)
          (reached good rs i l t h) (apart good rs i l t h) a w j g b

      bounded : split E all a w j ≤ E a w
      bounded = splits good.most (rest_lines good rs i l) q t (own_below good rs i l t h) (own_tip good rs i l t h)
          (reached good rs i l t h) (apart good rs i l t h) a w j g b

      -- at t in a whole interval the split is that of all lines
      same_split : Whole m s a w → a + j ≡ t → split E all a w j ≡ split D placed a w j
      same_split x e = omega (arith, here e, ap choose2 (own_count a w (a + j) x (rw e h)))

    -- ---- outside an interval that has the line whole the table of all lines serves

    module _ (a w : ℕ) (x : Whole m s a w) (wider : (c v : ℕ) → w < v → Whole m s c v → U c v + E c v ≤ E 0 m) where
      by_before : (j : ℕ) → j < m - (a + w) → before U D placed a w j + E a w ≤ E 0 m
      by_before j g =
          let v = w + 1 + j in
          let e : v - (w + 1) ≡ j = omega arith in
          let y : Whole m s a v = record { from = x.from; to = omega (arith, x.to); ends = omega arith } in
          omega (
            arith,
            wider a v (omega arith) y,
            bounded a v w (omega arith) (omega arith),
            after a v w (omega arith) (omega arith) (omega (arith, x.to, to_high)),
            past_count a v (a + w) x.to,
            ap (D (a + w + 1)) e,
          )

      by-behind : (j : ℕ) → j < a → behind U D placed a w j + E a w ≤ E 0 m
      by-behind j g =
          let v = a - j + w in
          let k = a - (j + 1) in
          let c : j + k ≡ a - 1 = omega arith in
          let n : j + k + 1 ≡ a = omega arith in
          let e : v - (k + 1) ≡ w = omega arith in
          let y : Whole m s j v = record { from = omega (arith, x.from); to = omega (arith, x.to); ends = omega (arith, x.ends) } in
          omega (
            arith,
            wider j v (omega arith) y,
            bounded j v k (omega arith) (omega (arith, x.ends)),
            early j v k (omega arith) (omega (arith, x.ends)) (omega (arith, x.from, from_low)),
            early_count j v (a - 1) (omega (arith, x.from)),
            ap (λ z. choose2 (inside rest j v z)) c,
            ap₂ E n e,
          )

      chain_step : U a w + E a w ≤ E 0 m
      chain_step =
          let z = whole_le (reached good rs i l t h) a w x.ends in
          omega (
            arith,
            Out_le always m D placed a w x.ends,
            largest_le (before U D placed a w) (m - (a + w)) z by_before,
            largest_le (behind U D placed a w) a z by-behind,
          )

    chain_le : (k a w : ℕ) → m - w ≤ k → Whole m s a w → U a w + E a w ≤ E 0 m
    chain_le zero a w n x = chain_step a w x (λ c v y z. absurd (omega (arith, z.ends)))
    chain_le (suc k) a w n x = chain_step a w x (λ c v y z. chain_le k c v (omega arith) z)

    module _ (K : ℕ) where
      abbrev FirstAt : Type 0
      FirstAt = First m s U D placed K t

      abbrev StartAt : Type 0
      StartAt = (a : ℕ) × (w : ℕ) × (j : ℕ) × Start m s q U D placed K t a w j

      -- THE FIRST: a whole interval that has K pairs by a split at t shows that some plan has them with the line on t
      pub first_reaches : FirstAt → K ≤ reach m rest q t
      first_reaches (a, w, j, x, g, e, k) =
          omega (arith, chain_le (m - w) a w (omega arith) x, same_split a w j g x.ends x e, bounded a w j g x.ends)

      -- ---- some whole interval has K pairs by a split at t, or leaves the line

      more : (a w : ℕ) → a ≤ t → t < a + w → a + w ≤ m → E a w ≤ D a w + (q * inside placed a w t + choose2 q)
      more a w p r b = omega (
        arith,
        more_le good.most (rest_lines good rs i l) q t (own_below good rs i l t h) (own_tip good rs i l t h)
            (reached good rs i l t h) (apart good rs i l t h) (bounds good rs i l) a w p r b,
        mul-le-mul_left q (fewer good rs i l a w t),
      )

      module _ (a w : ℕ) (x : Whole m s a w) (enough : K ≤ U a w + E a w)
          (narrower : (c v : ℕ) → v < w → Whole m s c v → K ≤ U c v + E c v → FirstAt ⊎ StartAt) where
        live : K ≤ U a w + D a w
        live = omega (
          arith,
          enough,
          narrower_le good.most (rest_lines good rs i l) (all-repeated qs (ls good rs)) q s line (inside-placed good rs i l) a w x t h,
        )

        -- a tip of the line takes the others
        less : (c : ℕ) → T (has s c) → choose2 (inside rest a w c) ≡ choose2 (inside placed a w c - q)
        less c g = let e : inside rest a w c ≡ inside placed a w c - q = omega (arith, own_count a w c x g) in ap choose2 e

        module _ (j : ℕ) (g : j < w) (ok : T (named sets (a + j))) (e : split E all a w j ≡ E a w) where
          on_past : high s < a + j → FirstAt ⊎ StartAt
          on_past p =
              let y : Whole m s a j = record { from = x.from; to = p; ends = omega (arith, x.ends) } in
              narrower a j g y (omega (
                arith,
                enough,
                after a w j g x.ends (omega (arith, to_high)),
                past_count a w (a + j) p,
                Out_open always m D placed a j y.ends tt,
                around-before m U D placed a w j g x.ends,
              ))

          on_early : a + j < low s → FirstAt ⊎ StartAt
          on_early p =
              let c = a + j + 1 in
              let v = w - (j + 1) in
              let y : Whole m s c v = record { from = omega arith; to = omega (arith, x.to); ends = omega (arith, x.ends) } in
              narrower c v (omega arith) y (omega (
                arith,
                enough,
                early a w j g x.ends (omega (arith, from_low)),
                early_count a w (a + j) p,
                Out_open always m D placed c v y.ends tt,
                around-behind m U D placed a w j g x.ends,
              ))

          start_past : T (has s (a + j)) → t < a + j → StartAt
          start_past own p = (
            a,
            w,
            j,
            record {
              whole = x;
              tip = g;
              own = own;
              live = live;
              beside = inl (
                p,
                omega (
                  arith,
                  enough,
                  after a w j g x.ends p,
                  less (a + j) own,
                  more a j (omega (arith, x.from, from_low)) p (omega (arith, x.ends)),
                ),
              );
            },
          )

          start_early : T (has s (a + j)) → a + j < t → StartAt
          start_early own p = (
            a,
            w,
            j,
            record {
              whole = x;
              tip = g;
              own = own;
              live = live;
              beside = inr (
                p,
                omega (
                  arith,
                  enough,
                  early a w j g x.ends p,
                  less (a + j) own,
                  more (a + j + 1) (w - (j + 1)) (omega arith) (omega (arith, x.to, to_high)) (omega (arith, x.ends)),
                ),
              );
            },
          )

          found : a + j ≡ t → FirstAt
          found z = (a, w, j, x, g, z, omega (arith, enough, same_split a w j g x.ends x z))

          split_step : FirstAt ⊎ StartAt
          split_step = ⊎_elim
              (λ p. ⊎_elim
              (λ r. ⊎_elim (λ u. ⊎_elim (λ z. inl (found (omega arith))) (λ z. inr (start_early (line.run (a + j) ok p r) z)) (le_or_lt t (a + j)))
              (λ u. inr (start_past (line.run (a + j) ok p r) u)) (le_or_lt (a + j) t))
              on_past (le_or_lt (a + j) (high s)))
              on_early
              (le_or_lt (low s) (a + j))

        chain_down : FirstAt ⊎ StartAt
        chain_down = ⊎_elim
            (λ (g, ok, e). split_step ((reached good rs i l t h).pick a w) g ok e)
            (λ (f, z). absurd (f t (omega (arith, x.from, from_low)) (omega (arith, x.to, to_high)) (own_tip good rs i l t h)))
            ((reached good rs i l t h).picks.attains a w x.ends)

      chain_ge : (k a w : ℕ) → w < k → Whole m s a w → K ≤ U a w + E a w → FirstAt ⊎ StartAt
      chain_ge zero a w n x e = absurd (omega arith)
      chain_ge (suc k) a w n x e = chain_down a w x e (λ c v y. chain_ge k c v (omega arith))

      -- THE STARTS: where some plan has K pairs with the line on t, a whole interval has them by a split at t, or leaves the line
      pub first_or_start : K ≤ reach m rest q t → FirstAt ⊎ StartAt
      first_or_start k = chain_ge (suc m) 0 m (omega arith) rack (omega arith)
        where
          rack : Whole m s 0 m
          rack = record { from = omega arith; to = omega (arith, high-below good.most line.domain); ends = omega arith }
