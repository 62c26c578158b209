-- The tips that stay, by the sums of the other lines and the two tables of all lines, are the goal's tips.
use Prim.Native.Nat.{ℕ, zero, suc, ◌+◌, ◌*◌, ◌-◌, ◌^◌, ◌≤◌, ◌<◌, min, max}
use native.Mathlib.Omega.{arith}
use native.Mathlib.Nat.{mul-le-mul_left}
use native.Mathlib.Numerals.{add-one}
use mathlib.Core.Path.{◌≡◌, refl, ap, sym, ◌∙◌}
use mathlib.Core.Logic.{◌↔◌, ⊎_elim}
use mathlib.Core.Bool.{Bool, true, false, cond, ◌&&◌}
use mathlib.Core.List.{List}
use lib.Dec.{T, leb, ltb, leb→le, le→leb, lt→ltb}
use lib.ListN.{length, get_or, take}
use lib.Seq.{get_or-take}
use borrow.Author.Tests.{lt-ltb, le-ltb}
use lib.Bits.{bit_or, or_block, or_zero_l, or_zero_r}
use lib.Pow.{pow_pos}
use Rattle.model.specs.Limits.{most_tips}
use Rattle.model.specs.Count.{list_of}
use Rattle.model.specs.Plan.{has, choose2, Domain}
use Rattle.model.specs.CommonTip.{set_of}
use Rattle.model.specs.Interval.{low, high, inside, C}
use Rattle.model.proofs.Tests.{le_or_lt, true_T, false_not, and_in}
use Rattle.model.proofs.Lists.{all-at}
use Rattle.model.proofs.Run.{low_le, le_high, high-below}
use Rattle.model.proofs.ListOf.{list_of-at}
use Rattle.model.proofs.Sets.{set_of_lt, set_of-none, set_of_cong}
use Rattle.placements.specs.Repeated.{repeated}
use Rattle.goal_rules.specs.Goal.{others, goal_tips, strike}
use Rattle.refusal.specs.Refusal.{refuse}
use Rattle.goal_rules.specs.Tables.{Ends}
use Rattle.goal_rules.proofs.Strike.{fewer, tips-by_tables}
use Rattle.ranks.specs.Runs.{FullRuns}
use Rattle.ranks.proofs.Runs.{full-named, full-lines}
use Rattle.spans.specs.Spans.{RunSums}
use Rattle.intervals.specs.Splits.{InsideAll}
use Rattle.intervals.specs.Outer.{OutsideAll}
use Rattle.striking.specs.Striking.{goal_refusal, struck_by, limit_by, open_by, ends_by, Known}
use Rattle.intervals.proofs.Read.{inside_meeting}
use Rattle.intervals.proofs.Outer.{Out_few}

-- THE KEPT SET of line i: the tips at which some chain ends with the goal's pairs, by the two tables of all lines
module _ {m : ℕ} {qs sets : List ℕ} (r : FullRuns m qs sets) (i : ℕ) (l : i < length sets) {all xs inner upper : List ℕ}
    (ks : RunSums m 0 (repeated qs sets) all) (k : RunSums m (get_or qs i 0) (others qs sets i) xs)
    (x : InsideAll m (repeated qs sets) inner) (o : OutsideAll m (repeated qs sets) upper) where
  -- what is known of the tables
  pub known : Known m (get_or qs i 0) (repeated qs sets) (others qs sets i) xs inner upper
  known = record { others = k; inside = x; outside = o; fewer = fewer r.good (full-named r) i l; few = Out_few ks }

  -- where enough pairs can be had for a tip of the set asked an interval is followed
  opens : (asked : ℕ) → Domain m asked → (K t : ℕ) → T (has asked t) → (a w outside : ℕ) → T (has (get_or sets i 0) t) → a ≤ t → t < a + w
      → a + w ≤ m → K ≤ outside + (C (repeated qs sets) a w + (get_or qs i 0 * inside (others qs sets i) a w t + choose2 (get_or qs i 0)))
      → T (open_by m xs inner (get_or qs i 0) asked K a w outside)
  unfolding open_by limit_by
  opens asked d K t u a w outside h p e b n =
      let line = all-at 0 (full-lines r) i l in
      let enough = leb K (limit_by m xs inner (get_or qs i 0) asked outside a w) in
      let top = le_high r.good.most d t u in
      and_in (leb a (high asked)) (ltb (low asked) (a + w) && enough)
      (le→leb a (high asked) (omega (arith, top)))
      (and_in (ltb (low asked) (a + w)) enough (lt→ltb (low asked) (a + w) (omega (arith, low_le asked t u))) (le→leb K _ (omega (
        arith,
        x.entries a w b,
        mul-le-mul_left (get_or qs i 0) (inside_meeting k (low asked) (high asked) a w t b p e (low_le asked t u) top
            (high-below r.good.most d)),
      ))))

  -- of the tips asked for
  pub kept_iff : (asked : ℕ) → Domain m asked → (K kept : ℕ)
      → ((t : ℕ) → T (has kept t) ↔ (T (has asked t)
      × Ends (open_by m xs inner (get_or qs i 0) asked K) m (C (repeated qs sets)) (others qs sets i) (get_or qs i 0) K t))
      → (t : ℕ) → T (has asked t) → T (has (get_or sets i 0) t) → T (has kept t) ↔ T (has (goal_tips m qs sets K i) t)
  kept_iff asked d K kept f t u h =
      let g = tips-by_tables r.good (full-named r) i l K (open_by m xs inner (get_or qs i 0) asked K) t (opens asked d K t u) in
      (λ y. g.1 (h, ((f t).0 y).1), λ y. (f t).1 (u, (g.0 y).1))

-- the kept set of a line before i
pub struck-before : (f : ℕ → ℕ) (xs : List ℕ) (i j : ℕ) → j < i → take i xs ≡ list_of f i → get_or xs j 0 ≡ f j
struck-before f xs i j l e = sym (get_or-take i xs j 0 l) ∙ ap (λ ys. get_or ys j 0) e ∙ list_of-at f i j l

-- the goal is missed, and nothing is struck; or it is met
module _ (m : ℕ) (qs sets : List ℕ) (K : ℕ) (old : List ℕ) where
  pub goal_missed : C (repeated qs sets) 0 m < K → (refuse 34 ≡ goal_refusal m qs sets K) × (old ≡ struck_by m qs sets K old)
  unfolding struck_by goal_refusal
  goal_missed h = rw (lt-ltb (C (repeated qs sets) 0 m) K h) (refl, refl)

  pub goal-met : K ≤ C (repeated qs sets) 0 m → (refuse 0 ≡ goal_refusal m qs sets K) × (strike m qs sets K ≡ struck_by m qs sets K old)
  unfolding struck_by goal_refusal
  goal-met h = rw (le-ltb (C (repeated qs sets) 0 m) K h) (refl, refl)

  -- as the number says
  pub met-by : (goal_refusal m qs sets K).number ≡ 0 → K ≤ C (repeated qs sets) 0 m
  met-by z = ⊎_elim (λ h. h) (λ h. absurd (omega (arith, z, ap (λ r. r.number) (goal_missed h).0))) (le_or_lt K (C (repeated qs sets) 0 m))

  pub missed-by : ((goal_refusal m qs sets K).number ≡ 0 → ⊥) → C (repeated qs sets) 0 m < K
  missed-by n = ⊎_elim (λ h. absurd (n (sym (ap (λ r. r.number) (goal-met h).0)))) (λ h. h) (le_or_lt K (C (repeated qs sets) 0 m))

-- ---- the set of the tips that stay, bit by bit

pub le-leb : (x y : ℕ) → x ≤ y → leb x y ≡ true
le-leb x y h = true_T (leb x y) (le→leb x y h)

pub lt-leb : (x y : ℕ) → y < x → leb x y ≡ false
lt-leb x y h = false_not (leb x y) (λ t. omega (arith, leb→le x y t))

-- the bit of tip t joined to a set of tips below t is added
bit_joined : (f : ℕ → Bool) (t : ℕ) → bit_or (set_of f t) (2 ^ t) ≡ set_of f t + 2 ^ t
bit_joined f t =
    let s = set_of f t in
    let none : 0 * 2 ^ t + s ≡ s = omega arith in
    let one : 1 * 2 ^ t + 0 ≡ 2 ^ t = omega arith in
    let both = or_block t 0 1 s 0 (set_of_lt f t) (pow_pos t) in
    omega (arith, rw (none, one, or_zero_l 1, or_zero_r s) at both)

pub bits_more : (f : ℕ → Bool) (t : ℕ) → set_of f (t + 1) ≡ set_of f t + cond (f t) (2 ^ t) 0
unfolding set_of
bits_more f t = rw add-one

pub bit_kept : (f : ℕ → Bool) (t : ℕ) → f t ≡ true → bit_or (set_of f t) (2 ^ t) ≡ set_of f (t + 1)
bit_kept f t e = bit_joined f t ∙ sym (bits_more f t ∙ rw e)

pub bit_left : (f : ℕ → Bool) (t : ℕ) → f t ≡ false → set_of f t ≡ set_of f (t + 1)
bit_left f t e = sym (bits_more f t ∙ rw e (omega arith))

pub and_none : (b : Bool) → (b && false) ≡ false
and_none true = refl
and_none false = refl

-- tests that fail from x on add nothing
bits_past : (f : ℕ → Bool) (x n : ℕ) → ((u : ℕ) → x ≤ u → u < x + n → f u ≡ false) → set_of f (x + n) ≡ set_of f x
bits_past f x zero h = let e : x + 0 ≡ x = omega arith in rw e refl
bits_past f x (suc n) h =
    let e : x + suc n ≡ x + n + 1 = omega arith in
    rw (e, bits_more f (x + n), h (x + n) (omega arith) (omega arith)) (omega (arith, bits_past f x n (λ u p l. h u p (omega arith))))

-- no tip before the interval or the lowest of the set, and none after its highest
module _ (m : ℕ) (xs inner : List ℕ) (q s K outside a w : ℕ) where
  abbrev ends : ℕ → Bool
  ends = ends_by m xs inner q s K outside a w

  none_before : (t : ℕ) → t < max a (low s) → ends t ≡ false
  unfolding ends_by
  none_before t l = ⊎_elim
      (λ p. rw (le-leb a t p, false_not (has s t) (λ o. omega (arith, low_le s t o))) refl)
      (λ p. rw (lt-leb a t p) refl)
      (le_or_lt a t)

  pub tips-before : (x : ℕ) → x ≤ max a (low s) → set_of ends x ≡ 0
  tips-before x h = set_of_cong ends (λ t. false) x (λ t l. none_before t (omega arith)) ∙ set_of-none x

  none_after : m ≤ most_tips → Domain m s → (t : ℕ) → high s < t → ends t ≡ false
  unfolding ends_by
  none_after narrow d t p = rw (false_not (has s t) (λ o. omega (arith, le_high narrow d t o))) (and_none (leb a t))

  pub tips-after : m ≤ most_tips → Domain m s → (x : ℕ) → x ≡ min (a + w) (high s + 1) → set_of ends x ≡ set_of ends (a + w)
  tips-after narrow d x e =
      let n : x + (a + w - x) ≡ a + w = omega arith in
      sym (rw n at (bits_past ends x (a + w - x) (λ t p l. none_after narrow d t (omega arith))))
