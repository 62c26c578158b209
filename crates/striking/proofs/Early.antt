-- The tips of a line that are known by the sums and the two tables of all lines: what is found in the intervals that have the line whole.
use Prim.Native.Nat.{ℕ, ◌+◌, ◌-◌, ◌≤◌, ◌<◌}
use native.Mathlib.Omega.{arith}
use mathlib.Core.Path.{◌≡◌, refl}
use mathlib.Core.Logic.{◌↔◌, ⊎_elim}
use mathlib.Core.Bool.{false, ◌&&◌}
use mathlib.Core.List.{List}
use lib.Bits.{bit_or}
use lib.ListN.{length, get_or, set, length-set}
use lib.Seq.{get_or-set_same, get_or-set_other}
use lib.Dec.{T, leb, ltb, leb→le, le→leb, ltb→lt, lt→ltb}
use Rattle.model.specs.Limits.{most_tips}
use Rattle.model.specs.Plan.{has, Domain}
use Rattle.model.specs.Interval.{low, high}
use Rattle.model.proofs.Tests.{le_or_lt, test, true_T, false_T, and_left, and_right, and_in}
use Rattle.model.proofs.Run.{low_le, le_high}
use Rattle.model.proofs.Sets.{empty_has, has-set_of, or_left, or_right}
use Rattle.ranks.proofs.Joined.{or_out}
use Rattle.goal_rules.specs.Check.{entry}
use Rattle.goal_rules.specs.Tables.{Whole}
use Rattle.intervals.specs.Splits.{split_by}
use Rattle.striking.specs.Striking.{ends_by, tips_by}
use Rattle.striking.specs.Early.{live_by, Widest, firsts_by, Finds, Found, starts_by, leaves_by}
use Rattle.striking.proofs.Kept.{and_none}

-- a tip of the line is in each interval that has the line whole
pub tip_in : {m s : ℕ} → m ≤ most_tips → Domain m s → {a w : ℕ} (c : ℕ) → Whole m s a w → T (has s c) → (a ≤ c) × (c < a + w)
tip_in {s = s} narrow d c x h = (omega (arith, x.from, low_le s c h), omega (arith, x.to, le_high narrow d c h))

-- ---- what an interval finds

module _ (m : ℕ) (xs inner upper : List ℕ) (q s K a w t : ℕ) where
  abbrev value : ℕ
  value = entry m upper a w + split_by m xs inner q a w (t - a)

  abbrev tips : ℕ
  tips = tips_by m xs inner q s K (entry m upper a w) a w

  -- a tip that is found is one of the line, in the interval, and has the goal's pairs
  pub firsts-out : T (has (firsts_by m xs inner upper q s K a w) t) → T (has s t) × (a ≤ t) × (t < a + w) × (K ≤ value)
  unfolding firsts_by ends_by
  firsts-out h = ⊎_elim
      (λ o. out (rw (true_T (live_by m inner upper K a w) o) at h))
      (λ n. absurd (rw (false_T (live_by m inner upper K a w) n, empty_has 0 t tt) at h))
      (test (live_by m inner upper K a w))
    where
      out : T (has tips t) → T (has s t) × (a ≤ t) × (t < a + w) × (K ≤ value)
      out g =
          let e = leb K value in
          let x = rw (has-set_of (ends_by m xs inner q s K (entry m upper a w) a w) (a + w) t) at g in
          let y = and_right (ltb t (a + w)) (leb a t && (has s t && e)) x in
          let z = and_right (leb a t) (has s t && e) y in
          let from = leb→le a t (and_left (leb a t) (has s t && e) y) in
          let to = ltb→lt t (a + w) (and_left (ltb t (a + w)) (leb a t && (has s t && e)) x) in
          (and_left (has s t) e z, from, to, leb→le K value (and_right (has s t) e z))

  -- and each such tip is found where the interval is live
  pub firsts-in : T (live_by m inner upper K a w) → T (has s t) → a ≤ t → t < a + w → K ≤ value
      → T (has (firsts_by m xs inner upper q s K a w) t)
  unfolding firsts_by ends_by
  firsts-in o h p r k =
      let e = leb K value in
      rw (true_T (live_by m inner upper K a w) o, has-set_of (ends_by m xs inner q s K (entry m upper a w) a w) (a + w) t) (
      and_in (ltb t (a + w)) (leb a t && (has s t && e)) (lt→ltb t (a + w) r)
      (and_in (leb a t) (has s t && e) (le→leb a t p) (and_in (has s t) e h (le→leb K value k))))

  -- where it is not live, none is
  pub firsts-none : live_by m inner upper K a w ≡ false → T (has (firsts_by m xs inner upper q s K a w) t) → ⊥
  unfolding firsts_by
  firsts-none e h = rw (e, empty_has 0 t tt) at h

-- ---- no tip leaves the line where none from its lowest tip to its highest does

module _ (m : ℕ) (xs inner upper : List ℕ) {s : ℕ} (q f g K a w : ℕ) where
  pub leaves_none : m ≤ most_tips → Domain m s
      → ((c : ℕ) → low s ≤ c → c < high s + 1 → starts_by m xs inner upper q s f g K a w c ≡ false)
      → (c : ℕ) → leaves_by m xs inner upper q s f g K a w c ≡ false
  unfolding leaves_by starts_by
  leaves_none narrow d none c = rw starts (and_none (live_by m inner upper K a w))
    where
      starts : starts_by m xs inner upper q s f g K a w c ≡ false
      starts = ⊎_elim
          (λ h. none c (low_le s c h) (omega (arith, le_high narrow d c h)))
          (λ n. rw (false_T (has s c) n) refl)
          (test (has s c))

-- nor where the interval is not live
pub leaves-none : (m : ℕ) (xs inner upper : List ℕ) (q s f g K a w c : ℕ) → live_by m inner upper K a w ≡ false
    → leaves_by m xs inner upper q s f g K a w c ≡ false
unfolding leaves_by
leaves-none m xs inner upper q s f g K a w c e = rw e refl

-- ---- the widest live intervals so far

-- at first
pub widest_none : {m : ℕ} {inner upper : List ℕ} {K : ℕ} {widest : List ℕ} → length widest ≡ m → Widest m inner upper K widest 0
widest_none e = record { room = e; inside = λ a h. absurd (omega arith); past = λ a w h g k. absurd (omega arith) }

-- of one first tip more
pub widest_more : {m : ℕ} {inner upper : List ℕ} {K : ℕ} {widest : List ℕ} {a : ℕ} → Widest m inner upper K widest a → a < m → (v : ℕ) → a + v ≤ m
    → ((w : ℕ) → a + w ≤ m → v < w → live_by m inner upper K a w ≡ false) → Widest m inner upper K (set widest a v) (a + 1)
widest_more {m} {inner} {upper} {K} {widest} {a} o l v p none = record {
  room = rw length-set o.room;
  inside = λ b h. ⊎_elim
      (λ g. let e : b ≡ a = omega arith in rw (e, here) p)
      (λ g. rw (other b g) (o.inside b g))
      (le_or_lt a b);
  past = λ b w h g k. ⊎_elim
      (λ x. let e : b ≡ a = omega arith in dead b w e g k)
      (λ x. o.past b w x g (rw (other b x) at k))
      (le_or_lt a b);
}
  where
    here : get_or (set widest a v) a 0 ≡ v
    here = get_or-set_same widest a v 0 (omega (arith, o.room))

    other : (b : ℕ) → b < a → get_or (set widest a v) b 0 ≡ get_or widest b 0
    other b g = get_or-set_other widest a b v 0 (λ e. omega (arith, e))

    dead : (b w : ℕ) → b ≡ a → b + w ≤ m → get_or (set widest a v) b 0 < w → live_by m inner upper K b w ≡ false
    dead b w e g k = rw e (none w (rw e at g) (rw (e, here) at k))

-- ---- the tips found so far

module _ {m s : ℕ} {f : ℕ → ℕ → ℕ} where
  -- at first
  pub found_none : Found m s f 0 0 0
  found_none = record {
    right = λ t h. absurd (rw (empty_has 0 t tt) at h);
    rows = λ b v t l x h. absurd (omega arith);
    row = λ v t l x h. absurd (omega arith);
  }

  -- a row begins: no narrower interval has the line whole
  pub found_begin : {known a w : ℕ} → a + w ≤ high s + 1 → Found m s f known a 0 → Found m s f known a w
  found_begin e o = record { right = o.right; rows = o.rows; row = λ v t l x h. absurd (omega (arith, x.to)) }

  -- one interval more
  pub found-more : {known a w r : ℕ} → Whole m s a w → r ≡ f a w → Found m s f known a w → Found m s f (bit_or known r) a (w + 1)
  found-more {known} {a} {w} {r} x e o = record {
    right = λ t h. ⊎_elim (o.right t) (λ g. (a, w, x, rw e at g)) (or_out known r t h);
    rows = λ b v t l y h. or_left known r t (o.rows b v t l y h);
    row = λ v t l y h. ⊎_elim
        (λ p. let z : v ≡ w = omega arith in or_right known r t (same v t z h))
        (λ p. or_left known r t (o.row v t p y h))
        (le_or_lt w v);
  }
    where
      same : (v t : ℕ) → v ≡ w → T (has (f a v) t) → T (has r t)
      same v t z h = rw e (rw z at h)

  -- a whole row: no wider interval finds a tip
  pub found_past : {known a w : ℕ} → ((v t : ℕ) → w ≤ v → Whole m s a v → T (has (f a v) t) → ⊥) → Found m s f known a w
      → Found m s f known (a + 1) 0
  found_past {known} {a} {w} none o = record {
    right = o.right;
    rows = λ b v t l y h. ⊎_elim
        (λ p. let z : b ≡ a = omega arith in same b v t z y h)
        (λ p. o.rows b v t p y h)
        (le_or_lt a b);
    row = λ v t l y h. absurd (omega arith);
  }
    where
      same : (b v t : ℕ) → b ≡ a → Whole m s b v → T (has (f b v) t) → T (has known t)
      same b v t z y h =
          let x : Whole m s a v = rw z at y in
          let g : T (has (f a v) t) = rw z at h in
          ⊎_elim (λ p. absurd (none v t p x g)) (λ p. o.row v t p x g) (le_or_lt w v)

  -- all tips of the line are known
  pub found_all : {known a w : ℕ} → known ≡ s → ((b v t : ℕ) → T (has (f b v) t) → T (has s t)) → Found m s f known a w → Found m s f known (a + 1) 0
  found_all e own o = record {
    right = o.right;
    rows = λ b v t l y h. rw e (own b v t h);
    row = λ v t l y h. absurd (omega arith);
  }

  -- THE TIPS FOUND, once no first tip is left
  pub found-last : {known a : ℕ} → low s < a → Found m s f known a 0 → (t : ℕ) → T (has known t) ↔ Finds m s f t
  found-last g o t = (o.right t, λ (a, w, x, h). o.rows a w t (omega (arith, x.from)) x h)
