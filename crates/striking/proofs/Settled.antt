-- Where the sums and the two tables of all lines settle a line: what is found is kept, and where no interval leaves the line no other tip is.
use Prim.Native.Nat.{ℕ, ◌+◌, ◌*◌, ◌-◌, ◌/◌, ◌%◌, ◌^◌, ◌≤◌, ◌<◌, max}
use native.Mathlib.Omega.{arith}
use native.Mathlib.Nat.{mul-le-mul_left}
use mathlib.Core.Path.{◌≡◌, refl, ap, ◌∙◌}
use mathlib.Core.Logic.{◌↔◌, ⊎_elim}
use mathlib.Core.Bool.{false, not, ◌&&◌}
use mathlib.Core.List.{List}
use lib.Bits.{bit_or, bit_xor, xor_lt, xor_shr, xor_add_and}
use lib.Dec.{T, T_not, leb, le→leb, ltb→lt}
use lib.ListN.{length, get_or}
use borrow.Author.Tests.{lt-ltb}
use Rattle.model.specs.Plan.{has, choose2, in_rack, Domain}
use Rattle.model.specs.Interval.{any, low, high, Line, inside, split, C}
use Rattle.model.proofs.Tests.{le_or_lt, test, and_in, same_test}
use Rattle.model.proofs.Lists.{all-at}
use Rattle.model.proofs.Largest.{largest_ge}
use Rattle.model.proofs.Best.{C-split}
use Rattle.model.proofs.Sets.{has-digit, digit-has, empty_has, has-below, in_rack_iff, or_left, or_right, set_same}
use Rattle.model.proofs.Run.{low_le, le_high, high-below}
use Rattle.placements.specs.Repeated.{repeated}
use Rattle.spans.specs.Spans.{inside_by}
use Rattle.ranks.proofs.Joined.{or_out}
use Rattle.goal_rules.specs.Check.{entry}
use Rattle.goal_rules.specs.Goal.{goal_tips}
use Rattle.goal_rules.specs.Tables.{Out, always, Whole, First, Start, parted}
use Rattle.goal_rules.proofs.Starts.{tips-reach, own_count, first_reaches, first_or_start}
use Rattle.ranks.specs.Runs.{FullRuns}
use Rattle.ranks.proofs.Runs.{full-named, full-lines}
use Rattle.spans.specs.Spans.{RunSums}
use Rattle.spans.proofs.Read.{inside_is}
use Rattle.intervals.specs.Splits.{meeting_by, split_by, InsideAll}
use Rattle.intervals.specs.Outer.{OutsideAll}
use Rattle.striking.specs.Early.{live_by, firsts_by, Finds, before_most, behind_most, parted_by, starts_by, leaves_by, Leaving}
use Rattle.intervals.proofs.Read.{meets, inside_meeting, split_same}
use Rattle.striking.proofs.Others.{rest-sums}
use Rattle.striking.proofs.Early.{tip_in, firsts-out, firsts-in}

-- ---- the tips of a line that are not known

module _ (a b t : ℕ) where
  xor_digit : bit_xor a b / 2 ^ t % 2 ≡ (a / 2 ^ t % 2 + b / 2 ^ t % 2) % 2
  xor_digit = ap (λ x. x % 2) (xor_shr a b t) ∙ omega (arith, xor_add_and (a / 2 ^ t) (b / 2 ^ t))

  pub xor_in : T (has a t) → T (not (has b t)) → T (has (bit_xor a b) t)
  xor_in h n =
      let z : b / 2 ^ t % 2 ≤ 0 =
      ⊎_elim (λ e. e) (λ e. absurd (T_not (has b t) n (digit-has b t (omega arith)))) (le_or_lt (b / 2 ^ t % 2) 0) in
      digit-has (bit_xor a b) t (omega (arith, xor_digit, has-digit a t h, z))

  pub xor_out : (T (has b t) → T (has a t)) → T (has (bit_xor a b) t) → T (has a t)
  xor_out f h = ⊎_elim f
      (λ n. ⊎_elim
      (λ e. absurd (T_not (has b t) n (digit-has b t (omega (arith, xor_digit, has-digit (bit_xor a b) t h, e)))))
      (λ e. digit-has a t (omega arith))
      (le_or_lt (a / 2 ^ t % 2) 0))
      (test (has b t))

-- of a set some tips are known and others are left
pub left_domain : {m s known : ℕ} → Domain m s → ((t : ℕ) → T (has known t) → T (has s t)) → (known ≡ s → ⊥) → Domain m (bit_xor s known)
unfolding in_rack
left_domain {m} {s} {known} d own differs = record { some = omega (arith, none); below = xor_lt m s known d.below below }
  where
    below : known < 2 ^ m
    below = ltb→lt known (2 ^ m) ((in_rack_iff m known).1 (λ t h. has-below m s t d.below (own t h)))

    none : bit_xor s known ≡ 0 → ⊥
    none e = differs (set_same known s (λ t. same_test (has known t) (has s t) (own t) (λ h. ⊎_elim (λ y. y)
        (λ n. absurd (rw (e, empty_has 0 t tt) at (xor_in s known t h n)))
        (test (has known t)))))

module _ {m : ℕ} {qs sets : List ℕ} (r : FullRuns m qs sets) (i : ℕ) (l : i < length sets) {xs inner upper : List ℕ}
    (ks : RunSums m 0 (repeated qs sets) xs) (x : InsideAll m (repeated qs sets) inner) (o : OutsideAll m (repeated qs sets) upper) where
  abbrev s : ℕ
  s = get_or sets i 0

  abbrev q : ℕ
  q = get_or qs i 0

  abbrev placed : List ℕ
  placed = repeated qs sets

  abbrev D : ℕ → ℕ → ℕ
  D = C placed

  abbrev U : ℕ → ℕ → ℕ
  U = Out always m D placed

  line : Line any m s
  line = all-at 0 (full-lines r) i l

  count-is : (a w c : ℕ) → a + w ≤ m → a ≤ c → c < a + w → T (has s c) → inside_by m xs a w c ≡ inside placed a w c
  count-is a w c e p g h = inside_is ks a w c e p g

  split_is : (a w j : ℕ) → j < w → a + w ≤ m → split_by m xs inner 0 a w j ≡ split D placed a w j
  split_is a w j g b = split_same ks x a w j b g

  live_in : (K a w : ℕ) → 0 < w → a + w ≤ m → K ≤ U a w + D a w → T (live_by m inner upper K a w)
  unfolding live_by
  live_in K a w p b k = le→leb K _ (omega (arith, o.wider a w p b, x.entries a w b))

  -- the sums of what the line leaves at a tip
  pub leaving : {f g : ℕ} → g < m → Leaving m q s f g xs
  leaving {f} {g} top = record {
    own = omega (arith, (rest-sums r i l ks.summed refl).few);
    covers = λ a w c y h.
        let (p, e) = tip_in ks.good.most line.domain c y h in
        omega (arith, count-is a w c y.ends p e h, own_count r.good (full-named r) i l a w c y h);
    before = λ a w c y h n.
        let (p, e) = tip_in ks.good.most line.domain c y h in
        let b = y.ends in
        meets ks f (c - 1) a (c - a) (omega arith) (omega arith) (omega arith) (omega arith) (omega arith);
    behind = λ a w c y h n.
        let (p, e) = tip_in ks.good.most line.domain c y h in
        let b = y.ends in
        meets ks (c + 1) g (c + 1) (a + w - (c + 1)) (omega arith) (omega arith) top (omega arith) (omega arith);
  }

  module _ (K : ℕ) where
    abbrev found : ℕ → ℕ → ℕ
    found = firsts_by m xs inner upper 0 s K

    -- what is found is kept
    finds_kept : (t : ℕ) → Finds m s found t → T (has (goal_tips m qs sets K i) t)
    finds_kept t (a, w, y, h) =
        let (own, p, g, k) = firsts-out m xs inner upper 0 s K a w t h in
        let b = y.ends in
        let enough : K ≤ U a w + split D placed a w (t - a) =
        omega (arith, k, split_is a w (t - a) (omega arith) b, o.wider a w (omega arith) b) in
        (tips-reach r.good (full-named r) i l K t).1
        (own, first_reaches r.good (full-named r) i l t own K (a, w, t - a, y, omega arith, omega arith, enough))

    first_finds : (t : ℕ) → T (has s t) → First m s U D placed K t → Finds m s found t
    first_finds t h (a, w, j, y, g, e, k) =
        let n : t - a ≡ j = omega arith in
        let most : split D placed a w j ≤ D a w = rw (C-split placed a w) (largest_ge (split D placed a w) w j g) in
        let live = live_in K a w (omega arith) y.ends (omega (arith, k, most)) in
        let enough : K ≤ entry m upper a w + split_by m xs inner 0 a w (t - a) =
        rw n (omega (arith, k, split_is a w j g y.ends, o.wider a w (omega arith) y.ends)) in
        (a, w, y, firsts-in m xs inner upper 0 s K a w t live h (omega arith) (omega arith) enough)

    -- a start is seen for each open tip
    module _ {open-tips : ℕ} (d : Domain m open-tips) (t : ℕ) (h : T (has s t)) (asked : T (has open-tips t)) (a w j : ℕ)
        (z : Start m s q U D placed K t a w j) where
      abbrev f : ℕ
      f = low open-tips

      abbrev g : ℕ
      g = high open-tips

      abbrev c : ℕ
      c = a + j

      abbrev most : ℕ
      most = max (before_most m xs f a c) (behind_most m xs g a w c)

      inside-before : t < c → inside placed a j t ≤ most
      unfolding before_most
      inside-before p =
          let n : a + j - a ≡ j = omega arith in
          let e = tip_in ks.good.most line.domain c z.whole z.own in
          let y = tip_in ks.good.most line.domain t z.whole h in
          let b = z.whole.ends in
          let lowest = low_le open-tips t asked in
          let meet : inside placed a j t ≤ meeting_by m xs f (c - 1) a j =
          inside_meeting ks f (c - 1) a j t (omega arith) y.0 p lowest (omega arith) (omega arith) in
          rw (lt-ltb f c (omega arith), n) (omega (arith, meet))

      inside-behind : c < t → inside placed (c + 1) (w - (j + 1)) t ≤ most
      unfolding behind_most
      inside-behind p =
          let n : a + w - (a + j + 1) ≡ w - (j + 1) = omega (arith, z.tip) in
          let y = tip_in ks.good.most line.domain t z.whole h in
          let b = z.whole.ends in
          let highest = le_high ks.good.most d t asked in
          let top = high-below ks.good.most d in
          let meet : inside placed (c + 1) (w - (j + 1)) t ≤ meeting_by m xs (c + 1) g (c + 1) (w - (j + 1)) =
          inside_meeting ks (c + 1) g (c + 1) (w - (j + 1)) t (omega (arith, z.tip)) (omega arith) (omega (arith, z.tip)) (omega arith)
          highest top in
          rw (lt-ltb c g (omega arith), n) (omega (arith, meet))

      parted_is : (n : ℕ) → n ≤ most → parted D placed q a w j n ≤ parted_by m xs inner q a w c (q * most)
      unfolding parted_by
      parted_is n p =
          let e = tip_in ks.good.most line.domain c z.whole z.own in
          let b = z.whole.ends in
          let first : a + j - a ≡ j = omega arith in
          let last : a + w - (a + j + 1) ≡ w - (j + 1) = omega (arith, z.tip) in
          rw (first, last) (omega (
            arith,
            ap (λ k. choose2 (k - q)) (count-is a w c b e.0 e.1 z.own),
            x.entries a j (omega (arith, z.tip)),
            x.entries (a + j + 1) (w - (j + 1)) (omega (arith, z.tip)),
            mul-le-mul_left q p,
          ))

      start_seen : T (leaves_by m xs inner upper q s f g K a w c)
      unfolding leaves_by starts_by
      start_seen =
          let b = z.whole.ends in
          let value = entry m upper a w + parted_by m xs inner q a w c (q * most) in
          let out = o.wider a w (omega (arith, z.tip)) b in
          let enough : K ≤ value = ⊎_elim
          (λ (p, k). omega (arith, out, k, parted_is (inside placed a j t) (inside-before p)))
          (λ (p, k). omega (arith, out, k, parted_is (inside placed (c + 1) (w - (j + 1)) t) (inside-behind p)))
          z.beside in
          and_in (live_by m inner upper K a w) (has s c && leb K value) (live_in K a w (omega (arith, z.tip)) b z.live)
          (and_in (has s c) (leb K value) z.own (le→leb K value enough))

    module _ (known : ℕ) (exact : (t : ℕ) → T (has known t) ↔ Finds m s found t) where
      -- a tip that is found is one of the line
      known_own : (t : ℕ) → T (has known t) → T (has s t)
      known_own t h = let (a, w, y, g) = (exact t).0 h in (firsts-out m xs inner upper 0 s K a w t g).0

      -- the tips that are not known are in the rack
      pub asked_domain : (bit_xor s known ≡ 0 → ⊥) → Domain m (bit_xor s known)
      unfolding in_rack
      asked_domain n =
          let own : (t : ℕ) → T (has known t) → t < m = λ t h. has-below m s t line.domain.below (known_own t h) in
          let below = ltb→lt known (2 ^ m) ((in_rack_iff m known).1 own) in
          record { some = omega (arith, n); below = xor_lt m s known line.domain.below below }

      -- every tip of the line is found
      pub settled_all : bit_xor s known ≡ 0 → known ≡ goal_tips m qs sets K i
      settled_all e = set_same known (goal_tips m qs sets K i) (λ t. same_test (has known t) (has (goal_tips m qs sets K i) t)
          (λ h. finds_kept t ((exact t).0 h))
          (λ h. ⊎_elim (λ y. y)
          (λ n. absurd (rw (e, empty_has 0 t tt) at (xor_in s known t ((tips-reach r.good (full-named r) i l K t).0 h).0 n)))
          (test (has known t))))

      -- no interval leaves the line
      pub settled : Domain m (bit_xor s known)
          → ((a w c : ℕ) → Whole m s a w → leaves_by m xs inner upper q s (low (bit_xor s known)) (high (bit_xor s known)) K a w c ≡ false)
          → known ≡ goal_tips m qs sets K i
      settled d none = set_same known (goal_tips m qs sets K i) (λ t. same_test (has known t) (has (goal_tips m qs sets K i) t)
          (λ h. finds_kept t ((exact t).0 h))
          (λ h. ⊎_elim (λ y. y) (λ n. back t h n) (test (has known t))))
        where
          back : (t : ℕ) → T (has (goal_tips m qs sets K i) t) → T (not (has known t)) → T (has known t)
          back t h n =
              let (own, k) = (tips-reach r.good (full-named r) i l K t).0 h in
              ⊎_elim
              (λ y. (exact t).1 (first_finds t own y))
              (λ (a, w, j, z). absurd (rw (none a w (a + j) z.whole) at (start_seen d t own (xor_in s known t own n) a w j z)))
              (first_or_start r.good (full-named r) i l t own K k)

      -- the tips that are not known are asked for
      pub settled_asked : (kept : ℕ)
          → ((t : ℕ) → T (has kept t) → T (has (bit_xor s known) t))
          → ((t : ℕ) → T (has (bit_xor s known) t) → T (has s t) → T (has kept t) ↔ T (has (goal_tips m qs sets K i) t))
          → bit_or known kept ≡ goal_tips m qs sets K i
      settled_asked kept from iff = set_same (bit_or known kept) (goal_tips m qs sets K i) (λ t.
          same_test (has (bit_or known kept) t) (has (goal_tips m qs sets K i) t)
          (λ h. ⊎_elim
          (λ y. finds_kept t ((exact t).0 y))
          (λ y. (iff t (from t y) (xor_out s known t (known_own t) (from t y))).0 y)
          (or_out known kept t h))
          (λ h. let own = ((tips-reach r.good (full-named r) i l K t).0 h).0 in ⊎_elim
          (or_left known kept t)
          (λ n. or_right known kept t ((iff t (xor_in s known t own n) own).1 h))
          (test (has known t))))
