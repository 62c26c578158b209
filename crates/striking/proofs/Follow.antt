-- The outside table of the other lines grows by one interval, and with it the tips at which a chain has ended with the goal's pairs.
use Prim.Native.Nat.{ℕ, ◌+◌, ◌*◌, ◌-◌, ◌≤◌, ◌<◌}
use native.Mathlib.Omega.{arith}
use mathlib.Core.Path.{◌≡◌, refl, sym}
use mathlib.Core.Logic.{◌↔◌, ⊎_elim}
use mathlib.Core.Bool.{Bool, true, false, ◌&&◌}
use mathlib.Core.List.{List}
use lib.Bits.{bit_or, bit_xor, or_zero_r}
use lib.Dec.{T, leb, ltb, leb→le, le→leb, ltb→lt, lt→ltb}
use lib.ListN.{length, set}
use Rattle.model.specs.Limits.{most_tips, most_pairs}
use Rattle.model.specs.Plan.{has}
use Rattle.model.specs.Interval.{low, high, C}
use Rattle.model.proofs.Tests.{le_or_lt, test, true_T, false_T, false_not, and_left, and_right, and_in}
use Rattle.model.proofs.Sets.{empty_has, has-set_of, or_left, or_right}
use Rattle.goal_rules.specs.Check.{entry}
use Rattle.goal_rules.specs.Tables.{Opened, ended, Ends}
use Rattle.goal_rules.proofs.Outer.{Out_open, around_le}
use Rattle.ranks.proofs.Joined.{or_out}
use Rattle.intervals.specs.Splits.{split_by}
use Rattle.intervals.specs.Outer.{around_by}
use Rattle.striking.specs.Striking.{limit_by, open_by, ends_by, tips_by, stored_by, followed_by, Known, Followed}
use Rattle.intervals.proofs.Read.{pairs_same}
use Rattle.intervals.proofs.Entry.{place}
use Rattle.intervals.proofs.Outer.{around_same, outside_more, outside_next, outside_first}
use Rattle.striking.proofs.Settled.{xor_in, xor_out}

-- what is stored and what is found in an interval, as it is open or not
module _ (m : ℕ) (xs inner : List ℕ) (q s left K outside a w : ℕ) where
  pub shut : open_by m xs inner q s K a w outside ≡ false
      → (0 ≡ followed_by m xs inner q s left K outside a w) × (0 ≡ stored_by m xs inner q s K outside a w)
  unfolding followed_by stored_by
  shut e = rw e (refl, refl)

  pub let_open : open_by m xs inner q s K a w outside ≡ true
      → (tips_by m xs inner q left K outside a w ≡ followed_by m xs inner q s left K outside a w) × (outside ≡ stored_by m xs inner q s K outside a w)
  unfolding followed_by stored_by
  let_open e = rw e (refl, refl)

module _ {m q : ℕ} {lines rest xs inner upper : List ℕ} (k : Known m q lines rest xs inner upper) (s K : ℕ) where
  -- the intervals that are followed, and the chains that end with the goal's pairs
  abbrev is_open : ℕ → ℕ → ℕ → Bool
  is_open = open_by m xs inner q s K

  abbrev EndsAt : ℕ → Type 0
  EndsAt t = Ends is_open m (C lines) rest q K t

  abbrev pub So : List ℕ → ℕ → ℕ → ℕ → Type 0
  So outer kept w a = Followed m q s K is_open (C lines) rest outer kept w a

  module _ {outer : List ℕ} {kept w a : ℕ} (f : So outer kept w a) (p : 0 < w) (b : a + w ≤ m) where
    abbrev out : ℕ
    out = around_by m xs inner outer a w

    -- the tips that are not kept yet
    abbrev left : ℕ
    left = bit_xor s kept

    abbrev found : ℕ
    found = tips_by m xs inner q left K out a w

    -- the number is small
    pub follow_few : out ≤ most_tips * most_pairs
    follow_few = omega (
      arith,
      around_same k.others k.inside f.table p b,
      around_le is_open m (C lines) rest lines k.fewer a w b,
      k.few a w b,
    )

    -- the interval is open by what is found
    opened : T (is_open a w out) → Opened is_open m (C lines) rest a w
    opened o = rw (← around_same k.others k.inside f.table p b) o

    module _ (o : Opened is_open m (C lines) rest a w) where
      -- the sum is that of the chain which ends there
      ended_same : (i : ℕ) → i < w → out + split_by m xs inner q a w i ≡ ended is_open m (C lines) rest q a w i
      unfolding split_by
      ended_same i l = omega (
        arith,
        around_same k.others k.inside f.table p b,
        Out_open is_open m (C lines) rest a w b o,
        pairs_same k.others q a w (a + i) b (omega arith) (omega arith),
        k.inside.entries a i (omega arith),
        k.inside.entries (a + i + 1) (w - (i + 1)) (omega arith),
      )

      found_right : (t : ℕ) → T (has found t) → T (has left t) × EndsAt t
      unfolding ends_by
      found_right t h =
          let e = leb K (out + split_by m xs inner q a w (t - a)) in
          let x = rw (has-set_of (ends_by m xs inner q left K out a w) (a + w) t) at h in
          let y = and_right (ltb t (a + w)) (leb a t && (has left t && e)) x in
          let z = and_right (leb a t) (has left t && e) y in
          let below = ltb→lt t (a + w) (and_left (ltb t (a + w)) (leb a t && (has left t && e)) x) in
          let from = leb→le a t (and_left (leb a t) (has left t && e) y) in
          let enough = leb→le K (out + split_by m xs inner q a w (t - a)) (and_right (has left t) e z) in (
            and_left (has left t) e z,
            (a, w, t - a, omega arith, omega arith, b, o, omega (arith, ended_same (t - a) (omega arith))),
          )

      found_all : (i : ℕ) → i < w → T (has left (a + i)) → K ≤ ended is_open m (C lines) rest q a w i → T (has found (a + i))
      unfolding ends_by
      found_all i l h g =
          let t = a + i in
          let n : a + i - a ≡ i = omega arith in
          let e = leb K (out + split_by m xs inner q a w (t - a)) in
          let enough : T e = rw n (le→leb K (out + split_by m xs inner q a w i) (omega (arith, ended_same i l))) in
          rw (has-set_of (ends_by m xs inner q left K out a w) (a + w) t) (
          and_in (ltb t (a + w)) (leb a t && (has left t && e)) (lt→ltb t (a + w) (omega arith))
          (and_in (leb a t) (has left t && e) (le→leb a t (omega arith)) (and_in (has left t) e h enough)))

    -- one interval more that is open
    follow_open : {r v : ℕ} → T (is_open a w out) → r ≡ found → v ≡ out → So (set outer (place m a w) v) (bit_or kept r) w (a + 1)
    follow_open {r} {v} z x y = record {
      table = outside_more k.others k.inside f.table p b (rw (true_T (is_open a w out) z) y);
      right = λ t h. ⊎_elim (f.right t) (λ n. own t (found_right (opened z) t (rw x at n))) (or_out kept r t h);
      wider = λ c u i l g e o h n. or_left kept r (c + i) (f.wider c u i l g e o h n);
      row = λ c i l g e o h n. ⊎_elim
          (λ y. let same : c ≡ a = omega arith in ⊎_elim
          (or_left kept r (c + i))
          (λ b. or_right kept r (c + i) (all c i same e (xor_in s kept (c + i) h b) n))
          (test (has kept (c + i))))
          (λ y. or_left kept r (c + i) (f.row c i y g e o h n))
          (le_or_lt a c);
    }
      where
        own : (t : ℕ) → T (has left t) × EndsAt t → T (has s t) × EndsAt t
        own t (h, e) = (xor_out s kept t (λ y. (f.right t y).0) h, e)

        all : (c i : ℕ) → c ≡ a → i < w → T (has left (c + i)) → K ≤ ended is_open m (C lines) rest q c w i → T (has r (c + i))
        all c i e l h n =
            let h' : T (has left (a + i)) = rw e at h in
            let n' : K ≤ ended is_open m (C lines) rest q a w i = rw e at n in
            rw (e, x) (found_all (opened z) i l h' n')

    -- and one that is not
    follow_past : is_open a w out ≡ false → So (set outer (place m a w) 0) kept w (a + 1)
    follow_past z = record {
      table = outside_more k.others k.inside f.table p b (rw z refl);
      right = f.right;
      wider = f.wider;
      row = λ c i l g e o h n. ⊎_elim
          (λ y. let same : c ≡ a = omega arith in absurd (none c same o))
          (λ y. f.row c i y g e o h n)
          (le_or_lt a c);
    }
      where
        none : (c : ℕ) → c ≡ a → Opened is_open m (C lines) rest c w → ⊥
        none c same o = rw (same, sym (around_same k.others k.inside f.table p b), z) at o

    -- as is found
    pub follow_more : {r v : ℕ} → r ≡ followed_by m xs inner q s left K out a w → v ≡ stored_by m xs inner q s K out a w
        → So (set outer (place m a w) v) (bit_or kept r) w (a + 1)
    unfolding followed_by stored_by
    follow_more {r} {v} x y = ⊎_elim
        (λ z. let e = true_T (is_open a w out) z in follow_open z (rw e at x) (rw e at y))
        (λ n. let e = false_T (is_open a w out) n in
        let none : r ≡ 0 = rw e at x in
        let nothing : v ≡ 0 = rw e at y in
        rw (none, nothing, or_zero_r kept) (follow_past e))
        (test (is_open a w out))

    -- with more pairs outside, what is open stays open
    more_open : (x y : ℕ) → x ≤ y → T (is_open a w x) → T (is_open a w y)
    unfolding open_by limit_by
    more_open x y h o =
        let e : ℕ → Bool = λ z. leb K (limit_by m xs inner q s z a w) in
        let g = and_right (leb a (high s)) (ltb (low s) (a + w) && e x) o in
        let enough = leb→le K (limit_by m xs inner q s x a w) (and_right (ltb (low s) (a + w)) (e x) g) in
        and_in (leb a (high s)) (ltb (low s) (a + w) && e y) (and_left (leb a (high s)) (ltb (low s) (a + w) && e x) o)
        (and_in (ltb (low s) (a + w)) (e y) (and_left (ltb (low s) (a + w)) (e x) g) (le→leb K (limit_by m xs inner q s y a w)
        (omega (arith, enough))))

    -- one that is not open by the table of all lines, which has at least as many pairs
    pub follow_closed : is_open a w (entry m upper a w) ≡ false → So (set outer (place m a w) 0) kept w (a + 1)
    follow_closed z = follow_past (false_not (is_open a w out) (λ o. closed (more_open out (entry m upper a w) fewer o)))
      where
        closed : T (is_open a w (entry m upper a w)) → ⊥
        closed o = rw z at o

        fewer : out ≤ entry m upper a w
        fewer = omega (
          arith,
          around_same k.others k.inside f.table p b,
          around_le is_open m (C lines) rest lines k.fewer a w b,
          k.outside.wider a w p b,
        )

  -- a whole row
  pub follow_next : {outer : List ℕ} {kept w a : ℕ} → 0 < w → m < a + w → So outer kept w a → So outer kept (w - 1) 0
  follow_next {outer} {kept} {w} p h f = record {
    table = outside_next p h f.table;
    right = f.right;
    wider = λ c u i l g e o z n. ⊎_elim
        (λ y. let same : u ≡ w = omega arith in row c u i same g e o z n)
        (λ y. f.wider c u i y g e o z n)
        (le_or_lt u w);
    row = λ c i l g e o z n. absurd (omega arith);
  }
    where
      row : (c u i : ℕ) → u ≡ w → c + u ≤ m → i < u → Opened is_open m (C lines) rest c u → T (has s (c + i))
          → K ≤ ended is_open m (C lines) rest q c u i → T (has kept (c + i))
      row c u i same g e o z n = f.row c i (omega arith) (omega arith) (omega arith) (rw same at o) z (rw same at n)

  -- at first
  pub follow_first : (outer : List ℕ) → m * m ≤ length outer → So outer 0 m 0
  follow_first outer e = record {
    table = outside_first is_open (C lines) rest outer e;
    right = λ t h. absurd (rw (empty_has 0 t tt) at h);
    wider = λ c u i l g x o z n. absurd (omega arith);
    row = λ c i l g x o z n. absurd (omega arith);
  }

  -- THE TIPS at which some chain ends with the goal's pairs
  pub follow_all : {outer : List ℕ} {kept : ℕ} → So outer kept 0 0 → (t : ℕ) → T (has kept t) ↔ (T (has s t) × EndsAt t)
  follow_all {kept = kept} f t = (f.right t, λ (h, (a, w, i, e, l, b, o, n)). rw e at (f.wider a w i (omega arith) b l o (rw (← e) at h) n))

  -- and so once every tip of the set is kept
  pub follow_full : {outer : List ℕ} {kept w a : ℕ} → So outer kept w a → kept ≡ s → (t : ℕ) → T (has kept t) ↔ (T (has s t) × EndsAt t)
  follow_full f e t = (f.right t, λ (h, _). rw e h)
