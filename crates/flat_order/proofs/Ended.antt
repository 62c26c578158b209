-- The parts that end before each place, and the levels, while the last positions are settled.
use Prim.Native.Nat.{ℕ, zero, suc, ◌+◌, ◌≤◌, ◌<◌}
use native.Mathlib.Omega.{arith}
use mathlib.Core.Path.{◌≡◌, refl, ap, sym, ◌∙◌}
use mathlib.Core.Logic.{⊎_elim}
use mathlib.Core.Bool.{Bool, true, false, not, cond, ◌&&◌}
use mathlib.Core.List.{List}
use lib.Dec.{T, ltb, leb, eqb, eqb→eq, eqb_refl, T_not}
use lib.ListN.{length, get_or, set, length-set}
use lib.Seq.{get_or-set_same, get_or-set_other}
use borrow.Author.Tests.{lt-ltb, le-ltb, lt-leb, le-leb, eq-eqb, ne_eqb}
use Rattle.model.proofs.Tests.{le_or_lt, test, true_T, false_T}
use Rattle.order_rules.specs.Number.{number}
use Rattle.order_rules.proofs.Number.{number_cong, number-none}
use Rattle.flat_order.specs.declared.sets.PartSet.{PartSet}
use Rattle.flat_order.specs.Sets.{has_part, removed}
use Rattle.flat_order.specs.Flat.{row_at, is_due, PartsAt}
use Rattle.flat_order.proofs.Members.{has-removed}
use Rattle.flat_order.proofs.Below.{row-set}
use Rattle.flat_order.proofs.Waiting.{Waiting}

-- up to place e stand the parts whose last positions are before it, after it those that ended just before it, and up to e stand the levels
pub record Ended (all : PartSet) (lasts₀ lasts : List ℕ) (e : ℕ) (ends : List PartSet) (levels : List ℕ) : Type 0 where
  pub size : length lasts₀ + 1 < length ends
  pub level_size : length lasts₀ ≤ length levels
  pub done : (k x : ℕ) → k ≤ e → has_part (row_at ends k) x ≡ (ltb x (length lasts₀) && ltb (get_or lasts x 0) k)
  pub rest : (k x : ℕ) → e < k → k < length ends → has_part (row_at ends k) x ≡ (ltb x (length lasts₀) && eqb (get_or lasts₀ x 0 + 1) k)
  pub level : (k : ℕ) → k < e → get_or levels k 0 ≡ number (is_due all lasts k) (length lasts₀)

pub ended-none : (all : PartSet) (lasts : List ℕ) (ends : List PartSet) (levels : List ℕ) → PartsAt lasts (length lasts) ends
    → length lasts + 1 < length ends → length lasts ≤ length levels → Ended all lasts lasts 0 ends levels
ended-none all lasts ends levels p r s = record {
  size = r;
  level_size = s;
  done = λ k x l.
      let e : k ≡ 0 = omega arith in
      rw e (p.each 0 x (omega arith) ∙ rw (ne_eqb (get_or lasts x 0 + 1) 0 (λ z. omega arith), le-ltb (get_or lasts x 0) 0 (omega arith)));
  rest = λ k x l h. p.each k x h;
  level = λ k l. absurd (omega arith);
}

-- those that fail a test are the others
number-rest : (f : ℕ → Bool) (m : ℕ) → number f m + number (λ i. not (f i)) m ≡ m
unfolding number
number-rest f zero = refl
number-rest f (suc m) = omega (arith, number-rest f m, one (f m))
  where
    one : (b : Bool) → cond b 1 0 + cond (not b) 1 0 ≡ 1
    one true = refl
    one false = refl

module _ (all : PartSet) (lasts₀ lasts : List ℕ) (j e : ℕ) (ends : List PartSet) (levels : List ℕ) (left due : PartSet)
    (is_all : (x : ℕ) → has_part all x ≡ ltb x (length lasts₀)) (w : Waiting lasts₀ j lasts left due e)
    (d : Ended all lasts₀ lasts e ends levels) where
  abbrev n : ℕ
  n = length lasts₀

  -- a part settled: nothing before changes
  module _ (b : ℕ) (t : T (has_part left b)) where
    set_before : {P : Type 0} (x : ℕ) → (get_or lasts x 0 ≡ get_or (set lasts b e) x 0 → P)
        → (e ≤ get_or lasts x 0 → get_or (set lasts b e) x 0 ≡ e → P) → P
    set_before x f g =
        ⊎_elim
        (λ u. let z = eqb→eq b x u in
        g (rw (← z) (w.ahead b t)) (rw (← z) (get_or-set_same lasts b e 0 (omega (arith, w.size, w.inside b t)))))
        (λ u. f (sym (get_or-set_other lasts b x e 0 (λ z. T_not (eqb b x) u (rw z (eqb_refl b))))))
        (test (eqb b x))

    pub ended-set : Ended all lasts₀ (set lasts b e) e ends levels
    ended-set = record {
      size = d.size;
      level_size = d.level_size;
      done = λ k x l. d.done k x l ∙ ap (λ v. ltb x n && v) (set_before x
          (λ z. ap (λ v. ltb v k) z)
          (λ h z. rw (z, le-ltb e k l, le-ltb (get_or lasts x 0) k (omega arith))));
      rest = d.rest;
      level = λ k l. d.level k l ∙ number_cong _ _ n (λ x _. ap (λ v. has_part all x && v)
          (set_before x
          (λ z. ap (λ v. leb v k) z)
          (λ h z. rw (z, lt-leb e k l, lt-leb (get_or lasts x 0) k (omega arith)))));
    }

  -- all that end at e are settled
  module _ (later : (x : ℕ) → T (has_part left x) → e < get_or lasts x 0) (l : e < n) where
    gone_at : (x : ℕ) → has_part (removed all left) x ≡ (ltb x n && ltb (get_or lasts x 0) (e + 1))
    gone_at x = has-removed all left x ∙ rw (is_all x) (⊎_elim
        (λ (h : n ≤ x). rw (le-ltb x n h))
        (λ (h : x < n). ⊎_elim
        (λ t. rw (true_T (has_part left x) t, le-ltb (get_or lasts x 0) (e + 1) (omega (arith, later x t))))
        (λ u. rw (false_T (has_part left x) u, lt-ltb (get_or lasts x 0) (e + 1) (omega (arith, w.behind x h u))))
        (test (has_part left x)))
        (le_or_lt n x))

    level_is : j ≡ number (is_due all lasts e) n
    level_is =
        let same = number_cong (is_due all lasts e) (λ i. not (has_part left i)) n (λ x h. rw (is_all x, lt-ltb x n h) (⊎_elim
        (λ t. rw (true_T (has_part left x) t, lt-leb (get_or lasts x 0) e (later x t)))
        (λ u. rw (false_T (has_part left x) u, le-leb (get_or lasts x 0) e (w.behind x h u)))
        (test (has_part left x)))) in
        omega (arith, same, number-rest (has_part left) n, w.count)

    pub ended_next : (gone : PartSet) → gone ≡ removed all left
        → Ended all lasts₀ lasts (e + 1) (set ends (e + 1) gone) (set levels e j)
    ended_next gone q =
        let at : (k x : ℕ) → has_part (row_at (set ends (e + 1) gone) k) x ≡ has_part (cond (eqb (e + 1) k) gone (row_at ends k)) x =
        λ k x. ap (λ s. has_part s x) (row-set ends (e + 1) k gone (omega (arith, d.size))) in
        record {
          size = omega (arith, length-set ends (e + 1) gone, d.size);
          level_size = omega (arith, length-set levels e j, d.level_size);
          done = λ k x h. at k x ∙ ⊎_elim
              (λ (u : e + 1 ≤ k). let z : e + 1 ≡ k = omega arith in rw (← z, eq-eqb (e + 1) (e + 1) refl, q) (gone_at x))
              (λ (u : k < e + 1). rw (ne_eqb (e + 1) k (λ z. omega arith)) (d.done k x (omega arith)))
              (le_or_lt (e + 1) k);
          rest = λ k x h m. at k x ∙ rw (ne_eqb (e + 1) k (λ z. omega arith))
              (d.rest k x (omega arith) (omega (arith, length-set ends (e + 1) gone)));
          level = λ k h. ⊎_elim
              (λ (u : e ≤ k). let z : k ≡ e = omega arith in rw z (get_or-set_same levels e j 0 (omega (arith, d.level_size)) ∙ level_is))
              (λ (u : k < e). get_or-set_other levels e k j 0 (λ z. omega arith) ∙ d.level k u)
              (le_or_lt e k);
        }

  -- at the end no part is left
  pub ended-count : n ≤ e → n ≤ j
  ended-count l = omega (arith, w.count, number-none (has_part left) n (λ x h t. omega (arith, w.ahead x t, w.below x h)))
