-- The places whose lines have the tip, found one after the other.
use Prim.Native.Nat.{ℕ, ◌+◌, ◌≤◌, ◌<◌}
use native.Mathlib.Omega.{arith}
use mathlib.Core.Path.{◌≡◌, sym, ◌∙◌}
use mathlib.Core.Logic.{⊎_elim}
use mathlib.Core.Bool.{true, cond}
use mathlib.Core.List.{List}
use lib.ListN.{length, get_or, set}
use lib.Seq.{get_or-set_same, get_or-set_other}
use Rattle.model.specs.Plan.{has}
use Rattle.model.proofs.Tests.{le_or_lt, true_T, one_le, one_T}
use Rattle.unplanned.specs.Listed.{Found}

pub found_none : (tip : ℕ) (list sets places : List ℕ) → Found tip 0 list sets 0 places
found_none tip list sets places = record {
  rising = record { most = omega arith; rising = λ p q l h. absurd (omega arith); below = λ p l. absurd (omega arith) };
  tipped = λ p l. absurd (omega arith);
  each = λ k l. absurd (omega arith);
  all = λ e k l. absurd (omega arith);
}

-- place k is written behind, and counted if its line has the tip
module _ {tip k : ℕ} {list sets : List ℕ} {r : ℕ} {places : List ℕ} (l : r < length places) (f : Found tip k list sets r places) where
  pub found-more : let h = has (get_or sets (get_or list k 0) 0) tip in Found tip (k + 1) list sets (r + cond h 1 0) (set places r k)
  found-more =
      let h = has (get_or sets (get_or list k 0) 0) tip in
      let most = f.rising.most in
      let one = one_le h true (λ _. tt) in
      let new = get_or-set_same places r k 0 l in
      let old : (p : ℕ) → p < r → get_or (set places r k) p 0 ≡ get_or places p 0 = λ p o. get_or-set_other places r p k 0 (λ e. omega arith) in
      record {
        rising = record {
          most = omega arith;
          rising = λ p q a b.
              ⊎_elim
              (λ (x : r ≤ q). let e : q ≡ r = omega arith in rw e (omega (arith, new, old p (omega arith), f.rising.below p (omega arith))))
              (λ x. omega (arith, old p (omega arith), old q x, f.rising.rising p q a x))
              (le_or_lt r q);
          below = λ p a.
              ⊎_elim
              (λ (x : r ≤ p). let e : p ≡ r = omega arith in rw e (omega (arith, new)))
              (λ x. omega (arith, old p x, f.rising.below p x))
              (le_or_lt r p);
        };
        tipped = λ p a.
            ⊎_elim
            (λ (x : r ≤ p). let e : p ≡ r = omega arith in rw (e, new) (one_T h (omega arith)))
            (λ x. rw (old p x) (f.tipped p x))
            (le_or_lt r p);
        each = λ j a y.
            ⊎_elim
            (λ (x : k ≤ j). let e : j ≡ k = omega arith in
            let t : h ≡ true = true_T h (rw e at y) in
            record { place = r; early = rw t (omega arith); held = new ∙ sym e })
            (λ x. let b = f.each j x y in
            let early = b.early in
            record { place = b.place; early = omega arith; held = old b.place early ∙ b.held })
            (le_or_lt k j);
        all = λ s j a.
            ⊎_elim
            (λ (x : k ≤ j). let e : j ≡ k = omega arith in rw e (one_T h (omega arith)))
            (λ x. f.all (omega arith) j x)
            (le_or_lt k j);
      }
