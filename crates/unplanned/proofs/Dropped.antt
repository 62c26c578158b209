-- Lines taken off a list, the last first: the line at the end comes to the place of each.
use Prim.Native.Nat.{ℕ, suc, ◌+◌, ◌-◌, ◌≤◌, ◌<◌}
use native.Mathlib.Omega.{arith}
use mathlib.Core.Path.{◌≡◌, refl, sym, ◌∙◌}
use mathlib.Core.Logic.{◌⊎◌, inl, inr, ⊎_elim}
use mathlib.Core.List.{List}
use lib.Dec.{T_not, eqb, eqb→eq, eqb_refl}
use lib.ListN.{length, get_or, set}
use lib.Seq.{get_or-set_same, get_or-set_other}
use Rattle.model.proofs.Tests.{le_or_lt, test}
use Rattle.unplanned.specs.Listed.{Among, Below, Once, Rising, Dropped, line_at}

same_or_not : (a b : ℕ) → (a ≡ b) ⊎ (a ≡ b → ⊥)
same_or_not a b = ⊎_elim (λ y. inl (eqb→eq a b y)) (λ n. inr (λ e. T_not (eqb a b) n (rw e (eqb_refl b)))) (test (eqb a b))

-- the line at place p is taken off the first m
module _ (m p : ℕ) (list : List ℕ) (l : p < m) (room : m ≤ length list) where
  moved : List ℕ
  moved = set list p (get_or list (m - 1) 0)

  here : get_or moved p 0 ≡ get_or list (m - 1) 0
  unfolding moved
  here = get_or-set_same list p (get_or list (m - 1) 0) 0 (omega arith)

  there : (k : ℕ) → (k ≡ p → ⊥) → get_or moved k 0 ≡ get_or list k 0
  unfolding moved
  there k n = get_or-set_other list p k (get_or list (m - 1) 0) 0 n

  less_inside : (n : ℕ) → Below n m list → Below n (m - 1) moved
  less_inside n f k h =
      ⊎_elim
      (λ (e : k ≡ p). rw (e, here) (f (m - 1) (omega arith)))
      (λ d. rw (there k d) (f k (omega arith)))
      (same_or_not k p)

  less_once : Once m list → Once (m - 1) moved
  less_once f j k a b e =
      ⊎_elim
      (λ (x : j ≡ p). f k (m - 1) (omega arith) (omega arith) (sym (there k (λ y. omega arith)) ∙ sym e ∙ rw x here))
      (λ x.
      ⊎_elim
      (λ (y : k ≡ p). f j (m - 1) (omega arith) (omega arith) (sym (there j x) ∙ e ∙ rw y here))
      (λ y. f j k a (omega arith) (sym (there j x) ∙ e ∙ there k y))
      (same_or_not k p))
      (same_or_not j p)

  less_kept : (x : ℕ) → Among x m list → (get_or list p 0 ≡ x → ⊥) → Among x (m - 1) moved
  less_kept x a n =
      let early = a.early in
      ⊎_elim
      (λ (e : a.place ≡ p). absurd (n (rw (← e) a.held)))
      (λ d.
      ⊎_elim
      (λ (h : m - 1 ≤ a.place). let e : a.place ≡ m - 1 = omega arith in
      record { place = p; early = omega arith; held = here ∙ rw (← e) a.held })
      (λ h. record { place = a.place; early = h; held = there a.place d ∙ a.held })
      (le_or_lt (m - 1) a.place))
      (same_or_not a.place p)

-- the places from place k on are taken off
pub record DroppedFrom (k n m : ℕ) (places old : List ℕ) (last : ℕ) (list : List ℕ) : Type 0 where
  pub within : k ≤ n
  pub fewer : last + n ≡ m + k
  pub front : (p : ℕ) → p < k → line_at list places p ≡ line_at old places p
  pub inside : (b : ℕ) → Below b m old → Below b last list
  pub once : Once m old → Once last list
  pub kept : (x : ℕ) → Among x m old → ((p : ℕ) → k ≤ p → p < n → line_at old places p ≡ x → ⊥) → Among x last list

pub dropped-none : (n m : ℕ) (places old : List ℕ) → DroppedFrom n n m places old m old
dropped-none n m places old = record {
  within = omega arith;
  fewer = refl;
  front = λ p l. refl;
  inside = λ b f. f;
  once = λ f. f;
  kept = λ x a f. a;
}

module _ {n m : ℕ} {places old : List ℕ} {last : ℕ} {list : List ℕ} where
  pub dropped-more : {k : ℕ} → DroppedFrom (suc k) n m places old last list → Rising n m places → last ≤ length list
      → DroppedFrom k n m places old (last - 1) (set list (get_or places k 0) (get_or list (last - 1) 0))
  unfolding moved
  dropped-more {k} d r room =
      let within = d.within in
      let fewer = d.fewer in
      let p = get_or places k 0 in
      let l : p < last = omega (arith, r.below k (omega arith)) in
      record {
        within = omega arith;
        fewer = omega arith;
        front = λ q h.
            let less = r.rising q k h (omega arith) in
            there last p list l room (get_or places q 0) (λ e. omega arith) ∙ d.front q (omega arith);
        inside = λ b f. less_inside last p list l room b (d.inside b f);
        once = λ f. less_once last p list l room (d.once f);
        kept = λ x a f.
            less_kept last p list l room x (d.kept x a (λ q u v. f q (omega arith) v))
            (λ e. f k (omega arith) (omega arith) (sym (d.front k (omega arith)) ∙ e));
      }

  pub dropped-all : DroppedFrom 0 n m places old last list → Dropped n m places old last list
  dropped-all d = record {
    fewer = omega (arith, d.fewer);
    inside = d.inside;
    once = d.once;
    kept = λ x a f. d.kept x a (λ p u v. f p v);
  }
