-- The order chosen by a preference is the best order that obeys: at the first position where another differs it has the preferred part.
use Prim.Native.Nat.{ℕ, ◌<◌}
use native.Mathlib.Omega.{arith}
use mathlib.Core.Path.{◌≡◌, refl, ap, sym, ◌∙◌}
use mathlib.Core.Logic.{◌↔◌, ⊎_elim}
use mathlib.Core.Bool.{true}
use mathlib.Core.List.{List, ◌∷◌}
use mathlib.Core.Option.{Option, none, some}
use lib.Dec.{T}
use lib.ListN.{length, get_or}
use Rattle.model.proofs.Tests.{le_or_lt}
use Rattle.order_rules.specs.Order.{Task, Obeys}
use Rattle.order_rules.specs.Prefer.{Preference, Choice, FirstBetter, end, better, same, Best, found, absent, Chooses}
use Rattle.order_rules.specs.Least.{greedy_by, lasts_of, ending, best_order}
use Rattle.order_rules.proofs.Number.{number-all}
use Rattle.order_rules.proofs.Obeys.{place, place_at, completes, obeys}
use Rattle.order_rules.proofs.Greedy.{Sound, AtMost, capacity, greedy_completes, greedy_best}
use Rattle.order_rules.proofs.Room.{Rising, Positions, IsSome, greedy_some}
use Rattle.order_rules.proofs.Deadline.{lasts_rising, obeys_ending, ending_obeys}

module _ (t : Task) where
  -- the places in an order that obeys
  positions : {order : List ℕ} → Obeys t order → Positions t (place order)
  positions {order} o = record {
    apart = apart;
    opens = λ i l. rw ((at i l).1) at (o.opens (place order i) (bound i l));
    closes = λ i l. rw ((at i l).1) at (o.closes (place order i) (bound i l));
    along = λ i j li lj n b.
        ⊎_elim
        (λ h. ⊎_elim
        (λ k. absurd (n (apart i j li lj (omega arith))))
        (λ k. absurd (after i j li lj b k))
        (le_or_lt (place order i) (place order j)))
        (λ h. h)
        (le_or_lt (place order j) (place order i));
  }
    where
      at : (i : ℕ) → i < t.size → (place order i < length order) × (get_or order (place order i) 0 ≡ i)
      at i l = place_at t (completes t o) i l tt

      bound : (i : ℕ) → i < t.size → place order i < t.size
      bound i l = omega (arith, at i l, o.count)

      after : (i j : ℕ) → i < t.size → j < t.size → T (t.before i j) → place order j < place order i → ⊥
      after i j li lj b k = o.ordered (place order j) (place order i) k (bound i li) (rw ((at i li).1, (at j lj).1) b)

      apart : (i j : ℕ) → i < t.size → j < t.size → place order i ≡ place order j → i ≡ j
      apart i j li lj e = sym ((at i li).1) ∙ ap (λ q. get_or order q 0) e ∙ (at j lj).1

module _ {S : Type 0} {prefers : Preference S} {choose : Choice S} (after : ℕ → S) (law : Chooses prefers choose) (s : S) (t : Task) where
  -- with last positions that rise along the relation the order chosen is the answer
  greedy-answers : Rising t → Best prefers after s t (greedy_by choose after t t.size 0 s (λ _. true))
  greedy-answers ok =
      let n = t.size in
      let e = number-all n in
      answer (greedy_by choose after t n 0 s (λ _. true)) (greedy_completes after law t n 0 s (λ _. true) e)
      (λ other o. greedy_best after law t ok.below n 0 s (λ _. true) e (completes t o))
      (λ other o. greedy_some t ok (place other) (positions t o) after law n 0 s (λ _. true) e (omega arith) (λ v. capacity t v (completes t o)))
    where
      answer : (r : Option (List ℕ)) → Sound after law t 0 (λ _. true) r → ((other : List ℕ) → Obeys t other → AtMost after law t s r other)
          → ((other : List ℕ) → Obeys t other → IsSome r) → Best prefers after s t r
      answer none c a n = absent n
      answer (some order) c a n = found (obeys t c) a

module _ {S : Type 0} {prefers : Preference S} {choose : Choice S} (after : ℕ → S) (law : Chooses prefers choose) (s : S) (t : Task) where
  best_ending : {r : Option (List ℕ)} → Best prefers after s (ending t (lasts_of t)) r → Best prefers after s t r
  best_ending (found o h) = found (ending_obeys t o) (λ other q. h other (obeys_ending t q))
  best_ending (absent n) = absent (λ other q. n other (obeys_ending t q))

  -- THE BEST: the answer is the best order that obeys, or none where none obeys
  pub best-order : ((i : ℕ) → i < t.size → t.last i < t.size) → Best prefers after s t (best_order choose after s t)
  unfolding best_order
  best-order below = best_ending (greedy-answers after law s (ending t (lasts_of t)) (lasts_rising t below))

module _ {S : Type 0} {prefers : Preference S} {after : ℕ → S} where
  -- two orders that are each better than the other are equal, where no two parts are each preferred to the other
  better_antisym : ((s : S) (x y : ℕ) → T (prefers s x y) → T (prefers s y x) → ⊥) → {s : S} {a b : List ℕ}
      → FirstBetter prefers after s a b → FirstBetter prefers after s b a → a ≡ b
  better_antisym n h k = both h k refl refl refl
    where
      both : {s u : S} {a b c d : List ℕ} → FirstBetter prefers after s a b → FirstBetter prefers after u c d → s ≡ u → b ≡ c → a ≡ d → a ≡ b
      both end end o p q = sym p
      both end (better k) o p q = cc
      both end (same k) o p q = cc
      both (better l) end o p q = cc
      both (better {s} {x} {y} l) (better {x = v} {y = w} k) o p q =
          let e : y ≡ v = cc in
          let f : x ≡ w = cc in
          absurd (n s x y l (rw (o, e, f) k))
      both (better {s} {x} {y} l) (same {x = v} k) o p q =
          let e : x ≡ y = cc in
          absurd (n s y y (rw e at l) (rw e at l))
      both (same h) end o p q = cc
      both (same {x} h) (better {s} {x = v} {y = w} k) o p q =
          let e : v ≡ w = cc in
          absurd (n s w w (rw e at k) (rw e at k))
      both (same {x} {a} {b} h) (same {x = v} {a = c} {b = d} k) o p q =
          let e : x ≡ v = cc in
          let f : b ≡ c = cc in
          let g : a ≡ d = cc in
          ap (λ l. x ∷ l) (both h k (ap after e) f g)

  -- there is one answer
  pub best_unique : ((s : S) (x y : ℕ) → T (prefers s x y) → T (prefers s y x) → ⊥) → {s : S} {t : Task} {a b : Option (List ℕ)}
      → Best prefers after s t a → Best prefers after s t b → a ≡ b
  best_unique n (found {order = a} o h) (found {order = b} q k) = ap some (better_antisym n (h b q) (k a o))
  best_unique n (found {order = a} o h) (absent m) = absurd (m a o)
  best_unique n (absent m) (found {order = b} q k) = absurd (m b q)
  best_unique n (absent m) (absent _) = refl

  -- an answer that is an order obeys, and is better than any order that obeys
  pub best_obeys : {s : S} {t : Task} {order : List ℕ} → Best prefers after s t (some order) → Obeys t order
  best_obeys (found o h) = o

  pub best_better : {s : S} {t : Task} {order other : List ℕ} → Best prefers after s t (some order) → Obeys t other
      → FirstBetter prefers after s order other
  best_better {other = other} (found o h) q = h other q

  -- the answer is none exactly when no order obeys
  pub best_none : {s : S} {t : Task} {r : Option (List ℕ)} → Best prefers after s t r → (r ≡ none) ↔ ((other : List ℕ) → Obeys t other → ⊥)
  best_none (found {order} o h) = (λ e other q. let z : ◌≡◌ {A = ℕ} 0 1 = cc in omega arith, λ n. absurd (n order o))
  best_none (absent n) = (λ _. n, λ _. refl)
