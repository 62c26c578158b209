-- The answer is the lexicographically least order that obeys, and there is only one such answer.
use Prim.Native.Nat.{ℕ, ◌<◌}
use native.Mathlib.Omega.{arith}
use mathlib.Core.Path.{◌≡◌, refl, ap, sym}
use mathlib.Core.Logic.{◌↔◌, inl, inr, ⊎_elim}
use mathlib.Core.List.{List, ◌∷◌}
use mathlib.Core.Option.{Option, none, some}
use lib.Dec.{ltb, ltb→lt, lt→ltb}
use Rattle.model.proofs.Tests.{le_or_lt}
use Rattle.order_rules.specs.Number.{lowest}
use Rattle.order_rules.specs.Order.{Task, Obeys, LexLe, end, less, same, Least, found, absent}
use Rattle.order_rules.specs.Prefer as F
use Rattle.order_rules.specs.Prefer.{Preference, FirstBetter, Best, Chooses}
use Rattle.order_rules.specs.Least.{choose_lowest, no_state, least_order}
use Rattle.order_rules.proofs.Number.{lowest_passes, lowest-at-most}
use Rattle.order_rules.proofs.Best.{best-order}

-- by number alone: the lower part is preferred, whatever the part before
abbrev by_number : Preference (Unit {0})
by_number _ = ltb

chooses_lowest : Chooses by_number choose_lowest
chooses_lowest = record {
  passes = λ _. lowest_passes;
  inside = λ _ f m y l u. omega (arith, lowest-at-most f m y u);
  first = λ _ f m y l u.
      let h = lowest-at-most f m y u in
      ⊎_elim (λ k. inl (omega arith)) (λ k. inr (lt→ltb (lowest f m) y k)) (le_or_lt y (lowest f m));
}

-- better by number is lexicographically at most
better_lex : {a b : List ℕ} → FirstBetter by_number no_state tt a b → LexLe a b
better_lex F.end = end
better_lex (F.better {x = x} {y} l) = less (ltb→lt x y l)
better_lex (F.same h) = same (better_lex h)

best_least : {t : Task} {r : Option (List ℕ)} → Best by_number no_state tt t r → Least t r
best_least (F.found o h) = found o (λ other q. better_lex (h other q))
best_least (F.absent n) = absent n

-- the answer is the lexicographically least order that obeys, or none where none obeys
pub least-order : (t : Task) → ((i : ℕ) → i < t.size → t.last i < t.size) → Least t (least_order t)
unfolding least_order
least-order t below = best_least (best-order no_state chooses_lowest tt t below)

-- two orders that are each at most the other are equal
lex_antisym : {a b : List ℕ} → LexLe a b → LexLe b a → a ≡ b
lex_antisym h k = both h k refl refl
  where
    both : {a b c d : List ℕ} → LexLe a b → LexLe c d → b ≡ c → a ≡ d → a ≡ b
    both end end p q = sym p
    both end (less l) p q = cc
    both end (same k) p q = cc
    both (less l) end p q = cc
    both (less {x} {y} l) (less {x = u} {y = v} k) p q =
        let e : y ≡ u = cc in
        let f : x ≡ v = cc in
        absurd (omega arith)
    both (less {x} {y} l) (same {x = u} k) p q =
        let e : y ≡ u = cc in
        let f : x ≡ u = cc in
        absurd (omega arith)
    both (same h) end p q = cc
    both (same {x} h) (less {x = u} {y = v} k) p q =
        let e : x ≡ u = cc in
        let f : x ≡ v = cc in
        absurd (omega arith)
    both (same {x} {a} {b} h) (same {x = u} {a = c} {b = d} k) p q =
        let e : b ≡ c = cc in
        let f : a ≡ d = cc in
        ap (λ l. x ∷ l) (both h k e f)

-- there is one answer
pub least_unique : {t : Task} {a b : Option (List ℕ)} → Least t a → Least t b → a ≡ b
least_unique (found {order = a} o h) (found {order = b} q k) = ap some (lex_antisym (h b q) (k a o))
least_unique (found {order = a} o h) (absent n) = absurd (n a o)
least_unique (absent n) (found {order = b} q k) = absurd (n b q)
least_unique (absent n) (absent m) = refl

-- an answer that is an order obeys, and is at most any order that obeys
pub least_obeys : {t : Task} {order : List ℕ} → Least t (some order) → Obeys t order
least_obeys (found o h) = o

pub least_at-most : {t : Task} {order other : List ℕ} → Least t (some order) → Obeys t other → LexLe order other
least_at-most {other = other} (found o h) q = h other q

-- the answer is none exactly when no order obeys
pub least_none : {t : Task} {r : Option (List ℕ)} → Least t r → (r ≡ none) ↔ ((other : List ℕ) → Obeys t other → ⊥)
least_none (found {order} o h) = (λ e other q. let z : ◌≡◌ {A = ℕ} 0 1 = cc in omega arith, λ n. absurd (n order o))
least_none (absent n) = (λ _. n, λ _. refl)
