-- The best order by a preference that looks at the part before.
use Rattle.std.specs.Prelude.{ℕ, ◌<◌, ◌≡◌, ◌⊎◌, Bool, List, [], ◌∷◌, T}
use Rattle.std.proofs.Math.Option.{Option, none, some}
use Rattle.order_rules.specs.Order.{Task, Obeys}

-- in state s part x is preferred to part y; what a state is, the preference says
abbrev pub Preference : Type 0 → Type 0
Preference S = S → ℕ → ℕ → Bool

-- in state s, one of the numbers below m that pass a test
abbrev pub Choice : Type 0 → Type 0
Choice S = S → (ℕ → Bool) → ℕ → ℕ

-- from state s on, at the first position where the orders differ the first has the preferred part; part x leaves the state after x
pub data FirstBetter {S : Type 0} (prefers : Preference S) (after : ℕ → S) : S → List ℕ → List ℕ → Type 0 where
  end : {s : S} {b : List ℕ} → FirstBetter prefers after s [] b
  better : {s : S} {x y : ℕ} {a b : List ℕ} → T (prefers s x y) → FirstBetter prefers after s (x ∷ a) (y ∷ b)
  same : {s : S} {x : ℕ} {a b : List ℕ} → FirstBetter prefers after (after x) a b → FirstBetter prefers after s (x ∷ a) (x ∷ b)

-- the answer is the best order that obeys, from state s on; there is none exactly when no order obeys
pub data Best {S : Type 0} (prefers : Preference S) (after : ℕ → S) (s : S) (t : Task) : Option (List ℕ) → Type 0 where
  found : {order : List ℕ} → Obeys t order → ((other : List ℕ) → Obeys t other → FirstBetter prefers after s order other)
      → Best prefers after s t (some order)
  absent : ((other : List ℕ) → Obeys t other → ⊥) → Best prefers after s t none

-- the number chosen passes the test, and is preferred to every other that does
pub record Chooses {S : Type 0} (prefers : Preference S) (choose : Choice S) : Type 0 where
  pub passes : (s : S) (f : ℕ → Bool) (m : ℕ) → choose s f m < m → T (f (choose s f m))
  pub inside : (s : S) (f : ℕ → Bool) (m y : ℕ) → y < m → T (f y) → choose s f m < m
  pub first : (s : S) (f : ℕ → Bool) (m y : ℕ) → y < m → T (f y) → (choose s f m ≡ y) ⊎ T (prefers s (choose s f m) y)
