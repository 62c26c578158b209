-- Orders of parts that obey windows and a relation: what they are, and which is the lexicographically least.
use Rattle.std.specs.Prelude.{ℕ, suc, ◌≤◌, ◌<◌, ◌≡◌, ◌≢◌, Bool, List, [], ◌∷◌, T, length, get_or}
use Rattle.std.proofs.Math.Option.{Option, none, some}
use Rattle.order_rules.specs.Number.{number, without}

-- parts 0 to size - 1, the first and the last position allowed to each, and which part is to be placed earlier than which
pub record Task : Type 0 where
  pub size : ℕ
  pub first : ℕ → ℕ
  pub last : ℕ → ℕ
  pub before : ℕ → ℕ → Bool

-- the order lists each part once, each in its window, and no part stands after one that it is to precede
pub record Obeys (t : Task) (order : List ℕ) : Type 0 where
  pub count : length order ≡ t.size
  pub parts : (p : ℕ) → p < t.size → get_or order p 0 < t.size
  pub different : (p q : ℕ) → p < q → q < t.size → get_or order p 0 ≢ get_or order q 0
  pub opens : (p : ℕ) → p < t.size → t.first (get_or order p 0) ≤ p
  pub closes : (p : ℕ) → p < t.size → p ≤ t.last (get_or order p 0)
  pub ordered : (p q : ℕ) → p < q → q < t.size → T (t.before (get_or order q 0) (get_or order p 0)) → ⊥

-- lexicographically at most: the first number that differs is less
pub data LexLe : List ℕ → List ℕ → Type 0 where
  end : {b : List ℕ} → LexLe [] b
  less : {x y : ℕ} {a b : List ℕ} → x < y → LexLe (x ∷ a) (y ∷ b)
  same : {x : ℕ} {a b : List ℕ} → LexLe a b → LexLe (x ∷ a) (x ∷ b)

-- the answer is the lexicographically least order that obeys; there is none exactly when no order obeys
pub data Least (t : Task) : Option (List ℕ) → Type 0 where
  found : {order : List ℕ} → Obeys t order → ((other : List ℕ) → Obeys t other → LexLe order other) → Least t (some order)
  absent : ((other : List ℕ) → Obeys t other → ⊥) → Least t none

-- part x can stand at position p, when the parts left are those from p on
pub record Ready (t : Task) (p : ℕ) (left : ℕ → Bool) (x : ℕ) : Type 0 where
  pub part : x < t.size
  pub is_left : T (left x)
  pub opens : t.first x ≤ p
  pub closes : p ≤ t.last x
  pub free : (y : ℕ) → y < t.size → T (without x left y) → T (t.before y x) → ⊥

-- the order places the parts left, from position p on, each where it can stand
pub data Completes (t : Task) : ℕ → (ℕ → Bool) → List ℕ → Type 0 where
  done : {p : ℕ} {left : ℕ → Bool} → number left t.size ≡ 0 → Completes t p left []
  next : {p x : ℕ} {left : ℕ → Bool} {order : List ℕ}
      → Ready t p left x → Completes t (suc p) (without x left) order → Completes t p left (x ∷ order)
