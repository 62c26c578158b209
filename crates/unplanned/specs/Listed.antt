-- The lines without a tip yet, in a list that becomes shorter.
use Rattle.std.specs.Prelude.{ℕ, ◌+◌, ◌^◌, ◌≤◌, ◌<◌, ◌≡◌, List, T, length, get_or}
use Rattle.model.specs.Limits.{most_tips}
use Rattle.model.specs.Plan.{has}

-- x is at one of the first r places of the list
pub record Among (x r : ℕ) (list : List ℕ) : Type 0 where
  pub place : ℕ
  pub early : place < r
  pub held : get_or list place 0 ≡ x

-- each of the first r places holds a number below n
abbrev pub Below : ℕ → ℕ → List ℕ → Type 0
Below n r list = (k : ℕ) → k < r → get_or list k 0 < n

-- no two of the first r places hold the same
abbrev pub Once : ℕ → List ℕ → Type 0
Once r list = (j k : ℕ) → j < k → k < r → get_or list j 0 ≡ get_or list k 0 → ⊥

-- each of the first r places holds its own number
abbrev pub InOrder : ℕ → List ℕ → Type 0
InOrder r list = (k : ℕ) → k < r → get_or list k 0 ≡ k

-- the first m places hold each line whose set is not empty, and none twice
pub record Unplanned (m : ℕ) (list sets : List ℕ) : Type 0 where
  pub inside : Below (length sets) m list
  pub once : Once m list
  pub each : (i : ℕ) → i < length sets → 0 < get_or sets i 0 → Among i m list

-- the line at the place that stands at place p
abbrev pub line_at : List ℕ → List ℕ → ℕ → ℕ
line_at list places p = get_or list (get_or places p 0) 0

-- what finding the lines with a tip needs of the list and of the places that it is lent
pub record Findable (tip m : ℕ) (list sets places : List ℕ) : Type 0 where
  pub tip_inside : tip < most_tips
  pub inside : Below (length sets) m list
  pub room : m ≤ length list
  pub for_places : m ≤ length places
  pub narrow : m ≤ 2 ^ 16

-- r rising places below m
pub record Rising (r m : ℕ) (places : List ℕ) : Type 0 where
  pub most : r ≤ m
  pub rising : (p q : ℕ) → p < q → q < r → get_or places p 0 < get_or places q 0
  pub below : (p : ℕ) → p < r → get_or places p 0 + r ≤ m + p

-- the places among the first m whose lines have the tip
pub record Found (tip m : ℕ) (list sets : List ℕ) (r : ℕ) (places : List ℕ) : Type 0 where
  pub rising : Rising r m places
  pub tipped : (p : ℕ) → p < r → T (has (get_or sets (line_at list places p) 0) tip)
  pub each : (k : ℕ) → k < m → T (has (get_or sets (get_or list k 0) 0) tip) → Among k r places
  pub all : r ≡ m → (k : ℕ) → k < m → T (has (get_or sets (get_or list k 0) 0) tip)

-- the lines at r of the first m places are taken off the list: the others stay, at the first m' places
pub record Dropped (r m : ℕ) (places list : List ℕ) (m' : ℕ) (list' : List ℕ) : Type 0 where
  pub fewer : m' + r ≡ m
  pub inside : (n : ℕ) → Below n m list → Below n m' list'
  pub once : Once m list → Once m' list'
  pub kept : (x : ℕ) → Among x m list → ((p : ℕ) → p < r → line_at list places p ≡ x → ⊥) → Among x m' list'
