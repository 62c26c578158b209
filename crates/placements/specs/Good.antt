-- What a sound board has: lines that are good in its rack, each with a quantity.
use Rattle.std.specs.Prelude.{ℕ, ◌≤◌, ◌≡◌, List, [], ◌∷◌, length, refl}
use Rattle.model.specs.Count.{All, none, more}
use Rattle.model.specs.Plan.{Domain}
use Rattle.model.specs.Limits.{most_tips, most_lines, most_placements}
use Rattle.placements.specs.Repeated.{total}

-- good lines in a rack of m tips: each has a tip and none outside the rack, a quantity that is not 0, and all together few placements
pub record GoodLines (m : ℕ) (qs sets : List ℕ) : Type 0 where
  pub some : 1 ≤ m
  pub most : m ≤ most_tips
  pub few-lines : length sets ≤ most_lines
  pub same : length qs ≡ length sets
  pub placed : All (λ q. 1 ≤ q) qs
  pub few : total qs ≤ most_placements
  pub domains : All (Domain m) sets

-- what holds of each element has one proof at most if it has of one element, so that a struct can keep it
pub All-prop : {A : Type 0} (P : A → Type 0) → ((x : A) → IsProp (P x)) → (xs : List A) → IsProp (All P xs)
All-prop P h [] none none = refl
All-prop P h (x ∷ xs) (more p ps) (more q qs) = λ i. more (h x p q i) (All-prop P h xs ps qs i)
