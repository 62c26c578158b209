-- Lists of tips that take the lines one after the other.
-- For proofs and leaf contracts: no call's contract speaks of these.
use Rattle.std.specs.Prelude.{ℕ, ◌+◌, ◌-◌, ◌^◌, ◌≤◌, ◌<◌, ◌≡◌, cond, List, [], ◌∷◌, T, eqb}
use Rattle.model.specs.Plan.{has, choose2}
use Rattle.subset_rules.specs.Subsets.{taking}

-- the tips are different tips of u
pub data Chain : List ℕ → ℕ → Type 0 where
  end : {u : ℕ} → Chain [] u
  link : {t u : ℕ} {tips : List ℕ} → T (has u t) → Chain tips (u - 2 ^ t) → Chain (t ∷ tips) u

-- the pairs on the tips, each of which takes the lines left that allow it
unfoldable pub pairs_by : (ℕ → ℕ) → List ℕ → ℕ → ℕ
pairs_by z [] u = 0
pairs_by z (t ∷ tips) u = choose2 (z u - z (u - 2 ^ t)) + pairs_by z tips (u - 2 ^ t)

-- how many of the tips take a line
unfoldable pub used_by : (ℕ → ℕ) → List ℕ → ℕ → ℕ
used_by z [] u = 0
used_by z (t ∷ tips) u = cond (eqb (z u - z (u - 2 ^ t)) 0) 0 1 + used_by z tips (u - 2 ^ t)

-- the table D is at least what each set has at each of its tips
abbrev pub Dominates : ℕ → (ℕ → ℕ) → ℕ → (ℕ → ℕ) → Type 0
Dominates price z m D = (u t : ℕ) → u < 2 ^ m → T (has u t) → taking price z D u t ≤ D u

-- the tips are all those of u, and each is one at which the set left by those before it has what D says
pub data Picked (price : ℕ) (z D : ℕ → ℕ) : List ℕ → ℕ → Type 0 where
  done : Picked price z D [] 0
  next : {t u : ℕ} {tips : List ℕ} → T (has u t) → taking price z D u t ≡ D u → Picked price z D tips (u - 2 ^ t)
      → Picked price z D (t ∷ tips) u
