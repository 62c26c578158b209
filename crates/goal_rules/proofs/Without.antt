-- A list without one element: a line and the others.
use Prim.Native.Nat.{ℕ, zero, suc, ◌+◌, ◌<◌}
use native.Mathlib.Omega.{arith}
use mathlib.Core.Path.{◌≡◌, refl, ap}
use mathlib.Core.List.{List, [], ◌∷◌}
use lib.Dec.{T}
use lib.ListN.{length, get_or, replicate}
use Rattle.model.specs.Count.{All}
use Rattle.model.specs.Plan.{has, Valid, empty, line}
use Rattle.model.proofs.Lists.{all_take, all_drop}
use Rattle.model.proofs.Mix.{Mix}
use Rattle.model.proofs.Append.{mix_append, mix_after, all_append}
use Rattle.placements.specs.Repeated.{repeated}
use Rattle.goal_rules.specs.Goal.{without}

-- the placements of line i, and those of the other lines
pub mix_repeated : (qs xs : List ℕ) (i : ℕ) → length qs ≡ length xs → i < length xs
    → Mix (replicate (get_or qs i 0) (get_or xs i 0)) (repeated (without i qs) (without i xs)) (repeated qs xs)
unfolding repeated
mix_repeated qs [] i e l = absurd (omega arith)
mix_repeated [] (x ∷ xs) i e l = absurd (omega arith)
mix_repeated (q ∷ qs) (x ∷ xs) zero e l = mix_append (replicate q x) (repeated qs xs)
mix_repeated (q ∷ qs) (x ∷ xs) (suc i) e l = mix_after (replicate q x) (mix_repeated qs xs i (omega arith) (omega arith))

module _ {P : ℕ → Type 0} where
  pub all_without : (i : ℕ) {xs : List ℕ} → All P xs → All P (without i xs)
  all_without i ps = all_append (all_take i ps) (all_drop (suc i) ps)

pub length_without : (xs : List ℕ) (i : ℕ) → i < length xs → suc (length (without i xs)) ≡ length xs
length_without [] i l = absurd (omega arith)
length_without (x ∷ xs) zero l = refl
length_without (x ∷ xs) (suc i) l = ap suc (length_without xs i (omega arith))

pub valid_without : (i : ℕ) {lines plan : List ℕ} → Valid lines plan → Valid (without i lines) (without i plan)
valid_without zero empty = empty
valid_without (suc i) empty = empty
valid_without zero (line h v) = v
valid_without (suc i) (line h v) = line h (valid_without i v)

-- a plan of the other lines, with line i on a tip of its own
pub valid_insert : (lines : List ℕ) (i t : ℕ) {rest : List ℕ} → i < length lines → T (has (get_or lines i 0) t) → Valid (without i lines) rest
    → (plan : List ℕ) × Valid lines plan × (get_or plan i 0 ≡ t) × (without i plan ≡ rest)
valid_insert [] i t l h v = absurd (omega arith)
valid_insert (s ∷ lines) zero t {rest} l h v = (t ∷ rest, line h v, refl, refl)
valid_insert (s ∷ lines) (suc i) t l h (line {t = u} g v) =
    let (plan, w, e, f) = valid_insert lines i t (omega arith) h v in
    (u ∷ plan, line g w, e, ap (λ p. u ∷ p) f)
