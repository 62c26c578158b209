-- Laws of lists of rising numbers.
use Prim.Native.Nat.{ℕ, ◌+◌, ◌≤◌, ◌<◌}
use native.Mathlib.Omega.{arith}
use mathlib.Core.List.{List, ◌++◌, map}
use Rattle.model.specs.Count.{All, none, more}
use Rattle.model.proofs.Lists.{all_map, all-mapped}
use Rattle.mend_rules.specs.Rules.{Rising, end, first}
use Rattle.model.proofs.Append.{all_append}

-- rising numbers below b, and then some from b on
pub rising_append : (b : ℕ) {xs ys : List ℕ} → Rising xs → All (λ x. x < b) xs → Rising ys → All (λ y. b ≤ y) ys → Rising (xs ++ ys)
rising_append b end none r q = r
rising_append b (first h hs) (more p ps) r q = first (all_append h (all_map (λ y k. omega arith) q)) (rising_append b hs ps r q)

-- each more by k
pub rising_add : (k : ℕ) {xs : List ℕ} → Rising xs → Rising (map (λ x. k + x) xs)
rising_add k end = end
rising_add k (first {x} h hs) = first {x = k + x} (all-mapped (λ y. k + y) (all_map (λ y l. omega arith) h)) (rising_add k hs)
