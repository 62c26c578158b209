-- The set of the named tips.
use Prim.Native.Nat.{ℕ, ◌+◌, ◌^◌, ◌<◌}
use native.Mathlib.Omega.{arith}
use native.Mathlib.Nat.{zero-add, add-zero}
use mathlib.Core.Path.{◌≡◌, ap, sym, ◌∙◌, fun_ext}
use mathlib.Core.Bool.{Bool, true, false, cond, ◌||◌, or-true, or-false}
use mathlib.Core.List.{List, [], ◌∷◌}
use lib.Bits.{bit_or, or_lt}
use lib.Dec.{ltb}
use lib.Pow.{pow_pos}
use lib.ListN.{length, take, get_or}
use borrow.Author.Tests.{lt-ltb}
use Rattle.model.specs.Count.{count, All, none, more}
use Rattle.model.specs.Plan.{has, occ}
use Rattle.model.specs.Interval.{named}
use Rattle.model.specs.Renumber.{names}
use Rattle.model.proofs.Tests.{false_not}
use Rattle.model.proofs.Loops.{count-more}
use Rattle.model.proofs.Sets.{has_some, has_or, set_same}

-- a count with one more is not 0 exactly when the one counts or the others do
some_or : (b : Bool) (n : ℕ) → (ltb 0 (cond b 1 0 + n) ≡ (b || ltb 0 n)) × (ltb 0 (n + cond b 1 0) ≡ (ltb 0 n || b))
some_or true n = (lt-ltb 0 (1 + n) (omega arith), lt-ltb 0 (n + 1) (omega arith) ∙ sym (or-true (ltb 0 n)))
some_or false n = (rw zero-add, rw add-zero (sym (or-false (ltb 0 n))))

-- a tip is in the set of the named tips exactly when it is named
pub has-names : (lines : List ℕ) (t : ℕ) → has (names lines) t ≡ named lines t
unfolding names named occ count
has-names [] t = false_not (has 0 t) (λ h. omega (arith, has_some 0 t h))
has-names (s ∷ lines) t = rw (has_or s (names lines) t, has-names lines t) (sym (some_or (has s t) (count (λ x. has x t) lines)).0)

-- for a loop over the lines: what the first i + 1 name, the first i or the next one does
pub named_more : (lines : List ℕ) (i t : ℕ) → i < length lines
    → named (take (i + 1) lines) t ≡ (named (take i lines) t || has (get_or lines i 0) t)
unfolding named occ
named_more lines i t l = rw (count-more (λ x. has x t) lines i l) (some_or (has (get_or lines i 0) t) (count (λ x. has x t) (take i lines))).1

-- so the test of the one is the test of the other
pub names-named : (lines : List ℕ) → has (names lines) ≡ named lines
names-named lines = fun_ext (has-names lines)

pub names_lt : (m : ℕ) {lines : List ℕ} → All (λ s. s < 2 ^ m) lines → names lines < 2 ^ m
unfolding names
names_lt m none = pow_pos m
names_lt m (more {x = s} {xs = lines} d ds) = or_lt m s (names lines) d (names_lt m ds)

-- for a loop over the lines: the union of the first i + 1 is that of the first i with the next
pub names_more : (lines : List ℕ) (i : ℕ) → i < length lines → names (take (i + 1) lines) ≡ bit_or (names (take i lines)) (get_or lines i 0)
names_more lines i l =
    set_same _ _ (λ t.
    has-names (take (i + 1) lines) t ∙ named_more lines i t l ∙ ap (λ b. b || has (get_or lines i 0) t) (sym (has-names (take i lines) t))
    ∙ sym (has_or (names (take i lines)) (get_or lines i 0) t))
