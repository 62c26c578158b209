-- What is known where the Junior's tips are sought, and each refusal before.
use Prim.Native.Nat.{ℕ, ◌≤◌, ◌<◌}
use mathlib.Core.Path.{◌≡◌, refl}
use native.Mathlib.Omega.{arith}
use lib.Dec.{ltb}
use borrow.Author.Tests.{eq-eqb, lt-ltb, le-ltb, ltb-false}
use Rattle.refusal.specs.Told.{Refusal}
use Rattle.refusal.specs.Refusal.{refuse, or_else, when}
use Rattle.refusal.proofs.Laws.{or_first, or_none, when-none}
use Rattle.call_refusals.specs.Junior.{junior_lines, junior_tips, junior_refusal}

module _ (earlier : Refusal) (m n room : ℕ) where
  -- nothing is refused before, and the plan buffer has a byte a line; and the lines and the tips are few
  known : (junior_refusal earlier m n room).number ≡ 0 → (earlier.number ≡ 0) × (n ≤ junior_lines) × (m ≤ junior_tips) × (n ≤ room)
  unfolding junior_refusal
  known z =
      let short = when (ltb room n) 4 in
      let wide = when (ltb junior_tips m) 1 in
      let (free, more) = or_none earlier (or_else (when (ltb junior_lines n) 24) (or_else wide short)) z in
      let (few, rest) = or_none (when (ltb junior_lines n) 24) (or_else wide short) more in
      let (narrow, last) = or_none wide short rest in (
        free,
        ltb-false junior_lines n (when-none (ltb junior_lines n) 24 (λ e. omega arith) few),
        ltb-false junior_tips m (when-none (ltb junior_tips m) 1 (λ e. omega arith) narrow),
        ltb-false room n (when-none (ltb room n) 4 (λ e. omega arith) last),
      )

  pub junior_none : (junior_refusal earlier m n room).number ≡ 0 → (earlier.number ≡ 0) × (n ≤ room)
  junior_none z = let (free, few, narrow, last) = known z in (free, last)

  pub junior_few : (junior_refusal earlier m n room).number ≡ 0 → (n ≤ junior_lines) × (m ≤ junior_tips)
  junior_few z = let (free, few, narrow, last) = known z in (few, narrow)

  module _ (z : earlier.number ≡ 0) where
    pub junior_long : junior_lines < n → refuse 24 ≡ junior_refusal earlier m n room
    unfolding junior_refusal or_else
    junior_long h = rw (eq-eqb earlier.number 0 z, lt-ltb junior_lines n h)

    module _ (few : n ≤ junior_lines) where
      pub junior_wide : junior_tips < m → refuse 1 ≡ junior_refusal earlier m n room
      unfolding junior_refusal or_else
      junior_wide h = rw (eq-eqb earlier.number 0 z, le-ltb junior_lines n few, lt-ltb junior_tips m h)

      pub junior_short : m ≤ junior_tips → when (ltb room n) 4 ≡ junior_refusal earlier m n room
      unfolding junior_refusal or_else
      junior_short h = rw (eq-eqb earlier.number 0 z, le-ltb junior_lines n few, le-ltb junior_tips m h)

-- an earlier refusal stays
pub junior_first : (earlier : Refusal) → (earlier.number ≡ 0 → ⊥) → (m n room : ℕ) → earlier ≡ junior_refusal earlier m n room
unfolding junior_refusal
junior_first earlier f m n room = or_first {d = earlier} refl _ f
