-- The pass over a plan: the lines passed are on tips of their own.
use Rattle.std.proofs.Common.{◌≡◌, ℕ, ◌+◌, ◌<◌, ◌≤◌, true, false, not, ◌&&◌, eqb, List}
use Rattle.std.proofs.Common.{length, get_or, drop, ◌∙◌, add-one, arith, drop_of_length-le, drop-cons}
use Rattle.model.specs.Plan.{has, pairs}
use Rattle.placements.specs.Repeated.{repeated}
use Rattle.refusal.specs.Refusal.{refuse, or_else, when}
use Rattle.goal_rules.specs.Check.{is_valid}
use Rattle.checking.specs.Checking.{claim_refusal}

-- the lines before i are on tips of their own
module _ (qs lines plan : List ℕ) (claim : ℕ) (as-lines : length plan ≡ length lines) (i : ℕ)
    (own : is_valid lines plan ≡ is_valid (drop i lines) (drop i plan)) where
  at-line : i < length lines → is_valid lines plan ≡ (has (get_or lines i 0) (get_or plan i 0) && is_valid (drop (i + 1) lines) (drop (i + 1) plan))
  unfolding is_valid
  at-line h =
      let g : i < length plan = omega arith in
      own ∙ rw (add-one, drop-cons lines i 0, drop-cons plan i 0)

  -- line i is on a foreign tip, or on one of its own
  pub foreign : i < length lines → has (get_or lines i 0) (get_or plan i 0) ≡ false → refuse 19 ≡ claim_refusal qs lines plan claim
  unfolding claim_refusal or_else
  foreign h n = rw (at-line h, n)

  pub own_more : i < length lines → has (get_or lines i 0) (get_or plan i 0) ≡ true
      → is_valid lines plan ≡ is_valid (drop (i + 1) lines) (drop (i + 1) plan)
  own_more h t = at-line h ∙ rw t

  -- no line is left
  pub own_all : length lines ≤ i → when (not (eqb claim (pairs (repeated qs plan)))) 20 ≡ claim_refusal qs lines plan claim
  unfolding claim_refusal or_else is_valid
  own_all h =
      let past : length plan ≤ i = omega arith in
      rw (own, drop_of_length-le lines h, drop_of_length-le plan past)
