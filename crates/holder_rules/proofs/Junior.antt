-- The Junior's tips and plan with quantities.
use Prim.Native.Nat.{ℕ, ◌+◌, ◌≤◌, ◌<◌}
use native.Mathlib.Omega.{arith}
use mathlib.Core.Path.{◌≡◌}
use mathlib.Core.Logic.{◌↔◌, ◌⊎◌, inl, inr, ⊎_elim}
use mathlib.Core.Bool.{true, false, cond}
use mathlib.Core.List.{List}
use lib.ListN.{length}
use lib.Dec.{T, eqb, ltb→lt}
use Rattle.model.specs.Count.{count, All, none, more}
use Rattle.model.specs.Plan.{Domain, uses, Valid, empty, line, pairs, prefer}
use Rattle.model.proofs.Tests.{le_or_lt, cond_case}
use Rattle.model.proofs.Lists.{all-at, all_map}
use Rattle.model.proofs.Sets.{has-below}
use Rattle.model.proofs.Valid.{valid_length, uses-none}
use Rattle.placements.specs.Repeated.{repeated}
use Rattle.placements.specs.Good.{GoodLines}
use Rattle.placements.proofs.Repeated.{repeated-map, count-repeated, all-repeated, all_once}
use Rattle.placements.proofs.Named.{count-weighted, weighted-none}
use Rattle.placements.proofs.Valid.{valid_repeated}
use Rattle.holder_rules.specs.Holders.{serves, gathered, to_first, two_plan, score, chosen, is_served, OnTips, line_plan}
use Rattle.holder_rules.specs.Holders.{first_tip, second_tip, junior_plan, NoneOnTips, Junior}
use Rattle.holder_rules.proofs.Two.{On, Served, serves_iff, served_swap, on_swap, valid_served, gathered_valid, gathered_on}
use Rattle.holder_rules.proofs.Holders.{Placed, score_pos, placed, served_iff}

-- a tip that a placement is on is one that a line is on, and the other way round
used_line : (qs xs : List ℕ) (u : ℕ) → 0 < uses (repeated qs xs) u → 0 < uses xs u
unfolding uses
used_line qs xs u h =
    ⊎_elim (λ z. absurd (omega (arith, count-repeated (eqb u) qs xs, weighted-none (eqb u) qs xs (omega arith)))) (λ p. p)
    (le_or_lt (count (eqb u) xs) 0)

used_placement : {qs : List ℕ} (xs : List ℕ) (u : ℕ) → length qs ≡ length xs → All (λ q. 0 < q) qs → 0 < uses xs u → 0 < uses (repeated qs xs) u
unfolding uses
used_placement {qs} xs u e os h = omega (arith, count-repeated (eqb u) qs xs, count-weighted (eqb u) os xs e)

module _ (qs sets : List ℕ) (u v : ℕ) where
  gathered-repeated : repeated qs (gathered sets u v) ≡ gathered (repeated qs sets) u v
  unfolding gathered
  gathered-repeated = repeated-map (prefer u (λ s. v)) qs sets

-- the plan for the lines, each tip as many times as its line, is the plan for the placements
line-plan : (qs sets : List ℕ) (u v : ℕ) → repeated qs (line_plan qs sets u v) ≡ two_plan (repeated qs sets) u v
unfolding line_plan two_plan
line-plan qs sets u v =
    let lines = repeated qs sets in
    elim (to_first lines u v) as (λ b.
    repeated qs (cond b (gathered sets u v) (gathered sets v u)) ≡ cond b (gathered lines u v) (gathered lines v u)) [
      | true ↦ gathered-repeated qs sets u v
      | false ↦ gathered-repeated qs sets v u
    ]

line_case : (P : List ℕ → Type 0) (qs sets : List ℕ) (u v : ℕ) → P (gathered sets u v) → P (gathered sets v u) → P (line_plan qs sets u v)
unfolding line_plan
line_case P qs sets u v p q = cond_case P (to_first (repeated qs sets) u v) (λ _. p) (λ _. q)

-- a valid plan on one tip or two of lines in a rack of m tips is on no tip outside it, or it is one of no line, which is also on tip 0
in-rack : {m : ℕ} {sets other : List ℕ} → All (Domain m) sets → Valid sets other → (x y : ℕ) → OnTips x y other → (y < m) ⊎ OnTips 0 0 other
in-rack none empty x y o = inr (record { ordered = omega arith; on = none; used = λ l. absurd (omega arith) })
in-rack {m} (more d ds) (line {s} {t} h w) x y o = inl (⊎_elim level two (le_or_lt y x))
  where
    below : t < m
    below = has-below m s t d.below h

    level : y ≤ x → y < m
    level l = ⊎_elim (λ e. omega (arith, below, o.ordered)) (λ e. omega (arith, below)) (all-at 0 o.on 0 (omega arith))

    two : x < y → y < m
    two l =
        ⊎_elim
        (λ g.
        let outside = all_map (λ z b a. omega (arith, has-below m z y b.below a)) (more d ds) in
        absurd (omega (arith, (o.used l).1, uses-none y outside (line h w))))
        (λ g. g)
        (le_or_lt m y)

module _ {m : ℕ} {qs sets : List ℕ} (good : GoodLines m qs sets) where
  abbrev placements : List ℕ
  placements = repeated qs sets

  abbrev u : ℕ
  u = first_tip m qs sets

  abbrev v : ℕ
  v = second_tip m qs sets

  -- a plan on tips is on them with each tip as many times as its line
  on_placements : {x y : ℕ} {other : List ℕ} → Valid sets other → OnTips x y other → OnTips x y (repeated qs other)
  on_placements {x} {y} {other} w o = record {
    ordered = o.ordered;
    on = all-repeated qs o.on;
    used = λ l. let (p, q) = o.used l in let e : length qs ≡ length other = omega (arith, good.same, valid_length w) in
        (used_placement other x e good.placed p, used_placement other y e good.placed q);
  }

  -- the score is one more than the plan's placement pairs, and the tips are of the rack
  pub junior_score : T (is_served m placements) → score m placements (chosen m placements) ≡ 1 + pairs (repeated qs (junior_plan m qs sets))
  unfolding junior_plan first_tip second_tip is_served
  junior_score t = rw line-plan (score_pos placements good.some (chosen m placements) (ltb→lt 0 (score m placements (chosen m placements)) t)).1

  pub junior_rack : T (is_served m placements) → (u ≤ v) × (v < m)
  unfolding first_tip second_tip
  junior_rack t = let p = placed placements good.some t in (p.tips.ordered, p.rack)

  -- THE JUNIOR'S TIPS AND PLAN, where some tips serve every line
  pub junior : T (is_served m placements) → Junior qs sets u v (junior_plan m qs sets)
  unfolding junior_plan first_tip second_tip
  junior t = record {
    own = line_case (Valid sets) qs sets u v (gathered_valid u v a) (gathered_valid v u (served_swap u v a));
    tips = record {
      ordered = p.tips.ordered;
      on = line_case (On u v) qs sets u v (gathered_on sets u v) (on_swap (gathered_on sets v u));
      used = λ l. let (g, h) = p.tips.used l in
          (used_line qs (line_plan qs sets u v) u (rw line-plan g), used_line qs (line_plan qs sets u v) v (rw line-plan h));
    };
    most = λ x y other w o. rw line-plan
        (⊎_elim (λ l. at_most x y other w o l) (λ z. at_most 0 0 other w z good.some) (in-rack good.domains w x y o));
    lowest = λ x y other w o e. ⊎_elim (λ l. at_least x y other w o l e)
        (λ z. ⊎_elim (λ h. absurd (omega arith)) (λ (h, k). from_zero x y h k) (at_least 0 0 other w z good.some e))
        (in-rack good.domains w x y o);
  }
    where
      p : Placed m placements u v
      p = placed placements good.some t

      a : Served sets u v
      a = all_once good.placed sets good.same p.served

      at_most : (x y : ℕ) (other : List ℕ) → Valid sets other → OnTips x y other → y < m → pairs (repeated qs other) ≤ pairs (two_plan placements u v)
      at_most x y other w o l = p.most l (valid_repeated qs w) (on_placements w o)

      at_least : (x y : ℕ) (other : List ℕ) → Valid sets other → OnTips x y other → y < m
          → pairs (repeated qs other) ≡ pairs (repeated qs (line_plan qs sets u v)) → (u < x) ⊎ ((u ≡ x) × (v ≤ y))
      at_least x y other w o l e = p.lowest l (valid_repeated qs w) (on_placements w o) (rw line-plan at e)

      from_zero : (x y : ℕ) → u ≡ 0 → v ≤ 0 → (u < x) ⊎ ((u ≡ x) × (v ≤ y))
      from_zero x y h k = ⊎_elim (λ l. inr (omega arith, omega arith)) (λ l. inl (omega arith)) (le_or_lt x 0)

  -- UNSERVED exactly when no valid plan is on one tip or two
  pub unserved : (T (is_served m placements) → ⊥) ↔ NoneOnTips sets
  unserved = (
    λ n x y other w o. n ((served_iff placements good.some).1
        (⊎_elim (serving x y other w o) (λ z. serving 0 0 other w z good.some) (in-rack good.domains w x y o))),
    λ n t. n u v (junior_plan m qs sets) (junior t).own (junior t).tips,
  )
    where
      serving : (x y : ℕ) (other : List ℕ) → Valid sets other → OnTips x y other → y < m
          → (a b : ℕ) × (a < m) × (b < m) × T (serves placements a b)
      serving x y other w o l =
          (x, y, omega (arith, o.ordered), l, (serves_iff placements x y).1 (all-repeated qs (valid_served w o.on)))
