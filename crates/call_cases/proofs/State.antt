-- The refusal of a board's state is the one that its cases tell.
use Prim.Native.Nat.{ℕ, ◌+◌, ◌-◌, ◌^◌, ◌≤◌, ◌<◌, min}
use native.Mathlib.Omega.{arith}
use mathlib.Core.Path.{◌≡◌, refl, sym, ap, subst}
use mathlib.Core.Logic.{◌↔◌, inl, inr, ⊎_elim}
use mathlib.Core.Bool.{Bool, true, false, not, ◌&&◌}
use mathlib.Core.List.{List, [], ◌∷◌}
use lib.Dec.{T, T_not, not_T, leb, eqb→eq, leb→le, le→leb}
use lib.ListN.{length, get_or, take, drop, length-take, length-drop}
use lib.Seq.{get_or-drop}
use Rattle.model.specs.Count.{first_fail}
use Rattle.model.specs.Plan.{is_empty, is_domain, Domain, rack_ok}
use Rattle.model.specs.Limits.{most_lines, most_placements}
use Rattle.model.proofs.Tests.{le_or_lt, and_left, and_right, not_and, eqb_T}
use Rattle.model.proofs.Fails.{fails_at, fails_first}
use Rattle.model.proofs.Sets.{has-below, domain_iff}
use Rattle.placements.specs.Totals.{first_over}
use Rattle.placements.proofs.Totals.{at-over}
use Rattle.refusal.specs.Refusal.{or_else}
use Rattle.sound.specs.Sound.{count_ok, is_placed, range_refusal, first_wrong, line_refusal, first_held, rest_refusal, sound_refusal}
use Rattle.refusal.specs.declared.Reason.TheVariants.{UnsoundBoard, BoardClosed, BoardOpen, UnsoundLine, HeldBehind}
use Rattle.cases.specs.Cases.{Told, placed}
use Rattle.cases.proofs.Laws.{told_or, told_when, told_at}
use Rattle.call_refusals.specs.declared.Stage.{Stage}
use Rattle.call_refusals.specs.declared.Stage.TheVariants.{Open, Closed}
use Rattle.call_refusals.specs.State.{stage_refusal, state_refusal}
use Rattle.call_cases.specs.State.{OutOfRange, Wrong, no_tip, tip_outside, quantity_0, too_many, Holds}
use Rattle.call_cases.specs.State.{stage_case, state_cases}
use Rattle.call_cases.proofs.Tests.{size_iff, tip_above, over_first}

not_not : (b : Bool) → T (not (not b)) → T b
not_not true t = tt
not_not false t = t

-- 21
range_iff : (m n : ℕ) → T (not (rack_ok m && count_ok n)) ↔ OutOfRange m n
unfolding count_ok
range_iff m n = (
  λ t. ⊎_elim
      (λ x. inl ((size_iff m).0 x))
      (λ x. inr (⊎_elim (λ l. absurd (T_not (leb n most_lines) x (le→leb n most_lines l))) (λ l. l) (le_or_lt n most_lines)))
      (not_and (rack_ok m) (leb n most_lines) t),
  λ o. not_T (rack_ok m && leb n most_lines) (λ t. ⊎_elim
      (λ r. T_not (rack_ok m) ((size_iff m).1 r) (and_left (rack_ok m) (leb n most_lines) t))
      (λ l. omega (arith, leb→le n most_lines (and_right (rack_ok m) (leb n most_lines) t)))
      o),
)

-- 27
module _ (m : ℕ) (qs lines : List ℕ) (same : length qs ≡ length lines) where
  bad_set : (i : ℕ) → T (not (is_domain m (get_or lines i 0))) → Wrong m qs lines i
  bad_set i n =
      let s = get_or lines i 0 in
      ⊎_elim
      (λ z. no_tip (omega arith))
      (λ p. ⊎_elim
      (λ h. tip_outside (tip_above m s h))
      (λ h. absurd (T_not (is_domain m s) n ((domain_iff m s).1 (record { some = p; below = h }))))
      (le_or_lt (2 ^ m) s))
      (le_or_lt s 0)

  wrong_here : first_wrong m qs lines < length lines → Wrong m qs lines (first_wrong m qs lines)
  unfolding first_wrong
  wrong_here l =
      let d = first_fail (is_domain m) lines in
      let p = first_fail is_placed qs in
      let o = first_over most_placements qs in
      let W = Wrong m qs lines in
      ⊎_elim
      (λ h.
      let e : min d (min p o) ≡ d = omega arith in
      subst W (sym e) (bad_set d (fails_at (is_domain m) lines (omega arith))))
      (λ h. ⊎_elim
      (λ k.
      let e : min d (min p o) ≡ p = omega arith in
      subst W (sym e) (quantity_0 (eqb→eq (get_or qs p 0) 0 (not_not (is_empty (get_or qs p 0)) (fails_at is_placed qs (omega arith))))))
      (λ k.
      let e : min d (min p o) ≡ o = omega arith in
      subst W (sym e) (too_many (at-over most_placements qs (omega arith))))
      (le_or_lt p o))
      (le_or_lt d (min p o))

  past_set : (j : ℕ) → (Domain m (get_or lines j 0) → ⊥) → first_fail (is_domain m) lines ≤ j
  past_set j n =
      ⊎_elim
      (λ h. h)
      (λ h. absurd (n ((domain_iff m (get_or lines j 0)).0 (fails_first (is_domain m) lines j h))))
      (le_or_lt (first_fail (is_domain m) lines) j)

  past_quantity : (j : ℕ) → get_or qs j 0 ≡ 0 → first_fail is_placed qs ≤ j
  past_quantity j e =
      ⊎_elim
      (λ h. h)
      (λ h. absurd (T_not (is_empty (get_or qs j 0)) (fails_first is_placed qs j h) (eqb_T (get_or qs j 0) 0 e)))
      (le_or_lt (first_fail is_placed qs) j)

  wrong_least : (j : ℕ) → Wrong m qs lines j → first_wrong m qs lines ≤ j
  unfolding first_wrong
  wrong_least j (no_tip e) = omega (arith, past_set j (λ d. omega (arith, d.some, e)))
  wrong_least j (tip_outside (t, l, h)) = omega (arith, past_set j (λ d. omega (arith, has-below m (get_or lines j 0) t d.below h)))
  wrong_least j (quantity_0 e) = omega (arith, past_quantity j e)
  wrong_least j (too_many h) = omega (arith, over_first qs j h)

  abbrev WrongLine : ℕ → Type 0
  WrongLine i = (i < length lines) × Wrong m qs lines i

  line_told : Told (placed UnsoundLine WrongLine ∷ []) (line_refusal m qs lines)
  line_told =
      told_at UnsoundLine (first_wrong m qs lines) (length lines) (λ l. (l, wrong_here l)) (λ j (l, w). (l, wrong_least j w))

-- 28
module _ (n : ℕ) (qs sets : List ℕ) (same : length qs ≡ length sets) where
  abbrev Past : ℕ → Type 0
  Past i = (n ≤ i) × (i < length sets) × Holds qs sets i

  held_here : n + first_held (drop n qs) (drop n sets) < length sets → Holds qs sets (n + first_held (drop n qs) (drop n sets))
  unfolding first_held
  held_here l =
      let a = first_fail is_empty (drop n sets) in
      let b = first_fail is_empty (drop n qs) in
      let H = Holds qs sets in
      let size = length-drop n sets in
      let sizes = length-drop n qs in
      ⊎_elim
      (λ h.
      let e : n + min a b ≡ n + a = omega arith in
      let t = rw (get_or-drop n sets a 0) at (fails_at is_empty (drop n sets) (omega arith)) in
      subst H (sym e) (inl (λ z. T_not (is_empty (get_or sets (n + a) 0)) t (eqb_T (get_or sets (n + a) 0) 0 z))))
      (λ h.
      let e : n + min a b ≡ n + b = omega arith in
      let t = rw (get_or-drop n qs b 0) at (fails_at is_empty (drop n qs) (omega arith)) in
      subst H (sym e) (inr (λ z. T_not (is_empty (get_or qs (n + b) 0)) t (eqb_T (get_or qs (n + b) 0) 0 z))))
      (le_or_lt a b)

  -- what is before the first place that holds something is empty
  held_not : (k : ℕ) → k < first_held (drop n qs) (drop n sets) → Holds qs sets (n + k) → ⊥
  unfolding first_held
  held_not k l (inl h) =
      h (eqb→eq (get_or sets (n + k) 0) 0 (rw (get_or-drop n sets k 0) at (fails_first is_empty (drop n sets) k (omega arith))))
  held_not k l (inr h) = h (eqb→eq (get_or qs (n + k) 0) 0 (rw (get_or-drop n qs k 0) at (fails_first is_empty (drop n qs) k (omega arith))))

  held_least : (j : ℕ) → n ≤ j → Holds qs sets j → n + first_held (drop n qs) (drop n sets) ≤ j
  held_least j l h =
      let f = first_held (drop n qs) (drop n sets) in
      let e : j ≡ n + (j - n) = omega arith in
      ⊎_elim (λ k. k) (λ k. absurd (held_not (j - n) (omega arith) (subst (Holds qs sets) e h))) (le_or_lt (n + f) j)

  rest_told : Told (placed HeldBehind Past ∷ []) (rest_refusal n qs sets)
  rest_told =
      told_at HeldBehind (n + first_held (drop n qs) (drop n sets)) (length sets)
      (λ l. (omega arith, l, held_here l))
      (λ j (l, k, h). (k, held_least j l h))

-- 22 and 23
stage_told : (asked held : Stage) → Told (stage_case asked held ∷ []) (stage_refusal asked held)
unfolding stage_refusal
stage_told Open Open = told_when BoardClosed false (λ x. absurd x, λ e. absurd (omega (arith, ap (λ s. (stage_refusal Open s).number) e)))
stage_told Open Closed = told_when BoardClosed true (λ _. refl, λ _. tt)
stage_told Closed Open = told_when BoardOpen true (λ _. refl, λ _. tt)
stage_told Closed Closed = told_when BoardOpen false (λ x. absurd x, λ e. absurd (omega (arith, ap (λ s. (stage_refusal Closed s).number) e)))

-- THE STATE'S REFUSAL is the one that the cases of the state tell
module _ (asked : Stage) (m : ℕ) (held : Stage) (n : ℕ) (qs sets : List ℕ) (same : length qs ≡ length sets) where
  pub state_told : Told (state_cases asked m held n qs sets) (state_refusal asked m held n qs sets)
  unfolding state_refusal sound_refusal
  state_told =
      let range = range_refusal m n in
      let line = line_refusal m (take n qs) (take n sets) in
      let rest = rest_refusal n qs sets in
      let size : length (take n qs) ≡ length (take n sets) = omega (arith, same, length-take n qs, length-take n sets) in
      told_or (sound_refusal m n qs sets) (stage_refusal asked held) _ _
      (told_or range (or_else line rest) _ _ (told_when UnsoundBoard (not (rack_ok m && count_ok n)) (range_iff m n))
      (λ _. told_or line rest _ _ (line_told m (take n qs) (take n sets) size) (λ _. rest_told n qs sets same)))
      (λ _. stage_told asked held)
