-- Strike tips that miss a pair goal: what is answered and left, and what the answer means.
use Prim.Native.Nat.{ℕ}
use mathlib.Core.Path.{◌≡◌, refl, sym, ap, ◌∙◌}
use mathlib.Core.Logic.{◌↔◌}
use mathlib.Core.Bool.{Bool, true, false}
use mathlib.Core.List.{List, ◌++◌, append-nil}
use lib.Seq.{take-length, drop-length}
use native.Mathlib.Omega.{arith}
use lib.Dec.{T}
use lib.ListN.{length, take, drop, take-append-drop}
use borrow.Author.Tests.{eqb-true, eqb-false}
use Rattle.model.specs.Count.{All}
use Rattle.model.specs.Interval.{named, is_run_of}
use Rattle.model.proofs.Lists.{all_map, all_both}
use Rattle.model.proofs.Run.{run_misses}
use Rattle.placements.specs.Good.{GoodLines}
use Rattle.refusal.specs.Told.{Refusal}
use Rattle.refusal.specs.Refusal.{none, accepts, or_else, lent_by}
use Rattle.refusal.proofs.Laws.{or_first, or_next, or_none, scan-none, accepted, lent_refused, lent_accepted}
use Rattle.call_refusals.specs.Calls.{run_refusal}
use Rattle.goal_rules.specs.Goal.{strike, Struck}
use Rattle.striking.specs.Striking.{goal_refusal, struck_by}
use Rattle.striking.proofs.Laws.{struck_exact, refused_iff}
use Rattle.line_calls.specs.Goal.{goal_asked, goal_of, struck_sets, NoneMeets, GoalRule}

-- ---- before the goal is looked at

module _ (earlier : Refusal) (lines : List ℕ) where
  pub asked_earlier : (earlier.number ≡ 0 → ⊥) → earlier ≡ goal_asked earlier lines
  unfolding goal_asked
  asked_earlier n = or_first {d = earlier} refl (run_refusal lines) n

  pub asked_runs : earlier.number ≡ 0 → {d : Refusal} → d ≡ run_refusal lines → d ≡ goal_asked earlier lines
  unfolding goal_asked
  asked_runs z e = or_next {d = earlier} refl (run_refusal lines) z e

  -- nothing is refused earlier, and the lines are runs of the named tips
  pub asked-none : (goal_asked earlier lines).number ≡ 0 → (earlier.number ≡ 0) × All (λ s. T (is_run_of (named lines) s)) lines
  unfolding goal_asked
  asked-none z =
      let (free, run) = or_none earlier (run_refusal lines) z in
      (free, scan-none (is_run_of (named lines)) (λ _. 25) lines (λ _ e. omega arith) run)

-- ---- the answer and the sets

module _ (earlier : Refusal) (m : ℕ) (qs lines : List ℕ) (K : ℕ) (sets : List ℕ) where
  -- the two clauses of the call, for what the code answers and leaves
  abbrev pub Strikes : Refusal → List ℕ → Type 0
  Strikes r last = (r ≡ goal_of earlier m qs lines K) × (last ≡ struck_sets earlier m qs lines K sets)

  pub goal-stopped : {d : Refusal} → d ≡ goal_asked earlier lines → (d.number ≡ 0 → ⊥) → Strikes d sets
  unfolding goal_of struck_sets
  goal-stopped e n =
      let first = or_first e (goal_refusal m qs lines K) n in
      (first, lent_refused first (length lines) (strike m qs lines K) sets n)

  pub goal-through : {d : Refusal} → d ≡ goal_asked earlier lines → d.number ≡ 0 → {n : ℕ} → n ≡ length lines → {r : Refusal} {last : List ℕ}
      → r ≡ goal_refusal m qs lines K → last ≡ struck_by m qs lines K (take n sets) → Strikes r (last ++ drop n sets)
  unfolding goal_of struck_sets struck_by
  goal-through e z {n} size {r} {last} f g = (told, by (accepts (goal_refusal m qs lines K)) refl)
    where
      told : r ≡ or_else (goal_asked earlier lines) (goal_refusal m qs lines K)
      told = or_next e (goal_refusal m qs lines K) z f

      number : r.number ≡ (goal_refusal m qs lines K).number
      number = ap (λ x. x.number) f

      by : (t : Bool) → accepts (goal_refusal m qs lines K) ≡ t
          → last ++ drop n sets ≡ lent_by (or_else (goal_asked earlier lines) (goal_refusal m qs lines K)) (length lines) (strike m qs lines K) sets
      by true t =
          let all : last ≡ strike m qs lines K = rw t at g in
          rw size (lent_accepted told (length lines) (strike m qs lines K) sets (number ∙ eqb-true _ 0 t) all)
      by false t =
          let old : last ≡ take n sets = rw t at g in
          ap (λ l. l ++ drop n sets) old ∙ take-append-drop n sets
          ∙ lent_refused told (length lines) (strike m qs lines K) sets (λ e. eqb-false _ 0 t (sym number ∙ e))

-- ---- what the answer means

module _ (earlier : Refusal) {m : ℕ} {qs lines : List ℕ} (K : ℕ) (good : earlier.number ≡ 0 → GoodLines m qs lines) where
  abbrev r : Refusal
  r = goal_of earlier m qs lines K

  pub goal-free : r.number ≡ 0 → (goal_asked earlier lines).number ≡ 0
  unfolding goal_of
  goal-free z = (or_none (goal_asked earlier lines) (goal_refusal m qs lines K) z).0

  pub goal_exact : r.number ≡ 0 → Struck m qs lines K (strike m qs lines K)
  unfolding goal_of
  goal_exact z =
      let (asked, met) = or_none (goal_asked earlier lines) (goal_refusal m qs lines K) z in
      let (free, run) = asked-none earlier lines asked in
      struck_exact (good free) run K met

  -- the struck lines are good, and as many
  pub goal_good : r.number ≡ 0 → GoodLines m qs (strike m qs lines K)
  goal_good z =
      let g = good (asked-none earlier lines (goal-free z)).0 in
      let exact = goal_exact z in
      record {
        some = g.some;
        most = g.most;
        few-lines = omega (arith, exact.same_length, g.few-lines);
        same = omega (arith, exact.same_length, g.same);
        placed = g.placed;
        few = g.few;
        domains = exact.domains;
      }

  -- 34 exactly when no valid plan has K placement pairs
  pub goal-refuses : (goal_asked earlier lines).number ≡ 0 → (r.number ≡ 34) ↔ NoneMeets qs lines K
  unfolding goal_of
  goal-refuses z =
      let (free, run) = asked-none earlier lines z in
      let told : goal_refusal m qs lines K ≡ r = or_next {d = goal_asked earlier lines} refl (goal_refusal m qs lines K) z refl in
      let (there, back) = refused_iff (good free) run K in
      (λ e. there (ap (λ x. x.number) told ∙ e), λ f. ap (λ x. x.number) (sym told) ∙ back f)

  -- THE GOAL RULE of the struck lines
  pub goal-rule : GoalRule (goal_asked earlier lines).number m qs lines K (strike m qs lines K) r.number
  goal-rule = record {
    runs = λ z.
        let (free, run) = asked-none earlier lines (goal-free z) in
        let g = good free in
        all_map (λ s (d, t). run_misses g.most d lines t) (all_both g.domains run);
    exact = goal_exact;
    refuses = goal-refuses;
  }

-- the same for sets that are as many as the lines, where nothing is refused before
module _ (m : ℕ) (qs lines : List ℕ) (K : ℕ) (sets : List ℕ) (size : length sets ≡ length lines) where
  pub goal-all : none ≡ goal_asked none lines → {r : Refusal} {last : List ℕ}
      → r ≡ goal_refusal m qs lines K → last ≡ struck_by m qs lines K sets → Strikes none m qs lines K sets r last
  goal-all e {r} {last} f g =
      let whole : take (length sets) sets ≡ sets = take-length sets in
      let (answer, left) = goal-through none m qs lines K sets e refl {n = length sets} size f (rw whole g) in
      let same : last ++ drop (length sets) sets ≡ last = ap (λ l. last ++ l) (drop-length sets) ∙ append-nil last in
      (answer, sym same ∙ left)

-- the rule of what the code answers and leaves
pub goal-ruled : (m : ℕ) (qs lines : List ℕ) (K : ℕ) (sets : List ℕ) → length sets ≡ length lines → GoodLines m qs lines
    → {r : Refusal} {last : List ℕ} → Strikes none m qs lines K sets r last
    → GoalRule (goal_asked none lines).number m qs lines K last r.number
unfolding struck_sets
goal-ruled m qs lines K sets size good {r} {last} (told, left) =
    let rule = goal-rule none K (λ _. good) in
    let struck : r.number ≡ 0 → last ≡ strike m qs lines K = λ z.
    left ∙ accepted _ sets told z ∙ rw (← size, drop-length sets) (append-nil (strike m qs lines K)) in
    rw (ap (λ x. x.number) told) (record {
      runs = rule.runs;
      exact = λ z. rw (struck (ap (λ x. x.number) told ∙ z)) (rule.exact z);
      refuses = rule.refuses;
    })
