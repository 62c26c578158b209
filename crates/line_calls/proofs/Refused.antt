-- Rack and lines count only where nothing is refused earlier: after a refusal each call answers and leaves the same, whatever they are.
use Prim.Native.Nat.{ℕ}
use mathlib.Core.Path.{◌≡◌, refl, sym, ◌∙◌}
use mathlib.Core.Bool.{Bool, true, false}
use mathlib.Core.List.{List}
use lib.ListN.{length}
use borrow.Author.Tests.{eqb-true, eqb-false}
use Rattle.model.specs.Choice.{Mounted, bare}
use Rattle.refusal.specs.Told.{Refusal}
use Rattle.refusal.specs.Refusal.{accepts}
use Rattle.refusal.proofs.Laws.{or_first}
use Rattle.call_refusals.specs.Calls.{plan_refusal, best_refusal}
use Rattle.call_refusals.specs.Junior
use Rattle.line_calls.specs.Lines.{common_of, keep_of, quick_of, quick_buffer, best_of, best_buffer, best_table, check_of, write_of, write_buffer}
use Rattle.line_calls.specs.Goal.{goal_of}
use Rattle.line_calls.specs.Junior.{junior_of, junior_buffer}
use Rattle.line_calls.specs.Along.{along_of, along_buffer}
use Rattle.line_calls.specs.Exact.{exact_of, exact_buffer, exact_cells}
use Rattle.line_calls.specs.Rules.{CommonRule, HalfRule, BestRule}
use Rattle.line_calls.proofs.CommonTip.{common_refused}
use Rattle.line_calls.proofs.KeepWithin.{keep-stopped}
use Rattle.line_calls.proofs.Plans.{quick_refused, best-refused}
use Rattle.line_calls.proofs.Checked.{check_first}
use Rattle.line_calls.proofs.PairGoal.{asked_earlier, goal-stopped}
use Rattle.line_calls.proofs.JobFile.{write_stopped}
use Rattle.line_calls.proofs.JuniorPlan.{junior_refused}
use Rattle.line_calls.proofs.AlongPlan.{along_refused}
use Rattle.line_calls.proofs.ExactPlan.{exact_first, exact_refused}

module _ (earlier : Refusal) (h : earlier.number ≡ 0 → ⊥) (m : ℕ) (lines : List ℕ) where
  plan_stopped : (room : ℕ) → earlier ≡ plan_refusal earlier (length lines) room
  unfolding plan_refusal
  plan_stopped room = or_first {d = earlier} refl _ h

  best-stopped : (room places : ℕ) → earlier ≡ best_refusal earlier m lines room places
  unfolding best_refusal
  best-stopped room places = or_first (plan_stopped room) _ h

  junior_stopped : (room : ℕ) → earlier ≡ Junior.junior_refusal earlier m (length lines) room
  unfolding Junior.junior_refusal
  junior_stopped room = or_first {d = earlier} refl _ h

-- rack, quantities and lines that are equal to others
abbrev pub Same : ℕ → ℕ → List ℕ → List ℕ → List ℕ → List ℕ → Type 0
Same m n qs rs lines others = (m ≡ n) × (qs ≡ rs) × (lines ≡ others)

-- what is the same for all lines after a refusal, is the same for lines that are equal where nothing is refused
module _ (earlier : Refusal) {m n : ℕ} {qs rs lines others : List ℕ} (same : earlier.number ≡ 0 → Same m n qs rs lines others) where
  by_earlier : {A : Type 0} (f : ℕ → List ℕ → List ℕ → A) {x : A} → ((earlier.number ≡ 0 → ⊥) → (k : ℕ) (q l : List ℕ) → x ≡ f k q l)
      → f m qs lines ≡ f n rs others
  by_earlier f {x} stopped = by (accepts earlier) refl
    where
      by : (t : Bool) → accepts earlier ≡ t → f m qs lines ≡ f n rs others
      by true e = let (a, b, c) = same (eqb-true earlier.number 0 e) in rw (a, b, c) refl
      by false e = let h = eqb-false earlier.number 0 e in sym (stopped h m qs lines) ∙ stopped h n rs others

  pub common_same : common_of earlier m qs lines ≡ common_of earlier n rs others
  common_same = by_earlier (common_of earlier) (λ h k q l. (common_refused earlier k q l h).0)

  pub keep_same : (within : ℕ) → keep_of earlier m qs lines within ≡ keep_of earlier n rs others within
  keep_same within = by_earlier (λ k q l. keep_of earlier k q l within) (λ h k q l. (keep-stopped earlier k q l within l h).0)

  pub goal_same : (K : ℕ) → goal_of earlier m qs lines K ≡ goal_of earlier n rs others K
  goal_same K = by_earlier (λ k q l. goal_of earlier k q l K) (λ h k q l. (goal-stopped earlier k q l K l (asked_earlier earlier l h) h).0)

  pub check_same : (plan : List ℕ) (claim : ℕ) (tab : List ℕ) →
      check_of earlier m qs lines plan claim tab ≡ check_of earlier n rs others plan claim tab
  check_same plan claim tab =
      by_earlier (λ k q l. check_of earlier k q l plan claim tab)
      (λ h k q l. check_first earlier k q l plan claim tab (best-stopped earlier h k l (length plan) (length tab)) h)

  module _ (plan : List ℕ) where
    pub quick_same : (mounted : Mounted) → quick_of earlier m mounted qs lines (length plan) ≡ quick_of earlier n mounted rs others (length plan)
    quick_same mounted =
        by_earlier (λ k q l. quick_of earlier k mounted q l (length plan))
        (λ h k q l. (quick_refused earlier k mounted q l plan (plan_stopped earlier h k l (length plan)) (λ _. refl) h).0)

    pub quick_buffer_same : (mounted : Mounted) → quick_buffer earlier m mounted qs lines plan ≡ quick_buffer earlier n mounted rs others plan
    quick_buffer_same mounted =
        by_earlier (λ k q l. quick_buffer earlier k mounted q l plan)
        (λ h k q l. (quick_refused earlier k mounted q l plan (plan_stopped earlier h k l (length plan)) (λ _. refl) h).1.0)

    pub junior_same : junior_of earlier m qs lines (length plan) ≡ junior_of earlier n rs others (length plan)
    junior_same =
        by_earlier (λ k q l. junior_of earlier k q l (length plan))
        (λ h k q l. (junior_refused earlier k q l plan (junior_stopped earlier h k l (length plan)) h).0)

    pub junior_buffer_same : junior_buffer earlier m qs lines plan ≡ junior_buffer earlier n rs others plan
    junior_buffer_same =
        by_earlier (λ k q l. junior_buffer earlier k q l plan)
        (λ h k q l. (junior_refused earlier k q l plan (junior_stopped earlier h k l (length plan)) h).1.0)

    pub along_same : (mounted : Mounted) → along_of earlier mounted qs lines (length plan) ≡ along_of earlier mounted rs others (length plan)
    along_same mounted =
        by_earlier (λ _ q l. along_of earlier mounted q l (length plan))
        (λ h k q l. (along_refused earlier mounted q l plan (plan_stopped earlier h k l (length plan)) (λ _. refl) h).0)

    pub along_buffer_same : (mounted : Mounted) → along_buffer earlier mounted lines plan ≡ along_buffer earlier mounted others plan
    along_buffer_same mounted =
        by_earlier (λ _ _ l. along_buffer earlier mounted l plan)
        (λ h k q l. (along_refused earlier mounted q l plan (plan_stopped earlier h k l (length plan)) (λ _. refl) h).1)

    module _ (cells : List ℕ) where
      pub best_same : best_of earlier m qs lines (length plan) (length cells) ≡ best_of earlier n rs others (length plan) (length cells)
      best_same =
          by_earlier (λ k q l. best_of earlier k q l (length plan) (length cells))
          (λ h k q l. (best-refused earlier k bare q l plan cells (best-stopped earlier h k l (length plan) (length cells)) h).0)

      pub best_buffer_same : (mounted : Mounted)
          → best_buffer earlier m mounted qs lines plan (length cells) ≡ best_buffer earlier n mounted rs others plan (length cells)
      best_buffer_same mounted =
          by_earlier (λ k q l. best_buffer earlier k mounted q l plan (length cells))
          (λ h k q l. (best-refused earlier k mounted q l plan cells (best-stopped earlier h k l (length plan) (length cells)) h).1.0)

      pub best-table_same : best_table earlier m qs lines (length plan) cells ≡ best_table earlier n rs others (length plan) cells
      best-table_same =
          by_earlier (λ k q l. best_table earlier k q l (length plan) cells)
          (λ h k q l. (best-refused earlier k bare q l plan cells (best-stopped earlier h k l (length plan) (length cells)) h).1.1.0)

    module _ (mounted : Mounted) (price : ℕ) (cells : List ℕ) where
      pub exact_same : exact_of earlier m mounted price qs lines (length plan) (length cells)
          ≡ exact_of earlier n mounted price rs others (length plan) (length cells)
      exact_same =
          by_earlier (λ k q l. exact_of earlier k mounted price q l (length plan) (length cells))
          (λ h k q l. (exact_refused earlier k mounted price q l plan cells (exact_first earlier k l (length plan) (length cells) h) h).0)

      pub exact_buffer_same : exact_buffer earlier m mounted price qs lines plan (length cells)
          ≡ exact_buffer earlier n mounted price rs others plan (length cells)
      exact_buffer_same =
          by_earlier (λ k q l. exact_buffer earlier k mounted price q l plan (length cells))
          (λ h k q l. (exact_refused earlier k mounted price q l plan cells (exact_first earlier k l (length plan) (length cells) h) h).1.0)

      pub exact-cells_same : exact_cells earlier m price qs lines (length plan) cells ≡ exact_cells earlier n price rs others (length plan) cells
      exact-cells_same =
          by_earlier (λ k q l. exact_cells earlier k price q l (length plan) cells)
          (λ h k q l. (exact_refused earlier k mounted price q l plan cells (exact_first earlier k l (length plan) (length cells) h) h).1.1)

  module _ (out : List ℕ) where
    pub write_same : write_of earlier qs lines (length out) ≡ write_of earlier rs others (length out)
    write_same = by_earlier (λ _ q l. write_of earlier q l (length out)) (λ h k q l. (write_stopped earlier k q l out h).0)

    pub write_buffer_same : write_buffer earlier m qs lines out ≡ write_buffer earlier n rs others out
    write_buffer_same = by_earlier (λ k q l. write_buffer earlier k q l out) (λ h k q l. (write_stopped earlier k q l out h).1)

-- a rule speaks of lines only where its number is 0
module _ {m n : ℕ} {qs rs lines others : List ℕ} {number : ℕ} (same : number ≡ 0 → Same m n qs rs lines others) where
  pub common_rule_same : {top off tips : ℕ} → CommonRule m qs lines number top off tips → CommonRule n rs others number top off tips
  common_rule_same r = record {
    off_least = λ z. let (a, b, c) = same z in rw (← a, ← b, ← c) (r.off_least z);
    tips_exact = λ z. let (a, b, c) = same z in rw (← b, ← c) (r.tips_exact z);
  }

  pub half_rule_same : {buffer : List ℕ} {shared : ℕ} → HalfRule qs lines buffer number shared → HalfRule rs others buffer number shared
  half_rule_same r = record {
    plan = λ z. let (a, b, c) = same z in rw (← b, ← c) (r.plan z);
    half = λ z. let (a, b, c) = same z in rw (← b, ← c) (r.half z);
  }

  pub best-rule_same : {buffer : List ℕ} {shared : ℕ} → BestRule qs lines buffer number shared → BestRule rs others buffer number shared
  best-rule_same r = record {
    runs = λ z. let (a, b, c) = same z in rw (← c) (r.runs z);
    plan = λ z. let (a, b, c) = same z in rw (← b, ← c) (r.plan z);
    best = λ z. let (a, b, c) = same z in rw (← b, ← c) (r.best z);
  }
