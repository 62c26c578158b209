-- Common tip of an accepted file, from the occurrences of each tip.
use Prim.Native.Nat.{ℕ, ◌-◌, ◌≤◌}
use mathlib.Core.Path.{◌≡◌, refl, sym, subst, ◌∙◌}
use mathlib.Core.List.{List}
use native.Mathlib.Omega.{arith}
use Rattle.model.specs.Count.{largest}
use Rattle.placements.specs.Repeated.{total, repeated}
use Rattle.refusal.specs.Refusal.{none}
use Rattle.counts.specs.Counts.{count_at, busy_tips, Counts}
use Rattle.counts.proofs.Read.{largest-top, tips-W}
use Rattle.common_tip.proofs.Laws.{top-total}
use Rattle.job.specs.Job.{rack_in, sets_in, quantities_in, read_refusal}
use Rattle.job.proofs.Reading.{read_good, read_none}
use Rattle.line_calls.proofs.CommonTip.{common_accepted}
use Rattle.file_calls.specs.Outcomes.{Outcome}
use Rattle.file_calls.specs.Calls.{common_in}
use Rattle.file_calls.specs.Rules.{CommonRuleOf}
use Rattle.file_calls.proofs.ReadLines.{common-in}

module _ (file : List ℕ) (z : (read_refusal file).number ≡ 0) {planes : List ℕ}
    (c : Counts (repeated (quantities_in file) (sets_in file)) planes) where
  abbrev m : ℕ
  m = rack_in file

  pub most_few : largest (count_at planes) m ≤ total (quantities_in file)
  most_few = let good = read_good file z in omega (arith, largest-top c m, top-total m (record { same = good.same; few = good.few }))

  -- THE ANSWER for the file, under another name of its bytes
  module _ {t d w : ℕ} (e : t ≡ largest (count_at planes) m) (f : d ≡ total (quantities_in file) - t) (g : w ≡ busy_tips (count_at planes) t m) where
    abbrev o : Outcome
    o = record { refusal = none; first = t; second = d; third = w }

    Answers : List ℕ → Type 0
    Answers x = (o ≡ common_in x) × CommonRuleOf x o

    answers : Answers file
    unfolding Answers
    answers =
        let top = e ∙ largest-top c m in
        let (p, rule) = common_accepted none m (quantities_in file) (sets_in file) refl (read_good file z) top f (g ∙ tips-W c m top) in
        common-in file (sym (read_none file z)) (λ _. (refl, refl, refl)) p rule

    pub counted-in : {other : List ℕ} → file ≡ other → (o ≡ common_in other) × CommonRuleOf other o
    unfolding Answers
    counted-in same = subst Answers same answers
