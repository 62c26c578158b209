-- A pair goal on a file: the struck lines are written, and what is written reads back as them, of the same rack with the same quantities.
use Prim.Native.Nat.{ℕ}
use mathlib.Core.Path.{◌≡◌, refl, sym, ap, subst, ◌∙◌}
use mathlib.Core.Logic.{◌↔◌}
use mathlib.Core.List.{List, append-nil}
use native.Mathlib.Omega.{arith}
use lib.ListN.{length, take, drop_of_length-le}
use Rattle.placements.specs.Good.{GoodLines}
use Rattle.file_calls.specs.Calls.{file_outcome}
use Rattle.refusal.specs.Told.{Refusal}
use Rattle.refusal.specs.declared.Refused.{Refused}
use Rattle.refusal.specs.Reasons.{told_of}
use Rattle.refusal.specs.Refusal.{none}
use Rattle.refusal.proofs.Laws.{number_of, reason_not_0, accepted}
use Rattle.goal_rules.specs.Goal.{strike}
use Rattle.job.specs.Job.{Bytes, version_for, rack_in, sets_in, quantities_in, read_refusal, InShorterForm, ReadsAs}
use Rattle.job.proofs.Reading.{read_good}
use Rattle.line_calls.specs.Answers.{FileAnswer}
use Rattle.line_calls.specs.Lines.{write_of, write_buffer}
use Rattle.line_calls.specs.Goal.{goal_asked, goal_of, struck_sets, NoneMeets}
use Rattle.line_calls.proofs.PairGoal as laws
use Rattle.line_calls.proofs.JobFile.{write_stopped}
use Rattle.line_calls.proofs.Refused.{Same, goal_same, write_same, write_buffer_same}
use Rattle.file_calls.specs.Outcomes.{Outcome, refused_outcome}
use Rattle.file_calls.specs.Goal.{goal_refusal_in, struck_in, goal_in, goal_file_in, GoalRuleOf}
use Rattle.file_calls.proofs.ReadLines.{AsRead}
use Rattle.file_calls.proofs.WrittenFile.{same_number, decided, earlier_none, reads, shorter}

-- ---- the lines that striking leaves

module _ (d : Refusal) {m : ℕ} {qs sets : List ℕ} (given : d.number ≡ 0 → GoodLines m qs sets) (K : ℕ)
    {r : Refusal} (p : r ≡ goal_of d m qs sets K) (z : r.number ≡ 0) where
  struck-free : d.number ≡ 0
  struck-free = (laws.asked-none d sets (laws.goal-free d K given (number_of p z))).0

  -- they are good, and in their places there is nothing else
  pub good-struck : GoodLines m qs (strike m qs sets K)
  good-struck = laws.goal_good d K given (number_of p z)

  pub struck-all : (old : List ℕ) → length old ≡ length sets → {last : List ℕ} → last ≡ struck_sets d m qs sets K old → last ≡ strike m qs sets K
  unfolding struck_sets
  struck-all old size q =
      let nothing = drop_of_length-le old {i = length sets} (omega (arith, size)) in
      q ∙ accepted _ old p z ∙ rw nothing (append-nil (strike m qs sets K))

-- ---- from the lines that were read to the file

module _ (file : List ℕ) {d : Refusal} (e : d ≡ read_refusal file) {m : ℕ} {qs sets : List ℕ} (given : d.number ≡ 0 → GoodLines m qs sets)
    (same : d.number ≡ 0 → AsRead file m qs sets) (K : ℕ) {r : Refusal} (p : r ≡ goal_of d m qs sets K)
    {last : List ℕ} (q : r.number ≡ 0 → last ≡ strike m qs sets K) (out : List ℕ) where
  refusal_in : r ≡ goal_refusal_in file K
  refusal_in = p ∙ goal_same d same K ∙ ap (λ x. goal_of x (rack_in file) (quantities_in file) (sets_in file) K) e

  same_struck : r.number ≡ 0 → Same m (rack_in file) qs (quantities_in file) last (struck_in file K)
  same_struck z =
      let (rack, quantities, read) = same (struck-free d given K p z) in
      (rack, quantities, q z ∙ rw (rack, quantities, read) refl)

  pub goal-in : {w : FileAnswer} {bytes : List ℕ} → w ≡ write_of r qs last (length out) → bytes ≡ write_buffer r m qs last out
      → (file_outcome w ≡ goal_in file K (length out)) × (bytes ≡ goal_file_in file K out)
  unfolding goal_in goal_file_in
  goal-in f g = (
    ap file_outcome (f ∙ write_same r same_struck out)
        ∙ ap (λ x. file_outcome (write_of x (quantities_in file) (struck_in file K) (length out))) refusal_in,
    g ∙ write_buffer_same r same_struck out ∙ ap (λ x. write_buffer x (rack_in file) (quantities_in file) (struck_in file K) out) refusal_in,
  )

-- ---- the rule

module _ (file : List ℕ) (K : ℕ) (out : List ℕ) (bytes : Bytes file) where
  abbrev refused : Refusal
  refused = goal_refusal_in file K

  abbrev struck : List ℕ
  struck = struck_in file K

  good_struck : refused.number ≡ 0 → GoodLines (rack_in file) (quantities_in file) struck
  good_struck = laws.goal_good (read_refusal file) K (read_good file)

  abbrev o : Outcome
  o = goal_in file K (length out)

  decided-by : o.refusal.number ≡ 0 → (decided file refused struck good_struck out).number ≡ 0
  unfolding goal_in write_of
  decided-by z = z

  accepted_by : o.refusal.number ≡ 0 → refused.number ≡ 0
  accepted_by z = earlier_none file refused struck good_struck out (decided-by z)

  -- what is written reads as the struck lines
  as_struck : (z : o.refusal.number ≡ 0) → ReadsAs (rack_in file) (quantities_in file) struck (take o.first (goal_file_in file K out))
  unfolding goal_in goal_file_in
  as_struck z = reads file refused struck good_struck out (decided-by z) bytes

  in_short : (z : o.refusal.number ≡ 0) → InShorterForm (take o.first (goal_file_in file K out))
  unfolding goal_in goal_file_in
  in_short z = shorter file refused struck good_struck out (decided-by z) bytes

  refuses : (goal_asked (read_refusal file) (sets_in file)).number ≡ 0 → (o.refusal.number ≡ 34) ↔ NoneMeets (quantities_in file) (sets_in file) K
  unfolding goal_in write_of
  refuses z =
      let v = version_for (quantities_in file) in
      let (there, back) = same_number refused v (length struck) (length out) 34 (λ e. omega arith) (λ e. omega arith) in
      let (no-plan, missed) = laws.goal-refuses (read_refusal file) K (read_good file) z in
      (λ h. no-plan (there h), λ h. back (missed h))

  pub goal-rule : GoalRuleOf file K (goal_file_in file K out) o
  goal-rule =
      let rule = laws.goal-rule (read_refusal file) K (read_good file) in
      record {
        is_read = λ z. (as_struck z).accepted;
        shorter_form = in_short;
        same_rack = λ z. (as_struck z).rack-is;
        same_quantities = λ z. (as_struck z).quantities_are;
        goal = record {
          runs = λ z. rule.runs (accepted_by z);
          exact = λ z. rw (as_struck z).sets_are (rule.exact (accepted_by z));
          refuses = refuses;
        };
      }

-- the rule of what is given and left, where these are what striking gives and leaves
pub goal-ruled : (file : List ℕ) (K : ℕ) (out : List ℕ) → Bytes file → {o : Outcome} {last : List ℕ}
    → o ≡ goal_in file K (length out) → last ≡ goal_file_in file K out → GoalRuleOf file K last o
goal-ruled file K out bytes {o} {last} p q =
    subst (λ x. GoalRuleOf file K x o) (sym q)
    (subst (λ x. GoalRuleOf file K (goal_file_in file K out) x) (sym p) (goal-rule file K out bytes))

-- striking is refused: nothing is written
pub goal-refused : (file : List ℕ) → none ≡ read_refusal file → {m : ℕ} {qs sets : List ℕ} → (none.number ≡ 0 → GoodLines m qs sets)
    → (none.number ≡ 0 → AsRead file m qs sets) → (K : ℕ) (out : List ℕ) (e : Refused) → told_of e ≡ goal_of none m qs sets K
    → (refused_outcome e 0 ≡ goal_in file K (length out)) × (out ≡ goal_file_in file K out)
goal-refused file r {m} {qs} {sets} given same K out e p =
    let left = strike m qs sets K in
    let (f, g) = write_stopped (told_of e) m qs left out (reason_not_0 e.reason) in
    goal-in file r given same K p {last = left} (λ _. refl) out f g
