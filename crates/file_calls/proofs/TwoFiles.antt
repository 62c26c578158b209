-- Two files: from the lines that were read to what merging them and planning each alone give, and what is written reads back as the panel's lines.
use Prim.Native.Nat.{ℕ, ◌+◌, ◌≤◌}
use native.Mathlib.Omega.{arith}
use mathlib.Core.Path.{◌≡◌, sym, refl, ap, ap₂, subst, ◌∙◌}
use mathlib.Core.Bool.{Bool, true, false}
use mathlib.Core.List.{List, ◌++◌}
use lib.ListN.{length, take, drop}
use lib.Seq.{length-take-le, take_at}
use borrow.Author.Tests.{eqb-true, eqb-false}
use Rattle.model.specs.Limits.{most_lines}
use Rattle.placements.specs.Repeated.{total}
use Rattle.placements.specs.Good.{GoodLines}
use Rattle.file_calls.specs.Calls.{file_outcome}
use Rattle.refusal.specs.Refusal.{or_else}
use Rattle.refusal.specs.Told.{Refusal}
use Rattle.refusal.specs.Refusal.{none, accepts, Given}
use Rattle.refusal.specs.declared.Refused.{Refused}
use Rattle.refusal.specs.Reasons.{told_of}
use Rattle.refusal.proofs.Laws.{number_of, or_first, or_ok, or_none, accepted, reason_not_0}
use Rattle.model.proofs.Append.{all_append}
use Rattle.job.specs.Job.{Bytes, file_length, version_for, written_of, rack_in, sets_in, quantities_in, read_refusal, InShorterForm, ReadsAs}
use Rattle.job.proofs.Reading.{bytes_quantities, read_good}
use Rattle.job.proofs.Writing.{length-file_of, written_back}
use Rattle.call_refusals.specs.Calls.{write_refusal}
use Rattle.call_refusals.proofs.Calls.{plan_none, write_none}
use Rattle.line_calls.specs.Answers.{FileAnswer}
use Rattle.line_calls.specs.Lines.{write_of, write_buffer}
use Rattle.line_calls.proofs.JobFile.{write_stopped}
use Rattle.panel.specs.Answers.{AloneAnswer}
use Rattle.panel.specs.Panel.{merge_refusal, merge_of, alone_of, alone_buffer}
use Rattle.panel.specs.Files.{merge_of_read}
use Rattle.panel.specs.Rules.{PanelRule, AloneRule}
use Rattle.panel.proofs.BothPlans.{alone_stopped, alone_refused}
use Rattle.panel.proofs.Panel.{good_append, panel-rule}
use Rattle.panel.proofs.Merged.{Mergeable, merge_none}
use Rattle.panel.proofs.Refused.{alone_same, alone_buffer_same, alone_rule_same}
use Rattle.file_calls.specs.Outcomes.{Outcome, refused_outcome}
use Rattle.file_calls.specs.Panel.{reads_refusal, merge_refusal_in, merge_of_files, merge_file_in, MergeRuleOf}
use Rattle.file_calls.specs.Panel.{alone_outcome, alone_in, alone_plan_in, AloneRuleOf}
use Rattle.file_calls.proofs.ReadLines.{AsRead}
use Rattle.file_calls.proofs.WrittenFile.{written_version}

-- a file that was read has few lines, and one that was not has none
pub few-lines : {d : Refusal} {m n : ℕ} {qs sets : List ℕ} → Given d m n qs sets → ((d.number ≡ 0 → ⊥) → (m ≡ 0) × (n ≡ 0)) → n ≤ most_lines
few-lines {d} {n} {sets} g h = by (accepts d) refl
  where
    by : (t : Bool) → accepts d ≡ t → n ≤ most_lines
    by true e = let z = eqb-true d.number 0 e in omega (arith, (g.good z).few-lines, length-take-le n sets (g.room z))
    by false e = omega (arith, (h (eqb-false d.number 0 e)).1)

module _ (first second : List ℕ) {d e state : Refusal} (p : d ≡ read_refusal first) (q : e ≡ read_refusal second) (g : state ≡ or_else d e)
    {m o : ℕ} {qs sets rs others : List ℕ} (same : d.number ≡ 0 → AsRead first m qs sets)
    (second-same : e.number ≡ 0 → AsRead second o rs others) where
  reads : state ≡ reads_refusal first second
  reads = g ∙ ap₂ or_else p q

  -- both are read where nothing is refused
  both : state.number ≡ 0 → (d.number ≡ 0) × (e.number ≡ 0)
  both z = or_none d e (number_of g z)

  same_both : state.number ≡ 0 → AsRead first m qs sets × AsRead second o rs others
  same_both z = (same (both z).0, second-same (both z).1)

  pub alone-in : (plan : List ℕ) {a : AloneAnswer} {last : List ℕ}
      → a ≡ alone_of state m qs sets o rs others (length plan)
      → last ≡ alone_buffer state m qs sets o rs others plan
      → AloneRule qs sets rs others last a.refusal.number a.first_pairs a.second_pairs
      → (alone_outcome a ≡ alone_in first second (length plan))
      × ((last ≡ alone_plan_in first second plan) × AloneRuleOf first second last (alone_outcome a))
  unfolding alone_in alone_plan_in alone_of
  alone-in plan {a} s t rule =
      let free : a.refusal.number ≡ 0 → state.number ≡ 0 =
      λ z. (plan_none state (length sets + length others) (length plan) (ap (λ x. x.refusal.number) (sym s) ∙ z)).0 in (
        ap alone_outcome (s ∙ alone_same state same_both plan)
            ∙ ap (λ r. alone_outcome
            (alone_of r (rack_in first) (quantities_in first) (sets_in first) (rack_in second) (quantities_in second) (sets_in second)
            (length plan))) reads,
        (
          t ∙ alone_buffer_same state same_both plan
              ∙ ap (λ r.
              alone_buffer r (rack_in first) (quantities_in first) (sets_in first) (rack_in second) (quantities_in second) (sets_in second) plan)
              reads,
          alone_rule_same (λ z. same_both (free z)) rule,
        ),
      )

-- merging two files that are read, from file to file
module _ (first second : List ℕ) (p : none ≡ read_refusal first) (q : none ≡ read_refusal second) where
  read-merged : merge_of_read first second ≡ merge_refusal_in first second
  read-merged =
      ap (λ r. merge_of r (rack_in first) (quantities_in first) (sets_in first) (rack_in second) (quantities_in second) (sets_in second))
      (or_ok (read_refusal second) p q)

  pub merge_in : (out : List ℕ) {w : FileAnswer} {bytes : List ℕ}
      → w ≡ write_of (merge_of_read first second) (quantities_in first ++ quantities_in second) (sets_in first ++ sets_in second) (length out)
      → bytes ≡ write_buffer (merge_of_read first second) (rack_in first) (quantities_in first ++ quantities_in second)
      (sets_in first ++ sets_in second) out
      → (file_outcome w ≡ merge_of_files first second (length out)) × (bytes ≡ merge_file_in first second out)
  unfolding merge_of_files merge_file_in
  merge_in out u v =
      let qs = quantities_in first ++ quantities_in second in
      let lines = sets_in first ++ sets_in second in (
        ap file_outcome (u ∙ ap (λ r. write_of r qs lines (length out)) read-merged),
        v ∙ ap (λ r. write_buffer r (rack_in first) qs lines out) read-merged,
      )

-- ---- the rule of the merge

module _ (first second out : List ℕ) where
  abbrev m : ℕ
  m = rack_in first

  abbrev qs : List ℕ
  qs = quantities_in first ++ quantities_in second

  abbrev lines : List ℕ
  lines = sets_in first ++ sets_in second

  abbrev decided : Refusal
  decided = write_refusal (merge_refusal_in first second) (version_for qs) (length lines) (length out)

  abbrev result : Outcome
  result = merge_of_files first second (length out)

  decided-by : result.refusal.number ≡ 0 → decided.number ≡ 0
  unfolding merge_of_files write_of
  decided-by z = z

  module _ (z : result.refusal.number ≡ 0) where
    merged : Mergeable (reads_refusal first second) m (rack_in second) (length (sets_in first) + length (sets_in second))
        (total (quantities_in first) + total (quantities_in second))
    unfolding merge_of
    merged =
        merge_none (reads_refusal first second) m (rack_in second) _ _
        (write_none (merge_refusal_in first second) (version_for qs) (length lines) (length out) (decided-by z)).0

    lines-rule : PanelRule m (quantities_in first) (sets_in first) (quantities_in second) (sets_in second) qs lines
    lines-rule =
        let (f, s) = or_none (read_refusal first) (read_refusal second) merged.free in
        let a = read_good first f in
        let b : GoodLines m (quantities_in second) (sets_in second) = rw merged.same_rack (read_good second s) in
        panel-rule a b (good_append a b merged.lines_few merged.few)

    -- the bytes in the output are the file of the panel's lines and their quantities
    written : take result.first (merge_file_in first second out) ≡ written_of m qs lines
    unfolding merge_of_files merge_file_in write_of write_buffer
    written =
        let size = file_length (version_for qs) (length lines) in
        let free = decided-by z in
        ap₂ take (accepted size 0 {d = decided} refl free) (accepted (written_of m qs lines ++ drop size out) out {d = decided} refl free)
        ∙ take_at (written_of m qs lines) (drop size out) size (length-file_of (version_for qs) m qs lines lines-rule.good.same)

    -- each quantity is a byte of its file, or 1
    module _ (bytes : Bytes first) (second-bytes : Bytes second) where
      reads_as : ReadsAs m qs lines (take result.first (merge_file_in first second out))
      reads_as =
          rw written
          (written_back m qs lines lines-rule.good (all_append (bytes_quantities first bytes) (bytes_quantities second second-bytes)))

      shorter : InShorterForm (take result.first (merge_file_in first second out))
      shorter = rw (reads_as.quantities_are, written) (written_version m qs lines)

  pub merge_rule : Bytes first → Bytes second → MergeRuleOf first second (merge_file_in first second out) result
  merge_rule b c = record {
    is_read = λ z. (reads_as z b c).accepted;
    shorter_form = λ z. shorter z b c;
    same_rack = λ z. (reads_as z b c).rack-is;
    rule = λ z. let r = reads_as z b c in rw (r.quantities_are, r.sets_are) (lines-rule z);
  }

-- ---- what is given by a result

module _ (first second : List ℕ) where
  -- planning alone, where a file is refused
  pub alone_read : (e : Refused) → told_of e ≡ reads_refusal first second → (plan : List ℕ)
      → (refused_outcome e 0 ≡ alone_in first second (length plan))
      × ((plan ≡ alone_plan_in first second plan) × AloneRuleOf first second plan (refused_outcome e 0))
  unfolding alone_in alone_plan_in
  alone_read e r plan =
      let n = reason_not_0 e.reason in
      let stopped = alone_stopped (reads_refusal first second) (sets_in first) (sets_in second) (length plan)
      (λ z. n (ap (λ x. x.number) r ∙ z)) in
      let (a, (b, rule)) =
      alone_refused (reads_refusal first second) (rack_in first) (quantities_in first) (sets_in first) (rack_in second) (quantities_in second)
      (sets_in second) plan (r ∙ stopped) n in
      (ap alone_outcome a, (b, rule))

  -- the rule of what is given and left, where these are what merging gives and leaves
  pub merge-ruled : (out : List ℕ) → Bytes first → Bytes second → {x : Outcome} {last : List ℕ}
      → x ≡ merge_of_files first second (length out) → last ≡ merge_file_in first second out → MergeRuleOf first second last x
  merge-ruled out b c {x} {last} p q =
      subst (λ l. MergeRuleOf first second l x) (sym q)
      (subst (λ y. MergeRuleOf first second (merge_file_in first second out) y) (sym p) (merge_rule first second out b c))

  -- a file that is refused refuses the merge
  pub reads-refused : (e : Refused) → told_of e ≡ reads_refusal first second → told_of e ≡ merge_refusal_in first second
  unfolding merge_of merge_refusal
  reads-refused e r = or_first r _ (reason_not_0 e.reason)

  -- merging, where a file or the merge is refused: nothing is written
  pub merge-refused : (e : Refused) → told_of e ≡ merge_refusal_in first second → (out : List ℕ) → Bytes first → Bytes second
      → (refused_outcome e 0 ≡ merge_of_files first second (length out))
      × ((out ≡ merge_file_in first second out) × MergeRuleOf first second out (refused_outcome e 0))
  unfolding merge_of_files merge_file_in
  merge-refused e r out b c =
      let all-qs = quantities_in first ++ quantities_in second in
      let all = sets_in first ++ sets_in second in
      let (f, g) = write_stopped (told_of e) (rack_in first) all-qs all out (reason_not_0 e.reason) in
      let told : refused_outcome e 0 ≡ merge_of_files first second (length out) =
      ap file_outcome f ∙ ap (λ x. file_outcome (write_of x all-qs all (length out))) r in
      let stays : out ≡ merge_file_in first second out = g ∙ ap (λ x. write_buffer x (rack_in first) all-qs all out) r in
      (told, (stays, merge-ruled out b c told stays))
