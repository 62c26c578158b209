-- The plans whose report is printed keep the half rule and the best rule.
use Prim.Native.Nat.{ℕ, ◌≤◌}
use mathlib.Core.Path.{◌≡◌, refl, sym, ap, ◌∙◌}
use mathlib.Core.List.{List}
use native.Mathlib.Omega.{arith}
use borrow.Author.Tests.{le-ltb}
use lib.ListN.{length, take, drop}
use lib.Seq.{take_at, take_all}
use Rattle.model.specs.Choice.{bare}
use Rattle.model.specs.Interval.{named, is_run_of}
use Rattle.model.specs.Plan.{Valid, pairs}
use Rattle.model.proofs.Lists.{all_map, all_both, each_iff}
use Rattle.model.proofs.Run.{run_misses}
use Rattle.model.proofs.Valid.{valid_length}
use Rattle.placements.specs.Good.{GoodLines}
use Rattle.placements.specs.Repeated.{repeated}
use Rattle.placements.proofs.Plans.{quick_valid_lines, quick_half_placements, best_valid_lines, best-pairs-placements, best-placements}
use Rattle.refusal.specs.Refusal.{none}
use Rattle.job.specs.Job.{rack_in, sets_in, quantities_in, read_refusal}
use Rattle.job.proofs.Reading.{read_good}
use Rattle.line_calls.specs.Rules.{HandedOut}
use Rattle.text.specs.Buffer.{Printed}
use Rattle.report.specs.Report.{report_of}
use Rattle.file_report.specs.Summary.{facts_of, text_of, text_room, taken, summary_of, PlansRule, ReportRule}

-- a plan by itself, without bytes after it
alone : (qs : List ℕ) {lines plan : List ℕ} {x : ℕ} → Valid lines plan → x ≡ pairs (repeated qs plan) → HandedOut qs lines plan x
alone qs {lines} {plan} v e =
    let all = take_all (length lines) plan (omega (arith, valid_length v)) in
    record { own = rw all v; counted = rw all (sym e) }

pub plans_rule : {m : ℕ} {qs lines : List ℕ} → GoodLines m qs lines → PlansRule qs lines (facts_of m qs lines)
unfolding facts_of
plans_rule {m} {qs} {lines} good = record {
  half = record {
    plan = λ _. alone qs (quick_valid_lines bare good.domains good.placed good.same) refl;
    half = λ _ other v. quick_half_placements bare good.domains qs v;
  };
  best = λ t.
      let runs = (each_iff (is_run_of (named lines)) lines).0 t in
      let counted = best-pairs-placements bare good.domains good.placed good.same good.most runs in
      record {
        runs = λ _. all_map (λ s (d, r). run_misses good.most d lines r) (all_both good.domains runs);
        plan = λ _. alone qs (best_valid_lines bare good.domains good.placed good.same good.most runs) (sym counted);
        best = λ _ other v. rw (← counted) (best-placements bare good.domains good.placed good.same good.most runs v);
      };
}

-- the text of a file that is read is the report on its lines
text_is : (file : List ℕ) → read_refusal file ≡ none → text_of file ≡ report_of (facts_of (rack_in file) (quantities_in file) (sets_in file))
unfolding text_of
text_is file e = rw e refl

module _ (file before after : List ℕ) (room count : ℕ) (p : Printed (summary_of file room) before count after) where
  front : take count after ≡ summary_of file room
  front = rw p.bytes (take_at (summary_of file room) (drop (length (summary_of file room)) before) count (sym p.size))

  text : text_room ≤ room → summary_of file room ≡ text_of (taken file)
  unfolding summary_of
  text h = rw (le-ltb room text_room h) refl

  -- THE REPORT PRINTED is that of plans that keep both rules
  pub report_rule : ReportRule file room count after
  report_rule h e =
      let part = taken file in (
        facts_of (rack_in part) (quantities_in part) (sets_in part),
        plans_rule (read_good part (ap (λ r. r.number) e)),
        front ∙ text h ∙ text_is part e,
      )
