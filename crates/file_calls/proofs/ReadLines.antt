-- From the lines that were read to the file: each call answers for them what it answers for the file.
use Prim.Native.Nat.{ℕ}
use mathlib.Core.Path.{◌≡◌, sym, ap, ◌∙◌}
use mathlib.Core.List.{List}
use lib.ListN.{length, take}
use Rattle.model.specs.Choice.{Mounted}
use Rattle.placements.specs.Good.{GoodLines}
use Rattle.refusal.specs.Told.{Refusal}
use Rattle.refusal.proofs.Laws.{number_of}
use Rattle.job.specs.Job.{rack_in, sets_in, quantities_in, read_refusal}
use Rattle.job_read.specs.Reading.{LinesRead}
use Rattle.job_read.proofs.ReadLines.{first_sets, first_quantities}
use Rattle.call_refusals.specs.Calls.{mounted_refusal}
use Rattle.call_refusals.proofs.Calls.{mounted_none, mounted_same, plan_none, best_none}
use Rattle.line_calls.specs.Answers.{CommonAnswer}
use Rattle.line_calls.specs.Answers.{PlanAnswer}
use Rattle.line_calls.specs.Answers.{AlongAnswer}
use Rattle.line_calls.specs.Answers.{ExactAnswer}
use Rattle.line_calls.specs.Lines.{common_of, quick_of, quick_buffer, best_of, best_buffer, best_table, check_of}
use Rattle.line_calls.specs.Along.{along_of, along_buffer}
use Rattle.line_calls.specs.Exact.{exact_of, exact_buffer, exact_cells}
use Rattle.line_calls.specs.Rules.{CommonRule, HalfRule, BestRule}
use Rattle.line_calls.proofs.Refused.{Same, common_same, quick_same, quick_buffer_same, best_same, best_buffer_same, best-table_same}
use Rattle.line_calls.proofs.Refused.{common_rule_same, half_rule_same, best-rule_same, check_same, along_same, along_buffer_same}
use Rattle.line_calls.proofs.Refused.{exact_same, exact_buffer_same, exact-cells_same}
use Rattle.line_calls.proofs.Checked.{check_rule}
use Rattle.file_calls.specs.Calls.{common_outcome, plan_outcome, common_in, mounted_in, quick_in, quick_plan_in, best_in, best_plan_in, best_table_in}
use Rattle.file_calls.specs.Calls.{check_outcome, check_in}
use Rattle.file_calls.specs.Along.{along_outcome, along_in, along_plan_in}
use Rattle.file_calls.specs.Exact.{exact_outcome, exact_in, exact_plan_in, exact_cells_in}
use Rattle.file_calls.specs.Rules.{CommonRuleOf, HalfRuleOf, BestRuleOf, CheckRuleOf}

-- the rack, the quantities and the sets are those of the file
abbrev pub AsRead : List ℕ → ℕ → List ℕ → List ℕ → Type 0
AsRead file m qs lines = Same m (rack_in file) qs (quantities_in file) lines (sets_in file)

-- so they are where reading accepts
pub same_lines : {file : List ℕ} {m n : ℕ} {old-sets sets old-qs qs : List ℕ} → LinesRead file m n old-sets sets old-qs qs
    → AsRead file m (take n qs) (take n sets)
same_lines l = (l.rack-is, first_quantities l, first_sets l)

-- the same after the refusal that the definition has
pub of-file : (file : List ℕ) {d r : Refusal} → d ≡ r → {A : Type 0} (f : Refusal → ℕ → List ℕ → List ℕ → A)
    → f d (rack_in file) (quantities_in file) (sets_in file) ≡ f r (rack_in file) (quantities_in file) (sets_in file)
of-file file e f = ap (λ r. f r (rack_in file) (quantities_in file) (sets_in file)) e

module _ (file : List ℕ) {d : Refusal} (e : d ≡ read_refusal file) {m : ℕ} {qs lines : List ℕ} (same : d.number ≡ 0 → AsRead file m qs lines) where
  pub common-in : {a : CommonAnswer} → a ≡ common_of d m qs lines → CommonRule m qs lines a.refusal.number a.top a.off a.tips
      → (common_outcome a ≡ common_in file) × CommonRuleOf file (common_outcome a)
  unfolding common_in common_of
  common-in p rule = (
    ap common_outcome (p ∙ common_same d same ∙ of-file file e common_of),
    common_rule_same (λ z. same (ap (λ x. x.refusal.number) (sym p) ∙ z)) rule,
  )

  pub check-in : (d.number ≡ 0 → GoodLines m qs lines) → (plan : List ℕ) (claim : ℕ) (tab : List ℕ) {r : Refusal}
      → r ≡ check_of d m qs lines plan claim tab
      → (check_outcome r ≡ check_in file plan claim tab) × CheckRuleOf file plan claim tab (check_outcome r)
  unfolding check_in
  check-in good plan claim tab p =
      let told = p ∙ check_same d same plan claim tab ∙ of-file file e (λ r k q l. check_of r k q l plan claim tab) in
      let lines_good : (read_refusal file).number ≡ 0 → GoodLines (rack_in file) (quantities_in file) (sets_in file) =
      λ z. let f = number_of (sym e) z in let (a, b, c) = same f in rw (a, b, c) at (good f) in
      (ap check_outcome told, check_rule (read_refusal file) (rack_in file) (quantities_in file) (sets_in file) plan claim tab lines_good told)

  -- what the mounted tip is asked of the lines read, it is asked of the file
  module _ (mounted : Mounted) {h : Refusal} (g : h ≡ mounted_refusal d m mounted) where
    by-file : h ≡ mounted_in file mounted
    by-file = g ∙ mounted_same d mounted (λ z. (same z).0) ∙ ap (λ r. mounted_refusal r (rack_in file) mounted) e

    mounted_lines : h.number ≡ 0 → AsRead file m qs lines
    mounted_lines z = same (mounted_none d m mounted (number_of g z)).0

    pub along-in : (plan : List ℕ) {a : AlongAnswer} {last : List ℕ}
        → a ≡ along_of h mounted qs lines (length plan) → last ≡ along_buffer h mounted lines plan
        → (along_outcome a ≡ along_in file mounted (length plan)) × (last ≡ along_plan_in file mounted plan)
    unfolding along_in along_plan_in
    along-in plan p q = (
      ap along_outcome (p ∙ along_same h mounted_lines plan mounted ∙ of-file file by-file (λ r _ k l. along_of r mounted k l (length plan))),
      q ∙ along_buffer_same h mounted_lines plan mounted ∙ of-file file by-file (λ r _ _ l. along_buffer r mounted l plan),
    )

    pub exact-in : (price : ℕ) (plan cells : List ℕ) {a : ExactAnswer} {last table : List ℕ}
        → a ≡ exact_of h m mounted price qs lines (length plan) (length cells)
        → last ≡ exact_buffer h m mounted price qs lines plan (length cells)
        → table ≡ exact_cells h m price qs lines (length plan) cells
        → (exact_outcome a ≡ exact_in file mounted price (length plan) (length cells))
        × ((last ≡ exact_plan_in file mounted price plan (length cells)) × (table ≡ exact_cells_in file mounted price (length plan) cells))
    unfolding exact_in exact_plan_in exact_cells_in
    exact-in price plan cells p q t = (
      ap exact_outcome (p ∙ exact_same h mounted_lines plan mounted price cells
          ∙ of-file file by-file (λ r k x l. exact_of r k mounted price x l (length plan) (length cells))),
      (
        q ∙ exact_buffer_same h mounted_lines plan mounted price cells
            ∙ of-file file by-file (λ r k x l. exact_buffer r k mounted price x l plan (length cells)),
        t ∙ exact-cells_same h mounted_lines plan mounted price cells
            ∙ of-file file by-file (λ r k x l. exact_cells r k price x l (length plan) cells),
      ),
    )

    module _ (plan : List ℕ) {a : PlanAnswer} {last : List ℕ} where
      pub quick-in : a ≡ quick_of h m mounted qs lines (length plan) → last ≡ quick_buffer h m mounted qs lines plan
          → HalfRule qs lines last a.refusal.number a.pairs
          → (plan_outcome a ≡ quick_in file mounted (length plan)) ×
          ((last ≡ quick_plan_in file mounted plan) × HalfRuleOf file last (plan_outcome a))
      unfolding quick_in quick_plan_in quick_of
      quick-in p q rule =
          let free : a.refusal.number ≡ 0 → h.number ≡ 0 =
          λ z. (plan_none h (length lines) (length plan) (ap (λ x. x.refusal.number) (sym p) ∙ z)).0 in (
            ap plan_outcome (p ∙ quick_same h mounted_lines plan mounted ∙ of-file file by-file (λ r k q l. quick_of r k mounted q l (length plan))),
            (
              q ∙ quick_buffer_same h mounted_lines plan mounted ∙ of-file file by-file (λ r k q l. quick_buffer r k mounted q l plan),
              half_rule_same (λ z. mounted_lines (free z)) rule,
            ),
          )

      pub best-in : (cells : List ℕ) {grid : List ℕ} → a ≡ best_of h m qs lines (length plan) (length cells)
          → last ≡ best_buffer h m mounted qs lines plan (length cells) → grid ≡ best_table h m qs lines (length plan) cells
          → BestRule qs lines last a.refusal.number a.pairs
          → (plan_outcome a ≡ best_in file mounted (length plan) (length cells))
          × ((last ≡ best_plan_in file mounted plan (length cells))
          × ((grid ≡ best_table_in file mounted (length plan) cells) × BestRuleOf file last (plan_outcome a)))
      unfolding best_in best_plan_in best_table_in best_of
      best-in cells p q t rule =
          let free : a.refusal.number ≡ 0 → h.number ≡ 0 =
          λ z. (best_none h m lines (length plan) (length cells) (ap (λ x. x.refusal.number) (sym p) ∙ z)).free in (
            ap plan_outcome (p ∙ best_same h mounted_lines plan cells ∙
                of-file file by-file (λ r k q l. best_of r k q l (length plan) (length cells))),
            (
              q ∙ best_buffer_same h mounted_lines plan cells mounted
                  ∙ of-file file by-file (λ r k q l. best_buffer r k mounted q l plan (length cells)),
              (
                t ∙ best-table_same h mounted_lines plan cells ∙ of-file file by-file (λ r k q l. best_table r k q l (length plan) cells),
                best-rule_same (λ z. mounted_lines (free z)) rule,
              ),
            ),
          )
