use Rattle.std.proofs.Common.{◌≡◌, ◌∙◌, ap, sym, map, arith}
use Rattle.refusal.specs.Reasons.{refusal_of}
use Rattle.refusal.proofs.Laws.{err_of, reason_not_0}
use Rattle.ranks.specs.Listed.{run_by}
use Rattle.ranks.specs.Runs.{NamedRuns}
use Rattle.ranks.proofs.Runs.{listable}
use Rattle.striking.proofs.Kept.{goal_missed, goal-met}
use Rattle.striking.proofs.Ranks.{pairs-0, struck-0, full-out, refusal-out, struck-refused, nameable-out, named-out}
use Rattle.striking.proofs.strike_ranks.Goals.{After-list_tips-count, After-renumber_lines}
use Rattle.striking.proofs.strike_ranks.Goals as goal

runs-of : (c : After-list_tips-count) → NamedRuns c.args.lines.rack c.args.lines.quantities.now c.args.lines.sets.now
runs-of c = record { good = c.args.lines.good; runs = c.requires.named.runs }

-- the copy of the sets renumbered by the list
sets-are : (c : After-renumber_lines) → c.renumber_lines.new.lines ≡ map (run_by c.list_tips-count.new.ranks) c.args.lines.sets.now
sets-are c = c.renumber_lines.ensures ∙ ap (map (run_by c.list_tips-count.new.ranks)) c.copy_from_slice.ensures.after

pub returns-then-goal-gt0-clause-answer : goal.returns-then-goal-gt0-clause-answer
returns-then-goal-gt0-clause-answer c =
    let l = c.args.lines in
    let runs = runs-of (goal.at.returns-then-goal-gt0-clause-answer c).After-list_tips-count in
    let none = pairs-0 runs c.args.goal c.requires.named.all c.list_tips-count.ensures.size c.if-count-eq0.true in
    rw c.at.ensures (goal_missed l.rack l.quantities.now l.sets.now c.args.goal c.args.struck.now (omega (arith, none, c.if-goal-gt0.true))).0

pub returns-then-goal-gt0-clause-struck : goal.returns-then-goal-gt0-clause-struck
returns-then-goal-gt0-clause-struck c =
    let l = c.args.lines in
    let runs = runs-of (goal.at.returns-then-goal-gt0-clause-struck c).After-list_tips-count in
    let none = pairs-0 runs c.args.goal c.requires.named.all c.list_tips-count.ensures.size c.if-count-eq0.true in
    (goal_missed l.rack l.quantities.now l.sets.now c.args.goal c.args.struck.now (omega (arith, none, c.if-goal-gt0.true))).1

pub returns-then-count-eq0-clause-answer : goal.returns-then-count-eq0-clause-answer
returns-then-count-eq0-clause-answer c =
    let l = c.args.lines in
    (goal-met l.rack l.quantities.now l.sets.now c.args.goal c.args.struck.now (omega (arith, c.if-goal-gt0.false))).0

pub returns-then-count-eq0-clause-struck : goal.returns-then-count-eq0-clause-struck
returns-then-count-eq0-clause-struck c =
    let l = c.args.lines in
    let runs = runs-of (goal.at.returns-then-count-eq0-clause-struck c).After-list_tips-count in
    struck-0 runs c.args.goal c.requires.named.all c.list_tips-count.ensures.size c.if-count-eq0.true c.requires.as_lines
    ∙ (goal-met l.rack l.quantities.now l.sets.now c.args.goal c.args.struck.now (omega (arith, c.if-goal-gt0.false))).1

pub renumber_lines-requires : goal.renumber_lines-requires
renumber_lines-requires c =
    let runs = runs-of (goal.at.renumber_lines-requires c).After-list_tips-count in
    rw c.copy_from_slice.ensures.after (listable runs c.requires.named.all c.list_tips-count.ensures.ranks)

pub invariant_of-ranked : goal.invariant_of-ranked
invariant_of-ranked c =
    let at = goal.at.invariant_of-ranked c in
    let tips = c.list_tips-count.ensures in
    let full = full-out (runs-of at.After-list_tips-count) c.args.goal c.requires.named.all tips.size tips.ranks (sets-are at.After-renumber_lines)
    c.if-count-eq0.false in
    record { good = full.good }

pub strike_full-requires-clause-full : goal.strike_full-requires-clause-full
strike_full-requires-clause-full c =
    let at = goal.at.strike_full-requires-clause-full c in
    let tips = c.list_tips-count.ensures in
    full-out (runs-of at.After-list_tips-count) c.args.goal c.requires.named.all tips.size tips.ranks (sets-are at.After-renumber_lines)
    c.if-count-eq0.false

pub returns-in_err-strike_full-clause-answer : goal.returns-in_err-strike_full-clause-answer
returns-in_err-strike_full-clause-answer c =
    let at = goal.at.returns-in_err-strike_full-clause-answer c in
    let tips = c.list_tips-count.ensures in
    let same = refusal-out (runs-of at.After-list_tips-count) c.args.goal c.requires.named.all tips.size tips.ranks
    (sets-are at.After-renumber_lines) in
    ap refusal_of (err_of _ c.in_err-strike_full.field-0.0 c.from_residual.ensures) ∙ c.in_err-strike_full.ensures.answer ∙ same

pub returns-in_err-strike_full-clause-struck : goal.returns-in_err-strike_full-clause-struck
returns-in_err-strike_full-clause-struck c =
    let at = goal.at.returns-in_err-strike_full-clause-struck c in
    let tips = c.list_tips-count.ensures in
    let told = c.in_err-strike_full.ensures in
    told.struck ∙ struck-refused (runs-of at.After-list_tips-count) c.args.goal c.requires.named.all tips.size tips.ranks
    (sets-are at.After-renumber_lines) (λ z. reason_not_0 c.in_err-strike_full.field-0.0.reason (ap (λ r. r.number) told.answer ∙ z))
    c.args.struck.now

pub name_sets-requires : goal.name_sets-requires
name_sets-requires c =
    let at = goal.at.name_sets-requires c in
    let tips = c.list_tips-count.ensures in
    let told = c.in_ok-strike_full.ensures in
    nameable-out (runs-of at.After-list_tips-count) c.args.goal c.requires.named.all tips.size tips.ranks (sets-are at.After-renumber_lines)
    c.if-count-eq0.false (sym (ap (λ r. r.number) told.answer)) tips.named c.args.struck.now told.struck

pub returns-clause-answer : goal.returns-clause-answer
returns-clause-answer c =
    let at = goal.at.returns-clause-answer c in
    let tips = c.list_tips-count.ensures in
    c.in_ok-strike_full.ensures.answer
    ∙ refusal-out (runs-of at.After-list_tips-count) c.args.goal c.requires.named.all tips.size tips.ranks (sets-are at.After-renumber_lines)

pub returns-clause-struck : goal.returns-clause-struck
returns-clause-struck c =
    let at = goal.at.returns-clause-struck c in
    let tips = c.list_tips-count.ensures in
    let told = c.in_ok-strike_full.ensures in
    c.name_sets.ensures
    ∙ named-out (runs-of at.After-list_tips-count) c.args.goal c.requires.named.all tips.size tips.ranks (sets-are at.After-renumber_lines)
    c.if-count-eq0.false (sym (ap (λ r. r.number) told.answer)) tips.named c.args.struck.now told.struck
