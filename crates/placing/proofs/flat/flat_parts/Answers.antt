use Rattle.std.proofs.Common.{◌≡◌, ◌≤◌, sym, ◌∙◌, length, arith}
use Rattle.refusal.proofs.Laws.{told_err}
use Rattle.order_rules.proofs.Refused.{bad_window, bad_rule, short, all_given}
use Rattle.placing.proofs.Windows.{taken_whole, taken_all}
use Rattle.placing.proofs.Marks.{all_good, rows_for}
use Rattle.placing.proofs.flat.flat_parts.Goals as goal

pub returns-in_err-kinds-clause-refusal : goal.returns-in_err-kinds-clause-refusal
returns-in_err-kinds-clause-refusal g c =
    λ parts p rules r.
    let e = told_err c.from_residual.result c.in_err-kinds.field-0.0 c.from_residual.ensures in
    let (reason, l, first) = c.in_err-kinds.ensures.err parts p in
    let few : length parts ≤ 128 = omega (arith, p.size, c.requires.few) in
    rw (e, reason, first) (bad_window parts rules c.args.room few (rw first at l))

pub returns-in_err-add_rules-clause-refusal : goal.returns-in_err-add_rules-clause-refusal
returns-in_err-add_rules-clause-refusal g c =
    λ parts p rules r.
    let e = told_err c.from_residual-in_err-add_rules.result c.in_err-add_rules.field-0.0 c.from_residual-in_err-add_rules.ensures in
    let (reason, l, first) = c.in_err-add_rules.ensures.err rules r in
    let few : length parts ≤ 128 = omega (arith, p.size, c.requires.few) in
    let windows = taken_all parts _ _ _ (taken_whole p.size (c.in_ok-kinds.ensures.ok parts p)) in
    let place = rw (sym p.size) at first in
    rw (e, reason, place) (bad_rule parts rules c.args.room few windows (rw place at l))

pub returns-then-room-n-clause-refusal : goal.returns-then-room-n-clause-refusal
returns-then-room-n-clause-refusal g c =
    λ parts p rules r.
    let few : length parts ≤ 128 = omega (arith, p.size, c.requires.few) in
    let windows = taken_all parts _ _ _ (taken_whole p.size (c.in_ok-kinds.ensures.ok parts p)) in
    let good = all_good _ _ _ rules (c.in_ok-add_rules.ensures.ok rules r) in
    rw c.at.ensures (short parts rules c.args.room few windows (rw p.size good) (omega (arith, p.size, c.if-room-n.true)))

pub returns-clause-refusal : goal.returns-clause-refusal
returns-clause-refusal g c =
    λ parts p rules r.
    let few : length parts ≤ 128 = omega (arith, p.size, c.requires.few) in
    let windows = taken_all parts _ _ _ (taken_whole p.size (c.in_ok-kinds.ensures.ok parts p)) in
    let good = all_good _ _ _ rules (c.in_ok-add_rules.ensures.ok rules r) in
    all_given parts rules c.args.room few windows (rw p.size good) (omega (arith, p.size, c.if-room-n.false))

pub returns-clause-flat : goal.returns-clause-flat
returns-clause-flat g c =
    λ parts p rules r.
    let k = c.in_ok-kinds.ensures in
    let taken = taken_whole p.size (k.ok parts p) in
    let size : length parts ≡ length c.args.rows.now = p.size ∙ sym c.requires.rows in
    record {
      size = k.lasts_size ∙ c.requires.lasts ∙ sym p.size;
      positions = taken.positions;
      marked = rows_for parts rules _ _ (c.start_rows.ensures.rows parts size taken.sorted) (rw p.size (c.in_ok-add_rules.ensures.ok rules r));
    }
