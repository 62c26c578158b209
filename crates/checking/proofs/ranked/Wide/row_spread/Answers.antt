use Rattle.std.proofs.Common.{◌≡◌, true, false, ◌&&◌, ◌==◌, ap, sym, ◌∙◌}
use borrow.Author.Tests.{ne_eqb}
use Rattle.model.specs.Plan.{has}
use Rattle.checking.specs.Spread.{cell, row_copied, row_spread}
use Rattle.checking.proofs.ranked.Wide.row_spread.Goals as goal

pub returns-then-has_tip : goal.returns-then-has_tip
unfolding row_spread
returns-then-has_tip c =
    let named : has c.args.self.now.names c.args.a ≡ true = sym c.has_tip.ensures ∙ c.if-has_tip.true in
    rw named c.columns_copied.ensures

pub returns-then-self-a-eq0 : goal.returns-then-self-a-eq0
unfolding row_spread
returns-then-self-a-eq0 c =
    let unnamed : has c.args.self.now.names c.args.a ≡ false = sym c.has_tip.ensures ∙ c.if-has_tip.false in
    rw (unnamed, c.if-self-a-eq0.true) c.row_copied.ensures

pub returns-else-self-a-eq0 : goal.returns-else-self-a-eq0
unfolding row_spread
returns-else-self-a-eq0 c =
    let unnamed : has c.args.self.now.names c.args.a ≡ false = sym c.has_tip.ensures ∙ c.if-has_tip.false in
    let s = c.args.self.now in
    let differs : (cell s.m s.table.now c.args.a c.args.a == 0) ≡ false
    = ne_eqb (cell s.m s.table.now c.args.a c.args.a) 0 c.if-self-a-eq0.false in
    differs ∙ sym (rw unnamed (ap (λ b. b && row_copied s.m s.table.now c.args.a) differs))
