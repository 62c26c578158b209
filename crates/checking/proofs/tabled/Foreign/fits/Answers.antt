use Rattle.std.proofs.Common.{◌≡◌, ◌==◌, eq-eqb, ◌∙◌, ℕ, Bool, true, not, ◌||◌, rules}
use Rattle.std.proofs.lemmas.Iterator.{YieldsList-from_range}
use Rattle.std.proofs.lemmas.Iterator.Search.{all_from_yields_List}
use Rattle.model.specs.Plan.{has}
use Rattle.goal_rules.specs.Check.{entry}
use Rattle.checking.specs.Checking.{tip_by, bounds_by}
use Rattle.checking.proofs.Bounds.{every_listed}
use Rattle.checking.proofs.tabled.Foreign.fits.Goals as goal

pub returns : goal.returns
unfolding bounds_by
returns c =
    let s = c.args.self.now in
    let test : ℕ → Bool = λ c'. not (has c.args.names c') || tip_by s.m s.sums.now s.table.now c' in
    let all = all_from_yields_List test _ _ c.all.result c.all.ensures.ran
    (YieldsList-from_range 0 s.m s.m (search rules) (search rules)) (λ x b q k. search rules)
    ∙ every_listed test s.m in
    let e : (entry s.m s.table.now 0 s.m == c.args.claim) ≡ true
    = rw (← c.entry_at.ensures.entry) (eq-eqb c.entry_at.result c.args.claim (c.if-entry_at-from.false ∙ c.from.ensures)) in
    rw e all
