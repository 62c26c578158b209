use Rattle.std.proofs.Common.{◌∙◌, ℕ, Bool, rules}
use Rattle.std.proofs.lemmas.Iterator.{YieldsList-from_range}
use Rattle.std.proofs.lemmas.Iterator.Search.{all_from_yields_List}
use Rattle.checking.specs.Spread.{row_spread, is_spread}
use Rattle.checking.proofs.Bounds.{every_listed}
use Rattle.checking.proofs.ranked.Wide.is_spread.Goals as goal

pub returns : goal.returns
unfolding is_spread
returns c =
    let s = c.args.self.now in
    let test : ℕ → Bool = λ a. row_spread s.names s.m s.table.now a in
    all_from_yields_List test _ _ c.all.result c.all.ensures.ran
    (YieldsList-from_range 0 s.m s.m (search rules) (search rules)) (λ x b q k. search rules)
    ∙ every_listed test s.m
