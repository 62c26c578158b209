use Rattle.std.proofs.Common.{◌+◌, ◌∙◌, ℕ, Bool, rules}
use Rattle.std.proofs.lemmas.Iterator.{YieldsList-from_range}
use Rattle.std.proofs.lemmas.Iterator.Search.{all_from_yields_List}
use Rattle.checking.specs.Checking.{ends_by, tip_by}
use Rattle.checking.proofs.Bounds.{every_listed}
use Rattle.checking.proofs.tabled.Foreign.tip_bounded.Goals as goal

pub returns : goal.returns
unfolding tip_by
returns c =
    let s = c.args.self.now in
    let test : ℕ → Bool = λ a. ends_by s.m s.sums.now s.table.now a c.args.c in
    all_from_yields_List test _ _ c.all.result c.all.ensures.ran
    (YieldsList-from_range 0 (c.args.c + 1) (c.args.c + 1) (search rules) (search rules)) (λ x b q k. search rules)
    ∙ every_listed test (c.args.c + 1)
