use Rattle.std.proofs.Common.{ℕ, Bool, rules, ap, ◌≡◌, ◌∙◌, not}
use Rattle.std.proofs.lemmas.Iterator.{YieldsList-from_slice}
use Rattle.std.proofs.lemmas.Iterator.Adapters.{serves_from_places}
use Rattle.std.proofs.lemmas.Iterator.Search.{position_from_yields_List}
use Rattle.model.proofs.Fails.{fail_position}
use Rattle.std.specs.List.{position}
use Rattle.model.specs.Plan.{has}
use Rattle.model.specs.Interval.{is_run_of}
use Rattle.model.proofs.Lists.{all-at}
use Rattle.model.proofs.Names.{names-named}
use Rattle.model.proofs.Run.{named_own}
use Rattle.ranks.proofs.first_not_run.Goals as goal

-- a line's tips are named
pub position-requires-clause-callable : goal.position-requires-clause-callable
position-requires-clause-callable c =
    let lines = c.args.lines.now in
    let same = ap has c.names_of-names.ensures ∙ names-named lines in
    serves_from_places (YieldsList-from_slice lines c.iter.ensures.rest) (λ x q k. search rules)
    (λ x k l e. λ _ _ _ _ _ _ _. rw (same, e) (all-at x.now (named_own lines) k l))

pub returns : goal.returns
returns c =
    let lines = c.args.lines.now in
    let same = ap has c.names_of-names.ensures ∙ names-named lines in
    let test : ℕ → Bool = λ set. not (is_run_of (has c.names_of-names.result) set) in
    let p : c.position.result ≡ position test lines =
    position_from_yields_List test _ _ c.position.result c.position.ensures.ran (YieldsList-from_slice lines c.iter.ensures.rest)
    (λ x b q k. search rules) in
    rw (p, ← same, fail_position (is_run_of (has c.names_of-names.result)) lines)
