use Rattle.std.proofs.Common.{ℕ, ◌≤◌, ◌<◌, MatchOption, IsSome, Option, Some, None, rules, zero-le}
use Rattle.std.proofs.lemmas.Iterator.{first_from_Range}
use Rattle.goal_rules.specs.Check.{entry}
use Rattle.intervals.specs.Splits.{split_by}
use Rattle.layout.proofs.Picks.{found, some_found}
use Rattle.layout.proofs.Counted.lowest.Goals.{After-find}
use Rattle.layout.proofs.Counted.lowest.Goals as goal

-- what the search found: the first tip whose split is the most pairs, or none
abbrev First : (ℕ → ℕ) → ℕ → ℕ → Option ℕ → Type 0
First f most w r = MatchOption r ((k : ℕ) → 0 ≤ k → k < w → f k < most)
    (λ i. (0 ≤ i) × (i < w) × (most ≤ f i) × ((k : ℕ) → 0 ≤ k → k < i → f k < most))

one : (f : ℕ → ℕ) (most w : ℕ) (r : Option ℕ) → First f most w r → (((k : ℕ) → k < w → f k < most) → ⊥) → IsSome r
one f most w None h some = absurd (some (λ k l. h k zero-le l))
one f most w (Some i) h some = search rules

searched : (c : After-find) → let a = c.args in let s = a.self.now in
    First (split_by s.m s.sums.now s.table.now 0 a.a a.w) (entry s.m s.table.now a.a a.w) a.w c.find.result
searched c =
    let a = c.args in
    let s = a.self.now in
    let f : ℕ → ℕ = split_by s.m s.sums.now s.table.now 0 a.a a.w in
    let most = entry s.m s.table.now a.a a.w in
    first_from_Range _ _ _ c.find.result (λ i. most ≤ f i) (λ i. f i < most) c.find.ensures.ran (λ x q k. search rules) (λ x q k. search rules)

pub unwrap-requires : goal.unwrap-requires
unwrap-requires c =
    let a = c.args in
    one _ _ _ _ (searched c) (some_found a.self.now.searchable a.a a.w c.requires.inside c.requires.wide)

pub returns : goal.returns
returns c =
    let a = c.args in
    let (_, l, g, before) = rw c.unwrap.ensures at (searched (goal.at.returns c).After-find) in
    found a.self.now.searchable a.a a.w c.requires.inside c.requires.wide c.unwrap.result l g (λ k h. before k zero-le h)
