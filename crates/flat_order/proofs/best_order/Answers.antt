use Rattle.std.proofs.Common.{Option, Some, None, IfSome, IfNone, ◌≡◌, ℕ, List, take, ◌∙◌}
use Rattle.std.proofs.Math.Option as M
use Rattle.flat_order.specs.declared.sets.PartSet.{PartSet}
use Rattle.flat_order.specs.Flat.{Leaves}
use Rattle.flat_order.proofs.Settled.{best_settled}
use Rattle.flat_order.proofs.best_order.Goals as goal

-- what is found, where the greedy order is the best
module _ {n m : ℕ} (same : m ≡ n) (Leave : ℕ → (ℕ → PartSet) → Type 0) (greedy best : (ℕ → PartSet) → M.Option (List ℕ))
    (e : (next : ℕ → PartSet) → greedy next ≡ best next) where
  some-best : (o : Option (List ℕ)) → IfSome o (λ order. (next : ℕ → PartSet) → Leave m next → M.some (take m order) ≡ greedy next)
      → IfSome o (λ order. (next : ℕ → PartSet) → Leave n next → M.some (take n order) ≡ best next)
  some-best None h = tt
  some-best (Some order) h = λ next r. rw same at (h next (rw same r) ∙ e next)

  none-best : (o : Option (List ℕ)) → IfNone o ((next : ℕ → PartSet) → Leave m next → M.none ≡ greedy next)
      → IfNone o ((next : ℕ → PartSet) → Leave n next → M.none ≡ best next)
  none-best None h = λ next r. h next (rw same r) ∙ e next
  none-best (Some order) h = tt

pub returns-clause-some : goal.returns-clause-some
returns-clause-some g c =
    let a = c.args in
    let s = c.settle_lasts in
    let law = λ (next : ℕ → PartSet). best_settled a.firsts.now a.lasts.now a.rows.now a.start next s.new.lasts (s.ensures.settled a.firsts.now) in
    let n = (law (λ _. a.start)).0 in
    some-best n (Leaves (λ x s. g.F.Fn.post a.after (x, tt) s)) _ _ (λ next. (law next).1) c.greedy_order.result c.greedy_order.ensures.some

pub returns-clause-none : goal.returns-clause-none
returns-clause-none g c =
    let a = c.args in
    let s = c.settle_lasts in
    let law = λ (next : ℕ → PartSet). best_settled a.firsts.now a.lasts.now a.rows.now a.start next s.new.lasts (s.ensures.settled a.firsts.now) in
    let n = (law (λ _. a.start)).0 in
    none-best n (Leaves (λ x s. g.F.Fn.post a.after (x, tt) s)) _ _ (λ next. (law next).1) c.greedy_order.result c.greedy_order.ensures.none
