use Rattle.std.proofs.Common.{Option, Some, None, IfSome, ◌≡◌, ℕ, ◌<◌, ◌&&◌, Bool, T}
use Rattle.model.proofs.Tests.{and_left}
use Rattle.flat_order.specs.declared.sets.PartSet.{PartSet}
use Rattle.flat_order.specs.Sets.{has_part, met}
use Rattle.flat_order.specs.Flat.{is_pick, IsFirst, IsChosen, one_ready, none_ready}
use Rattle.flat_order.proofs.Members.{has-met}
use Rattle.flat_order.proofs.Free.{pick-on}
use Rattle.flat_order.proofs.picking.free_on.Goals as goal

pub lowest_free-requires-clause-inside : goal.lowest_free-requires-clause-inside
lowest_free-requires-clause-inside c =
    let a = c.args in
    λ x t. c.requires.inside x (and_left (has_part a.among x) (has_part a.ready x) (rw (has-met a.among a.ready x) at (rw c.bitand.ensures at t)))

-- a first one of those that are ready, where a set is the candidates that are ready
module _ (among ready left both : PartSet) (rows : _) (e : both ≡ met among ready) where
  first-ready : (x : ℕ) → IsFirst (is_pick both left rows) x → IsChosen (has_part ready) (is_pick among left rows) x
  first-ready x f = one_ready (record {
    passes = rw (pick-on among left rows ready x) at (rw e at f.passes);
    least = λ y t. f.least y (rw e (rw (pick-on among left rows ready y) t));
  })

  none-ready : ((x : ℕ) → T (is_pick both left rows x) → ⊥) → (x : ℕ) → T (is_pick among left rows x && has_part ready x) → ⊥
  none-ready n x t = n x (rw e (rw (pick-on among left rows ready x) t))

pub returns-in-Some-clause-some : goal.returns-in-Some-clause-some
returns-in-Some-clause-some c =
    let (l, f) = c.in-Some.ensures.some in
    (l, first-ready c.args.among c.args.ready c.args.left c.bitand.result c.args.rows.now c.bitand.ensures c.in-Some.x f)

chosen : (on f : ℕ → Bool) (o : Option ℕ) → ((x : ℕ) → T (f x && on x) → ⊥)
    → IfSome o (λ x. (x < 128) × IsFirst f x) → IfSome o (λ x. (x < 128) × IsChosen on f x)
chosen on f None n h = tt
chosen on f (Some x) n h = (h.0, none_ready n h.1)

pub returns-clause-some : goal.returns-clause-some
returns-clause-some c =
    let a = c.args in
    chosen (has_part a.ready) (is_pick a.among a.left a.rows.now) c.lowest_free-2.result
    (none-ready a.among a.ready a.left c.bitand.result a.rows.now c.bitand.ensures c.in_default.ensures.none)
    c.lowest_free-2.ensures.some
