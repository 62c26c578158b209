use Rattle.std.proofs.Common.{◌≡◌, ℕ, ◌+◌, Bool, length, length-append, [], ◌∷◌, ◌++◌, ◌==◌, nat_le, slice_index, refl, ◌∙◌, arith, rules}
use Rattle.std.proofs.lemmas.Bool.Decides.{nat_tests}
use Rattle.model.specs.Count.{every}
use Rattle.checking.specs.Checking.{split_at, ends_at}
use Rattle.checking.proofs.Bounds.{every_next}
use Rattle.checking.proofs.Turn.{OverFour, AtFour, turn_of_four, turns_of_four}
use Rattle.checking.proofs.tabled.Splits.bounded.Goals.{After-into_iter-next-iterator, In-Some}
use Rattle.checking.proofs.tabled.Splits.bounded.Goals as goal

-- the loop is over the four lists
over : (c : After-into_iter-next-iterator)
    → let s = c.args.self.now in OverFour s.nexts.now s.firsts.now s.rights.now s.mosts.now c.into_iter-next-iterator.result
over c =
    let s = c.args.self.now in
    record {
      first = search rules;
      second = search rules;
      third = search rules;
      fourth = search rules;
      as_first = s.lists.as_nexts;
      as_second = s.lists.as_firsts;
      as_third = s.lists.as_rights;
    }

-- the numbers of this turn
here : (c : In-Some) → let s = c.args.self.now in
    OverFour s.nexts.now s.firsts.now s.rights.now s.mosts.now c.into_iter-next-iterator.result
    → AtFour s.nexts.now s.firsts.now s.rights.now s.mosts.now (length c.loop-next.yielded)
    ((c.in-Some.next, c.in-Some.first), (c.in-Some.right, c.in-Some.most))
here c o = turn_of_four o c.loop-next.yielded c.loop-next.next-iterator c.next.new.self c.next.result c.loop-next.yielded_by
    c.next.ensures.steps _ c.in-Some.is

pub loop-next-init : goal.loop-next-init
unfolding every
loop-next-init c = record { few = search rules; counted = refl }

pub overflow_sub-p : goal.overflow_sub-p
overflow_sub-p c =
    let at = goal.at.overflow_sub-p c in
    let h = here at.In-Some (over at.After-into_iter-next-iterator) in
    let covers = c.args.self.now.lists.covers (length c.loop-next.yielded) h.below in
    rw (h.first, h.second) covers

pub pairs_among-requires : goal.pairs_among-requires
pairs_among-requires c =
    let at = goal.at.pairs_among-requires c in
    let h = here at.In-Some (over at.After-into_iter-next-iterator) in
    let few = c.args.self.now.lists.few (length c.loop-next.yielded) h.below in
    rw (h.first, h.second) (omega arith)

pub loop-next-preserved : goal.loop-next-preserved
loop-next-preserved c =
    let at = goal.at.loop-next-preserved c in
    let h = here at.In-Some (over at.After-into_iter-next-iterator) in
    let s = c.args.self.now in
    let i = length c.loop-next.yielded in
    let split : ℕ → ℕ = split_at s.left s.shift s.nexts.now s.firsts.now s.rights.now in
    let fits : ℕ → Bool = λ j. nat_le (split j) (slice_index s.mosts.now j) in
    let one : (c.from-lacking.result == 0) ≡ fits i
    = rw (c.from-lacking.ensures, c.from-in-loop-next-2.ensures, c.from.ensures ∙ c.pairs_among.ensures, c.from-in-loop-next.ensures)
    (rw (h.first, h.second, h.third, h.fourth) (grind (arith, nat_tests))) in
    let more : length (c.loop-next.yielded ++ ((c.in-Some.next, c.in-Some.first), (c.in-Some.right, c.in-Some.most)) ∷ []) ≡ i + 1
    = length-append c.loop-next.yielded _ in
    rw more (record {
      few = rw c.from-lacking.ensures (grind (arith, nat_tests));
      counted = every_next fits i c.loop-next.lacking c.from-lacking.result c.loop-next.invariant.counted one;
    })

pub returns : goal.returns
unfolding ends_at
returns c =
    let at = goal.at.returns c in
    let e = turns_of_four (over at.After-into_iter-next-iterator) c.loop-next.yielded c.loop-next.next-iterator c.next.new.self c.next.result
    c.loop-next.yielded_by c.next.ensures.steps c.in-None.is in
    rw (← e) c.loop-next.invariant.counted
