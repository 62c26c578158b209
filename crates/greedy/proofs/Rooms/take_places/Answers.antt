use Rattle.std.proofs.Common.{arith, ◌≡◌, ◌<◌, length, refl, ap, sym, ◌∙◌, get_or, length-take, length-set}
use Rattle.std.proofs.lemmas.List.{get_or-take}
use Rattle.greedy.proofs.Lists.{listed-none, listed_more, ahead_more}
use Rattle.greedy.proofs.Rooms.take_places.Goals as goal

pub loop-k-init : goal.loop-k-init
loop-k-init g c = record {
  taken = listed-none _ _ _ _ _ _ _ _;
  ahead = λ p a b. refl;
  sets_size = refl;
  taken_size = refl;
}

pub loop-k-preserved : goal.loop-k-preserved
loop-k-preserved g c =
    let i = c.loop-k.invariant in
    let places = c.args.self.now.places in
    let turn : c.loop-k.k < c.args.found = omega (arith, length-take c.args.found places) in
    let place = c.from.ensures ∙ get_or-take c.args.found places c.loop-k.k 0 turn in
    let line = c.from-line.ensures ∙ ap (λ p. get_or c.args.self.now.list p 0) place in
    let paired = i.taken_size ∙ c.requires.fit.paired ∙ sym i.sets_size in
    let room : c.loop-k.k < length c.loop-k.sets = omega (arith, c.requires.fit.for_sets) in
    record {
      taken = listed_more c.requires i.taken i.ahead turn paired room c.from-line.result line;
      ahead = ahead_more c.requires i.taken i.ahead turn paired room c.from-line.result line;
      sets_size = simp length-set i.sets_size;
      taken_size = simp length-set i.taken_size;
    }

pub returns-clause-taken : goal.returns-clause-taken
returns-clause-taken g c =
    let e : c.loop-k.k ≡ c.args.found = omega (arith, length-take c.args.found c.args.self.now.places) in
    rw e at c.loop-k.invariant.taken
