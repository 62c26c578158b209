use Rattle.std.proofs.Common.{arith, refl, rules, length-append, length-take, length-drop}
use Rattle.counts.proofs.Borrow.{part_some, rest-counted}
use Rattle.greedy.proofs.Lists.{round_findable, round_rising, round_listed, round_taken, round_last, round_unplanned, round_countable, round_sum}
use Rattle.greedy.proofs.Rooms.take_lines.Goals as goal

pub find_places-found-requires : goal.find_places-found-requires
find_places-found-requires g c = round_findable c.requires

pub take_places-requires : goal.take_places-requires
take_places-requires g c = (search rules, round_listed c.requires c.find_places-found.auto.places c.find_places-found.ensures)

pub returns-then-found-before-clause-done : goal.returns-then-found-before-clause-done
returns-then-found-before-clause-done g c =
    let places = c.find_places-found.auto.places in
    let found = c.find_places-found.ensures in
    let taken = c.take_places.ensures.taken in
    rw c.take_places.ensures.kept (record {
      done = round_taken c.requires places found taken;
      most = omega arith;
      unplanned = round_last c.requires places found taken c.if-found-before.true;
      counts_are = λ n. absurd (n refl);
    })

pub returns-then-found-before-clause-sizes : goal.returns-then-found-before-clause-sizes
returns-then-found-before-clause-sizes g c =
    let t = c.take_places.ensures in record {
      list_size = rw t.kept refl;
      places_size = rw t.kept c.find_places-found.auto.places;
      sets_size = t.sets;
      taken_size = t.quantities;
    }

pub drop_places-self-requires : goal.drop_places-self-requires
drop_places-self-requires g c =
    rw c.take_places.ensures.kept (round_rising c.requires c.find_places-found.auto.places c.find_places-found.ensures)

pub count_tips-gone-requires : goal.count_tips-gone-requires
count_tips-gone-requires g c =
    let t = c.take_places.ensures in
    round_countable c.requires c.find_places-found.auto.places c.find_places-found.ensures t.taken t.sets t.quantities

pub subtract-requires : goal.subtract-requires
subtract-requires g c =
    let t = c.take_places.ensures in
    let sum = round_sum c.requires c.find_places-found.auto.places c.find_places-found.ensures t.taken in
    rw t.kept (part_some c.requires.counts_are c.count_tips-gone.ensures _ sum)

pub returns-clause-done : goal.returns-clause-done
returns-clause-done g c =
    let ready = c.requires in
    let places = c.find_places-found.auto.places in
    let found = c.find_places-found.ensures in
    let t = c.take_places.ensures in
    let size = rw t.kept at c.drop_places-self.auto.list in
    let dropped = rw t.kept at c.drop_places-self.ensures in
    let gone = rw t.kept at c.subtract.ensures in
    rw t.kept (record {
      done = round_taken ready places found t.taken;
      most = omega (arith, dropped.fewer, ready.most, t.taken.left_size);
      unplanned = round_unplanned ready places found t.taken size dropped;
      counts_are = λ _. rest-counted ready.counts_are c.count_tips-gone.ensures _ (round_sum ready places found t.taken) gone;
    })

pub returns-clause-sizes : goal.returns-clause-sizes
returns-clause-sizes g c =
    let t = c.take_places.ensures in
    let size = rw t.kept at c.drop_places-self.auto.list in
    let before = length-take c.args.self.now.unplanned c.args.self.now.list in
    record {
      list_size = rw t.kept (simp (length-append, length-drop) (omega (arith, size, before, c.requires.most, c.requires.fit.for_lines)));
      places_size = rw t.kept c.find_places-found.auto.places;
      sets_size = t.sets;
      taken_size = t.quantities;
    }
