use Rattle.std.proofs.Common.{rules, arith, refl, length, length-append, length-take, length-drop}
use Rattle.unplanned.proofs.InOrder.{all-unplanned}
use Rattle.greedy.proofs.Round.{start, few_placements, each_empty, none-listed, round_ready, pairs_fit, next, next_fewer}
use Rattle.greedy.proofs.Round.{end_left, end_plan, end_pairs, begins, chooses, sizes_on}
use Rattle.greedy.proofs.Rooms.take_rounds.Goals as goal

pub rounds-init : goal.rounds-init
rounds-init g c =
    let p = c.requires in
    let s = p.shareable in (
      record {
        state = start _ s.good.domains s.size;
        counts_are = p.counts_are;
        most = omega arith;
        unplanned = all-unplanned _ _ _ p.fit.for_lines c.list_all.auto.list c.list_all.ensures;
      },
      record {
        list_size =
            let before = length-take (length c.args.left.now) c.args.self.now.list in
            simp (length-append, length-drop) (omega (arith, c.list_all.auto.list, before, p.fit.for_lines));
        places_size = refl;
        sets_size = refl;
        taken_size = refl;
      },
    )

pub returns-then-busiest-eq0 : goal.returns-then-busiest-eq0
returns-then-busiest-eq0 g c =
    let b = begins c.rounds.invariant.0 c.requires.shareable.good c.busiest_tips-busiest.ensures.top in
    let empty = each_empty b c.if-busiest-eq0.true in
    record { pairs_are = end_pairs b.state empty; plan_is = end_plan b.state empty; left_is = end_left b.state empty }

pub pairs_among-shared-requires : goal.pairs_among-shared-requires
pairs_among-shared-requires g c =
    few_placements (begins c.rounds.invariant.0 c.requires.shareable.good c.busiest_tips-busiest.ensures.top)

pub overflow_add-shared : goal.overflow_add-shared
overflow_add-shared g c =
    let b = begins c.rounds.invariant.0 c.requires.shareable.good c.busiest_tips-busiest.ensures.top in
    let chosen = chooses b c.if-busiest-eq0.false c.busiest_tips-busiest.ensures.tips c.choose-tip.ensures in
    record { fits = omega (arith, pairs_fit chosen c.pairs_among-shared.ensures) }

pub take_lines-requires : goal.take_lines-requires
take_lines-requires g c =
    let b = begins c.rounds.invariant.0 c.requires.shareable.good c.busiest_tips-busiest.ensures.top in
    let chosen = chooses b c.if-busiest-eq0.false c.busiest_tips-busiest.ensures.tips c.choose-tip.ensures in
    (search rules, round_ready chosen c.rounds.invariant.0 c.rounds.invariant.1 c.requires.fit)

pub returns-then-self-eq0 : goal.returns-then-self-eq0
returns-then-self-eq0 g c =
    let b = begins c.rounds.invariant.0 c.requires.shareable.good c.busiest_tips-busiest.ensures.top in
    let chosen = chooses b c.if-busiest-eq0.false c.busiest_tips-busiest.ensures.tips c.choose-tip.ensures in
    let r = c.take_lines.ensures.done in
    let state = next chosen c.pairs_among-shared.ensures r.done in
    let empty = none-listed _ r.unplanned c.if-self-eq0.true in
    record { pairs_are = end_pairs state empty; plan_is = end_plan state empty; left_is = end_left state empty }

pub rounds-smaller : goal.rounds-smaller
rounds-smaller g c =
    let b = begins c.rounds.invariant.0 c.requires.shareable.good c.busiest_tips-busiest.ensures.top in
    let chosen = chooses b c.if-busiest-eq0.false c.busiest_tips-busiest.ensures.tips c.choose-tip.ensures in
    next_fewer chosen c.pairs_among-shared.ensures c.take_lines.ensures.done.done

pub rounds-preserved : goal.rounds-preserved
rounds-preserved g c =
    let b = begins c.rounds.invariant.0 c.requires.shareable.good c.busiest_tips-busiest.ensures.top in
    let chosen = chooses b c.if-busiest-eq0.false c.busiest_tips-busiest.ensures.tips c.choose-tip.ensures in
    let r = c.take_lines.ensures.done in (
      record {
        state = next chosen c.pairs_among-shared.ensures r.done;
        counts_are = r.counts_are c.if-self-eq0.false;
        most = r.most;
        unplanned = r.unplanned;
      },
      sizes_on c.rounds.invariant.1 c.take_lines.ensures.sizes,
    )
