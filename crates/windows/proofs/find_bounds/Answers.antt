use Rattle.std.proofs.Common.{◌∙◌, ap, length, take, arith}
use lib.ListN.{length-replicate}
use Rattle.model.proofs.Tests.{true_T}
use Rattle.model.proofs.ListOf.{list_is}
use Rattle.flat_order.specs.Flat.{flat_task}
use Rattle.windows.specs.Bounds.{solvable, soonest, latest}
use Rattle.windows.proofs.Arrays.{below, narrowable}
use Rattle.windows.proofs.Bounds.{solvable_iff}
use Rattle.windows.proofs.Ruling.{bounds-rule, found_none, found_all}
use Rattle.windows.proofs.Seen.{unseen_first, unseen_last}
use Rattle.windows.proofs.find_bounds.Goals as goal

pub returns-in_default-clause-rule : goal.returns-in_default-clause-rule
returns-in_default-clause-rule g c =
    let a = c.args in
    bounds-rule (below _ _ _ c.requires.ready)
    (found_none (flat_task a.firsts.now a.lasts.now a.rows.now) a.first.now a.last.now c.in_default.ensures.none)

pub loop-i-init : goal.loop-i-init
loop-i-init g c =
    let a = c.args in
    let n = length a.lasts.now in
    let t = flat_task a.firsts.now a.lasts.now a.rows.now in
    let b = below _ _ _ c.requires.ready in
    let o = c.in-Some.ensures.some in
    let y = (solvable_iff t b).1 (take n c.in-Some.found, o) in
    let none = c.see_none.ensures in
    let note = c.note.ensures in
    record {
      seen = record {
        first_size = note.first.size ∙ ap length none.first ∙ length-replicate (length a.first.now) n ∙ c.requires.firsts;
        last_size = note.last.size ∙ ap length none.last ∙ length-replicate (length a.last.now) 0 ∙ c.requires.lasts;
        first_seen = note.first.seen t b o (rw (none.first, c.requires.firsts) (unseen_first t b y));
        last_seen = note.last.seen t b o (rw (none.last, c.requires.lasts) (unseen_last t b y));
      };
      lowered = λ j l. absurd (omega arith);
    }

pub narrow_first-requires-clause-part : goal.narrow_first-requires-clause-part
narrow_first-requires-clause-part g c = narrowable _ _ _ c.requires.ready _ (omega arith) c.in-Some.ensures.some

pub narrow_last-requires-clause-part : goal.narrow_last-requires-clause-part
narrow_last-requires-clause-part g c = narrowable _ _ _ c.requires.ready _ (omega arith) c.in-Some.ensures.some

pub returns-clause-found : goal.returns-clause-found
returns-clause-found g c =
    let a = c.args in
    let n = length a.lasts.now in
    let t = flat_task a.firsts.now a.lasts.now a.rows.now in
    let y = (solvable_iff t (below _ _ _ c.requires.ready)).1 (take n c.in-Some.found, c.in-Some.ensures.some) in
    let l = c.loop-i-2 in
    let i = l.invariant in
    found_all t a.first.now a.last.now l.first l.last (true_T (solvable t) y)
    (list_is (soonest t) n l.first i.seen.first_size (λ k h. omega (arith, i.seen.first_seen k h, i.lowered k h)))
    (list_is (latest t) n l.last i.seen.last_size (λ k h. omega (arith, i.seen.last_seen k h, i.raised k (omega (arith, c.loop-i-2-test.false)))))

pub returns-clause-rule : goal.returns-clause-rule
returns-clause-rule g c =
    let a = c.args in
    let n = length a.lasts.now in
    let t = flat_task a.firsts.now a.lasts.now a.rows.now in
    let b = below _ _ _ c.requires.ready in
    let y = (solvable_iff t b).1 (take n c.in-Some.found, c.in-Some.ensures.some) in
    let l = c.loop-i-2 in
    let i = l.invariant in
    bounds-rule b (found_all t a.first.now a.last.now l.first l.last (true_T (solvable t) y)
    (list_is (soonest t) n l.first i.seen.first_size (λ k h. omega (arith, i.seen.first_seen k h, i.lowered k h)))
    (list_is (latest t) n l.last i.seen.last_size (λ k h. omega (arith, i.seen.last_seen k h, i.raised k (omega (arith, c.loop-i-2-test.false))))))
