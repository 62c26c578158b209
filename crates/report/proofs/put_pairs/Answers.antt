use Rattle.std.proofs.Common.{arith}
use Rattle.text.specs.Text.{ascii}
use Rattle.text.proofs.Buffer.{both}
use Rattle.text.proofs.Decimal.{decimal-short}
use Rattle.report.specs.Report.{best_text, pairs_text}
use Rattle.report.proofs.put_pairs.Goals as goal

pub put_field-at-requires : goal.put_field-at-requires
put_field-at-requires c = omega (arith, decimal-short 9 c.args.quick (omega arith))

pub put_field-at-requires-in-Some : goal.put_field-at-requires-in-Some
put_field-at-requires-in-Some c =
    omega (arith, decimal-short 9 c.args.quick (omega arith), decimal-short 9 c.in-Some.pairs (omega arith), c.put_field-at.ensures.place)

pub put_word-requires : goal.put_word-requires
put_word-requires c =
    let quick = decimal-short 9 c.args.quick (omega arith) in
    omega (arith, quick, decimal-short 9 c.in-Some.pairs (omega arith), c.put_field-at.ensures.place, c.put_field-at-in-Some.ensures.place)

pub put_word-at-requires : goal.put_word-at-requires
put_word-at-requires c = omega (arith, decimal-short 9 c.args.quick (omega arith), c.put_field-at.ensures.place)

pub put_word-requires-in-None : goal.put_word-requires-in-None
put_word-requires-in-None c =
    omega (arith, decimal-short 9 c.args.quick (omega arith), c.put_field-at.ensures.place, c.put_word-at.ensures.place)

pub returns-in-Some : goal.returns-in-Some
unfolding pairs_text best_text ascii
returns-in-Some c =
    let quick = decimal-short 9 c.args.quick (omega arith) in
    let best = decimal-short 9 c.in-Some.pairs (omega arith) in
    rw c.in-Some.is (record {
      put = both (omega arith) (both (omega arith) c.put_field-at.ensures c.put_field-at-in-Some.ensures) c.put_word.ensures;
      end = omega (arith, quick, best, c.put_field-at.ensures.place, c.put_field-at-in-Some.ensures.place, c.put_word.ensures.place);
    })

pub returns-in-None : goal.returns-in-None
unfolding pairs_text best_text ascii
returns-in-None c =
    let quick = decimal-short 9 c.args.quick (omega arith) in
    rw c.in-None.is (record {
      put = both (omega arith) (both (omega arith) c.put_field-at.ensures c.put_word-at.ensures) c.put_word-in-None.ensures;
      end = omega (arith, quick, c.put_field-at.ensures.place, c.put_word-at.ensures.place, c.put_word-in-None.ensures.place);
    })
