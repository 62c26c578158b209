use Rattle.std.proofs.Common.{◌≡◌, ◌+◌, ◌*◌, ◌-◌, ◌/◌, ◌%◌, ◌<◌, ℕ, take, get_or, refl, ap, sym, ◌∙◌, take_all, arith}
use lib.Arith.{digits_lt, digits_div, digits_mod}
use Rattle.model.specs.Count.{list_of}
use Rattle.model.proofs.ListOf.{filled_more}
use Rattle.spans.specs.Spans.{sums_width, sums_size}
use Rattle.striking.specs.Striking.{own_at, sums_without}
use Rattle.striking.proofs.rest.sums_without.Goals as goal

pub loop-x-init : goal.loop-x-init
unfolding list_of
loop-x-init c =
    let e : 0 * sums_width c.args.m ≡ 0 = omega arith in
    rw e refl

pub loop-y-preserved : goal.loop-y-preserved
loop-y-preserved c =
    let m = c.args.m in
    let x = c.loop-x.x in
    let y = c.loop-y.y in
    let k = x * sums_width m + y in
    let value : ℕ → ℕ
    = λ j. get_or c.args.sums.now j 0 - own_at c.lowest-low.result c.highest-high.result c.args.quantity (j / sums_width m) (j % sums_width m) in
    let long : x < sums_width m = omega arith in
    let short : y < sums_width m = omega arith in
    let room : k < sums_size m = digits_lt long short in
    let plus : x * sums_width m + (y + 1) ≡ k + 1 = omega arith in
    let less = ap (λ v. get_or c.args.sums.now k 0 - v) c.own_at.ensures in
    let right : get_or c.args.sums.now k 0 - c.own_at.result ≡ value k = rw (digits_div x short, digits_mod x short) less in
    rw plus (filled_more value c.loop-y.rest k _ (omega (arith, room)) c.loop-y.invariant right)

pub returns : goal.returns
unfolding sums_without
returns c =
    let m = c.args.m in
    let n : c.loop-x.x ≡ sums_width m = omega arith in
    let all : take (sums_size m) c.loop-x.rest ≡ c.loop-x.rest = take_all (sums_size m) c.loop-x.rest (omega arith) in
    rw (← c.lowest-low.ensures, ← c.highest-high.ensures) (sym all ∙ rw n at c.loop-x.invariant)
