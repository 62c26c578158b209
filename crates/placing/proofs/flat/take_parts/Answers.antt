use Rattle.std.proofs.Common.{◌≡◌, ◌<◌, ◌≤◌, ◌+◌, ℕ, T, true, false, not, refl, sym, ◌∙◌, List, length, get_or, set, arith}
use mathlib.Core.Logic.{⊎_elim}
use lib.ListN.{length-set}
use lib.Seq.{get_or-set_same, get_or-set_other}
use Rattle.model.proofs.Tests.{le_or_lt}
use Rattle.order_rules.specs.Parts.{window_ok}
use Rattle.placing.proofs.Windows.{taken_none, taken_more, taken_bad}
use Rattle.placing.proofs.flat.take_parts.Goals as goal

pub loop-i-init : goal.loop-i-init
loop-i-init g c = record {
  firsts_size = refl;
  lasts_size = refl;
  firsts = λ k l. absurd (omega arith);
  lasts = λ k l. absurd (omega arith);
  taken = λ parts p. taken_none parts c.args.firsts.now c.args.lasts.now;
}

pub returns-then-not-is_window_ok-clause-err : goal.returns-then-not-is_window_ok-clause-err
returns-then-not-is_window_ok-clause-err g c =
    λ parts p.
    let l = c.loop-i in
    let part = c.part_at-part.result in
    let i : l.i < length parts = omega (arith, p.size) in
    let e = p.each l.i part c.loop-i-test.true c.part_at-part.ensures in
    let bad : window_ok c.args.n part ≡ false = sym c.is_window_ok.ensures.test ∙ c.if-not-is_window_ok.true in
    let t : T (not (window_ok (length parts) part)) = rw (p.size, bad) tt in
    rw c.at.ensures (refl, i, taken_bad parts l.i l.firsts l.lasts l.kinds (l.invariant.taken parts p) part e i t)

-- one place more below the bound
below_more : (n i v : ℕ) (xs : List ℕ) → i < length xs → v < n → ((k : ℕ) → k < i → get_or xs k 0 < n)
    → (k : ℕ) → k < i + 1 → get_or (set xs i v) k 0 < n
below_more n i v xs l h below k m =
    ⊎_elim
    (λ (y : i ≤ k). let s : k ≡ i = omega arith in rw (s, get_or-set_same xs i v 0 l) h)
    (λ (y : k < i). rw (get_or-set_other xs i k v 0 (λ z. omega arith)) (below k y))
    (le_or_lt i k)

pub loop-i-preserved : goal.loop-i-preserved
loop-i-preserved g c =
    let l = c.loop-i in
    let v = l.invariant in
    let part = c.part_at-part.result in
    let good : window_ok c.args.n part ≡ true = sym c.is_window_ok.ensures.test ∙ c.if-not-is_window_ok.false in
    let (first, last) = c.is_window_ok.ensures.inside c.if-not-is_window_ok.false in
    let a : l.i < length l.firsts = omega (arith, v.firsts_size, c.requires.firsts, c.loop-i-test.true) in
    let b : l.i < length l.lasts = omega (arith, v.lasts_size, c.requires.lasts, c.loop-i-test.true) in
    record {
      firsts_size = length-set l.firsts l.i part.first ∙ v.firsts_size;
      lasts_size = length-set l.lasts l.i part.last ∙ v.lasts_size;
      firsts = below_more c.args.n l.i part.first l.firsts a first v.firsts;
      lasts = below_more c.args.n l.i part.last l.lasts b last v.lasts;
      taken = λ parts p.
          let t : T (window_ok (length parts) part) = rw (p.size, good) tt in
          taken_more parts l.i l.firsts l.lasts l.kinds (v.taken parts p) part
          (p.each l.i part c.loop-i-test.true c.part_at-part.ensures) a b t _ c.with-kinds.ensures.fine c.with-kinds.ensures.short;
    }
