-- The lines of two boards on one panel: occurrences add, and the off count and the best pairs are at least the sums.
use Prim.Native.Nat.{ℕ, ◌+◌, ◌≤◌}
use native.Mathlib.Omega.{arith}
use mathlib.Core.Path.{◌≡◌, refl, sym, ap, ◌∙◌}
use mathlib.Core.List.{List, ◌++◌}
use lib.ListN.{length, length-append}
use Rattle.model.specs.Count.{largest}
use Rattle.model.specs.Plan.{has, occ, pairs}
use Rattle.model.specs.CommonTip.{top}
use Rattle.model.specs.Limits.{most_lines, most_placements}
use Rattle.model.proofs.Mix.{count_mix}
use Rattle.model.proofs.Largest.{largest_ge, largest_le}
use Rattle.model.proofs.Occ.{top-length}
use Rattle.model.proofs.Pairs.{pairs_mix}
use Rattle.model.proofs.Valid.{valid_length}
use Rattle.placements.specs.Repeated.{total, repeated}
use Rattle.placements.specs.Good.{GoodLines}
use Rattle.placements.specs.Keep.{LeastOffQ}
use Rattle.placements.proofs.Repeated.{length-repeated, repeated-append}
use Rattle.placements.proofs.Totals.{total-append}
use Rattle.placements.proofs.CommonTip.{least_off-placements}
use Rattle.model.proofs.Append.{mix_append, all_append, valid_append}
use Rattle.line_calls.specs.Table.{MostPairs}
use Rattle.panel.specs.Rules.{PanelRule}

-- ---- placements, one list after the other

-- OCCURRENCES add
pub occ-append : (l r : List ℕ) (t : ℕ) → occ (l ++ r) t ≡ occ l t + occ r t
unfolding occ
occ-append l r t = count_mix (λ s. has s t) (mix_append l r)

pub top-append : (l r : List ℕ) (m : ℕ) → top m (l ++ r) ≤ top m l + top m r
unfolding top
top-append l r m =
    largest_le (occ (l ++ r)) m (largest (occ l) m + largest (occ r) m)
    (λ t b. omega (arith, occ-append l r t, largest_ge (occ l) m t b, largest_ge (occ r) m t b))

pub pairs-append : (p q : List ℕ) → pairs p + pairs q ≤ pairs (p ++ q)
pairs-append p q = omega (arith, pairs_mix (mix_append p q))

-- ---- lines with their quantities

-- good lines of both are good together where they are few
pub good_append : {m : ℕ} {qs lines rs others : List ℕ} → GoodLines m qs lines → GoodLines m rs others
    → length lines + length others ≤ most_lines → total qs + total rs ≤ most_placements → GoodLines m (qs ++ rs) (lines ++ others)
good_append {qs} {lines} {rs} {others} a b lines_few few = record {
  some = a.some;
  most = a.most;
  few-lines = rw length-append lines_few;
  same = length-append qs rs ∙ rw (a.same, b.same) (sym (length-append lines others));
  placed = all_append a.placed b.placed;
  few = rw total-append few;
  domains = all_append a.domains b.domains;
}

module _ {m : ℕ} {qs lines rs others : List ℕ} (a : GoodLines m qs lines) (b : GoodLines m rs others)
    (good : GoodLines m (qs ++ rs) (lines ++ others)) where
  placed-lines : repeated (qs ++ rs) (lines ++ others) ≡ repeated qs lines ++ repeated rs others
  placed-lines = repeated-append qs rs lines others a.same

  occurrences : (t : ℕ) → occ (repeated (qs ++ rs) (lines ++ others)) t ≡ occ (repeated qs lines) t + occ (repeated rs others) t
  occurrences t = rw placed-lines (occ-append (repeated qs lines) (repeated rs others) t)

  tops : top m (repeated (qs ++ rs) (lines ++ others)) ≤ top m (repeated qs lines) + top m (repeated rs others)
  tops = rw placed-lines (top-append (repeated qs lines) (repeated rs others) m)

  -- THE LEAST OFF COUNT of the panel is at least the sum
  least-off : (x y z : ℕ) → LeastOffQ m qs lines x → LeastOffQ m rs others y → LeastOffQ m (qs ++ rs) (lines ++ others) z → x + y ≤ z
  least-off x y z f g h =
      let (p, v, e) = (least_off-placements a.some a.domains qs a.same).reached in
      let (q, w, k) = (least_off-placements b.some b.domains rs b.same).reached in
      let (_, u, i) = h.reached in
      omega (
        arith,
        f.least v,
        e,
        g.least w,
        k,
        i,
        (least_off-placements good.some good.domains (qs ++ rs) good.same).least u,
        total-append qs rs,
        tops,
        top-length m (repeated qs lines),
        length-repeated qs lines a.same,
        top-length m (repeated rs others),
        length-repeated rs others b.same,
      )

  -- THE BEST PAIRS of the panel are at least the sum
  best-pairs : (x y z : ℕ) → MostPairs qs lines x → MostPairs rs others y → MostPairs (qs ++ rs) (lines ++ others) z → x + y ≤ z
  best-pairs x y z f g h =
      let (p, v, e) = f.reached in
      let (q, w, k) = g.reached in
      let both : repeated (qs ++ rs) (p ++ q) ≡ repeated qs p ++ repeated rs q = repeated-append qs rs p q (a.same ∙ sym (valid_length v)) in
      omega (arith, e, k, pairs-append (repeated qs p) (repeated rs q), ap pairs both, h.most (p ++ q) (valid_append v w))

  pub panel-rule : PanelRule m qs lines rs others (qs ++ rs) (lines ++ others)
  panel-rule =
      record { good = good; lines_are = refl; quantities_are = refl; occurrences = occurrences; off = least-off; best = best-pairs }
