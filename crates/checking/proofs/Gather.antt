-- One number more of the named tips, and one row.
use Rattle.std.proofs.Common.{◌≡◌, ℕ, suc, ◌+◌, ◌*◌, ◌<◌, ◌≤◌, List, length, set, length-set, ◌∙◌, arith, mul-le-mul_right}
use mathlib.Core.Logic.{⊎_elim}
use lib.Arith.{digits_lt}
use lib.Seq.{get_or-set_same, get_or-set_other}
use Rattle.model.specs.Plan.{has}
use Rattle.model.specs.Renumber.{tip_at}
use Rattle.model.proofs.Tests.{le_or_lt}
use Rattle.checking.specs.Spread.{cell, Gathered}

module _ {names m r : ℕ} {tab own : List ℕ} {i : ℕ} where
  pub gathered_more : (j : ℕ) → i < r → j < r → {v : ℕ} → v ≡ cell m tab (tip_at (has names) m i) (tip_at (has names) m j)
      → Gathered names m r tab own i j → Gathered names m r tab (set own (i * r + j) v) i (j + 1)
  gathered_more j a b {v} is g = record {
    size = length-set own (i * r + j) v ∙ g.size;
    rows = λ d e l h.
        let n : suc d ≤ i = omega arith in
        get_or-set_other own (i * r + j) (d * r + e) v 0 (λ z. omega (arith, mul-le-mul_right r n)) ∙ g.rows d e l h;
    row = λ e l.
        ⊎_elim
        (λ p. let z : e ≡ j = omega arith in rw z (get_or-set_same own (i * r + j) v 0 room ∙ is))
        (λ p. get_or-set_other own (i * r + j) (i * r + e) v 0 (λ z. omega arith) ∙ g.row e p)
        (le_or_lt j e);
  }
    where
      room : i * r + j < length own
      room = omega (arith, g.size, digits_lt {q = i} {m = r} {r = j} {c = r} a b)

  pub gathered_row : Gathered names m r tab own i r → Gathered names m r tab own (i + 1) 0
  gathered_row g = record {
    size = g.size;
    rows = λ d e l h.
        ⊎_elim (λ p. let z : d ≡ i = omega arith in rw z (g.row e h)) (λ p. g.rows d e p h) (le_or_lt i d);
    row = λ e l. absurd (omega arith);
  }
