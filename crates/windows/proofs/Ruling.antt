-- What is found are the bounds; and the bytes where some order obeys, and where none does.
use Prim.Native.Nat.{ℕ}
use mathlib.Core.Path.{◌≡◌, ap, sym, ◌∙◌}
use mathlib.Core.Bool.{Bool, true, false}
use mathlib.Core.List.{List}
use lib.ListN.{get_or}
use Rattle.model.specs.Count.{list_of}
use Rattle.model.proofs.Tests.{T_true}
use Rattle.model.proofs.ListOf.{list_of-at}
use Rattle.order_rules.specs.Order.{Task}
use Rattle.windows.specs.Bounds.{solvable, soonest, latest}
use Rattle.windows.specs.Found.{FoundBounds, BoundsRule}
use Rattle.windows.proofs.Bounds.{Below, solvable_iff, bounds}

pub bounds-rule : {t : Task} {first₀ last₀ first last : List ℕ} {r : Bool} → Below t → FoundBounds t first₀ last₀ first last r
    → BoundsRule t first last r
bounds-rule {t} {first = first} {last = last} below f = record {
  exact = λ e i l.
      let s : solvable t ≡ true = sym f.told ∙ e in
      let a : get_or first i 0 ≡ soonest t i = ap (λ x. get_or x i 0) (rw s at f.firsts) ∙ list_of-at (soonest t) t.size i l in
      let b : get_or last i 0 ≡ latest t i = ap (λ x. get_or x i 0) (rw s at f.lasts) ∙ list_of-at (latest t) t.size i l in
      rw (a, b) (bounds t below i l (T_true s));
  none = λ e order o.
      let s : solvable t ≡ false = sym f.told ∙ e in
      rw s at ((solvable_iff t below).1 (order, o));
}

pub found_none : (t : Task) (first last : List ℕ) → solvable t ≡ false → FoundBounds t first last first last false
found_none t first last s = record { told = sym s; firsts = rw s; lasts = rw s }

pub found_all : (t : Task) (first₀ last₀ first last : List ℕ) → solvable t ≡ true
    → first ≡ list_of (soonest t) t.size → last ≡ list_of (latest t) t.size → FoundBounds t first₀ last₀ first last true
found_all t first₀ last₀ first last s a b = record { told = sym s; firsts = rw s a; lasts = rw s b }
