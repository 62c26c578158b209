-- Tasks that agree have the same bounds.
use Prim.Native.Nat.{ℕ, ◌-◌, min, max}
use mathlib.Core.Path.{◌≡◌, ap, ◌∙◌}
use mathlib.Core.Bool.{Bool, cond}
use mathlib.Core.List.{List}
use lib.Dec.{eqb}
use Rattle.model.specs.Count.{list_of}
use Rattle.model.proofs.ListOf.{list_of_cong}
use Rattle.order_rules.specs.Number.{lowest}
use Rattle.order_rules.specs.Order.{Task}
use Rattle.order_rules.proofs.Number.{lowest_cong}
use Rattle.order_rules.proofs.Agree.{Agree}
use Rattle.windows.specs.Bounds.{solvable, due_by, not_before, soonest, latest}
use Rattle.windows.specs.Found.{FoundBounds}
use Rattle.windows.proofs.Bounds.{Below, due_below}
use Rattle.windows.proofs.Arrays.{solvable_agree}

module _ {t u : Task} (a : Agree t u) (bt : Below t) (bu : Below u) where
  due_agree : (i p : ℕ) → Agree (due_by t i p) (due_by u i p)
  due_agree i p = record {
    size = a.size;
    first = a.first;
    last = λ j l. ap (λ x. cond (eqb i j) (min p x) x) (a.last j l);
    before = a.before;
  }

  since_agree : (i p : ℕ) → Agree (not_before t i p) (not_before u i p)
  since_agree i p = record {
    size = a.size;
    first = λ j l. ap (λ x. cond (eqb i j) (max p x) x) (a.first j l);
    last = a.last;
    before = a.before;
  }

  soonest_agree : (i : ℕ) → soonest t i ≡ soonest u i
  unfolding soonest
  soonest_agree i =
      let g : ℕ → Bool = λ p. solvable (due_by u i p) in
      lowest_cong (λ p. solvable (due_by t i p)) g t.size
      (λ p _. solvable_agree (due_agree i p) (due_below t i p bt) (due_below u i p bu)) ∙ ap (lowest g) a.size

  latest_agree : (i : ℕ) → latest t i ≡ latest u i
  unfolding latest
  latest_agree i =
      let n = t.size in
      let g : ℕ → ℕ → Bool = λ m d. solvable (not_before u i (m - 1 - d)) in
      ap (λ k. n - 1 - k) (lowest_cong (λ d. solvable (not_before t i (n - 1 - d))) (g n) n
      (λ d _. solvable_agree (since_agree i (n - 1 - d)) bt bu))
      ∙ ap (λ m. m - 1 - lowest (g m) m) a.size

  -- what is found for the one is found for the other
  pub found_agree : {first₀ last₀ first last : List ℕ} {r : Bool} → FoundBounds t first₀ last₀ first last r
      → FoundBounds u first₀ last₀ first last r
  found_agree {first₀} {last₀} f =
      let s = solvable_agree a bt bu in
      record {
        told = f.told ∙ s;
        firsts = f.firsts ∙ rw s (ap (λ l. cond (solvable u) l first₀)
            (list_of_cong _ _ t.size (λ i _. soonest_agree i) ∙ ap (list_of (soonest u)) a.size));
        lasts = f.lasts ∙ rw s (ap (λ l. cond (solvable u) l last₀)
            (list_of_cong _ _ t.size (λ i _. latest_agree i) ∙ ap (list_of (latest u)) a.size));
      }
