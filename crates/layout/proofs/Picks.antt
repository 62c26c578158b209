-- The tip found by the sums and the table is the tip by the definition.
use Prim.Native.Nat.{ℕ, ◌+◌, ◌-◌, ◌<◌, ◌≤◌}
use mathlib.Core.Path.{◌≡◌, sym, ◌∙◌}
use mathlib.Core.Logic.{⊎_elim}
use mathlib.Core.List.{List}
use native.Mathlib.Omega.{arith}
use Rattle.model.specs.Count.{lowest_at}
use Rattle.model.specs.Choice.{Mounted, bare, tip, choice, from}
use Rattle.model.specs.Interval.{any, split, C, pick_of, table}
use Rattle.model.proofs.Tests.{le_or_lt}
use Rattle.model.proofs.Largest.{largest_ge, largest_cong, lowest_lt, lowest_attains, lowest-first}
use Rattle.model.proofs.Table.{length-table}
use Rattle.model.proofs.Choice.{choice_lt, choice-tied, choice_else, choice_cong, from_in, from_out}
use Rattle.model.proofs.Best.{C-split, pick-any}
use Rattle.spans.specs.Spans.{RunSums}
use Rattle.spans.proofs.Read.{run_ready}
use Rattle.goal_rules.specs.Check.{entry}
use Rattle.intervals.specs.Splits.{split_by, InsideAll}
use Rattle.intervals.proofs.Entry.{inside-all}
use Rattle.intervals.proofs.Read.{split_same}
use Rattle.layout.specs.Picks.{lowest_by, pick_by, Searchable}

module _ {m : ℕ} {lines xs cs : List ℕ} (k : RunSums m 0 lines xs) (filled : cs ≡ table m lines) where
  inside : InsideAll m lines cs
  inside = inside-all filled

  split_is : (a w i : ℕ) → a + w ≤ m → i < w → split_by m xs cs 0 a w i ≡ split (C lines) lines a w i
  split_is a w i h l = split_same k inside a w i h l

  pub pick_is : (mounted : Mounted) (a w : ℕ) → a + w ≤ m → pick_by mounted m xs cs a w ≡ pick_of mounted any lines a w
  unfolding pick_by
  pick_is mounted a w h = choice_cong (from a mounted) _ _ w (λ i l. split_is a w i h l) ∙ sym (pick-any lines mounted a w)

  -- WHAT THE SEARCH TAKES from the sums and the table of the lines
  pub searchable : Searchable m xs cs
  searchable = record {
    some = k.good.some;
    size = rw filled (length-table m lines);
    readable = run_ready k;
    most = λ a w h. inside.entries a w h ∙ C-split lines a w ∙ largest_cong _ _ w (λ i l. sym (split_is a w i h l));
  }

module _ {m : ℕ} {xs cs : List ℕ} (r : Searchable m xs cs) where
  -- THE SEARCH for the tip ends at the first whose split is the most pairs
  module _ (a w : ℕ) (h : a + w ≤ m) (p : 0 < w) where
    pub found : (i : ℕ) → i < w → entry m cs a w ≤ split_by m xs cs 0 a w i
        → ((k : ℕ) → k < i → split_by m xs cs 0 a w k < entry m cs a w) → i ≡ lowest_by m xs cs a w
    unfolding lowest_by
    found i l g before =
        let f = split_by m xs cs 0 a w in
        ⊎_elim
        (λ q.
        ⊎_elim
        (λ u. omega arith)
        (λ u. absurd (omega (arith, r.most a w h, lowest-first f w i u, largest_ge f w (lowest_at f w) (lowest_lt f w p))))
        (le_or_lt (lowest_at f w) i))
        (λ q. absurd (omega (arith, r.most a w h, lowest_attains f w, before (lowest_at f w) q)))
        (le_or_lt i (lowest_at f w))

    -- and there is one
    pub some_found : ((k : ℕ) → k < w → split_by m xs cs 0 a w k < entry m cs a w) → ⊥
    some_found none =
        let f = split_by m xs cs 0 a w in
        omega (arith, r.most a w h, lowest_attains f w, none (lowest_at f w) (lowest_lt f w p))

  -- the mounted tip wins exactly where its split is the most pairs
  module _ (t a w : ℕ) (h : a + w ≤ m) where
    pub wins : a ≤ t → t - a < w → entry m cs a w ≤ split_by m xs cs 0 a w (t - a) → t - a ≡ pick_by (tip t) m xs cs a w
    unfolding pick_by
    wins p l g =
        let f = split_by m xs cs 0 a w in
        rw (from_in a t p) (sym (choice-tied f (t - a) w l (omega (arith, r.most a w h, largest_ge f w (t - a) l))))

    pub loses : {r : ℕ} → r ≡ lowest_by m xs cs a w → (a ≤ t → t - a < w → split_by m xs cs 0 a w (t - a) < entry m cs a w)
        → r ≡ pick_by (tip t) m xs cs a w
    unfolding lowest_by pick_by choice
    loses e g =
        let f = split_by m xs cs 0 a w in
        e ∙ ⊎_elim
        (λ p. rw (from_in a t p) (sym (choice_else f (t - a) w (λ l e. omega (arith, g p l, r.most a w h)))))
        (λ p. rw (from_out a t p))
        (le_or_lt a t)

pub lowest-by_lt : (m : ℕ) (xs cs : List ℕ) (a w : ℕ) → 0 < w → lowest_by m xs cs a w < w
unfolding lowest_by
lowest-by_lt m xs cs a w p = lowest_lt _ w p

-- without a mounted tip the lowest is picked
pub pick_bare : (m : ℕ) (xs cs : List ℕ) (a w : ℕ) {r : ℕ} → r ≡ lowest_by m xs cs a w → r ≡ pick_by bare m xs cs a w
unfolding lowest_by pick_by choice from
pick_bare m xs cs a w e = e

pub pick_lt : (mounted : Mounted) (m : ℕ) (xs cs : List ℕ) (a w : ℕ) → 0 < w → pick_by mounted m xs cs a w < w
unfolding pick_by
pick_lt mounted m xs cs a w p = choice_lt _ (from a mounted) w p
