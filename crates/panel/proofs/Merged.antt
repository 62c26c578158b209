-- Merging lines: what is refused and what is not, and what is left in the places that are lent.
use Prim.Native.Nat.{ℕ, ◌+◌, ◌≤◌, ◌<◌}
use mathlib.Core.Path.{◌≡◌, refl, sym, ap, ◌∙◌}
use mathlib.Core.Bool.{not}
use mathlib.Core.List.{List, ◌++◌}
use native.Mathlib.Omega.{arith}
use lib.Dec.{eqb, ltb}
use lib.ListN.{length, take, drop, length-append}
use lib.Seq.{take_at}
use borrow.Author.Tests.{eq-eqb, ne_eqb, eqb-true, lt-ltb, le-ltb, ltb-false, not-false}
use Rattle.model.specs.Limits.{most_lines, most_placements}
use Rattle.placements.specs.Repeated.{total}
use Rattle.placements.specs.Good.{GoodLines}
use Rattle.refusal.specs.Told.{Refusal}
use Rattle.refusal.specs.Refusal.{none, refuse, or_else, when}
use Rattle.refusal.proofs.Laws.{number_of, or_none, when-none, accepted}
use Rattle.panel.specs.Panel.{merge_refusal, merge_of, merged_by}
use Rattle.panel.specs.Rules.{PanelRule}
use Rattle.panel.proofs.Panel.{good_append, panel-rule}

-- the refusals after the earlier one, in their order
module _ (earlier : Refusal) (z : earlier.number ≡ 0) (m o n t : ℕ) where
  pub merge_racks : (m ≡ o → ⊥) → refuse 17 ≡ merge_refusal earlier m o n t
  unfolding merge_refusal or_else
  merge_racks h = rw (eq-eqb earlier.number 0 z, ne_eqb m o h)

  pub merge-lines : m ≡ o → most_lines < n → refuse 24 ≡ merge_refusal earlier m o n t
  unfolding merge_refusal or_else
  merge-lines e h = rw (eq-eqb earlier.number 0 z, eq-eqb m o e, lt-ltb most_lines n h)

  pub merge_over : m ≡ o → n ≤ most_lines → when (ltb most_placements t) 30 ≡ merge_refusal earlier m o n t
  unfolding merge_refusal or_else
  merge_over e h = rw (eq-eqb earlier.number 0 z, eq-eqb m o e, le-ltb most_lines n h)

-- what is known where nothing is refused
pub record Mergeable (earlier : Refusal) (m o n t : ℕ) : Type 0 where
  pub free : earlier.number ≡ 0
  pub same_rack : m ≡ o
  pub lines_few : n ≤ most_lines
  pub few : t ≤ most_placements

pub merge_none : (earlier : Refusal) (m o n t : ℕ) → (merge_refusal earlier m o n t).number ≡ 0 → Mergeable earlier m o n t
unfolding merge_refusal
merge_none earlier m o n t z =
    let racks = when (not (eqb m o)) 17 in
    let lines = when (ltb most_lines n) 24 in
    let over = when (ltb most_placements t) 30 in
    let (free, later) = or_none earlier (or_else racks (or_else lines over)) z in
    let (same, last) = or_none racks (or_else lines over) later in
    let (few-lines, few) = or_none lines over last in
    record {
      free = free;
      same_rack = eqb-true m o (not-false (eqb m o) (when-none (not (eqb m o)) 17 (λ e. omega arith) same));
      lines_few = ltb-false most_lines n (when-none (ltb most_lines n) 24 (λ e. omega arith) few-lines);
      few = ltb-false most_placements t (when-none (ltb most_placements t) 30 (λ e. omega arith) few);
    }

-- a merge that refuses nothing has no place
pub merge_whole : (earlier : Refusal) (m o n t : ℕ) → (merge_refusal earlier m o n t).number ≡ 0 → merge_refusal earlier m o n t ≡ none
merge_whole earlier m o n t z =
    let k = merge_none earlier m o n t z in
    sym (merge_over earlier k.free m o n t k.same_rack k.lines_few) ∙ rw (le-ltb most_placements t k.few) refl

-- the same of the lines of two boards
pub known : (earlier : Refusal) {m o : ℕ} (qs sets rs others : List ℕ) → (merge_of earlier m qs sets o rs others).number ≡ 0
    → Mergeable earlier m o (length sets + length others) (total qs + total rs)
unfolding merge_of
known earlier {m} {o} qs sets rs others z = merge_none earlier m o _ _ z

module _ (earlier : Refusal) {m o : ℕ} {qs sets rs others : List ℕ} (g : earlier.number ≡ 0 → GoodLines m qs sets)
    (h : earlier.number ≡ 0 → GoodLines o rs others) (z : (merge_of earlier m qs sets o rs others).number ≡ 0) where
  -- THE PANEL'S LINES keep the rule
  pub merged-rule : PanelRule m qs sets rs others (qs ++ rs) (sets ++ others)
  merged-rule =
      let k = known earlier qs sets rs others z in
      let a = g k.free in
      let b : GoodLines m rs others = rw k.same_rack (h k.free) in
      panel-rule a b (good_append a b k.lines_few k.few)

-- what the merge leaves in its first places, one for each line of both
merged-front : (d : Refusal) → d.number ≡ 0 → {n : ℕ} (first second : List ℕ) → length first + length second ≡ n
    → (old : List ℕ) {last : List ℕ} → last ≡ merged_by d first second old → take n last ≡ first ++ second
merged-front d z {n} first second e old g =
    ap (take n) (g ∙ accepted _ old {d = d} refl z)
    ∙ take_at (first ++ second) (drop (length first + length second) old) n (length-append first second ∙ e)

module _ (earlier : Refusal) {m o : ℕ} {qs sets rs others : List ℕ} (g : earlier.number ≡ 0 → GoodLines m qs sets)
    (h : earlier.number ≡ 0 → GoodLines o rs others) {d : Refusal} (told_is : d ≡ merge_of earlier m qs sets o rs others) (z : d.number ≡ 0) where
  free : earlier.number ≡ 0
  free = (known earlier qs sets rs others (number_of told_is z)).free

  pub merged-lines : (old : List ℕ) {last : List ℕ} → last ≡ merged_by d sets others old
      → take (length sets + length others) last ≡ sets ++ others
  merged-lines old e = merged-front d z sets others refl old e

  pub merged_quantities : (old : List ℕ) {last : List ℕ} → last ≡ merged_by d qs rs old → take (length sets + length others) last ≡ qs ++ rs
  merged_quantities old e = merged-front d z qs rs (rw ((g free).same, (h free).same) refl) old e

  -- so the lines are good for a call after the merge
  pub good-merged : (old old-qs : List ℕ) {last last-qs : List ℕ} → last ≡ merged_by d sets others old → last-qs ≡ merged_by d qs rs old-qs
      → GoodLines m (take (length sets + length others) last-qs) (take (length sets + length others) last)
  good-merged old old-qs e f = rw (merged-lines old e, merged_quantities old-qs f) (merged-rule earlier g h (number_of told_is z)).good
