-- The first part of a list, lent to be searched and to be shortened: what is found in it and dropped from it is so of the whole.
use Prim.Native.Nat.{ℕ, ◌≤◌, ◌<◌}
use native.Mathlib.Omega.{arith}
use mathlib.Core.Path.{◌≡◌, ap, sym, ◌∙◌}
use mathlib.Core.List.{List, ◌++◌}
use lib.ListN.{length, get_or, take, drop, get_or-append}
use lib.Seq.{get_or-take, length-take-le}
use Rattle.unplanned.specs.Listed.{Findable, Rising, Found, Dropped}

-- the first m of the list
module _ (m : ℕ) (list : List ℕ) (h : m ≤ length list) where
  same : (k : ℕ) → k < m → get_or (take m list) k 0 ≡ get_or list k 0
  same k l = get_or-take m list k 0 l

  size : length (take m list) ≡ m
  size = length-take-le m list h

  pub part_findable : {tip : ℕ} {sets places : List ℕ} → Findable tip m list sets places
      → Findable tip (length (take m list)) (take m list) sets places
  part_findable f = record {
    tip_inside = f.tip_inside;
    inside = λ k l. let o : k < m = omega (arith, size) in rw (same k o) (f.inside k o);
    room = omega arith;
    for_places = omega (arith, size, f.for_places);
    narrow = omega (arith, size, f.narrow);
  }

  pub whole_found : {tip r : ℕ} {sets places : List ℕ} → Found tip (length (take m list)) (take m list) sets r places
      → Found tip m list sets r places
  whole_found {r = r} {places = places} g =
      let f = rw size at g in
      record {
        rising = f.rising;
        tipped = λ p l. rw (same (get_or places p 0) (omega (arith, f.rising.below p l))) at (f.tipped p l);
        each = λ k l t. f.each k l (rw (same k l) t);
        all = λ e k l. rw (same k l) at (f.all e k l);
      }

  -- r places in it
  module _ {r : ℕ} {places : List ℕ} (rising : Rising r m places) (room : r ≤ length places) where
    place : (p : ℕ) → p < r → get_or (take r places) p 0 ≡ get_or places p 0
    place p l = get_or-take r places p 0 l

    places_size : length (take r places) ≡ r
    places_size = length-take-le r places room

    pub part_rising : Rising (length (take r places)) (length (take m list)) (take r places)
    part_rising = rw (places_size, size) (record {
      most = rising.most;
      rising = λ p q a b. rw (place p (omega arith), place q b) (rising.rising p q a b);
      below = λ p l. rw (place p l) (rising.below p l);
    })

    pub whole_dropped : {m' : ℕ} {new : List ℕ} → length new ≡ length (take m list)
        → Dropped (length (take r places)) (length (take m list)) (take r places) (take m list) m' new
        → Dropped r m places list m' (new ++ drop m list)
    whole_dropped {m'} {new} e g =
        let d = rw (places_size, size) at g in
        let kept : (k : ℕ) → k < m' → get_or (new ++ drop m list) k 0 ≡ get_or new k 0
        = λ k l. get_or-append new (drop m list) 0 k (omega (arith, d.fewer, e, size)) in
        record {
          fewer = d.fewer;
          inside = λ n f k l. rw (kept k l) (d.inside n (λ j o. rw (same j o) (f j o)) k l);
          once = λ f j k a b s.
              d.once (λ i o x y t. f i o x y (sym (same i (omega arith)) ∙ t ∙ same o y)) j k a b
              (sym (kept j (omega arith)) ∙ s ∙ kept k b);
          kept = λ x a f.
              let b = d.kept x (record { place = a.place; early = a.early; held = same a.place a.early ∙ a.held })
              (λ p l t. f p l (sym (ap (λ i. get_or list i 0) (place p l)) ∙ sym (same _ (omega (arith, place p l, rising.below p l))) ∙ t)) in
              record { place = b.place; early = b.early; held = kept b.place b.early ∙ b.held };
        }
