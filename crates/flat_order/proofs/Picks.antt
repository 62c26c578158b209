-- The greedy order over flat arrays: what the search for a part finds, and where the loop stands at position p.
use Prim.Native.Nat.{ℕ, ◌+◌, ◌-◌, ◌≤◌, ◌<◌, ◌^◌}
use native.Mathlib.Omega.{arith}
use native.Mathlib.Nat.{le_refl}
use mathlib.Core.Path.{◌≡◌, refl, ap, sym, ◌∙◌}
use mathlib.Core.Logic.{⊎_elim}
use mathlib.Core.Bool.{Bool, true, false, not, ◌&&◌}
use mathlib.Core.List.{List}
use mathlib.Core.Option.{Option, none, some}
use lib.Dec.{T, ltb, leb, not_T, T_not, ltb→lt, lt→ltb, leb→le, le→leb}
use lib.ListN.{length, get_or, take, set, length-set}
use lib.Bits.{bit_and, bit_xor}
use Rattle.std.proofs.lemmas.Nat.{and_le_l, and_le_r, xor_lt}
use Rattle.model.specs.Count.{every}
use borrow.Author.Tests.{lt-ltb}
use Rattle.model.proofs.Tests.{le_or_lt, true_T, same_test, and_left, and_right, and_in, every_iff}
use Rattle.order_rules.specs.Number.{number, lowest, lowest_on, without}
use Rattle.order_rules.specs.Order.{Task}
use Rattle.order_rules.specs.Least.{due, tight, is_free_part, fits as part_fits, pick_by, prepend, greedy_by}
use Rattle.order_rules.proofs.Number.{lowest_is, without-left, number_cong, number-all, number-without}
use Rattle.order_rules.proofs.First.{on_found, on_other, on_cong}
use Rattle.order_rules.proofs.Agree.{greedy_cong}
use Rattle.order_rules.proofs.Loops.{prepend_all, prepend-none, prepend_end, placed-more, greedy_picks, greedy_stops}
use Rattle.flat_order.specs.declared.sets.PartSet.{PartSet}
use Rattle.flat_order.specs.Sets.{has_part, single, removed, met, apart}
use Rattle.flat_order.specs.Flat.{row_at, flat_task, tight_of, candidates_at, is_pick, choose_ready, IsFirst, IsChosen, one_ready, none_ready}
use Rattle.flat_order.specs.Flat.{InPlace, Below, Levels, IsEnd}
use Rattle.flat_order.proofs.Members.{has-met, has-removed, apart_none, apart_if}
use Rattle.flat_order.proofs.Settled.{left-without}
use Rattle.flat_order.proofs.Free.{pick-among}
use Rattle.flat_order.proofs.Levels.{end_in, end_tight}

-- a position is before the next of p, or it is after p
before_next : (a p : ℕ) → ltb a (p + 1) ≡ leb a p
before_next a p = same_test (ltb a (p + 1)) (leb a p) (λ u. le→leb a p (omega (arith, ltb→lt a (p + 1) u)))
    (λ u. lt→ltb a (p + 1) (omega (arith, leb→le a p u)))

not_before : (a p : ℕ) → not (ltb a p) ≡ leb p a
not_before a p = same_test (not (ltb a p)) (leb p a)
    (λ u. le→leb p a (⊎_elim (λ l. l) (λ l. absurd (T_not (ltb a p) u (lt→ltb a p l))) (le_or_lt p a)))
    (λ u. not_T (ltb a p) (λ v. omega (arith, leb→le p a u, ltb→lt a p v)))

arrange : (a b d e : Bool) → (a && (true && b) && (true && d && not (true && e))) ≡ (a && b && not e && d)
arrange false b d e = refl
arrange true false d e = refl
arrange true true false true = refl
arrange true true false false = refl
arrange true true true true = refl
arrange true true true false = refl

-- a part that is chosen passes
pub chosen-passes : {on f : ℕ → Bool} {x : ℕ} → IsChosen on f x → T (f x)
chosen-passes {on} {f} {x} (one_ready h) = and_left (f x) (on x) h.passes
chosen-passes (none_ready m h) = h.passes

-- the candidates are left
pub among_left : (left begun : PartSet) (ends : List PartSet) (p v x : ℕ) → T (has_part (candidates_at p v (met left begun) ends) x)
    → T (has_part left x)
unfolding candidates_at
among_left left begun ends p v x u =
    let past = removed (row_at ends (v + 1)) (row_at ends p) in
    and_left (has_part left x) (has_part begun x) (rw (has-met left begun x) at
    (and_left (has_part (met left begun) x) (has_part past x) (rw (has-met (met left begun) past x) at u)))

-- a part that can be picked is one of those to place
pub pick_in : (rows : List PartSet) (left begun among : PartSet) (ends : List PartSet) (p v x n : ℕ) → ((i : ℕ) → T (has_part left i) → i < n)
    → among ≡ candidates_at p v (met left begun) ends → T (is_pick among left rows x) → x < n
pick_in rows left begun among ends p v x n inside e t = inside x (among_left left begun ends p v x (rw e at (pick-among among left rows x t)))

module _ (firsts lasts : List ℕ) (rows : List PartSet) (left : PartSet) (inside : (i : ℕ) → T (has_part left i) → i < length lasts)
    (low : left.low < 2 ^ 64) (high : left.high < 2 ^ 64) where
  abbrev t : Task
  t = flat_task firsts lasts rows

  fits : (a b c : ℕ) → b < 2 ^ 64 → bit_and a (bit_xor b (bit_and b c)) < 2 ^ 64
  fits a b c l = omega (arith, and_le_r a (bit_xor b (bit_and b c)), xor_lt 64 b (bit_and b c) l (omega (arith, and_le_l b c)))

  -- no other part left is to be placed earlier than x exactly when its row and the parts left have none in common
  free_is : (x : ℕ) → is_free_part t (has_part left) x ≡ apart (row_at rows x) (removed left (single x))
  unfolding is_free_part removed
  free_is x =
      let test : ℕ → Bool = λ y. not (without x (has_part left) y && t.before y x) in
      same_test (every test (length lasts)) (apart (row_at rows x) (removed left (single x)))
      (λ u. apart_if (row_at rows x) (removed left (single x)) (fits (row_at rows x).low left.low (single x).low low) (fits
      (row_at rows x).high left.high (single x).high high) (λ y l a b.
      let w : T (without x (has_part left) y) = rw (left-without left x y) at b in
      T_not (without x (has_part left) y && t.before y x) ((every_iff test (length lasts)).0 u y (inside y (without-left (has_part left) x y w)))
      (and_in (without x (has_part left) y) (t.before y x) w a)))
      (λ u. (every_iff test (length lasts)).1 (λ y l. not_T (without x (has_part left) y && t.before y x) (λ h.
      apart_none (row_at rows x) (removed left (single x)) u y (and_right (without x (has_part left) y) (t.before y x) h)
      (rw (left-without left x y) (and_left (without x (has_part left) y) (t.before y x) h)))))

  module _ (ends : List PartSet) (begun : PartSet) (p : ℕ) (begins : (x : ℕ) →
      has_part begun x ≡ (ltb x (length lasts) && ltb (get_or firsts x 0) (p + 1)))
      (closes : Below lasts (length lasts) ends) where
    -- a candidate by the sets is one by its window
    among-is : (v x : ℕ) → p < length lasts → v < length lasts → x < length lasts → has_part (candidates_at p v (met left begun) ends) x
        ≡ (has_part left x && leb (get_or firsts x 0) p && leb p (get_or lasts x 0) && leb (get_or lasts x 0) v)
    unfolding candidates_at
    among-is v x k h l =
        let due = row_at ends (v + 1) in
        let past = row_at ends p in
        has-met (met left begun) (removed due past) x
        ∙ rw (
          has-met left begun x,
          has-removed due past x,
          begins x,
          closes.each (v + 1) x (omega arith),
          closes.each p x (omega arith),
          lt-ltb x (length lasts) l,
          before_next (get_or firsts x 0) p,
          before_next (get_or lasts x 0) v,
          ← not_before (get_or lasts x 0) p,
        ) (arrange (has_part left x) (leb (get_or firsts x 0) p) (leb (get_or lasts x 0) v) (ltb (get_or lasts x 0) p))

    -- the search up to the end, first among the parts that are ready, finds the pick
    pub pick_is : (on : PartSet) (v : ℕ) → p < length lasts → v < length lasts → v ≡ p + tight_of left lasts p
        → pick_by choose_ready t p on (has_part left)
        ≡ lowest_on (has_part on) (is_pick (candidates_at p v (met left begun) ends) left rows) (length lasts)
    unfolding pick_by part_fits tight due tight_of is_pick
    pick_is on v k h e = rw (← e) (on_cong (has_part on) _ _ (length lasts) (λ x l. rw (free_is x)
        (ap (λ b. b && apart (row_at rows x) (removed left (single x))) (sym (among-is v x k h l)))))

    -- a pick is left, and its last position is neither before p nor after v
    pub pick_known : (v x : ℕ) → p < length lasts → v < length lasts → x < length lasts
        → T (is_pick (candidates_at p v (met left begun) ends) left rows x) → T (has_part left x) × (get_or lasts x 0 ≤ v)
    unfolding is_pick
    pick_known v x k h l u =
        let a = has_part left x in
        let b = leb (get_or firsts x 0) p in
        let d = leb p (get_or lasts x 0) in
        let e = leb (get_or lasts x 0) v in
        let w = rw (among-is v x k h l) at
        (and_left (has_part (candidates_at p v (met left begun) ends) x) (apart (row_at rows x) (removed left (single x))) u) in
        (and_left a b (and_left (a && b) d (and_left (a && b && d) e w)), leb→le (get_or lasts x 0) v (and_right (a && b && d) e w))

    module _ (on : PartSet) (v : ℕ) (k : p < length lasts) (h : v < length lasts) (e : v ≡ p + tight_of left lasts p) where
      abbrev among : PartSet
      among = candidates_at p v (met left begun) ends

      abbrev test : ℕ → Bool
      test = is_pick among left rows

      abbrev n : ℕ
      n = length lasts

      -- a part that can be picked is left
      known : (x : ℕ) → T (test x) → T (has_part left x) × (get_or lasts x 0 ≤ v)
      known x f =
          let u = among_left left begun ends p v x (pick-among among left rows x f) in
          (u, (pick_known v x k h (inside x u) f).1)

      -- the least of the parts that pass a test
      least_is : (g : ℕ → Bool) (x : ℕ) → x < n → IsFirst g x → x ≡ lowest g n
      least_is g x l f = lowest_is g n x (omega (arith, l)) (λ _. f.passes) (λ i m w. omega (arith, f.least i w))

      none_below : (g : ℕ → Bool) → ((x : ℕ) → T (g x) → ⊥) → n ≡ lowest g n
      none_below g f = lowest_is g n n (le_refl n) (λ m. absurd (omega arith)) (λ i m w. f i w)

      -- the part chosen is the pick
      pub chosen_is : (x : ℕ) → IsChosen (has_part on) test x
          → (x ≡ pick_by choose_ready t p on (has_part left)) × T (has_part left x) × (get_or lasts x 0 ≤ v)
      chosen_is x (one_ready f) =
          let w = known x (and_left (test x) (has_part on x) f.passes) in
          let l = inside x w.0 in
          (on_found (has_part on) test n x (least_is (λ y. test y && has_part on y) x l f) l ∙ sym (pick_is on v k h e), w.0, w.1)
      chosen_is x (none_ready m f) =
          let w = known x f.passes in
          let l = inside x w.0 in (
            least_is test x l f
                ∙ on_other (has_part on) test n n (none_below (λ y. test y && has_part on y) m) (le_refl n)
                ∙ sym (pick_is on v k h e),
            w.0,
            w.1,
          )

      pub none_is : ((x : ℕ) → T (test x) → ⊥) → n ≤ pick_by choose_ready t p on (has_part left)
      none_is f =
          let z = none_below test f in
          let both = none_below (λ y. test y && has_part on y) (λ x u. f x (and_left (test x) (has_part on x) u)) in
          let y = on_other (has_part on) test n n both (le_refl n) in
          omega (arith, z, y, pick_is on v k h e)

and-true : (a : Bool) → (a && true) ≡ a
and-true true = refl
and-true false = refl

-- from position p on with what is left and what is ready, as the best order goes on
abbrev pub goes_on : (ℕ → PartSet) → Task → ℕ → ℕ → PartSet → (ℕ → Bool) → Option (List ℕ)
goes_on next t k p on left = greedy_by choose_ready next t k p on left

-- at position p: an order with room for all parts, and what is left to place
pub record Kept (lasts : List ℕ) (p : ℕ) (order : List ℕ) (left : PartSet) : Type 0 where
  pub size : length lasts ≤ length order
  pub inside : (i : ℕ) → T (has_part left i) → i < length lasts
  pub count : number (has_part left) (length lasts) + p ≡ length lasts

module _ (lasts : List ℕ) (order : List ℕ) (left : PartSet) where
  abbrev m : ℕ
  m = length lasts

  pub kept_none : m ≤ length order → ((x : ℕ) → has_part left x ≡ ltb x m) → Kept lasts 0 order left
  kept_none e h = record {
    size = e;
    inside = λ i v. ltb→lt i m (rw (h i) at v);
    count = omega (arith, number_cong (has_part left) (λ _. true) m (λ i l. h i ∙ true_T (ltb i m) (lt→ltb i m l)), number-all m);
  }

  -- one part placed
  pub kept_more : (p : ℕ) → Kept lasts p order left → (x : ℕ) → x < m → T (has_part left x)
      → Kept lasts (p + 1) (set order p x) (removed left (single x))
  kept_more p k x h t = record {
    size = omega (arith, length-set order p x, k.size);
    inside = λ i v. k.inside i (without-left (has_part left) x i (rw (left-without left x i) at v));
    count =
        let f = number-without (has_part left) (λ _. true) x m h t in
        let g = number_cong (λ i. without x (has_part left) i && true) (has_part (removed left (single x))) m
        (λ i _. and-true (without x (has_part left) i) ∙ sym (left-without left x i)) in
        omega (arith, f, g, number_cong (λ i. has_part left i && true) (has_part left) m (λ i _. and-true (has_part left i)), k.count);
  }

-- and the parts before it are in the order, so that what is left goes on as the best order does
pub record Placing (firsts lasts : List ℕ) (rows : List PartSet) (start : PartSet) (next : ℕ → PartSet) (p : ℕ) (order : List ℕ)
    (left on : PartSet) : Type 0 where
  pub same : prepend_all (take p order) (goes_on next (flat_task firsts lasts rows) (length lasts - p) p on (has_part left))
      ≡ goes_on next (flat_task firsts lasts rows) (length lasts) 0 start (λ _. true)

module _ (firsts lasts : List ℕ) (rows : List PartSet) (start : PartSet) (next : ℕ → PartSet) where
  abbrev u : Task
  u = flat_task firsts lasts rows

  left_cong : (k p : ℕ) (on : PartSet) (left other : ℕ → Bool) → ((i : ℕ) → i < length lasts → left i ≡ other i)
      → goes_on next u k p on left ≡ goes_on next u k p on other
  left_cong k p on left other h = greedy_cong choose_ready next (λ s. on_cong (has_part s)) u k p on left other h

  pub placing_none : (order : List ℕ) (left : PartSet) → ((x : ℕ) → has_part left x ≡ ltb x (length lasts))
      → Placing firsts lasts rows start next 0 order left start
  placing_none order left h =
      let n = length lasts in
      let z : n - 0 ≡ n = omega arith in
      record { same = rw z (left_cong n 0 start (has_part left) (λ _. true) (λ i l. h i ∙ true_T (ltb i n) (lt→ltb i n l))) }

  module _ (order : List ℕ) (left on : PartSet) (p : ℕ) (l : p < length lasts) (s : Placing firsts lasts rows start next p order left on) where
    pub placing_more : length lasts ≤ length order → (x : ℕ) → x ≡ pick_by choose_ready u p on (has_part left) → x < length lasts
        → Placing firsts lasts rows start next (p + 1) (set order p x) (removed left (single x)) (next x)
    placing_more size x e h =
        let n = length lasts in
        let more = greedy_picks choose_ready next u on (has_part left) p l x e h in
        record {
          same = placed-more order p x (goes_on next u (n - (p + 1)) (p + 1) (next x) (has_part (removed left (single x)))) (omega (arith, size))
              ∙ ap (λ r. prepend_all (take p order) (prepend x r))
              (left_cong (n - (p + 1)) (p + 1) (next x) (has_part (removed left (single x))) (without x (has_part left))
              (λ i _. left-without left x i))
              ∙ ap (prepend_all (take p order)) (sym more) ∙ s.same;
        }

    pub placing_stops : length lasts ≤ pick_by choose_ready u p on (has_part left)
        → none ≡ goes_on next u (length lasts) 0 start (λ _. true)
    placing_stops h =
        sym (prepend-none (take p order))
        ∙ ap (prepend_all (take p order)) (sym (greedy_stops choose_ready next u on (has_part left) p l h)) ∙ s.same

  pub placing_all : (order : List ℕ) (left on : PartSet) (p : ℕ) → p ≡ length lasts → Placing firsts lasts rows start next p order left on
      → some (take (length lasts) order) ≡ goes_on next u (length lasts) 0 start (λ _. true)
  unfolding greedy_by
  placing_all order left on p e s =
      let z : length lasts - p ≡ 0 = omega arith in
      ap (λ k. some (take k order)) (sym e) ∙ sym (prepend_end (take p order))
      ∙ ap (λ k. prepend_all (take p order) (goes_on next u k p on (has_part left))) (sym z) ∙ s.same

-- ---- the part that is found at position p

module _ (firsts lasts : List ℕ) (rows ends : List PartSet) (p v : ℕ) (order levels : List ℕ)
    (left on begun among : PartSet) (k : p < length lasts) (s : Kept lasts p order left)
    (d : Levels left lasts p levels) (is : IsEnd (length lasts) p levels v) (low : left.low < 2 ^ 64) (high : left.high < 2 ^ 64)
    (within : InPlace (length lasts) lasts) (closes : Below lasts (length lasts) ends)
    (begins : (x : ℕ) → has_part begun x ≡ (ltb x (length lasts) && ltb (get_or firsts x 0) (p + 1)))
    (e : among ≡ candidates_at p v (met left begun) ends) where
  v_in : v < length lasts
  v_in = end_in left lasts levels p d s.count v within k is

  pub found : (x : ℕ) → IsChosen (has_part on) (is_pick among left rows) x
      → (x ≡ pick_by choose_ready (flat_task firsts lasts rows) p on (has_part left)) × T (has_part left x) × (get_or lasts x 0 ≤ v)
  found x f =
      chosen_is firsts lasts rows left s.inside low high ends begun p begins closes on v k v_in (end_tight left lasts levels p d v is) x
      (rw e at f)

  pub found_none : (start : PartSet) (next : ℕ → PartSet) → Placing firsts lasts rows start next p order left on
      → ((x : ℕ) → T (is_pick among left rows x) → ⊥)
      → none ≡ goes_on next (flat_task firsts lasts rows) (length lasts) 0 start (λ _. true)
  found_none start next q f = placing_stops firsts lasts rows start next order left on p k q
      (none_is firsts lasts rows left s.inside low high ends begun p begins closes on v k v_in (end_tight left lasts levels p d v is) (rw e at f))
