-- If some order obeys, each position has a pick: the order chosen is there, whatever the preference.
use Prim.Native.Nat.{ℕ, zero, suc, ◌+◌, ◌-◌, ◌≤◌, ◌<◌}
use native.Mathlib.Omega.{arith}
use native.Mathlib.Nat.{le_refl}
use mathlib.Core.Path.{◌≡◌, sym, ◌∙◌}
use mathlib.Core.Logic.{◌≢◌, ⊎_elim}
use mathlib.Core.Bool.{Bool, true, ◌&&◌, and-true}
use mathlib.Core.List.{List}
use mathlib.Core.Option.{Option, none, some}
use lib.Dec.{T, ltb, leb, eqb, leb→le, le→leb, nltb→le, eqb→eq, eqb_refl}
use Rattle.model.proofs.Tests.{le_or_lt, true_T, cond_case, one_le, and_left, and_right, and_in}
use Rattle.order_rules.specs.Number.{number, lowest, without}
use Rattle.order_rules.specs.Order.{Task, Ready}
use Rattle.order_rules.specs.Prefer.{Preference, Choice, Chooses}
use Rattle.order_rules.specs.Least.{due, tight, prepend, pick_by, greedy_by}
use Rattle.order_rules.proofs.Number.{
  number_cong,
  number_pos,
  lowest_passes,
  lowest_least,
  lowest-at-most,
  none_or,
  pigeonhole,
  without-left,
  without_differs,
}
use Rattle.order_rules.proofs.Obeys.{number-one_less}
use Rattle.order_rules.proofs.Greedy.{due-without, pick_ready, pick_inside}

-- the last positions are below the size, and no part's is after that of one that it is to precede
pub record Rising (t : Task) : Type 0 where
  pub below : (i : ℕ) → i < t.size → t.last i < t.size
  pub rising : (i j : ℕ) → i < t.size → j < t.size → T (t.before i j) → t.last i ≤ t.last j

-- positions of the parts as an order that obeys gives them
pub record Positions (t : Task) (pos : ℕ → ℕ) : Type 0 where
  pub apart : (i j : ℕ) → i < t.size → j < t.size → pos i ≡ pos j → i ≡ j
  pub opens : (i : ℕ) → i < t.size → t.first i ≤ pos i
  pub closes : (i : ℕ) → i < t.size → pos i ≤ t.last i
  pub along : (i j : ℕ) → i < t.size → j < t.size → i ≢ j → T (t.before i j) → pos i < pos j

-- an answer is there
abbrev pub IsSome : Option (List ℕ) → Type 0
IsSome none = ⊥
IsSome (some order) = Unit {0}

prepend_some : (x : ℕ) (r : Option (List ℕ)) → IsSome r → IsSome (prepend x r)
unfolding prepend
prepend_some x none h = h
prepend_some x (some order) h = tt

module _ (t : Task) where
  -- the parts left that are due at v or earlier are no more than the positions from p to v
  abbrev pub Room : ℕ → (ℕ → Bool) → Type 0
  Room p left = (v : ℕ) → due t left v ≤ suc v - p

  -- a part due no later than the first position up to which all are taken leaves room for the others
  room_next : (p x : ℕ) (left : ℕ → Bool) → Room p left
      → Ready t p left x → t.last x ≤ p + tight t p left → Room (suc p) (without x left)
  unfolding tight
  room_next p x left room r h v =
      let e = due-without t left x v r.part r.is_left in
      ⊎_elim
      (λ k. omega (arith, e, room v, one_le true (leb (t.last x) v) (λ _. le→leb (t.last x) v (omega arith))))
      (λ k. ⊎_elim (λ q. omega (arith, e, early k q)) (λ q. omega (arith, e, room v)) (le_or_lt p v))
      (le_or_lt (p + d) v)
    where
      full : ℕ → Bool
      full i = eqb (due t left (p + i)) (suc i)

      d : ℕ
      d = lowest full (t.size - p)

      early : v < p + d → p ≤ v → due t left v ≤ v - p
      early k q =
          let e : v ≡ p + (v - p) = omega arith in
          let taken : due t left v ≡ suc (v - p) → T (full (v - p)) = λ z. rw (← e) (rw z (eqb_refl (suc (v - p)))) in
          let n : due t left v ≢ suc (v - p) = λ z. lowest_least full (t.size - p) (v - p) (omega arith) (taken z) in
          omega (arith, room v)

  module _ (ok : Rising t) (pos : ℕ → ℕ) (at : Positions t pos) where
    -- of the parts left that are due at p + d or earlier, d + 1 of them, one stands at p or earlier
    stands : (p d : ℕ) (left : ℕ → Bool) → due t left (p + d) ≡ suc d
        → (y : ℕ) × (y < t.size) × T (left y) × (t.last y ≤ p + d) × (pos y ≤ p)
    unfolding due
    stands p d left e =
        ⊎_elim
        (λ n. absurd (omega (arith, pigeonhole pos t.size at.apart is_due (suc p) d (later n))))
        (λ (y, l, u).
        let w = and_left (is_due y) (leb (pos y) p) u in
        let z = and_left (left y) (leb (t.last y) (p + d)) w in
        let h = and_right (left y) (leb (t.last y) (p + d)) w in
        (y, l, z, leb→le _ _ h, leb→le _ _ (and_right (is_due y) (leb (pos y) p) u)))
        (none_or (λ y. is_due y && leb (pos y) p) t.size)
      where
        is_due : ℕ → Bool
        is_due i = left i && leb (t.last i) (p + d)

        later : ((y : ℕ) → y < t.size → T (is_due y && leb (pos y) p) → ⊥) → (i : ℕ) → i < t.size → T (is_due i)
            → (suc p ≤ pos i) × (pos i < suc p + d)
        later n i l u =
            let h : t.last i ≤ p + d = leb→le (t.last i) (p + d) (and_right (left i) (leb (t.last i) (p + d)) u) in
            let early : pos i ≤ p → suc p ≤ pos i = λ k. absurd (n i l (and_in (is_due i) (leb (pos i) p) u (le→leb (pos i) p k))) in
            (⊎_elim early (λ k. k) (le_or_lt (pos i) p), omega (arith, at.closes i l))

    -- of those, one that no other part left is to precede
    descend : (k p v : ℕ) (left : ℕ → Bool) → Room p left → (y : ℕ) → pos y < k → y < t.size → T (left y) → t.last y ≤ v → pos y ≤ p
        → (z : ℕ) × Ready t p left z × (t.last z ≤ v)
    unfolding due
    descend zero p v left room y b l u h q = absurd (omega arith)
    descend (suc k) p v left room y b l u h q =
        ⊎_elim
        (λ n. (y, ready n, h))
        (λ (z, m, w).
        let f = and_left (without y left z) (t.before z y) w in
        let g = and_right (without y left z) (t.before z y) w in
        let a : pos z < pos y = at.along z y m l (λ e. without_differs left y z f (sym e)) g in
        descend k p v left room z (omega arith) m (without-left left y z f) (omega (arith, ok.rising z y m l g)) (omega arith))
        (none_or (λ z. without y left z && t.before z y) t.size)
      where
        is_due : ℕ → Bool
        is_due i = left i && leb (t.last i) (t.last y)

        counted : 0 < number is_due t.size
        counted =
            let v = t.last y in
            number_pos is_due t.size y l (and_in (left y) (leb v v) u (le→leb v v (le_refl v)))

        ready : ((z : ℕ) → z < t.size → T (without y left z && t.before z y) → ⊥) → Ready t p left y
        ready n = record {
          part = l;
          is_left = u;
          opens = omega (arith, at.opens y l);
          closes = omega (arith, room (t.last y), counted);
          free = λ z m f g. n z m (and_in (without y left z) (t.before z y) f g);
        }

    -- when all parts but p are left, some run of positions from p on is all taken
    tight-due : (k p : ℕ) (left : ℕ → Bool) → number left t.size ≡ suc k → suc k + p ≡ t.size
        → due t left (p + tight t p left) ≡ suc (tight t p left)
    unfolding tight due
    tight-due k p left e s =
        let full : ℕ → Bool = λ i. eqb (due t left (p + i)) (suc i) in
        let all : due t left (p + k) ≡ suc k = number_cong _ left t.size whole ∙ e in
        let at-k : T (full k) = rw all (eqb_refl (suc k)) in
        eqb→eq _ _ (lowest_passes full (t.size - p) (omega (arith, lowest-at-most full (t.size - p) k at-k)))
      where
        whole : (i : ℕ) → i < t.size → (left i && leb (t.last i) (p + k)) ≡ left i
        whole i l =
            let u = le→leb (t.last i) (p + k) (omega (arith, ok.below i l)) in
            rw (true_T (leb (t.last i) (p + k)) u) (and-true (left i))

    -- each position has its pick
    module _ {S : Type 0} {prefers : Preference S} {choose : Choice S} (after : ℕ → S) (law : Chooses prefers choose) where
      pub greedy_some : (k p : ℕ) (s : S) (left : ℕ → Bool) → number left t.size ≡ k → k + p ≡ t.size → Room p left
          → IsSome (greedy_by choose after t k p s left)
      unfolding greedy_by
      greedy_some zero p s left e q room = tt
      greedy_some (suc k) p s left e q room =
          let x = pick_by choose t p s left in
          let v = p + tight t p left in
          let (y, l, u, h, a) = stands p (tight t p left) left (tight-due k p left e q) in
          let (z, r, g) = descend (suc (pos y)) p v left room y (le_refl _) l u h a in
          let (c, m) = pick_ready after law t p s left (pick_inside after law t p z s left r g) in
          let n = number-one_less left x t.size c.part c.is_left in
          cond_case IsSome (ltb x t.size)
          (λ _. prepend_some x _ (greedy_some k (suc p) (after x) (without x left) (omega arith) (omega arith) (room_next p x left room c m)))
          (λ w. absurd (omega (arith, nltb→le x t.size w, pick_inside after law t p z s left r g)))
