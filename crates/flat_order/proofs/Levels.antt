-- The levels of the positions: one part placed, and the first position up to which all are taken.
use Prim.Native.Nat.{ℕ, suc, ◌+◌, ◌-◌, ◌≤◌, ◌<◌}
use native.Mathlib.Omega.{arith}
use mathlib.Core.Path.{◌≡◌, ap, sym, ◌∙◌}
use mathlib.Core.Logic.{⊎_elim}
use mathlib.Core.Bool.{Bool, false, cond, ◌&&◌}
use mathlib.Core.List.{List}
use lib.Dec.{T, leb, eqb, eqb→eq, le→leb}
use lib.ListN.{length, get_or, take}
use lib.Seq.{get_or-take, length-take-le}
use borrow.Author.Tests.{lt-leb, le-leb}
use Rattle.model.proofs.Tests.{le_or_lt, eqb_T, and_left, and_in}
use Rattle.order_rules.specs.Number.{number, without}
use Rattle.order_rules.proofs.Number.{number_le, number_cong, number-without, lowest_is}
use Rattle.flat_order.specs.declared.sets.PartSet.{PartSet}
use Rattle.flat_order.specs.Sets.{has_part, single, removed}
use Rattle.flat_order.specs.Flat.{is_due, Levels, Raised, IsEnd, tight_of, InPlace}
use Rattle.flat_order.proofs.Settled.{left-without}

-- ---- one level raised

pub raised_all : (from to v : ℕ) (old levels : List ℕ) (r : Bool) → to ≤ v → (from < v → v ≤ to) → Raised from v old levels r
    → Raised from to old levels r
raised_all from to v old levels r l f d = record {
  size = d.size;
  inside = λ w h q. d.inside w h (omega arith);
  after = λ w h q. d.after w h (⊎_elim (λ (z : v ≤ from). omega arith) (λ (z : from < v). omega (arith, f z)) (le_or_lt v from));
  none = λ e w h q. d.none e w h (omega arith);
}

-- ---- one part placed

module _ (left : PartSet) (lasts levels : List ℕ) (p : ℕ) (at : Levels left lasts p levels) where
  module _ (x : ℕ) (l : x < length lasts) (t : T (has_part left x)) where
    abbrev last : ℕ
    last = get_or lasts x 0

    -- how many parts are due, with the part and without it
    fewer : (v : ℕ) → number (is_due left lasts v) (length lasts)
        ≡ number (is_due (removed left (single x)) lasts v) (length lasts) + cond (leb last v) 1 0
    fewer v =
        let e = number-without (has_part left) (λ i. leb (get_or lasts i 0) v) x (length lasts) l t in
        let d = number_cong (is_due (removed left (single x)) lasts v) (λ i. without x (has_part left) i && leb (get_or lasts i 0) v) (length lasts)
        (λ i _. ap (λ b. b && leb (get_or lasts i 0) v) (left-without left x i)) in
        omega (arith, e, d)

    pub levels_next : (levels₂ : List ℕ) (r : Bool) → Raised (p + 1) last levels levels₂ r → Levels (removed left (single x)) lasts (p + 1) levels₂
    levels_next levels₂ r d = record {
      size = omega (arith, d.size, at.size);
      each = λ v h k.
          let e = fewer v in
          let o = at.each v (omega arith) k in
          ⊎_elim
          (λ (z : last ≤ v). omega (arith, d.after v h z, o, rw (le-leb last v z) at e))
          (λ (z : v < last). omega (arith, d.inside v h z, o, rw (lt-leb last v z) at e))
          (le_or_lt last v);
    }

  module _ (count : number (has_part left) (length lasts) + p ≡ length lasts) where
    due-most : (v : ℕ) → number (is_due left lasts v) (length lasts) ≤ number (has_part left) (length lasts)
    due-most v = number_le _ _ (length lasts) (λ i l t. and_left (has_part left i) (leb (get_or lasts i 0) v) t)

    pub levels_most : (v : ℕ) → p ≤ v → v < length lasts → get_or levels v 0 ≤ length lasts
    levels_most v l h = omega (arith, at.each v l h, due-most v, count)

    -- at the last position all are due, so that there is an end
    pub end_in : (r : ℕ) → InPlace (length lasts) lasts → p < length lasts → IsEnd (length lasts) p levels r → r < length lasts
    end_in r within l is =
        let n = length lasts in
        ⊎_elim
        (λ (h : n ≤ r). absurd (is.none (n - 1) (omega arith) (omega arith) (omega (
          arith,
          at.each (n - 1) (omega arith) (omega arith),
          due-most (n - 1),
          number_le (has_part left) (is_due left lasts (n - 1)) n
              (λ i k t. and_in (has_part left i) (leb (get_or lasts i 0) (n - 1)) t (le→leb (get_or lasts i 0) (n - 1) (omega (arith, within i k)))),
          count,
        ))))
        (λ h. h)
        (le_or_lt n r)

  pub end_tight : (r : ℕ) → IsEnd (length lasts) p levels r → r ≡ p + tight_of left lasts p
  unfolding tight_of
  end_tight r is =
      let n = length lasts in
      let e : p + (r - p) ≡ r = omega (arith, is.from) in
      omega (
        arith,
        is.from,
        lowest_is (λ d. eqb (number (is_due left lasts (p + d)) n) (suc d)) (n - p) (r - p) (omega (arith, is.most))
            (λ h. eqb_T (number (is_due left lasts (p + (r - p))) n) (suc (r - p))
            (rw e (let k : r < n = omega (arith, is.from) in omega (arith, is.from, at.each r is.from k, is.full k))))
            (λ k h u. is.none (p + k) (omega arith) (omega arith) (omega (
              arith,
              is.most,
              at.each (p + k) (omega arith) (omega (arith, is.most)),
              eqb→eq (number (is_due left lasts (p + k)) n) (suc k) u,
            ))),
      )

-- the end stays where it is, where no level before it is reached
pub end_stays : (n p : ℕ) (levels levels₂ : List ℕ) (end last : ℕ) (r : Bool) → IsEnd n p levels end
    → Raised (p + 1) last levels levels₂ r → last ≤ end → r ≡ false → p + 1 ≤ end → IsEnd n (p + 1) levels₂ end
end_stays n p levels levels₂ end last r is d l e h = record {
  from = h;
  most = is.most;
  full = λ k. d.after end h l ∙ is.full k;
  none = λ v k m z. ⊎_elim
      (λ (y : last ≤ v). is.none v (omega arith) m (sym (d.after v k y) ∙ z))
      (λ (y : v < last). d.none e v k y (omega (arith, d.inside v k y)))
      (le_or_lt last v);
}

-- an end is one of the first n levels alone
pub end_of-taken : (n p : ℕ) (levels : List ℕ) (end : ℕ) → n ≤ length levels
    → IsEnd (length (take n levels)) p (take n levels) end → IsEnd n p levels end
end_of-taken n p levels end room is = record {
  from = is.from;
  most = omega (arith, is.most, length-take-le n levels room);
  full = λ h. sym (get_or-take n levels end 0 h) ∙ is.full (omega (arith, length-take-le n levels room));
  none = λ v k m z. is.none v k m (get_or-take n levels v 0 (omega (arith, is.most, length-take-le n levels room)) ∙ z);
}

pub end_in_taken : (n p : ℕ) (levels : List ℕ) (end : ℕ) → n ≤ length levels
    → IsEnd n p levels end → IsEnd (length (take n levels)) p (take n levels) end
end_in_taken n p levels end room is = record {
  from = is.from;
  most = omega (arith, is.most, length-take-le n levels room);
  full = λ h. let k : end < n = omega (arith, length-take-le n levels room) in get_or-take n levels end 0 k ∙ is.full k;
  none = λ v k m z. is.none v k m (sym (get_or-take n levels v 0 (omega (arith, is.most))) ∙ z);
}
