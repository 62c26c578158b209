-- The answer depends on the parts alone: tasks that agree below their size, and tests of what is left that do, have the same answer.
use Prim.Native.Nat.{ℕ, zero, suc, ◌+◌, ◌-◌, ◌<◌}
use native.Mathlib.Omega.{arith}
use mathlib.Core.Path.{◌≡◌, refl, ap, sym, ◌∙◌}
use mathlib.Core.Bool.{Bool, true, false, not, cond, ◌&&◌}
use mathlib.Core.List.{List}
use mathlib.Core.Option.{Option, none}
use lib.Dec.{T, ltb, leb, eqb, ltb→lt}
use lib.ListN.{get_or}
use Rattle.model.proofs.Largest.{lowest_cong as lowest_at-cong}
use Rattle.model.proofs.Cong.{every_cong}
use Rattle.order_rules.specs.Number.{without}
use Rattle.order_rules.specs.Order.{Task, Obeys, Least, found, absent}
use Rattle.order_rules.specs.Prefer as F
use Rattle.order_rules.specs.Prefer.{Preference, Choice, Best}
use Rattle.order_rules.specs.Least.{due, tight, is_free_part, fits, pick_by, prepend, greedy_by, ending, lasts_of}
use Rattle.order_rules.specs.Least.{best_order, earliest, relax, settle}
use Rattle.order_rules.proofs.Number.{number_cong, lowest_cong}

-- tasks of one size with the same windows and the same relation
pub record Agree (t u : Task) : Type 0 where
  pub size : t.size ≡ u.size
  pub first : (i : ℕ) → i < t.size → t.first i ≡ u.first i
  pub last : (i : ℕ) → i < t.size → t.last i ≡ u.last i
  pub before : (i j : ℕ) → i < t.size → j < t.size → t.before i j ≡ u.before i j

agree_sym : {t u : Task} → Agree t u → Agree u t
agree_sym a = record {
  size = sym a.size;
  first = λ i l. sym (a.first i (omega (arith, a.size)));
  last = λ i l. sym (a.last i (omega (arith, a.size)));
  before = λ i j l k. sym (a.before i j (omega (arith, a.size)) (omega (arith, a.size)));
}

pub obeys_agree : {t u : Task} → Agree t u → {order : List ℕ} → Obeys t order → Obeys u order
obeys_agree {t} {u} a {order} o = record {
  count = o.count ∙ a.size;
  parts = λ p l. omega (arith, a.size, o.parts p (omega (arith, a.size)));
  different = λ p q k l. o.different p q k (omega (arith, a.size));
  opens = λ p l. let b : p < t.size = omega (arith, a.size) in omega (arith, o.opens p b, a.first (get_or order p 0) (o.parts p b));
  closes = λ p l. let b : p < t.size = omega (arith, a.size) in omega (arith, o.closes p b, a.last (get_or order p 0) (o.parts p b));
  ordered = λ p q k l s.
      let b : q < t.size = omega (arith, a.size) in
      o.ordered p q k b (rw (a.before (get_or order q 0) (get_or order p 0) (o.parts q b) (o.parts p (omega arith))) s);
}

-- tasks that agree have the same answer
pub least_agree : {t u : Task} → Agree t u → {r : Option (List ℕ)} → Least t r → Least u r
least_agree a (found o h) = found (obeys_agree a o) (λ other q. h other (obeys_agree (agree_sym a) q))
least_agree a (absent n) = absent (λ other q. n other (obeys_agree (agree_sym a) q))

-- and the same best order
pub best_agree : {S : Type 0} {prefers : Preference S} {after : ℕ → S} {s : S} {t u : Task} → Agree t u → {r : Option (List ℕ)}
    → Best prefers after s t r → Best prefers after s u r
best_agree a (F.found o h) = F.found (obeys_agree a o) (λ other q. h other (obeys_agree (agree_sym a) q))
best_agree a (F.absent n) = F.absent (λ other q. n other (obeys_agree (agree_sym a) q))

-- tests that agree below m have the same number chosen
abbrev pub SameChoice : {S : Type 0} → Choice S → Type 0
SameChoice {S} choose = (s : S) (f g : ℕ → Bool) (m : ℕ) → ((i : ℕ) → i < m → f i ≡ g i) → choose s f m ≡ choose s g m

module _ (t : Task) (left other : ℕ → Bool) (h : (i : ℕ) → i < t.size → left i ≡ other i) where
  due_cong : (v : ℕ) → due t left v ≡ due t other v
  unfolding due
  due_cong v = number_cong _ _ t.size (λ i l. ap (λ b. b && leb (t.last i) v) (h i l))

  tight_cong : (p : ℕ) → tight t p left ≡ tight t p other
  unfolding tight
  tight_cong p = lowest_cong _ _ (t.size - p) (λ d _. ap (λ n. eqb n (suc d)) (due_cong (p + d)))

  without_cong : (x i : ℕ) → i < t.size → without x left i ≡ without x other i
  without_cong x i l = ap (λ b. b && not (eqb x i)) (h i l)

  free_cong : (x : ℕ) → is_free_part t left x ≡ is_free_part t other x
  unfolding is_free_part
  free_cong x = every_cong _ _ t.size (λ y l. ap (λ b. not (b && t.before y x)) (without_cong x y l))

  fits_cong : (p v x : ℕ) → x < t.size → fits t p left v x ≡ fits t p other v x
  unfolding fits
  fits_cong p v x l = rw (h x l, free_cong x)

  pick_cong : {S : Type 0} (choose : Choice S) → SameChoice choose → (p : ℕ) (s : S) → pick_by choose t p s left ≡ pick_by choose t p s other
  unfolding pick_by
  pick_cong choose same p s = rw (tight_cong p) (same s _ _ t.size (fits_cong p (p + tight t p other)))

  earliest_cong : (lasts : List ℕ) → earliest t left lasts ≡ earliest t other lasts
  unfolding earliest
  earliest_cong lasts = lowest_at-cong _ _ t.size (λ i l. ap (λ b. cond b (t.size - get_or lasts i 0) 0) (h i l))

-- the order chosen and the last positions depend on what is left below the size alone
pub greedy_cong : {S : Type 0} (choose : Choice S) (after : ℕ → S) → SameChoice choose → (t : Task) (k p : ℕ) (s : S) (left other : ℕ → Bool)
    → ((i : ℕ) → i < t.size → left i ≡ other i) → greedy_by choose after t k p s left ≡ greedy_by choose after t k p s other
unfolding greedy_by
greedy_cong choose after same t zero p s left other h = refl
greedy_cong choose after same t (suc k) p s left other h =
    let x = pick_by choose t p s other in
    let e = greedy_cong choose after same t k (suc p) (after x) (without x left) (without x other) (without_cong t left other h x) in
    rw (pick_cong t left other h choose same p s, e)

-- choices alike in states alike, which are left alike, have the same order
module _ {S U : Type 0} (choose : Choice S) (elect : Choice U) (after : ℕ → S) (next : ℕ → U) (Alike : S → U → Type 0) (t : Task)
    (chosen : (s : S) (u : U) → Alike s u → (f : ℕ → Bool) → choose s f t.size ≡ elect u f t.size)
    (left_alike : (x : ℕ) → x < t.size → Alike (after x) (next x)) where
  greedy_alike : (k p : ℕ) (s : S) (u : U) (left : ℕ → Bool) → Alike s u
      → greedy_by choose after t k p s left ≡ greedy_by elect next t k p u left
  unfolding greedy_by pick_by
  greedy_alike zero p s u left h = refl
  greedy_alike (suc k) p s u left h =
      let x = elect u (fits t p left (p + tight t p left)) t.size in
      rw (chosen s u h (fits t p left (p + tight t p left))) (cond_same (ltb x t.size) (λ l.
      ap (prepend x) (greedy_alike k (suc p) (after x) (next x) (without x left) (left_alike x (ltb→lt x t.size l)))))
    where
      cond_same : {a b : Option (List ℕ)} (test : Bool) → (T test → a ≡ b) → cond test a none ≡ cond test b none
      cond_same true f = f tt
      cond_same false f = refl

-- so do the best orders
module _ {S U : Type 0} (choose : Choice S) (elect : Choice U) (after : ℕ → S) (next : ℕ → U) (Alike : S → U → Type 0) (t : Task)
    (chosen : (s : S) (u : U) → Alike s u → (f : ℕ → Bool) → choose s f t.size ≡ elect u f t.size)
    (left_alike : (x : ℕ) → x < t.size → Alike (after x) (next x)) where
  pub best-alike : (s : S) (u : U) → Alike s u → best_order choose after s t ≡ best_order elect next u t
  unfolding best_order
  best-alike s u h = greedy_alike choose elect after next Alike (ending t (lasts_of t)) chosen left_alike t.size 0 s u (λ _. true) h

pub settle_cong : (t : Task) (k : ℕ) (left other : ℕ → Bool) (lasts : List ℕ) → ((i : ℕ) → i < t.size → left i ≡ other i)
    → settle t k left lasts ≡ settle t k other lasts
unfolding settle
settle_cong t zero left other lasts h = refl
settle_cong t (suc k) left other lasts h =
    let b = earliest t other lasts in
    let e = settle_cong t k (without b left) (without b other) (relax t b lasts) (without_cong t left other h b) in
    rw (earliest_cong t left other h lasts, e)
