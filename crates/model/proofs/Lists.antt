-- Laws of counting and selecting, and of what holds of each element.
use Prim.Native.Nat.{ℕ, zero, suc, ◌+◌, ◌≤◌, ◌<◌, zero-le}
use native.Mathlib.Omega.{arith}
use mathlib.Core.Path.{◌≡◌, refl, ap, ap₂, sym, ◌∙◌}
use mathlib.Core.Logic.{◌↔◌}
use mathlib.Core.Bool.{Bool, true, false, cond, ◌&&◌}
use mathlib.Core.List.{List, [], ◌∷◌, map}
use lib.ListN.{length, take, drop, get_or, set, replicate}
use lib.Dec.{T}
use Rattle.model.specs.Count.{count, select, each, first_fail, All, none, more}
use Rattle.model.proofs.Tests.{true_T, cond_case, one_le, and_left, and_right, and_in}

module _ {A : Type 0} {P : A → Type 0} where
  pub all : ((x : A) → P x) → (xs : List A) → All P xs
  all h [] = none
  all h (x ∷ xs) = more (h x) (all h xs)

  -- what holds at each place holds of each element, and the other way round
  pub all_get_d : (d : A) (xs : List A) → ((i : ℕ) → i < length xs → P (get_or xs i d)) → All P xs
  all_get_d d [] h = none
  all_get_d d (x ∷ xs) h = more (h 0 (omega arith)) (all_get_d d xs (λ i l. h (suc i) (omega arith)))

  pub all-at : (d : A) {xs : List A} → All P xs → (i : ℕ) → i < length xs → P (get_or xs i d)
  all-at d none i l = absurd (omega arith)
  all-at d (more p ps) zero l = p
  all-at d (more p ps) (suc i) l = all-at d ps i (omega arith)

  pub all_take : (n : ℕ) {xs : List A} → All P xs → All P (take n xs)
  all_take zero h = none
  all_take (suc n) none = none
  all_take (suc n) (more h hs) = more h (all_take n hs)

  pub all_drop : (n : ℕ) {xs : List A} → All P xs → All P (drop n xs)
  all_drop zero h = h
  all_drop (suc n) none = none
  all_drop (suc n) (more h hs) = all_drop n hs

  module _ {Q : A → Type 0} where
    pub all_map : {xs : List A} → ((x : A) → P x → Q x) → All P xs → All Q xs
    all_map h none = none
    all_map h (more {x} p ps) = more (h x p) (all_map h ps)

    pub all_both : {xs : List A} → All P xs → All Q xs → All (λ x. P x × Q x) xs
    all_both none none = none
    all_both (more p ps) (more q qs) = more (p, q) (all_both ps qs)

    -- the selected pass the test
    pub all-select : (f : A → Bool) → ((x : A) → T (f x) → P x → Q x) → {xs : List A} → All P xs → All Q (select f xs)
    unfolding select
    all-select f h none = none
    all-select f h (more {x} p ps) =
        let r = all-select f h ps in
        cond_case (All Q) (f x) (λ t. more (h x t p) r) (λ _. r)

module _ {A : Type 0} where
  pub selected : {Q : A → Type 0} (f : A → Bool) → ((x : A) → T (f x) → Q x) → (xs : List A) → All Q (select f xs)
  selected f h xs = all-select {P = λ x. Unit {0}} f (λ x t _. h x t) (all (λ x. tt) xs)

  pub all-mapped : {B : Type 0} {P : B → Type 0} (f : A → B) {xs : List A} → All (λ x. P (f x)) xs → All P (map f xs)
  all-mapped f none = none
  all-mapped f (more p ps) = more p (all-mapped f ps)

  pub map_cong : {B : Type 0} {g h : A → B} {xs : List A} → All (λ x. g x ≡ h x) xs → map g xs ≡ map h xs
  map_cong none = refl
  map_cong (more e es) = ap₂ ◌∷◌ e (map_cong es)

  pub map-map : {B D : Type 0} (f : B → D) (g : A → B) (xs : List A) → map f (map g xs) ≡ map (λ x. f (g x)) xs
  map-map f g [] = refl
  map-map f g (x ∷ xs) = ap (λ l. f (g x) ∷ l) (map-map f g xs)

  -- a list of one value
  pub all_same : (v : A) {xs : List A} → All (λ x. x ≡ v) xs → xs ≡ replicate (length xs) v
  all_same v none = refl
  all_same v (more e es) = ap₂ ◌∷◌ e (all_same v es)

  pub get_d_map : {B : Type 0} (g : A → B) (d : A) (e : B) (xs : List A) (i : ℕ) → i < length xs → get_or (map g xs) i e ≡ g (get_or xs i d)
  get_d_map g d e [] i l = absurd (omega arith)
  get_d_map g d e (x ∷ xs) zero l = refl
  get_d_map g d e (x ∷ xs) (suc i) l = get_d_map g d e xs i (omega arith)

  pub select-all : (f : A → Bool) {xs : List A} → All (λ x. T (f x)) xs → select f xs ≡ xs
  unfolding select
  select-all f none = refl
  select-all f (more {x} t ts) = rw (true_T (f x) t) (ap (λ r. x ∷ r) (select-all f ts))

  pub select-select : (f g : A → Bool) (xs : List A) → select g (select f xs) ≡ select (λ x. f x && g x) xs
  unfolding select
  select-select f g [] = refl
  select-select f g (x ∷ xs) =
      let r = select f xs in
      let s = select (λ y. f y && g y) xs in
      let e : select g r ≡ s = select-select f g xs in
      let kept : select g (x ∷ r) ≡ cond (g x) (x ∷ s) s = ap (λ l. cond (g x) (x ∷ l) l) e in
      elim (f x) as (λ b. select g (cond b (x ∷ r) r) ≡ cond (b && g x) (x ∷ s) s) [ true ↦ kept | false ↦ e ]

  -- the test of each element passes exactly when each does
  pub each_iff : (f : A → Bool) (xs : List A) → T (each f xs) ↔ All (λ x. T (f x)) xs
  unfolding each
  each_iff f [] = (λ _. none, λ _. tt)
  each_iff f (x ∷ xs) = (λ t. more (and_left (f x) (each f xs) t) ((each_iff f xs).0 (and_right (f x) (each f xs) t)), back (each_iff f xs).1)
    where
      back : (All (λ y. T (f y)) xs → T (each f xs)) → All (λ y. T (f y)) (x ∷ xs) → T (f x && each f xs)
      back r (more p ps) = and_in (f x) (each f xs) p (r ps)

  -- as many are selected as are counted
  pub length-select : (f : A → Bool) (xs : List A) → length (select f xs) ≡ count f xs
  unfolding select count
  length-select f [] = refl
  length-select f (x ∷ xs) =
      let r = select f xs in
      let h = length-select f xs in
      elim (f x) as (λ b. length (cond b (x ∷ r) r) ≡ cond b 1 0 + count f xs) [ true ↦ omega arith | false ↦ omega arith ]

  pub count-select : (f g : A → Bool) (xs : List A) → count g (select f xs) ≡ count (λ x. f x && g x) xs
  count-select f g xs = sym (length-select g (select f xs)) ∙ ap length (select-select f g xs) ∙ length-select _ xs

  -- a test that passes nowhere
  pub count_none : (f : A → Bool) {xs : List A} → All (λ x. T (f x) → ⊥) xs → count f xs ≡ 0
  unfolding count
  count_none f none = refl
  count_none f (more {x} n ns) = omega (arith, one_le (f x) false n, count_none f ns)

  pub count_map : {B : Type 0} (f : B → Bool) (g : A → B) (xs : List A) → count f (map g xs) ≡ count (λ x. f (g x)) xs
  unfolding count
  count_map f g [] = refl
  count_map f g (x ∷ xs) = ap (λ n. cond (f (g x)) 1 0 + n) (count_map f g xs)

  pub count_cong : {f g : A → Bool} {xs : List A} → All (λ x. f x ≡ g x) xs → count f xs ≡ count g xs
  unfolding count
  count_cong none = refl
  count_cong (more e es) = ap₂ (λ b n. cond b 1 0 + n) e (count_cong es)

  pub fail_map : {B : Type 0} (f : B → Bool) (g : A → B) (xs : List A) → first_fail f (map g xs) ≡ first_fail (λ x. f (g x)) xs
  unfolding first_fail
  fail_map f g [] = refl
  fail_map f g (x ∷ xs) = ap (λ n. cond (f (g x)) (suc n) 0) (fail_map f g xs)

  pub fail_cong : {f g : A → Bool} {xs : List A} → All (λ x. f x ≡ g x) xs → first_fail f xs ≡ first_fail g xs
  unfolding first_fail
  fail_cong none = refl
  fail_cong (more e es) = ap₂ (λ b n. cond b (suc n) 0) e (fail_cong es)

  -- a test that passes wherever another does counts at least as many
  pub count_mono : (f g : A → Bool) (xs : List A) → ((x : A) → T (f x) → T (g x)) → count f xs ≤ count g xs
  unfolding count
  count_mono f g [] h = zero-le
  count_mono f g (x ∷ xs) h = omega (arith, one_le (f x) (g x) (h x), count_mono f g xs h)

  pub count_le : (f : A → Bool) (xs : List A) → count f xs ≤ length xs
  unfolding count
  count_le f [] = zero-le
  count_le f (x ∷ xs) = omega (arith, one_le (f x) true (λ _. tt), count_le f xs)

  -- an element that passes is counted
  pub count_pos : (f : A → Bool) (d : A) (xs : List A) (i : ℕ) → i < length xs → T (f (get_or xs i d)) → 0 < count f xs
  unfolding count
  count_pos f d [] i l t = absurd (omega arith)
  count_pos f d (x ∷ xs) zero l t = omega (arith, one_le true (f x) (λ _. t))
  count_pos f d (x ∷ xs) (suc i) l t = omega (arith, count_pos f d xs i (omega arith) t)

  pub count_set : (f : A → Bool) (d v : A) (xs : List A) (i : ℕ) → i < length xs
      → count f (set xs i v) + cond (f (get_or xs i d)) 1 0 ≡ count f xs + cond (f v) 1 0
  unfolding count
  count_set f d v [] i l = absurd (omega arith)
  count_set f d v (x ∷ xs) zero l = omega arith
  count_set f d v (x ∷ xs) (suc i) l = omega (arith, count_set f d v xs i (omega arith))
