-- Laws of sets by a test, of the rows by the flags, and of the first place that fails a test.
use Prim.Native.Nat.{ℕ, zero, suc, ◌+◌, ◌≤◌, ◌<◌}
use native.Mathlib.Omega.{arith}
use mathlib.Core.Path.{◌≡◌, refl, ap, ap₂, ◌∙◌}
use mathlib.Core.Logic.{⊎_elim}
use mathlib.Core.Bool.{Bool, true, false, not, cond, ◌&&◌, ◌||◌, and_comm}
use mathlib.Core.List.{List, [], ◌∷◌}
use lib.Dec.{T, ltb, eqb, not_T, T_not, ltb→lt, eqb→eq, eqb_refl}
use lib.ListN.{length, get_or, set, length-set}
use borrow.Author.Tests.{lt-ltb, le-ltb}
use Rattle.model.specs.Count.{first_fail}
use Rattle.model.proofs.Tests.{le_or_lt, test, true_T, false_T}
use Rattle.order_rules.specs.declared.Part.{Part}
use Rattle.order_rules.specs.Parts.{part_at, fine_pitch, by_flags}
use Rattle.flat_order.specs.declared.sets.PartSet.{PartSet}
use Rattle.placing.specs.declared.flags.Kinds.{Kinds}
use Rattle.flat_order.specs.Sets.{has_part, no_parts, single, joined}
use Rattle.flat_order.specs.Flat.{row_at}
use Rattle.placing.specs.Given.{flag_row, KindsOf}
use Rattle.flat_order.proofs.Members.{has-single, has-joined}
use Rattle.flat_order.proofs.Lasts.{first-none}
use Rattle.flat_order.proofs.Below.{row-set}

-- ---- sets by a test

pub has_nothing : (x : ℕ) → has_part no_parts x ≡ false
has_nothing x = first-none x ∙ false_T (ltb x 0) (not_T (ltb x 0) (λ u. omega (arith, ltb→lt x 0 u)))

has-when : (g : Bool) (s : PartSet) (x : ℕ) → has_part (cond g s no_parts) x ≡ (g && has_part s x)
has-when true s x = refl
has-when false s x = has_nothing x

pub members_none : (f : ℕ → Bool) (x : ℕ) → has_part no_parts x ≡ (ltb x 0 && f x)
members_none f x = has_nothing x ∙ rw (le-ltb x 0 (omega arith))

-- the members among the first i + 1: those among the first i, and part i if it passes
pub members_more : (f : ℕ → Bool) (all : PartSet) (i : ℕ) → ((x : ℕ) → has_part all x ≡ (ltb x i && f x))
    → (x : ℕ) → has_part (joined all (cond (f i) (single i) no_parts)) x ≡ (ltb x (i + 1) && f x)
members_more f all i h x =
    has-joined all (cond (f i) (single i) no_parts) x ∙ rw (h x, has-when (f i) (single i) x, has-single i x) (step x)
  where
    other : (a b : ℕ) → (a ≡ b → ⊥) → eqb a b ≡ false
    other a b n = false_T (eqb a b) (not_T (eqb a b) (λ u. n (eqb→eq a b u)))

    before : (a b : Bool) → ((true && a) || (b && false)) ≡ (true && a)
    before true b = refl
    before false true = refl
    before false false = refl

    after : (a b : Bool) → ((false && a) || (b && false)) ≡ (false && a)
    after a true = refl
    after a false = refl

    at : (a : Bool) → ((false && a) || (a && true)) ≡ (true && a)
    at true = refl
    at false = refl

    step : (y : ℕ) → ((ltb y i && f y) || (f i && eqb i y)) ≡ (ltb y (i + 1) && f y)
    step y =
        ⊎_elim
        (λ l. ⊎_elim
        (λ (k : y ≤ i). let e : i ≡ y = omega arith in rw
        (e, true_T (eqb y y) (eqb_refl y), le-ltb y y (omega arith), lt-ltb y (y + 1) (omega arith)) (at (f y)))
        (λ (k : i < y). rw (le-ltb y i l, other i y (λ e. omega arith), le-ltb y (i + 1) (omega arith)) (after (f y) (f i)))
        (le_or_lt y i))
        (λ l. rw (lt-ltb y i l, other i y (λ e. omega arith), lt-ltb y (i + 1) (omega arith)) (before (f y) (f i)))
        (le_or_lt i y)

-- ---- the rows by the flags

twice : (b : Bool) → not (not b) ≡ b
twice true = refl
twice false = refl

-- part a of the row of part b by the flags
pub flag-row_is : (parts : List Part) (kinds : Kinds) → KindsOf parts (length parts) kinds → (a b : ℕ) → a < length parts → b < length parts
    → has_part (flag_row kinds b) a ≡ by_flags (part_at parts a) (part_at parts b)
unfolding flag_row by_flags
flag-row_is parts kinds k a b m h =
    let x = part_at parts a in
    let y = part_at parts b in
    let fine : (i : ℕ) → i < length parts → has_part kinds.fine i ≡ fine_pitch (part_at parts i) =
    λ i l. k.fine i ∙ rw (lt-ltb i (length parts) l) refl in
    let short : (i : ℕ) → i < length parts → has_part kinds.short i ≡ not (part_at parts i).tall =
    λ i l. k.short i ∙ rw (lt-ltb i (length parts) l) refl in
    has-joined (cond (not (has_part kinds.fine b)) kinds.fine no_parts) (cond (not (has_part kinds.short b)) kinds.short no_parts) a
    ∙ rw (
      has-when (not (has_part kinds.fine b)) kinds.fine a,
      has-when (not (has_part kinds.short b)) kinds.short a,
      fine a m,
      short a m,
      fine b h,
      short b h,
      twice y.tall,
    ) (ap₂ ◌||◌ (and_comm (not (fine_pitch y)) (fine_pitch x)) (and_comm y.tall (not x.tall)))

-- the rows of the first b parts are those by the flags
pub record Rowed (parts : List Part) (b : ℕ) (rows : List PartSet) : Type 0 where
  pub size : length rows ≡ length parts
  pub flags : (a c : ℕ) → a < length parts → c < b → has_part (row_at rows c) a ≡ by_flags (part_at parts a) (part_at parts c)

pub rowed_none : (parts : List Part) (rows : List PartSet) → length rows ≡ length parts → Rowed parts 0 rows
rowed_none parts rows e = record { size = e; flags = λ a c k l. absurd (omega arith) }

pub rowed_more : (parts : List Part) (b : ℕ) (rows : List PartSet) (kinds : Kinds) → b < length parts → Rowed parts b rows
    → KindsOf parts (length parts) kinds → Rowed parts (b + 1) (set rows b (flag_row kinds b))
rowed_more parts b rows kinds l r k =
    let row = flag_row kinds b in
    record {
      size = length-set rows b row ∙ r.size;
      flags = λ a c m h. rw (row-set rows b c row (omega (arith, r.size))) (⊎_elim
          (λ u. let e = eqb→eq b c u in rw (true_T (eqb b c) u, ← e) (flag-row_is parts kinds k a b m l))
          (λ u. rw (false_T (eqb b c) u) (r.flags a c m (less c h u)))
          (test (eqb b c)));
    }
  where
    less : (c : ℕ) → c < b + 1 → T (not (eqb b c)) → c < b
    less c h u = ⊎_elim (λ k. absurd (let e : b ≡ c = omega arith in T_not (eqb b c) u (rw e (eqb_refl c)))) (λ k. k) (le_or_lt b c)

-- ---- the first place that fails a test

pub fail_is : {A : Type 0} (f : A → Bool) (d : A) (xs : List A) (r : ℕ) → r ≤ length xs → ((i : ℕ) → i < r → T (f (get_or xs i d)))
    → (r < length xs → T (not (f (get_or xs r d)))) → r ≡ first_fail f xs
unfolding first_fail
fail_is f d [] r l p q = omega arith
fail_is f d (x ∷ xs) zero l p q = rw (false_T (f x) (q (omega arith)))
fail_is f d (x ∷ xs) (suc r) l p q =
    rw (true_T (f x) (p 0 (omega arith))) (ap suc (fail_is f d xs r (omega arith) (λ i k. p (suc i) (omega arith)) (λ k. q (omega arith))))
