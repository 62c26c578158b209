-- What the loops find is what the definitions say: the bounds of the table by the sums of the placements.
use Rattle.std.proofs.Common.{◌≡◌, ℕ, zero, suc, ◌+◌, ◌-◌, ◌*◌, ◌<◌, ◌≤◌, Bool, true, false, not, ◌&&◌}
use Rattle.std.proofs.Common.{◌||◌, T, eqb, List, length, ap, ◌∙◌, add-one, arith, le→leb, eqb→eq, leb→le}
use Rattle.std.proofs.Common.{refl, sym}
use Rattle.std.specs.List.{list_all, range_with_len}
use lib.Dec.{not_T}
use Rattle.model.specs.Limits.{most_placements}
use Rattle.model.specs.Count.{All, every}
use Rattle.model.specs.Plan.{has, choose2}
use Rattle.model.specs.Interval.{Line, named, Dominates, inside}
use Rattle.model.proofs.Tests.{false_T, every_iff, imply_in, imply_out, same_test, and_left, and_right, and_in, eqb_T}
use Rattle.model.proofs.Cong.{every_cong}
use Rattle.model.specs.Renumber.{names as names_of}
use Rattle.model.proofs.Names.{names-named}
use Rattle.model.proofs.Run.{named-lines}
use Rattle.placements.specs.Repeated.{repeated}
use Rattle.placements.proofs.Repeated.{all-repeated}
use Rattle.placements.proofs.Good.{good_placements}
use Rattle.spans.specs.Spans.{sums}
use Rattle.spans.proofs.Read.{ready}
use Rattle.spans.proofs.Filled.{inside_by_ok}
use Rattle.goal_rules.specs.Check.{entry, bounds}
use Rattle.goal_rules.proofs.Check.{bounds_iff}
use Rattle.intervals.specs.Splits.{split_by}
use Rattle.intervals.proofs.Read.{split_tips}
use Rattle.ranks.specs.Runs.{NamedRuns}
use Rattle.checking.specs.Checking.{end_by, ends_by, tip_by, bounds_by, Held}

-- the test of one number more
pub every_more : (f : ℕ → Bool) (n : ℕ) → every f n ≡ true → f n ≡ true → every f (n + 1) ≡ true
unfolding every
every_more f n h g = rw (add-one, h, g)

-- the first number apart
pub every_first : (f : ℕ → Bool) (n : ℕ) → every f (suc n) ≡ (f 0 && every (λ j. f (suc j)) n)
unfolding every
every_first f zero = and-true (f 0)
  where
    and-true : (b : Bool) → b ≡ (b && true)
    and-true true = refl
    and-true false = refl
every_first f (suc n) = ap (λ b. b && f (suc n)) (every_first f n) ∙ and_assoc (f 0) _ _
  where
    and_assoc : (a b c : Bool) → ((a && b) && c) ≡ (a && (b && c))
    and_assoc true b c = refl
    and_assoc false b c = refl

-- the test of each number of a range
listed_from : (f : ℕ → Bool) (a n : ℕ) → list_all f (range_with_len a n) ≡ every (λ j. f (a + j)) n
unfolding every
listed_from f a zero = refl
listed_from f a (suc n) = ap (λ b. f a && b) (listed_from f (a + 1) n) ∙ same ∙ sym (every_first (λ j. f (a + j)) n)
  where
    next : (j : ℕ) → f (a + 1 + j) ≡ f (a + suc j)
    next j = let e : a + 1 + j ≡ a + suc j = omega arith in ap f e

    same : (f a && every (λ j. f (a + 1 + j)) n) ≡ (f (a + 0) && every (λ j. f (a + suc j)) n)
    same =
        let e : a + 0 ≡ a = omega arith in
        rw (e, every_cong _ (λ j. f (a + suc j)) n (λ j _. next j))

pub every_listed : (f : ℕ → Bool) (n : ℕ) → list_all f (range_with_len 0 n) ≡ every f n
every_listed f n = listed_from f 0 n ∙ every_cong _ f n (λ j _. let e : 0 + j ≡ j = omega arith in ap f e)

-- and counted: no number before fails, and this one does not
pub every_next : (f : ℕ → Bool) (n : ℕ) (k r : ℕ) → eqb k 0 ≡ every f n → eqb r 0 ≡ f n → eqb (k + r) 0 ≡ every f (n + 1)
unfolding every
every_next f n k r h g = none ∙ rw (h, g, add-one)
  where
    none : eqb (k + r) 0 ≡ (eqb k 0 && eqb r 0)
    none = same_test _ _
        (λ t. let e = eqb→eq (k + r) 0 t in and_in (eqb k 0) (eqb r 0) (eqb_T k 0 (omega arith)) (eqb_T r 0 (omega arith)))
        (λ t.
        let e = eqb→eq k 0 (and_left (eqb k 0) (eqb r 0) t) in
        let g = eqb→eq r 0 (and_right (eqb k 0) (eqb r 0) t) in
        eqb_T (k + r) 0 (omega arith))

-- one number that fails
pub every_stop : (f : ℕ → Bool) (n i : ℕ) → i < n → f i ≡ false → every f n ≡ false
every_stop f n i l e = false_T (every f n) (not_T (every f n) (λ t. rw e at ((every_iff f n).0 t i l)))

module _ {m : ℕ} {qs lines : List ℕ} (r : NamedRuns m qs lines) {names : ℕ} (all : names ≡ names_of lines) where
  -- the placements
  abbrev placed : List ℕ
  placed = repeated qs lines

  few : length placed ≤ most_placements
  few = (good_placements r.good).few

  has_named : has names ≡ named lines
  has_named = ap has all ∙ names-named lines

  -- the lines are runs of the named tips, and so are the placements
  pub named_runs : All (Line (has names) m) lines
  named_runs = rw has_named (named-lines r.good.most r.good.domains r.runs)

  placed-lines : All (Line (named lines) m) placed
  placed-lines = all-repeated qs (rw has_named at named_runs)

  -- the sums of the placements can be read
  pub held : (tab : List ℕ) → m * m ≤ length tab → Held m (sums m placed) tab
  held tab h = record { size = h; sums = ready m 0 placed r.good.most (omega (arith, few)) refl }

  module _ (tab : List ℕ) where
    -- the split at a named tip
    split_same : (a c b : ℕ) → a ≤ c → c ≤ b → b < m → T (named lines c)
        → split_by m (sums m placed) tab 0 a (b + 1 - a) (c - a)
        ≡ choose2 (inside placed a (b + 1 - a) c) + (entry m tab a (c - a) + entry m tab (c + 1) (b - c))
    split_same a c b f g e t =
        split_tips m (sums m placed) tab a c b f g
        ∙ ap (λ p. choose2 p + (entry m tab a (c - a) + entry m tab (c + 1) (b - c)))
        (inside_by_ok placed r.good.most placed-lines a (b + 1 - a) c (omega arith) f (omega arith) t)

    -- every split at a named tip is at most its entry where the test passes
    bounds-out : T (bounds_by names m (sums m placed) tab) → Dominates (named lines) m placed (entry m tab)
    unfolding bounds_by tip_by ends_by
    bounds-out x a w i e l o =
        let c = a + i in
        let b = a + w - 1 in
        let y = (every_iff (λ c. not (has names c) || tip_by m (sums m placed) tab c) m).0 x c (omega arith) in
        let z = imply_out (has names c) (tip_by m (sums m placed) tab c) y (rw has_named o) in
        let u = (every_iff (λ a. ends_by m (sums m placed) tab a c) (c + 1)).0 z a (omega arith) in
        let v = (every_iff (λ j. end_by m (sums m placed) tab a c (c + j)) (m - c)).0 u (b - c) (omega arith) in
        let eb : c + (b - c) ≡ b = omega arith in
        let ew : b + 1 - a ≡ w = omega arith in
        let ei : c - a ≡ i = omega arith in
        let ej : b - c ≡ w - (i + 1) = omega arith in
        let t : T (end_by m (sums m placed) tab a c b) = rw eb at v in
        let s = leb→le (split_by m (sums m placed) tab 0 a (b + 1 - a) (c - a)) (entry m tab a (b + 1 - a)) t in
        rw (ew, ei, ej) at (rw (split_same a c b (omega arith) (omega arith) (omega arith) o) at s)

    bounds_in : Dominates (named lines) m placed (entry m tab) → T (bounds_by names m (sums m placed) tab)
    unfolding bounds_by tip_by ends_by
    bounds_in d = (every_iff (λ c. not (has names c) || tip_by m (sums m placed) tab c) m).1 (λ c p.
        imply_in (has names c) (tip_by m (sums m placed) tab c) (λ o.
        (every_iff (λ a. ends_by m (sums m placed) tab a c) (c + 1)).1 (λ a f.
        (every_iff (λ j. end_by m (sums m placed) tab a c (c + j)) (m - c)).1 (λ j g.
        let n : T (named lines c) = rw (← has_named) o in
        let b = c + j in
        let i = c - a in
        let w = b + 1 - a in
        let ec : a + i ≡ c = omega arith in
        let ej : w - (i + 1) ≡ b - c = omega arith in
        le→leb (split_by m (sums m placed) tab 0 a (b + 1 - a) (c - a)) (entry m tab a (b + 1 - a))
        (rw (split_same a c b (omega arith) (omega arith) (omega arith) n)
        (rw (ec, ej) at (d a w i (omega arith) (omega arith) (rw ec n))))))))

    -- THE BOUNDS by the sums are those of the definition
    pub bounds_same : bounds_by names m (sums m placed) tab ≡ bounds (named lines) m placed tab
    bounds_same =
        let iff = bounds_iff (named lines) m placed tab in
        same_test _ _ (λ x. iff.1 (bounds-out x)) (λ x. bounds_in (iff.0 x))
