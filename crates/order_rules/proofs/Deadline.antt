-- The last positions, settled along the relation: they rise along it, and the orders that obey are the same.
use Prim.Native.Nat.{ℕ, zero, suc, ◌-◌, ◌≤◌, ◌<◌, min}
use native.Mathlib.Omega.{arith}
use native.Mathlib.Nat.{le_refl}
use mathlib.Core.Path.{◌≡◌, refl, ap}
use mathlib.Core.Logic.{◌⊎◌, inl, inr, ⊎_elim}
use mathlib.Core.Bool.{Bool, true, false, not, cond}
use mathlib.Core.List.{List}
use lib.Dec.{T, eqb, T_not, eqb→eq}
use lib.ListN.{get_or}
use Rattle.model.specs.Count.{list_of}
use Rattle.model.proofs.Tests.{le_or_lt, test, true_T, cond_case, and_in}
use Rattle.model.proofs.ListOf.{list_of-at}
use Rattle.model.proofs.Largest.{largest_ge, lowest_lt, lowest_attains}
use Rattle.order_rules.specs.Number.{number, without}
use Rattle.order_rules.specs.Order.{Task, Obeys}
use Rattle.order_rules.specs.Least.{earliest, relax, settle, lasts_of, ending}
use Rattle.order_rules.proofs.Number.{number-all, number-none, number_pos, without-left, none_or}
use Rattle.order_rules.proofs.Obeys.{place, place_at, number-one_less, completes}
use Rattle.order_rules.proofs.Room.{Rising}

module _ (t : Task) where
  -- the last positions of the parts that are not left are no later than those of the parts left, and rise along the relation
  record Settled (left : ℕ → Bool) (lasts : List ℕ) : Type 0 where
    along : (a b : ℕ) → a < t.size → b < t.size → (T (left b) → ⊥) → T (t.before a b) → get_or lasts a 0 ≤ get_or lasts b 0
    least : (a b : ℕ) → a < t.size → b < t.size → (T (left a) → ⊥) → T (left b) → get_or lasts a 0 ≤ get_or lasts b 0
    below : (a : ℕ) → a < t.size → get_or lasts a 0 < t.size

  module _ (b : ℕ) (lasts : List ℕ) where
    -- each part keeps its last position, or has b's, which is earlier, if it is to precede b
    relaxed : (P : ℕ → Type 0) (a : ℕ) → a < t.size → (T (t.before a b) → P (min (get_or lasts a 0) (get_or lasts b 0)))
        → (T (not (t.before a b)) → P (get_or lasts a 0)) → P (get_or (relax t b lasts) a 0)
    unfolding relax
    relaxed P a l y n =
        let f : ℕ → ℕ = λ i. cond (t.before i b) (min (get_or lasts i 0) (get_or lasts b 0)) (get_or lasts i 0) in
        rw (list_of-at f t.size a l) (cond_case P (t.before a b) y n)

    relax_le : (a : ℕ) → a < t.size → get_or (relax t b lasts) a 0 ≤ get_or lasts a 0
    relax_le a l = relaxed (λ r. r ≤ get_or lasts a 0) a l (λ _. omega arith) (λ _. le_refl _)

    relax_same : (a : ℕ) → a < t.size → get_or lasts a 0 ≤ get_or lasts b 0 → get_or (relax t b lasts) a 0 ≡ get_or lasts a 0
    relax_same a l h = relaxed (λ r. r ≡ get_or lasts a 0) a l (λ _. omega arith) (λ _. refl)

    relax-before : (a : ℕ) → a < t.size → T (t.before a b) → get_or (relax t b lasts) a 0 ≤ get_or lasts b 0
    relax-before a l u = relaxed (λ r. r ≤ get_or lasts b 0) a l (λ _. omega arith) (λ n. absurd (T_not (t.before a b) n u))

    relax_ge : (a v : ℕ) → a < t.size → v ≤ get_or lasts a 0 → (T (t.before a b) → v ≤ get_or lasts b 0) → v ≤ get_or (relax t b lasts) a 0
    relax_ge a v l h k = relaxed (λ r. v ≤ r) a l (λ u. omega (arith, k u)) (λ _. h)

  weighs : (b : Bool) (n : ℕ) → 0 < cond b n 0 → T b
  weighs true n h = tt
  weighs false n h = absurd (omega arith)

  some_left : (left : ℕ → Bool) (k : ℕ) → number left t.size ≡ suc k → (u : ℕ) × (u < t.size) × T (left u)
  some_left left k e = ⊎_elim (λ n. absurd (omega (arith, number-none left t.size n))) (λ u. u) (none_or left t.size)

  -- the earliest is a part left, and no part left has an earlier last position
  module _ (left : ℕ → Bool) (lasts : List ℕ) (below : (a : ℕ) → a < t.size → get_or lasts a 0 < t.size) where
    weight : ℕ → ℕ
    weight i = cond (left i) (t.size - get_or lasts i 0) 0

    earliest-part : 0 < t.size → earliest t left lasts < t.size
    unfolding earliest weight
    earliest-part l = lowest_lt weight t.size l

    earliest_weight : (u : ℕ) → u < t.size → T (left u) → t.size - get_or lasts u 0 ≤ weight (earliest t left lasts)
    unfolding earliest weight
    earliest_weight u l w =
        let e : weight u ≡ t.size - get_or lasts u 0 = rw (true_T (left u) w) in
        omega (arith, e, largest_ge weight t.size u l, lowest_attains weight t.size)

    earliest-left : (u : ℕ) → u < t.size → T (left u) → T (left (earliest t left lasts))
    unfolding weight
    earliest-left u l w =
        let b = earliest t left lasts in
        weighs (left b) (t.size - get_or lasts b 0) (omega (arith, earliest_weight u l w, below u l))

    earliest_le : (u : ℕ) → u < t.size → T (left u) → get_or lasts (earliest t left lasts) 0 ≤ get_or lasts u 0
    unfolding weight
    earliest_le u l w =
        let b = earliest t left lasts in
        let e : weight b ≡ t.size - get_or lasts b 0 = rw (true_T (left b) (earliest-left u l w)) in
        omega (arith, e, earliest_weight u l w, below u l)

  -- one part fewer left: b, whose last position is least
  module _ (left : ℕ → Bool) (lasts : List ℕ) (s : Settled left lasts) (b : ℕ) (part : b < t.size) (is_left : T (left b))
      (first : (u : ℕ) → u < t.size → T (left u) → get_or lasts b 0 ≤ get_or lasts u 0) where
    which : (c : ℕ) → (T (without b left c) → ⊥) → (b ≡ c) ⊎ (T (left c) → ⊥)
    which c n = ⊎_elim (λ y. inl (eqb→eq b c y)) (λ y. inr (λ u. n (and_in (left c) (not (eqb b c)) u y))) (test (eqb b c))

    gone_le : (c : ℕ) → c < t.size → (T (without b left c) → ⊥) → get_or lasts c 0 ≤ get_or lasts b 0
    gone_le c l n = ⊎_elim (λ q. rw q (le_refl _)) (λ q. s.least c b l part q is_left) (which c n)

    settled_next : Settled (without b left) (relax t b lasts)
    settled_next = record {
      along = λ a c la lc n u.
          let e = relax_same b lasts c lc (gone_le c lc n) in
          ⊎_elim
          (λ q. omega (arith, relax-before b lasts a la (rw q u), e, ap (λ i. get_or lasts i 0) q))
          (λ q. omega (arith, relax_le b lasts a la, s.along a c la lc q u, e))
          (which c n);
      least = λ a c la lc n u.
          let h = gone_le a la n in
          let k = first c lc (without-left left b c u) in
          omega (arith, relax_same b lasts a la h, relax_ge b lasts c (get_or lasts b 0) lc k (λ _. le_refl _));
      below = λ a l. omega (arith, s.below a l, relax_le b lasts a l);
    }

  -- when no part is left, the last positions rise along the relation
  settle_rising : (k : ℕ) (left : ℕ → Bool) (lasts : List ℕ) → number left t.size ≡ k → Settled left lasts
      → Rising (ending t (settle t k left lasts))
  unfolding settle
  settle_rising zero left lasts e s = record {
    below = s.below;
    rising = λ i j li lj. s.along i j li lj (λ u. omega (arith, number_pos left t.size j lj u));
  }
  settle_rising (suc k) left lasts e s =
      let (u, l, w) = some_left left k e in
      let b = earliest t left lasts in
      let part : b < t.size = earliest-part left lasts s.below (omega arith) in
      let is_left = earliest-left left lasts s.below u l w in
      settle_rising k (without b left) (relax t b lasts) (omega (arith, number-one_less left b t.size part is_left))
      (settled_next left lasts s b part is_left (earliest_le left lasts s.below))

  pub lasts_rising : ((i : ℕ) → i < t.size → t.last i < t.size) → Rising (ending t (lasts_of t))
  unfolding lasts_of
  lasts_rising below = settle_rising t.size (λ _. true) (list_of t.last t.size) (number-all t.size) (record {
    along = λ a b la lb n u. absurd (n tt);
    least = λ a b la lb n u. absurd (n tt);
    below = λ a l. rw (list_of-at t.last t.size a l) (below a l);
  })

  -- the last positions settled are no later
  settle_le : (k : ℕ) (left : ℕ → Bool) (lasts : List ℕ) (a : ℕ) → a < t.size → get_or (settle t k left lasts) a 0 ≤ get_or lasts a 0
  unfolding settle
  settle_le zero left lasts a l = le_refl _
  settle_le (suc k) left lasts a l =
      let b = earliest t left lasts in
      omega (arith, settle_le k (without b left) (relax t b lasts) a l, relax_le b lasts a l)

  -- and an order that obeys keeps to them
  module _ {order : List ℕ} (o : Obeys t order) where
    Keeps : List ℕ → Type 0
    Keeps lasts = (p : ℕ) → p < t.size → p ≤ get_or lasts (get_or order p 0) 0

    keeps_relax : (b : ℕ) (lasts : List ℕ) → b < t.size → Keeps lasts → Keeps (relax t b lasts)
    unfolding Keeps
    keeps_relax b lasts lb h p l = relax_ge b lasts (get_or order p 0) p (o.parts p l) (h p l) (λ u.
        let w = place_at t (completes t o) b lb tt in
        let q = place order b in
        let lq : q < t.size = omega (arith, w.0, o.count) in
        ⊎_elim (λ g. omega (arith, ap (λ i. get_or lasts i 0) w.1, h q lq)) (λ g. absurd (o.ordered q p g l (rw w.1 u))) (le_or_lt p q))

    keeps_settle : (k : ℕ) (left : ℕ → Bool) (lasts : List ℕ) → Keeps lasts → Keeps (settle t k left lasts)
    unfolding settle Keeps earliest
    keeps_settle zero left lasts h p l = h p l
    keeps_settle (suc k) left lasts h p l =
        let b = earliest t left lasts in
        let lb : b < t.size = lowest_lt _ t.size (omega arith) in
        keeps_settle k (without b left) (relax t b lasts) (keeps_relax b lasts lb h) p l

    -- an order that obeys obeys with the last positions settled
    pub obeys_ending : Obeys (ending t (lasts_of t)) order
    unfolding lasts_of Keeps
    obeys_ending = record {
      count = o.count;
      parts = o.parts;
      different = o.different;
      opens = o.opens;
      closes = keeps_settle t.size (λ _. true) (list_of t.last t.size) (λ p l.
          rw (list_of-at t.last t.size (get_or order p 0) (o.parts p l)) (o.closes p l));
      ordered = o.ordered;
    }

  -- and the other way round
  pub ending_obeys : {order : List ℕ} → Obeys (ending t (lasts_of t)) order → Obeys t order
  unfolding lasts_of
  ending_obeys {order} o = record {
    count = o.count;
    parts = o.parts;
    different = o.different;
    opens = o.opens;
    closes = λ p l.
        let i = get_or order p 0 in
        let h = settle_le t.size (λ _. true) (list_of t.last t.size) i (o.parts p l) in
        omega (arith, o.closes p l, list_of-at t.last t.size i (o.parts p l));
    ordered = o.ordered;
  }
