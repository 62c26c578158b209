-- Settling the last positions by sets: the parts that are due at a position, and one of them settled.
use Prim.Native.Nat.{ℕ, ◌+◌, ◌-◌, ◌≤◌, ◌<◌, min}
use native.Mathlib.Omega.{arith}
use mathlib.Core.Path.{◌≡◌, refl, sym, ◌∙◌}
use mathlib.Core.Logic.{◌≢◌, ⊎_elim}
use mathlib.Core.Bool.{Bool, true, false, not, cond, ◌&&◌, ◌||◌}
use mathlib.Core.List.{List}
use lib.Dec.{T, ltb, T_not, not_T, ltb→lt, lt→ltb, eqb, eqb→eq}
use lib.ListN.{length, get_or, set, length-set}
use lib.Seq.{get_or-set_same, get_or-set_other}
use Rattle.model.specs.Count.{list_of, lowest_at}
use Rattle.model.proofs.Tests.{le_or_lt, test, true_T, false_T, and_left, and_right, and_in, same_test, eqb_T}
use Rattle.model.proofs.ListOf.{length-list_of, list_of-at, list_of_cong, list_is}
use Rattle.model.proofs.Largest.{lowest-only}
use Rattle.order_rules.specs.Number.{number, without}
use Rattle.order_rules.proofs.Number.{number_but, number_pos, without-left, without_differs, without_in, number-all, number_cong}
use Rattle.flat_order.specs.declared.sets.PartSet.{PartSet}
use Rattle.flat_order.specs.Sets.{has_part, single, joined, removed, met, no_parts, IsLowest}
use Rattle.flat_order.specs.Flat.{row_at, weight_of, capped, InPlace}
use Rattle.flat_order.proofs.Members.{has-joined, has-met, some_or, or_first, or_second}
use Rattle.flat_order.proofs.Lasts.{first-none}
use Rattle.flat_order.proofs.Settled.{Settling, left-without, settling_none, settling_more}

-- the last positions, where a part that is due has to stand at e or earlier
pub viewed : PartSet → ℕ → List ℕ → List ℕ
viewed due e lasts = list_of (λ x. cond (has_part due x) e (get_or lasts x 0)) (length lasts)

-- after j parts: those left have the last positions that they had, at e or after it, and those settled have theirs at e or before
pub record Waiting (lasts₀ : List ℕ) (j : ℕ) (lasts : List ℕ) (left due : PartSet) (e : ℕ) : Type 0 where
  pub size : length lasts ≡ length lasts₀
  pub count : number (has_part left) (length lasts₀) + j ≡ length lasts₀
  pub inside : (x : ℕ) → T (has_part left x) → x < length lasts₀
  pub below : InPlace (length lasts₀) lasts
  pub part : (x : ℕ) → T (has_part due x) → T (has_part left x)
  pub kept : (x : ℕ) → T (has_part left x) → get_or lasts x 0 ≡ get_or lasts₀ x 0
  pub ahead : (x : ℕ) → T (has_part left x) → e ≤ get_or lasts x 0
  pub behind : (x : ℕ) → x < length lasts₀ → T (not (has_part left x)) → get_or lasts x 0 ≤ e

pub waiting_none : (lasts : List ℕ) (left : PartSet) → ((x : ℕ) → has_part left x ≡ ltb x (length lasts)) → InPlace (length lasts) lasts
    → Waiting lasts 0 lasts left no_parts 0
waiting_none lasts left h p =
    let n = length lasts in
    record {
      size = refl;
      count = omega (arith, number_cong (has_part left) (λ _. true) n (λ i l. h i ∙ true_T (ltb i n) (lt→ltb i n l)), number-all n);
      inside = λ x u. ltb→lt x n (rw (h x) at u);
      below = p;
      part = λ x u. absurd (let v : T (ltb x 0) = rw (first-none x) at u in omega (arith, ltb→lt x 0 v));
      kept = λ x u. refl;
      ahead = λ x u. omega arith;
      behind = λ x l u. absurd (T_not (has_part left x) u (rw (h x) (lt→ltb x n l)));
    }

-- ---- the parts that are due at a position, where those that end there are given

module _ (lasts₀ lasts : List ℕ) (j e : ℕ) (left due ends : PartSet) (few : length lasts₀ ≤ 128)
    (at : (x : ℕ) → has_part ends x ≡ (ltb x (length lasts₀) && eqb (get_or lasts₀ x 0 + 1) (e + 1)))
    (w : Waiting lasts₀ j lasts left due e) where
  abbrev n : ℕ
  n = length lasts₀

  abbrev here : PartSet
  here = met (joined due ends) left

  due_in : (x : ℕ) → T (has_part left x) → T (has_part due x || has_part ends x) → T (has_part here x)
  due_in x t u = rw (has-met (joined due ends) left x, has-joined due ends x) (and_in (has_part due x || has_part ends x) (has_part left x) u t)

  due-left : (x : ℕ) → T (has_part here x) → T (has_part left x)
  due-left x t = and_right (has_part (joined due ends) x) (has_part left x) (rw (has-met (joined due ends) left x) at t)

  -- a part left is among them if it has to stand at e, and only then or if it was due
  due-ends : (x : ℕ) → T (has_part left x) → get_or lasts x 0 ≤ e → T (has_part here x)
  due-ends x t h =
      let k = w.inside x t in
      due_in x t (or_second (has_part due x) (has_part ends x) (rw (at x) (and_in (ltb x n) (eqb (get_or lasts₀ x 0 + 1) (e + 1)) (lt→ltb x n k)
      (eqb_T (get_or lasts₀ x 0 + 1) (e + 1) (omega (arith, w.kept x t, w.ahead x t))))))

  due-out : (x : ℕ) → T (has_part here x) → T (not (has_part due x)) → get_or lasts x 0 ≤ e
  due-out x t u =
      let y : T (has_part due x || has_part ends x) =
      rw (has-joined due ends x) at (and_left (has_part (joined due ends) x) (has_part left x) (rw (has-met (joined due ends) left x) at t)) in
      some_or (has_part due x) (has_part ends x) y (λ q. absurd (T_not (has_part due x) u q))
      (λ q. let z : T (ltb x n && eqb (get_or lasts₀ x 0 + 1) (e + 1)) = rw (at x) at q in
      omega (arith, w.kept x (due-left x t), eqb→eq (get_or lasts₀ x 0 + 1) (e + 1) (and_right (ltb x n) (eqb (get_or lasts₀ x 0 + 1) (e + 1)) z)))

  pub waiting_here : Waiting lasts₀ j lasts left here e
  waiting_here = record {
    size = w.size;
    count = w.count;
    inside = w.inside;
    below = w.below;
    part = due-left;
    kept = w.kept;
    ahead = w.ahead;
    behind = w.behind;
  }

  -- a part left that is not due ends after e
  pub strictly : (x : ℕ) → T (has_part left x) → T (not (has_part here x)) → e < get_or lasts x 0
  strictly x t u = ⊎_elim (λ h. absurd (T_not (has_part here x) u (due-ends x t h))) (λ h. h) (le_or_lt (get_or lasts x 0) e)

  pub viewed_here : viewed here e lasts ≡ viewed due e lasts
  unfolding viewed
  viewed_here = list_of_cong _ _ (length lasts) (λ x l. at_part x)
    where
      at_part : (x : ℕ) → cond (has_part here x) e (get_or lasts x 0) ≡ cond (has_part due x) e (get_or lasts x 0)
      at_part x =
          ⊎_elim
          (λ t. rw (true_T (has_part due x) t, true_T (has_part here x) (due_in x (w.part x t) (or_first (has_part due x) (has_part ends x) t))))
          (λ u. rw (false_T (has_part due x) u) (⊎_elim
          (λ t. rw (true_T (has_part here x) t) (omega (arith, due-out x t u, w.ahead x (due-left x t))))
          (λ v. rw (false_T (has_part here x) v))
          (test (has_part here x))))
          (test (has_part due x))

-- ---- where no part is due, all parts left end later

module _ (lasts₀ lasts : List ℕ) (j e : ℕ) (left due : PartSet) (w : Waiting lasts₀ j lasts left due e)
    (strict : (x : ℕ) → T (has_part left x) → T (not (has_part due x)) → e < get_or lasts x 0)
    (none : (x : ℕ) → T (has_part due x) → ⊥) where
  later : (x : ℕ) → T (has_part left x) → e < get_or lasts x 0
  later x t = strict x t (not_T (has_part due x) (none x))

  waiting_next : Waiting lasts₀ j lasts left due (e + 1)
  waiting_next = record {
    size = w.size;
    count = w.count;
    inside = w.inside;
    below = w.below;
    part = w.part;
    kept = w.kept;
    ahead = λ x t. omega (arith, later x t);
    behind = λ x l t. omega (arith, w.behind x l t);
  }

  viewed_next : viewed due (e + 1) lasts ≡ viewed due e lasts
  unfolding viewed
  viewed_next = list_of_cong _ _ (length lasts) (λ x l. rw (false_T (has_part due x) (not_T (has_part due x) (none x))))

-- ---- one part settled

module _ (rows : List PartSet) (lasts₀ lasts : List ℕ) (j e b : ℕ) (left due : PartSet) (few : length lasts₀ ≤ 128)
    (w : Waiting lasts₀ j lasts left due e)
    (strict : (x : ℕ) → T (has_part left x) → T (not (has_part due x)) → e < get_or lasts x 0) (within : e < length lasts₀)
    (is : IsLowest due b) (is-due : T (has_part due b)) where
  abbrev m : ℕ
  m = length lasts₀

  abbrev now : List ℕ
  now = viewed due e lasts

  abbrev left₂ : PartSet
  left₂ = removed left (single b)

  abbrev due₂ : PartSet
  due₂ = met (joined due (row_at rows b)) left₂

  is_left : T (has_part left b)
  is_left = w.part b is-due

  b_in : b < m
  b_in = w.inside b is_left

  now_size : length now ≡ m
  unfolding viewed
  now_size = length-list_of _ (length lasts) ∙ w.size

  now-at : (x : ℕ) → x < m → get_or now x 0 ≡ cond (has_part due x) e (get_or lasts x 0)
  unfolding viewed
  now-at x l = list_of-at _ (length lasts) x (omega (arith, w.size))

  now-due : (x : ℕ) → T (has_part due x) → get_or now x 0 ≡ e
  now-due x t = now-at x (w.inside x (w.part x t)) ∙ rw (true_T (has_part due x) t)

  now_other : (x : ℕ) → x < m → T (not (has_part due x)) → get_or now x 0 ≡ get_or lasts x 0
  now_other x l u = now-at x l ∙ rw (false_T (has_part due x) u)

  now_ahead : (x : ℕ) → x < m → T (has_part left x) → e ≤ get_or now x 0
  now_ahead x l t = ⊎_elim (λ u. omega (arith, now-due x u)) (λ u. omega (arith, now_other x l u, w.ahead x t)) (test (has_part due x))

  -- b is the part left whose last position is least, and the lowest of them
  earliest_is : lowest_at (weight_of left now) (length now) ≡ b
  earliest_is = lowest-only (weight_of left now) (length now) b (omega (arith, now_size, b_in)) most less
    where
      full : weight_of left now b ≡ m - e
      full = rw (true_T (has_part left b) is_left, now-due b is-due, now_size)

      most : (t : ℕ) → t < length now → weight_of left now t ≤ weight_of left now b
      most t l =
          ⊎_elim
          (λ u. rw (full, true_T (has_part left t) u) (omega (arith, now_size, now_ahead t (omega (arith, now_size)) u)))
          (λ u. rw (false_T (has_part left t) u) (omega arith))
          (test (has_part left t))

      less : (t : ℕ) → t < b → weight_of left now t < weight_of left now b
      less t l =
          let k : t < m = omega (arith, b_in) in
          ⊎_elim
          (λ u. let v : T (not (has_part due t)) = not_T (has_part due t) (λ z. omega (arith, is.least t z)) in
          rw (full, true_T (has_part left t) u) (omega (arith, now_size, now_other t k v, strict t u v, within)))
          (λ u. rw (full, false_T (has_part left t) u) (omega (arith, within)))
          (test (has_part left t))

  left_keeps : (x : ℕ) → T (has_part left₂ x) → T (has_part left x) × (b ≢ x)
  left_keeps x t =
      let u : T (without b (has_part left) x) = rw (left-without left b x) at t in
      (without-left (has_part left) b x u, without_differs (has_part left) b x u)

  left-stays : (x : ℕ) → T (has_part left x) → b ≢ x → T (has_part left₂ x)
  left-stays x t d = rw (left-without left b x) (without_in (has_part left) b x t d)

  due-left₂ : (x : ℕ) → T (has_part due₂ x) → T (has_part left₂ x)
  due-left₂ x t = and_right (has_part (joined due (row_at rows b)) x) (has_part left₂ x)
      (rw (has-met (joined due (row_at rows b)) left₂ x) at t)

  set_other : (x : ℕ) → b ≢ x → get_or (set lasts b e) x 0 ≡ get_or lasts x 0
  set_other x d = get_or-set_other lasts b x e 0 (λ z. d (sym z))

  set_same : get_or (set lasts b e) b 0 ≡ e
  set_same = get_or-set_same lasts b e 0 (omega (arith, w.size, b_in))

  -- the part is b, or another
  is_or : {P : Type 0} (x : ℕ) → (b ≡ x → P) → (b ≢ x → P) → P
  is_or x f g = ⊎_elim (λ l. ⊎_elim (λ h. f (omega arith)) (λ h. g (λ z. omega arith)) (le_or_lt x b)) (λ l. g (λ z. omega arith)) (le_or_lt b x)

  waiting_more : Waiting lasts₀ (j + 1) (set lasts b e) left₂ due₂ e
  waiting_more = record {
    size = length-set lasts b e ∙ w.size;
    count =
        let off : has_part left₂ b ≡ false = false_T (has_part left₂ b) (not_T (has_part left₂ b) (λ t. (left_keeps b t).1 refl)) in
        let on : has_part left b ≡ true = true_T (has_part left b) is_left in
        let k = number_but (has_part left₂) (has_part left) b m b_in (λ i l d. same_test (has_part left₂ i) (has_part left i)
        (λ t. (left_keeps i t).0) (λ t. left-stays i t d)) in
        omega (arith, rw (off, on) at k, w.count);
    inside = λ x t. w.inside x (left_keeps x t).0;
    below = λ x l. is_or x (λ z. rw (← z, set_same) within) (λ d. rw (set_other x d) (w.below x l));
    part = due-left₂;
    kept = λ x t. let (k, d) = left_keeps x t in set_other x d ∙ w.kept x k;
    ahead = λ x t. let (k, d) = left_keeps x t in rw (set_other x d) (w.ahead x k);
    behind = λ x l t. is_or x (λ z. rw (← z, set_same) (omega arith)) (λ d. rw (set_other x d)
        (w.behind x l (not_T (has_part left x) (λ u. T_not (has_part left₂ x) t (left-stays x u d)))));
  }

  -- the last positions after the part, as its row asks for them
  abbrev row : PartSet
  row = row_at rows b

  due₂_in : (x : ℕ) → T (has_part left₂ x) → T (has_part due x || has_part row x) → T (has_part due₂ x)
  due₂_in x t u = rw (has-met (joined due row) left₂ x, has-joined due row x) (and_in (has_part due x || has_part row x) (has_part left₂ x) u t)

  due₂-out : (x : ℕ) → T (has_part due₂ x) → T (has_part due x || has_part row x)
  due₂-out x t = rw (has-joined due row x) at (and_left (has_part (joined due row) x) (has_part left₂ x) (rw (has-met (joined due row) left₂ x) at t))

  -- one place of them
  abbrev goal : ℕ → Type 0
  goal x = cond (has_part row x) (min (get_or now x 0) e) (get_or now x 0) ≡ cond (has_part due₂ x) e (get_or (set lasts b e) x 0)

  not_due : (x : ℕ) → (T (has_part due₂ x) → ⊥) → has_part due₂ x ≡ false
  not_due x f = false_T (has_part due₂ x) (not_T (has_part due₂ x) f)

  flat : (g : Bool) (v : ℕ) → v ≤ e → cond g (min v e) v ≡ v
  flat true v l = omega arith
  flat false v l = refl

  at_self : goal b
  at_self = rw (not_due b (λ t. (left_keeps b (due-left₂ b t)).1 refl), set_same, now-due b is-due) (flat (has_part row b) e (omega arith))

  at_settled : (x : ℕ) → x < m → b ≢ x → T (not (has_part left x)) → goal x
  at_settled x l d u =
      let v : T (not (has_part due x)) = not_T (has_part due x) (λ t. T_not (has_part left x) u (w.part x t)) in
      rw (not_due x (λ t. T_not (has_part left x) u (left_keeps x (due-left₂ x t)).0), set_other x d, now_other x l v)
      (flat (has_part row x) (get_or lasts x 0) (w.behind x l u))

  at-due : (x : ℕ) → b ≢ x → T (has_part due x) → goal x
  at-due x d t =
      rw (true_T (has_part due₂ x) (due₂_in x (left-stays x (w.part x t) d) (or_first (has_part due x) (has_part row x) t)), now-due x t)
      (flat (has_part row x) e (omega arith))

  at_waiting : (x : ℕ) → x < m → b ≢ x → T (has_part left x) → T (not (has_part due x)) → goal x
  at_waiting x l d t u =
      ⊎_elim
      (λ k. rw (true_T (has_part row x) k, true_T (has_part due₂ x) (due₂_in x (left-stays x t d) (or_second (has_part due x) (has_part row x) k)))
      (omega (arith, now_other x l u, strict x t u)))
      (λ k. rw (
        false_T (has_part row x) k,
        not_due x (λ z. some_or (has_part due x) (has_part row x) (due₂-out x z) (T_not (has_part due x) u)
            (T_not (has_part row x) k)),
        set_other x d,
      ) (now_other x l u))
      (test (has_part row x))

  place : (x : ℕ) → x < m → goal x
  place x l =
      is_or x (λ z. rw (← z) at_self) (λ d. ⊎_elim
      (λ t. ⊎_elim (at-due x d) (at_waiting x l d t) (test (has_part due x)))
      (at_settled x l d)
      (test (has_part left x)))

  capped_is : capped row e now ≡ viewed due₂ e (set lasts b e)
  unfolding capped viewed
  capped_is =
      let s : length (set lasts b e) ≡ length now = length-set lasts b e ∙ w.size ∙ sym now_size in
      rw s (list_of_cong _ _ (length now) (λ x l. place x (omega (arith, now_size))))

  settling_next : j < m → Settling rows lasts₀ j now left → Settling rows lasts₀ (j + 1) (viewed due₂ e (set lasts b e)) left₂
  settling_next l s = rw (earliest_is, now-due b is-due, capped_is) at (settling_more rows lasts₀ now left j l s)

  strict_more : (x : ℕ) → T (has_part left₂ x) → T (not (has_part due₂ x)) → e < get_or (set lasts b e) x 0
  strict_more x t u =
      let (k, d) = left_keeps x t in
      let v = not_T (has_part due x) (λ z. T_not (has_part due₂ x) u (due₂_in x t (or_first (has_part due x) (has_part row x) z))) in
      rw (set_other x d) (strict x k v)

pub viewed_none : (lasts : List ℕ) → viewed no_parts 0 lasts ≡ lasts
unfolding viewed
viewed_none lasts = sym (list_is _ (length lasts) lasts refl (λ k l. rw (false_T (has_part no_parts k) (not_T (has_part no_parts k) (λ t.
    let v : T (ltb k 0) = rw (first-none k) at t in omega (arith, ltb→lt k 0 v))))))

-- ---- a position: its parts that are due are settled one by one

pub record Turn (rows : List PartSet) (lasts₀ : List ℕ) (j : ℕ) (lasts : List ℕ) (left due : PartSet) (e : ℕ) : Type 0 where
  pub waiting : Waiting lasts₀ j lasts left due e
  pub settling : Settling rows lasts₀ j (viewed due e lasts) left
  pub strict : (x : ℕ) → T (has_part left x) → T (not (has_part due x)) → e < get_or lasts x 0

-- no position has been settled, or those before this one
pub record Before (rows : List PartSet) (lasts₀ : List ℕ) (j : ℕ) (lasts : List ℕ) (left due : PartSet) (e : ℕ) : Type 0 where
  pub waiting : Waiting lasts₀ j lasts left due e
  pub settling : Settling rows lasts₀ j (viewed due e lasts) left

pub before_none : (rows : List PartSet) (lasts : List ℕ) (left : PartSet) → ((x : ℕ) → has_part left x ≡ ltb x (length lasts))
    → InPlace (length lasts) lasts → Before rows lasts 0 lasts left no_parts 0
before_none rows lasts left h p = record {
  waiting = waiting_none lasts left h p;
  settling = rw (viewed_none lasts) (settling_none rows lasts left h);
}

module _ (rows : List PartSet) (lasts₀ : List ℕ) (few : length lasts₀ ≤ 128) (j : ℕ) (lasts : List ℕ) (left due : PartSet) (e : ℕ) where
  pub turn_begins : (ends : PartSet) → ((x : ℕ) → has_part ends x ≡ (ltb x (length lasts₀) && eqb (get_or lasts₀ x 0 + 1) (e + 1)))
      → Before rows lasts₀ j lasts left due e → Turn rows lasts₀ j lasts left (met (joined due ends) left) e
  turn_begins ends at t = record {
    waiting = waiting_here lasts₀ lasts j e left due ends few at t.waiting;
    settling = rw (viewed_here lasts₀ lasts j e left due ends few at t.waiting) t.settling;
    strict = strictly lasts₀ lasts j e left due ends few at t.waiting;
  }

  module _ (t : Turn rows lasts₀ j lasts left due e) where
    pub turn_more : (b : ℕ) → e < length lasts₀ → IsLowest due b → b < 128
        → Turn rows lasts₀ (j + 1) (set lasts b e) (removed left (single b)) (met (joined due (row_at rows b)) (removed left (single b))) e
    turn_more b l is h =
        let w = t.waiting in
        let d = is.found h in
        let u = w.part b d in
        let k : j < length lasts₀ = omega (arith, w.count, number_pos (has_part left) (length lasts₀) b (w.inside b u) u) in
        record {
          waiting = waiting_more rows lasts₀ lasts j e b left due few w t.strict l is d;
          settling = settling_next rows lasts₀ lasts j e b left due few w t.strict l is d k t.settling;
          strict = strict_more rows lasts₀ lasts j e b left due few w t.strict l is d;
        }

    -- a part that is due is one of the parts, and not all of them are settled
    pub turn_in : (b : ℕ) → IsLowest due b → b < 128 → (b < length lasts₀) × (j < length lasts₀) × T (has_part left b)
    turn_in b is h =
        let w = t.waiting in
        let u = w.part b (is.found h) in
        (w.inside b u, omega (arith, w.count, number_pos (has_part left) (length lasts₀) b (w.inside b u) u), u)

    module _ (none : (x : ℕ) → T (has_part due x) → ⊥) where
      pub turn_later : (x : ℕ) → T (has_part left x) → e < get_or lasts x 0
      turn_later = later lasts₀ lasts j e left due t.waiting t.strict none

      pub turn_ends : Before rows lasts₀ j lasts left due (e + 1)
      turn_ends = record {
        waiting = waiting_next lasts₀ lasts j e left due t.waiting t.strict none;
        settling = rw (viewed_next lasts₀ lasts j e left due t.waiting t.strict none) t.settling;
      }

-- ---- all parts settled

pub viewed_all : (lasts₀ lasts : List ℕ) (left due : PartSet) (e j : ℕ) → length lasts₀ ≤ j → Waiting lasts₀ j lasts left due e
    → viewed due e lasts ≡ lasts
unfolding viewed
viewed_all lasts₀ lasts left due e j l w = sym (list_is _ (length lasts) lasts refl (λ k h. rw (false_T (has_part due k) (not_T (has_part due k) (λ t.
    let u = w.part k t in
    omega (arith, w.count, number_pos (has_part left) (length lasts₀) k (w.inside k u) u))))))
