-- Settling the last positions over flat arrays: where the loop stands after j parts.
use Prim.Native.Nat.{ℕ, zero, suc, ◌+◌, ◌-◌, ◌≤◌, ◌<◌, min}
use native.Mathlib.Omega.{arith}
use mathlib.Core.Path.{◌≡◌, refl, ap, sym, ◌∙◌}
use mathlib.Core.Bool.{Bool, true, not, cond, ◌&&◌}
use mathlib.Core.List.{List}
use lib.Dec.{ltb, lt→ltb}
use lib.ListN.{length, get_or}
use Rattle.model.specs.Count.{list_of, lowest_at}
use Rattle.model.proofs.Tests.{true_T}
use Rattle.model.proofs.ListOf.{list_is, length-list_of}
use Rattle.order_rules.specs.Number.{without}
use Rattle.order_rules.specs.Order.{Task}
use Rattle.order_rules.specs.Least.{earliest, relax, settle, lasts_of, ending, greedy_by, best_order}
use Rattle.order_rules.proofs.Agree.{settle_cong}
use Rattle.order_rules.proofs.Loops.{settle-more}
use Rattle.flat_order.specs.declared.sets.PartSet.{PartSet}
use Rattle.flat_order.specs.Sets.{has_part, single, removed}
use Rattle.flat_order.specs.Flat.{row_at, flat_task, weight_of, cap_of, capped, choose_ready, ready_order}
use Rattle.flat_order.proofs.Members.{has-single, has-removed}

-- a part left without part b
pub left-without : (left : PartSet) (b i : ℕ) → has_part (removed left (single b)) i ≡ without b (has_part left) i
left-without left b i = has-removed left (single b) i ∙ ap (λ r. has_part left i && not r) (has-single b i)

-- after j parts: as many last positions as before, and what is left to settle
pub record Settling (rows : List PartSet) (lasts₀ : List ℕ) (j : ℕ) (lasts : List ℕ) (left : PartSet) : Type 0 where
  pub size : length lasts ≡ length lasts₀
  pub same : (firsts : List ℕ) → settle (flat_task firsts lasts₀ rows) (length lasts₀ - j) (has_part left) lasts ≡ lasts_of
      (flat_task firsts lasts₀ rows)

-- one part, where the number of parts is known as n
turn : (t : Task) (left : ℕ → Bool) (lasts : List ℕ) (j : ℕ) → j < t.size → (n : ℕ) → n ≡ t.size
    → settle t (t.size - (j + 1)) (without (lowest_at (λ i. cond (left i) (n - get_or lasts i 0) 0) n) left)
    (list_of (λ a. cond (t.before a (lowest_at (λ i. cond (left i) (n - get_or lasts i 0) 0) n))
    (min (get_or lasts a 0) (get_or lasts (lowest_at (λ i. cond (left i) (n - get_or lasts i 0) 0) n) 0)) (get_or lasts a 0)) n)
    ≡ settle t (t.size - j) left lasts
unfolding earliest relax
turn t left lasts j l n e = rw e (sym (settle-more t left lasts j l))

module _ (rows : List PartSet) (lasts₀ : List ℕ) where
  pub settling_none : (left : PartSet) → ((x : ℕ) → has_part left x ≡ ltb x (length lasts₀)) → Settling rows lasts₀ 0 lasts₀ left
  unfolding lasts_of
  settling_none left h = record {
    size = refl;
    same = λ firsts.
        let t = flat_task firsts lasts₀ rows in
        let n = length lasts₀ in
        let e : n - 0 ≡ n = omega arith in
        rw e (settle_cong t n (has_part left) (λ _. true) lasts₀ (λ i l. h i ∙ true_T (ltb i n) (lt→ltb i n l))
        ∙ ap (settle t n (λ _. true)) (list_is t.last n lasts₀ refl (λ k l. refl)));
  }

  module _ (lasts : List ℕ) (left : PartSet) (j : ℕ) (l : j < length lasts₀) (s : Settling rows lasts₀ j lasts left) where
    abbrev b : ℕ
    b = lowest_at (weight_of left lasts) (length lasts)

    pub settling_more : Settling rows lasts₀ (j + 1) (capped (row_at rows b) (get_or lasts b 0) lasts) (removed left (single b))
    unfolding capped
    settling_more = record {
      size = length-list_of (cap_of (row_at rows b) (get_or lasts b 0) lasts) (length lasts) ∙ s.size;
      same = λ firsts.
          let t = flat_task firsts lasts₀ rows in
          settle_cong t (length lasts₀ - (j + 1)) (has_part (removed left (single b))) (without b (has_part left))
          (capped (row_at rows b) (get_or lasts b 0) lasts)
          (λ i _. left-without left b i) ∙ turn t (has_part left) lasts j l (length lasts) s.size ∙ s.same firsts;
    }

  pub settling_all : (lasts : List ℕ) (left : PartSet) (j : ℕ) → length lasts₀ ≤ j → Settling rows lasts₀ j lasts left
      → (firsts : List ℕ) → lasts ≡ lasts_of (flat_task firsts lasts₀ rows)
  unfolding settle
  settling_all lasts left j l s firsts =
      let e : length lasts₀ - j ≡ 0 = omega arith in
      sym (ap (λ k. settle (flat_task firsts lasts₀ rows) k (has_part left) lasts) e) ∙ s.same firsts

-- as many last positions after as before
settle-length : (t : Task) (k : ℕ) (left : ℕ → Bool) (lasts : List ℕ) → length lasts ≡ t.size → length (settle t k left lasts) ≡ t.size
unfolding settle relax
settle-length t zero left lasts e = e
settle-length t (suc k) left lasts e =
    let b = earliest t left lasts in
    settle-length t k (without b left) (relax t b lasts) (length-list_of _ t.size)

-- the best order is the greedy order with the last positions settled
pub best_settled : (firsts lasts : List ℕ) (rows : List PartSet) (start : PartSet) (next : ℕ → PartSet) (settled : List ℕ)
    → settled ≡ lasts_of (flat_task firsts lasts rows) → (length settled ≡ length lasts)
    × (greedy_by choose_ready next (flat_task firsts settled rows) (length settled) 0 start (λ _. true)
    ≡ ready_order start next (flat_task firsts lasts rows))
unfolding best_order lasts_of
best_settled firsts lasts rows start next settled e =
    let t = flat_task firsts lasts rows in
    let n : length settled ≡ length lasts = ap length e
    ∙ settle-length t (length lasts) (λ _. true) (list_of t.last (length lasts)) (length-list_of t.last (length lasts)) in
    (n, rw n (ap (λ l. greedy_by choose_ready next (ending t l) (length lasts) 0 start (λ _. true)) e))
