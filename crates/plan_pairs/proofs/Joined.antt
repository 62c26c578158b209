-- The placements of the first lines of a plan: how many are on each tip, their pairs, and what a line more adds to both.
use Rattle.std.proofs.Common.{◌≡◌, ℕ, zero, suc, ◌+◌, ◌*◌, ◌<◌, ◌≤◌, cond, not, T, eqb, ◌≢◌, ◌⊎◌, List, [], ◌∷◌}
use Rattle.std.proofs.Common.{length, get_or, take, set, replicate, refl, ap, ◌-◌, inl, inr, add-one, arith, eqb→eq, T_not}
use Rattle.std.proofs.Common.{length-set, length-take, take_all, get_or-set_other, get_or-set_same}
use lib.Dec.{eqb_refl}
use Rattle.model.specs.Limits.{most_tips, most_placements, most_pairs}
use Rattle.model.specs.Count.{count}
use Rattle.model.specs.Plan.{uses, pairs, choose2}
use Rattle.model.proofs.Tests.{test, true_T, false_T}
use Rattle.model.proofs.Lists.{count_le}
use Rattle.model.proofs.ListOf.{length-list_of, list_of-at, list_is}
use Rattle.model.proofs.Mix.{Mix, count_mix}
use Rattle.model.proofs.Pairs.{choose2_mono, shared, choose2_square, pairs_mix, pairs_taken}
use Rattle.model.proofs.Limits.{pairs_few}
use Rattle.placements.specs.Repeated.{total, repeated}
use Rattle.placements.proofs.Repeated.{length-repeated}
use Rattle.placements.proofs.Totals.{total-take_le}
use Rattle.model.proofs.Append.{mix_append, mix_after, count-replicate}
use Rattle.plan_pairs.specs.OnTips.{on_tips}

abbrev pub placed : List ℕ → List ℕ → ℕ → List ℕ
placed qs plan i = repeated (take i qs) (take i plan)

-- those of one line more
mix_more : (qs xs : List ℕ) (i : ℕ) → length qs ≡ length xs → i < length xs
    → Mix (replicate (get_or qs i 0) (get_or xs i 0)) (placed qs xs i) (placed qs xs (suc i))
unfolding repeated
mix_more qs [] i e l = absurd (omega arith)
mix_more [] (x ∷ xs) i e l = absurd (omega arith)
mix_more (q ∷ qs) (x ∷ xs) zero e l = mix_append (replicate q x) []
mix_more (q ∷ qs) (x ∷ xs) (suc i) e l = mix_after (replicate q x) (mix_more qs xs i (omega arith) (omega arith))

-- q placements on tip t join others
module _ (q t : ℕ) {ys zs : List ℕ} (m : Mix (replicate q t) ys zs) where
  uses_join : (u : ℕ) → uses zs u ≡ uses ys u + cond (eqb u t) q 0
  unfolding uses
  uses_join u = omega (arith, count_mix (eqb u) m, count-replicate (eqb u) q t)

  pairs_join : pairs zs + choose2 (uses ys t) ≡ pairs ys + choose2 (uses ys t + q)
  unfolding pairs uses count shared
  pairs_join =
      let p = uses ys t in
      let alone = mix_append (replicate q t) [] in
      omega (
        arith,
        pairs_mix m,
        shared-tip q ys,
        pairs_taken q t alone refl,
        pairs_mix alone,
        shared-tip q [],
        choose2_square p,
        choose2_square q,
        choose2_square (p + q),
      )
    where
      shared-tip : (n : ℕ) (xs : List ℕ) → shared (replicate n t) xs ≡ n * uses xs t
      shared-tip zero xs = omega arith
      shared-tip (suc n) xs = omega (arith, shared-tip n xs)

  on_join : t < most_tips → set (on_tips ys) t (uses ys t + q) ≡ on_tips zs
  unfolding on_tips
  on_join l = list_is (uses zs) most_tips _ (rw length-set (length-list_of (uses ys) most_tips)) (λ u k. go u k (test (eqb u t)))
    where
      go : (u : ℕ) → u < most_tips → T (eqb u t) ⊎ T (not (eqb u t)) → get_or (set (on_tips ys) t (uses ys t + q)) u 0 ≡ uses zs u
      go u k (inl h) =
          let e : u ≡ t = eqb→eq u t h in
          let n : t < length (on_tips ys) = rw (length-list_of (uses ys) most_tips) l in
          rw (uses_join u, true_T (eqb u t) h, e, get_or-set_same)
      go u k (inr h) =
          let n : u ≢ t = λ e. T_not (eqb u t) h (rw e (eqb_refl t)) in
          rw (uses_join u, false_T (eqb u t) h, get_or-set_other, list_of-at) (omega arith)

pub on_at : (ys : List ℕ) (t : ℕ) → t < most_tips → get_or (on_tips ys) t 0 ≡ uses ys t
unfolding on_tips
on_at ys t l = list_of-at (uses ys) most_tips t l

-- WHAT A TURN FINDS at line i: the placements on its tip are few with its own, and the pairs grow by those that join them
pub record Joined (qs plan : List ℕ) (i : ℕ) (on : List ℕ) (shared tip q : ℕ) : Type 0 where
  pub narrow : tip < most_tips
  pub few : get_or on tip 0 + q ≤ most_placements
  pub mono : choose2 (get_or on tip 0) ≤ choose2 (get_or on tip 0 + q)
  pub grown : shared + (choose2 (get_or on tip 0 + q) - choose2 (get_or on tip 0)) ≡ pairs (placed qs plan (i + 1))
  pub small : pairs (placed qs plan (i + 1)) ≤ most_pairs
  pub counted : set on tip (get_or on tip 0 + q) ≡ on_tips (placed qs plan (i + 1))

module _ (qs plan : List ℕ) (same : length qs ≡ length plan) (few : total qs ≤ most_placements) where
  placed_few : (i : ℕ) → length (placed qs plan i) ≤ most_placements
  placed_few i =
      let e : length (take i qs) ≡ length (take i plan) = omega (arith, length-take i qs, length-take i plan) in
      omega (arith, length-repeated (take i qs) (take i plan) e, total-take_le qs i)

  pub placed-pairs : (i : ℕ) → pairs (placed qs plan i) ≤ most_pairs
  placed-pairs i = pairs_few (placed qs plan i) (placed_few i)

  -- line i joins the lines before it: the placements then on its tip, what is then on each tip, and the pairs
  module _ (i : ℕ) (l : i < length plan) where
    abbrev pub there : ℕ
    there = uses (placed qs plan i) (get_or plan i 0)

    joins : Mix (replicate (get_or qs i 0) (get_or plan i 0)) (placed qs plan i) (placed qs plan (i + 1))
    joins = rw add-one (mix_more qs plan i same l)

    pub few_on : there + get_or qs i 0 ≤ most_placements
    unfolding uses
    few_on =
        let t = get_or plan i 0 in
        let e = rw (true_T (eqb t t) (eqb_refl t)) at (uses_join (get_or qs i 0) t joins t) in
        omega (arith, e, count_le (eqb t) (placed qs plan (i + 1)), placed_few (i + 1))

    pub on_more : get_or plan i 0 < most_tips → set (on_tips (placed qs plan i)) (get_or plan i 0) (there + get_or qs i 0) ≡ on_tips
        (placed qs plan (i + 1))
    on_more = on_join (get_or qs i 0) (get_or plan i 0) joins

    pub pairs-more : pairs (placed qs plan (i + 1)) + choose2 there ≡ pairs (placed qs plan i) + choose2 (there + get_or qs i 0)
    pairs-more = pairs_join (get_or qs i 0) (get_or plan i 0) joins

  pub joined : {i : ℕ} {on : List ℕ} {shared tip q : ℕ} → i < length plan → tip ≡ get_or plan i 0 → q ≡ get_or qs i 0 → tip < most_tips
      → on ≡ on_tips (placed qs plan i) → shared ≡ pairs (placed qs plan i) → Joined qs plan i on shared tip q
  joined {i} {on} {shared} {tip} {q} l is_tip is_q narrow counted paired =
      let held : get_or on tip 0 ≡ there i l
      = rw (counted, is_tip) (on_at (placed qs plan i) (get_or plan i 0) (omega (arith, is_tip))) in
      let mono : choose2 (get_or on tip 0) ≤ choose2 (get_or on tip 0 + q) = choose2_mono (omega arith) in
      record {
        narrow = narrow;
        few = omega (arith, held, few_on i l, is_q);
        mono = mono;
        grown = omega (arith, mono, paired, pairs-more i l, ap choose2 held, ap (λ p. choose2 (p + q)) held, ap (λ p. choose2 (there i l + p)) is_q);
        small = placed-pairs (i + 1);
        counted = rw (held, is_q, is_tip, counted) (on_more i l (omega (arith, is_tip)));
      }

  pub placed-all : (i : ℕ) → length plan ≤ i → placed qs plan i ≡ repeated qs plan
  placed-all i h = rw (take_all i qs (omega arith), take_all i plan h)
