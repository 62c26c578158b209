-- The scores, by the counts.
use Prim.Native.Nat.{ℕ, zero, suc, ◌+◌, ◌*◌, ◌-◌, ◌^◌, ◌≤◌, ◌<◌}
use native.Mathlib.Omega.{arith}
use native.Mathlib.Nat.{le_trans}
use mathlib.Core.Path.{◌≡◌, refl, ap, sym, ◌∙◌}
use mathlib.Core.Logic.{⊎_elim}
use mathlib.Core.Bool.{cond}
use mathlib.Core.List.{List, [], ◌∷◌}
use lib.Dec.{T, eqb}
use lib.ListN.{length, get_or, set, length-set}
use lib.Seq.{get_or-set_same, get_or-set_other}
use Rattle.model.specs.Limits.{most_placements}
use Rattle.model.specs.Count.{largest, list_of, All}
use Rattle.model.specs.Plan.{has, Domain}
use Rattle.model.specs.Choice.{Mounted}
use Rattle.model.proofs.Tests.{le_or_lt, test, false_T, cond_case}
use Rattle.model.proofs.ListOf.{length-list_of, list_of-at, list_is}
use Rattle.model.proofs.Lists.{count_le}
use Rattle.model.proofs.Largest.{largest_le, largest_cong}
use Rattle.model.proofs.Choice.{choice_cong}
use Rattle.model.proofs.Limits.{choose2_few}
use Rattle.model.proofs.Sets.{has-below}
use Rattle.subset_rules.specs.Subsets.{lying, gain, taking, score_by, score, worth, pick, order}
use Rattle.subset_rules.proofs.Drop.{drop_lt}
use Rattle.subset_rules.proofs.Score.{score_step}
use Rattle.subset_rules.specs.Exact.{most_named, most_price}
use Rattle.subset_rules.proofs.Lying.{lying_falls}
use Rattle.subset_table.specs.Scores.{at, at_tip, Counted, Ready, ReadyBy, Scored, Filling}

pub gain_few : (price p : ℕ) → price ≤ most_price → p ≤ most_placements → gain price p ≤ most_price
unfolding gain
gain_few price p l h = cond_case (λ x. x ≤ most_price) (eqb p 0) (λ _. l) (λ _. omega (arith, choose2_few p h))

module _ (price : ℕ) (z : ℕ → ℕ) (m : ℕ) (low : price ≤ most_price) (few : (u : ℕ) → u < 2 ^ m → z u ≤ most_placements) where
  score-by_few : (k u : ℕ) → u < 2 ^ m → score_by price z m k u ≤ k * most_price
  unfolding score_by
  score-by_few zero u b = omega arith
  score-by_few (suc k) u b = largest_le _ m (suc k * most_price) (λ t _.
      cond_case (λ x. x ≤ suc k * most_price) (has u t)
      (λ h. omega (
        arith,
        gain_few price (z u - z (u - 2 ^ t)) low (omega (arith, few u b)),
        score-by_few k (u - 2 ^ t) (omega (arith, drop_lt u t h)),
      ))
      (λ _. omega arith))

  -- no score is too large
  pub score_few : m ≤ most_named → (u : ℕ) → u < 2 ^ m → score price z m u ≤ most_named * most_price
  unfolding score
  score_few l u b = omega (arith, score-by_few m u b)

-- counts that agree on the sets of m tips give the same
module _ (price : ℕ) (y z : ℕ → ℕ) (m : ℕ) (same : (u : ℕ) → u < 2 ^ m → y u ≡ z u) where
  score-by_cong : (k u : ℕ) → u < 2 ^ m → score_by price y m k u ≡ score_by price z m k u
  unfolding score_by
  score-by_cong zero u b = refl
  score-by_cong (suc k) u b = largest_cong _ _ m (λ t _.
      let w = u - 2 ^ t in
      let l : w < 2 ^ m = omega arith in
      rw (same u b, same w l, score-by_cong k w l))

  pub score_cong : (u : ℕ) → u < 2 ^ m → score price y m u ≡ score price z m u
  unfolding score
  score_cong u b = score-by_cong m u b

  worth_cong : (u t : ℕ) → u < 2 ^ m → worth price y m u t ≡ worth price z m u t
  unfolding worth
  worth_cong u t b =
      let w = u - 2 ^ t in
      let l : w < 2 ^ m = omega arith in
      rw (same u b, same w l, score_cong w l)

  pick-cong : (mounted : Mounted) (u : ℕ) → u < 2 ^ m → pick mounted price y m u ≡ pick mounted price z m u
  unfolding pick
  pick-cong mounted u b = choice_cong mounted _ _ m (λ t _. worth_cong u t b)

  pub order_cong : (mounted : Mounted) (k u : ℕ) → u < 2 ^ m → order mounted price y m k u ≡ order mounted price z m k u
  unfolding order
  order_cong mounted zero u b = refl
  order_cong mounted (suc k) u b =
      let t = pick mounted price z m u in
      rw (pick-cong mounted u b) (ap (λ l. cond (eqb u 0) [] (t ∷ l)) (order_cong mounted k (u - 2 ^ t) (omega arith)))

-- ---- filling the scores

module _ {price m : ℕ} {counts : List ℕ} (c : Counted m counts) (low : price ≤ most_price) where
  pub filling_first : {scores : List ℕ} → length scores ≡ 2 ^ m → Filling price m counts 0 scores
  filling_first e = record { size = e; right = λ v l. absurd (omega arith) }

  module _ {u : ℕ} {scores : List ℕ} (f : Filling price m counts u scores) where
    pub filling_ready : u < 2 ^ m → Ready price m counts scores u
    filling_ready b = record {
      counted = c;
      low = low;
      size = f.size;
      inside = b;
      small = λ v l. omega (arith, f.right v l, score_few price (at counts) m low c.few c.narrow v (omega arith));
    }

    -- the largest at one of the tips is the score
    filling_score : u < 2 ^ m → largest (at_tip price counts scores u) m ≡ score price (at counts) m u
    filling_score b =
        largest_cong _ _ m (λ t _. ⊎_elim (owned t) (λ n. rw (false_T (has u t) n)) (test (has u t))) ∙ sym (score_step price (at counts) m u b)
      where
        owned : (t : ℕ) → T (has u t)
            → at_tip price counts scores u t ≡ cond (has u t) (taking price (at counts) (score price (at counts) m) u t) 0
        owned t h = rw (f.right (u - 2 ^ t) (drop_lt u t h))

    pub filling_more : (x : ℕ) → u < 2 ^ m → x ≡ largest (at_tip price counts scores u) m → Filling price m counts (u + 1) (set scores u x)
    filling_more x b e = record {
      size = rw length-set f.size;
      right = λ v l. ⊎_elim (here v l) (λ p. get_or-set_other scores u v x 0 (λ q. omega arith) ∙ f.right v p) (le_or_lt u v);
    }
      where
        here : (v : ℕ) → v < u + 1 → u ≤ v → get_or (set scores u x) v 0 ≡ score price (at counts) m v
        here v l p =
            let q : v ≡ u = omega arith in
            rw q (get_or-set_same scores u x 0 (omega (arith, f.size)) ∙ e ∙ filling_score b)

-- the counts of lines are counted, and scores by them are the lines'
module _ {m : ℕ} {lines counts : List ℕ} (narrow : m ≤ most_named) (few : length lines ≤ most_placements) (ds : All (Domain m) lines)
    (e : counts ≡ list_of (lying m lines) (2 ^ m)) where
  pub counts-at : (u : ℕ) → u < 2 ^ m → at counts u ≡ lying m lines u
  counts-at u b = rw e (list_of-at (lying m lines) (2 ^ m) u b)

  pub lines_counted : Counted m counts
  unfolding lying
  lines_counted = record {
    narrow = narrow;
    size = rw e (length-list_of (lying m lines) (2 ^ m));
    few = λ u b. rw (counts-at u b) (le_trans (count_le _ lines) few);
    rises = λ u t b h. rw (counts-at u b, counts-at (u - 2 ^ t) (omega arith)) (lying_falls ds u t h);
  }

  pub filled-scores : {price : ℕ} {scores : List ℕ} → Filling price m counts (2 ^ m) scores
      → scores ≡ list_of (score price (lying m lines) m) (2 ^ m)
  filled-scores {price} {scores} f =
      list_is _ (2 ^ m) scores f.size (λ v l. f.right v l ∙ score_cong price (at counts) (lying m lines) m counts-at v l)

  pub lines_scored : {price : ℕ} {scores : List ℕ} → price ≤ most_price → scores ≡ list_of (score price (lying m lines) m) (2 ^ m)
      → Scored price m counts scores
  lines_scored {price} {scores} low s =
      let f = score price (lying m lines) m in
      record {
        counted = lines_counted;
        low = low;
        filled = record {
          size = rw s (length-list_of f (2 ^ m));
          right = λ v l. rw s (list_of-at f (2 ^ m) v l) ∙ sym (score_cong price (at counts) (lying m lines) m counts-at v l);
        };
      }

-- ---- one set without one of its tips

-- what is known of the places read for u and for the set left
pub record Places (price : ℕ) (counts scores : List ℕ) (u left : ℕ) : Type 0 where
  pub counted : u < length counts
  pub left_counted : left < length counts
  pub scored : left < length scores
  pub drops : at counts left ≤ at counts u
  pub few : at counts u ≤ most_placements
  pub gains : gain price (at counts u - at counts left) ≤ most_price
  pub small : at scores left ≤ most_named * most_price

module _ {price : ℕ} {counts scores : List ℕ} {u : ℕ} (r : ReadyBy price counts scores u) (t : ℕ) (h : T (has u t)) where
  pub ready_tip : t < most_named
  ready_tip = let (m, x) = r in omega (arith, has-below m u t x.inside h, x.counted.narrow)

  pub ready_places : (left : ℕ) → left ≡ u - 2 ^ t → Places price counts scores u left
  ready_places left q =
      let (m, x) = r in
      let d : left < u = omega (arith, drop_lt u t h) in
      let few = x.counted.few u x.inside in
      record {
        counted = omega (arith, x.inside, x.counted.size);
        left_counted = omega (arith, x.inside, x.counted.size);
        scored = omega (arith, x.inside, x.size);
        drops = omega (arith, x.counted.rises u t x.inside h, ap (at counts) q);
        few = few;
        gains = gain_few price (at counts u - at counts left) x.low (omega (arith, few));
        small = x.small left d;
      }
