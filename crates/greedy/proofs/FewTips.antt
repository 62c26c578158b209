-- Boards of at most eight tips: the counts with a line more, and what is read from them.
use Prim.Native.Nat.{ℕ, zero, suc, ◌+◌, ◌-◌, ◌^◌, ◌≤◌, ◌<◌}
use native.Mathlib.Omega.{arith}
use native.Mathlib.Numerals.{add-one}
use mathlib.Core.Path.{◌≡◌, refl, ap, ap₂, sym, ◌∙◌}
use mathlib.Core.Logic.{⊎_elim}
use mathlib.Core.Bool.{Bool, cond}
use mathlib.Core.List.{List, [], ◌∷◌, zip_with}
use lib.ListN.{length, get_or, set, take, replicate}
use lib.Seq.{get_or-set_same, get_or-set_other, take_all}
use Rattle.std.proofs.lemmas.List.{get_or_past, get_or-replicate}
use Rattle.model.specs.Count.{All, largest}
use Rattle.model.specs.CommonTip.{set_of}
use Rattle.model.specs.Plan.{has, occ, Domain}
use Rattle.model.proofs.Tests.{le_or_lt}
use Rattle.model.proofs.Occ.{occ-below}
use Rattle.placements.specs.Repeated.{repeated, weighted}
use Rattle.placements.proofs.Repeated.{occ-repeated}
use Rattle.placements.proofs.Loops.{total-more, weighted-more}
use Rattle.placements.proofs.Totals.{total-take_le}
use Rattle.placements.specs.Good.{GoodLines}
use Rattle.model.specs.Choice.{Mounted}
use Rattle.counts.specs.Counts.{busy_tips, Countable}
use Rattle.few_tips.proofs.Sums.{weighted_le}
use Rattle.greedy.specs.Rounds.{plan_by}
use Rattle.greedy.specs.Eight.{count_in, CountsOf, HasRoom, AddsLine}
use Rattle.greedy.proofs.Round.{State, Begun, Chosen, chooses, to_plan, occ-to_plan}
use Rattle.head.specs.OnHead.{chosen}

-- a line is added to the counts of the tips below i
pub record Adding (q s i : ℕ) (old new : List ℕ) : Type 0 where
  pub done : (t : ℕ) → t < i → count_in new t ≡ count_in old t + cond (has s t) q 0
  pub rest : (t : ℕ) → i ≤ t → count_in new t ≡ count_in old t

pub adding_start : (q s : ℕ) (old : List ℕ) → Adding q s 0 old old
adding_start q s old = record { done = λ t l. absurd (omega arith); rest = λ t l. refl }

module _ {q s i : ℕ} {old new : List ℕ} (a : Adding q s i old new) where
  -- to one tip more
  pub adding_more : i < length new → {n : ℕ} → n ≡ count_in new i + cond (has s i) q 0 → Adding q s (i + 1) old (set new i n)
  adding_more l {n} e = record {
    done = λ t h.
        ⊎_elim
        (λ (g : i ≤ t).
        let at : t ≡ i = omega arith in
        rw at (get_or-set_same new i n 0 l ∙ e ∙ ap (λ c. c + cond (has s i) q 0) (a.rest i (omega arith))))
        (λ g. get_or-set_other new i t n 0 (λ z. omega arith) ∙ a.done t g)
        (le_or_lt i t);
    rest = λ t h. get_or-set_other new i t n 0 (λ z. omega arith) ∙ a.rest t (omega arith);
  }

-- one number more
pub set_of-more : (f : ℕ → Bool) (n : ℕ) → set_of f (n + 1) ≡ set_of f n + cond (f n) (2 ^ n) 0
unfolding set_of
set_of-more f n = rw add-one refl

-- a plan by a function is the list of its values
pub zip-plan_by : (f : ℕ → ℕ → ℕ) (left plan : List ℕ) → length plan ≡ length left → zip_with f left plan ≡ plan_by f left plan
unfolding plan_by zip_with
zip-plan_by f [] [] e = refl
zip-plan_by f [] (p ∷ plan) e = absurd (omega arith)
zip-plan_by f (s ∷ left) [] e = refl
zip-plan_by f (s ∷ left) (p ∷ plan) e = ap (λ l. f s p ∷ l) (zip-plan_by f left plan (omega arith))

-- counts that are 0 from m on
module _ (f : ℕ → ℕ) (m : ℕ) (none : (t : ℕ) → m ≤ t → f t ≡ 0) where
  largest-to : (k : ℕ) → largest f (m + k) ≡ largest f m
  unfolding largest
  largest-to zero = ap (largest f) (omega arith)
  largest-to (suc k) =
      let e : m + suc k ≡ suc (m + k) = omega arith in
      rw e (omega (arith, largest-to k, none (m + k) (omega arith)))

  busy-to : (n k : ℕ) → busy_tips f n (m + k) ≡ busy_tips f n m
  unfolding set_of
  busy-to n zero = ap (busy_tips f n) (omega arith)
  busy-to n (suc k) =
      let e : m + suc k ≡ suc (m + k) = omega arith in
      rw (e, none (m + k) (omega arith)) (omega (arith, busy-to n k))

-- the placements of the first i lines are counted
pub record CountedTo (i : ℕ) (qs lines counts : List ℕ) : Type 0 where
  pub size : length counts ≡ 8
  pub counted : (t : ℕ) → t < 8 → count_in counts t ≡ weighted (λ s. has s t) (take i qs) (take i lines)

pub uncounted : (qs lines : List ℕ) → CountedTo 0 qs lines (replicate 8 0)
unfolding weighted
uncounted qs lines = record { size = refl; counted = λ t l. get_or-replicate 8 t 0 0 l }

module _ {qs lines : List ℕ} (k : Countable qs lines) {i : ℕ} {counts : List ℕ} (c : CountedTo i qs lines counts) where
  module _ (l : i < length lines) where
    -- the next line's quantity more is still few
    pub counted_room : HasRoom (get_or qs i 0) counts
    counted_room t h =
        let part = weighted_le (λ s. has s t) (take i qs) (take i lines) in
        omega (arith, c.counted t h, k.few, k.same, part, total-more qs i (omega (arith, k.same)), total-take_le qs (i + 1))

    pub counted_more : (counts' : List ℕ) → length counts' ≡ 8 → AddsLine (get_or qs i 0) (get_or lines i 0) counts counts'
        → CountedTo (i + 1) qs lines counts'
    counted_more counts' e a = record {
      size = e;
      counted = λ t h.
          a t h ∙ ap (λ n. n + cond (has (get_or lines i 0) t) (get_or qs i 0) 0) (c.counted t h)
          ∙ sym (weighted-more (λ s. has s t) qs lines k.same i l);
    }

  pub counted_all : length lines ≤ i → CountsOf (repeated qs lines) counts
  counted_all h = record {
    size = c.size;
    counted = λ t l.
        c.counted t l ∙ ap₂ (weighted (λ s. has s t)) (take_all i qs (omega (arith, k.same))) (take_all i lines h)
        ∙ sym (occ-repeated qs lines t);
  }

module _ {m : ℕ} {lines counts : List ℕ} (ds : All (Domain m) lines) (narrow : m ≤ 8) (c : CountsOf lines counts) where
  -- no line has a tip from m on
  beyond : (t : ℕ) → m ≤ t → count_in counts t ≡ 0
  beyond t h =
      ⊎_elim
      (λ (l : 8 ≤ t). get_or_past counts t 0 (omega (arith, c.size)))
      (λ l. ⊎_elim (λ z. omega (arith, c.counted t l)) (λ p. absurd (omega (arith, occ-below ds t p))) (le_or_lt (occ lines t) 0))
      (le_or_lt 8 t)

  pub largest-few : largest (count_in counts) 8 ≡ largest (count_in counts) m
  largest-few =
      let eight : m + (8 - m) ≡ 8 = omega arith in
      ap (largest (count_in counts)) (sym eight) ∙ largest-to (count_in counts) m beyond (8 - m)

  pub busy-few : (n : ℕ) → busy_tips (count_in counts) n 8 ≡ busy_tips (count_in counts) n m
  busy-few n =
      let eight : m + (8 - m) ≡ 8 = omega arith in
      ap (busy_tips (count_in counts) n) (sym eight) ∙ busy-to (count_in counts) m beyond n (8 - m)

-- a round begins
module _ {mounted : Mounted} {m shared : ℕ} {qs lines left plan : List ℕ} (st : State mounted m qs lines left plan shared)
    (good : GoodLines m qs lines) where
  pub few_countable : Countable qs left
  few_countable = record { same = good.same ∙ sym st.size; few = good.few }

  module _ (narrow : m ≤ 8) {counts : List ℕ} (c : CountsOf (repeated qs left) counts) where
    to_count : CountsOf (to_plan qs left) counts
    to_count = record { size = c.size; counted = λ t l. c.counted t l ∙ occ-to_plan qs left t }

    pub few_begins : {most : ℕ} → most ≡ largest (count_in counts) 8 → Begun mounted m qs lines left plan (count_in counts) shared most
    few_begins e = record {
      state = st;
      counted = λ t l. c.counted t (omega arith);
      good = good;
      is_most = e ∙ largest-few st.domains narrow to_count;
    }

    pub few_chooses : {most tips tip : ℕ} → most ≡ largest (count_in counts) 8 → (most ≡ 0 → ⊥) → tips ≡ busy_tips (count_in counts) most 8
        → tip ≡ chosen mounted tips → Chosen mounted m qs lines left plan (count_in counts) shared most tip
    few_chooses {most} e some t is = chooses (few_begins e) some (t ∙ busy-few st.domains narrow to_count most) is
