-- Laws of the parts and the rules that plain numbers stand for.
use Prim.Native.Nat.{ℕ, zero, suc, ◌+◌, ◌*◌, ◌<◌, ◌/◌, ◌%◌}
use native.Mathlib.Omega.{arith}
use mathlib.Core.Path.{◌≡◌, refl, sym, ap, ◌∙◌}
use mathlib.Core.List.{List, []}
use lib.ListN.{length, get_or, drop}
use Rattle.model.specs.Count.{list_of}
use Rattle.std.specs.Simd.{first_chunks}
use Rattle.std.proofs.lemmas.List.{get_or-drop}
use lib.Seq.{get_or-take}
use borrow.Author.Tests.{eq-eqb, ne_eqb}
use Rattle.model.proofs.ListOf.{listed, listed_at}
use Rattle.refusal.specs.Told.{Refusal}
use Rattle.refusal.specs.Refusal as R
use Rattle.refusal.proofs.Laws.{or_first, or_next, refused, accepted, number_not}
use Rattle.order_rules.specs.declared.Part.{Part}
use Rattle.order_rules.specs.declared.Rule.{Rule}
use Rattle.order_rules.specs.Parts.{no_part, no_rule}
use Rattle.number_calls.specs.Numbers.{part_of_numbers, parts_in, rule_in, rules_in, numbers_refusal, order_in, order_after_in, PlacingRuleIn}
use Rattle.placing.specs.Rows.{Gives, GivesParts, GivesRules, Placed}
use Rattle.order_rules.specs.Call.{order_refusal}
use Rattle.order_rules.proofs.Ruling.{placing_rule}

length-first_chunks : (n k : ℕ) (xs : List ℕ) → length (first_chunks n k xs) ≡ k
length-first_chunks n zero xs = refl
length-first_chunks n (suc k) xs = ap suc (length-first_chunks n k (drop n xs))

-- a number of a record, where the numbers are read as records of n
in_record : (n k i j : ℕ) (xs : List ℕ) → i < k → j < n → get_or (get_or (first_chunks n k xs) i []) j 0 ≡ get_or xs (i * n + j) 0
in_record n zero i j xs h l = absurd (omega arith)
in_record n (suc k) zero j xs h l = get_or-take n xs j 0 l ∙ ap (λ q. get_or xs q 0) (omega arith)
in_record n (suc k) (suc i) j xs h l =
    let e : n + (i * n + j) ≡ suc i * n + j = grind arith in
    in_record n k i j (drop n xs) (omega arith) l ∙ get_or-drop n xs (i * n + j) 0 ∙ ap (λ q. get_or xs q 0) e

pub part_in_record : (numbers : List ℕ) (i : ℕ) → i < length numbers / 4
    → part_of_numbers (get_or (first_chunks 4 (length numbers / 4) numbers) i []) 0 ≡ part_of_numbers numbers i
unfolding part_of_numbers
part_in_record numbers i h =
    let at = in_record 4 (length numbers / 4) i in
    let e : i * 4 + 0 ≡ i * 4 = omega arith in
    rw (at 0 numbers h (omega arith), at 1 numbers h (omega arith), at 2 numbers h (omega arith), at 3 numbers h (omega arith), e) refl

pub rule_in_record : (numbers : List ℕ) (i : ℕ) → i < length numbers / 2
    → rule_in (get_or (first_chunks 2 (length numbers / 2) numbers) i []) 0 ≡ rule_in numbers i
unfolding rule_in
rule_in_record numbers i h =
    let at = in_record 2 (length numbers / 2) i in
    let e : i * 2 + 0 ≡ i * 2 = omega arith in
    rw (at 0 numbers h (omega arith), at 1 numbers h (omega arith), e) refl

-- what is told where the numbers are not four a part and two a rule
abbrev pub misfit_told : Refusal
misfit_told = R.refuse 101

module _ (parts rules : List ℕ) where
  pub broken_parts : (length parts % 4 ≡ 0 → ⊥) → misfit_told ≡ numbers_refusal parts rules
  unfolding numbers_refusal
  broken_parts h = rw (ne_eqb (length parts % 4) 0 h)

  pub broken_rules : length parts % 4 ≡ 0 → (length rules % 2 ≡ 0 → ⊥) → misfit_told ≡ numbers_refusal parts rules
  unfolding numbers_refusal
  broken_rules e h = rw (eq-eqb (length parts % 4) 0 e, ne_eqb (length rules % 2) 0 h)

  pub whole : length parts % 4 ≡ 0 → length rules % 2 ≡ 0 → R.none ≡ numbers_refusal parts rules
  unfolding numbers_refusal
  whole e h = rw (eq-eqb (length parts % 4) 0 e, eq-eqb (length rules % 2) 0 h)

-- the refusal of numbers that are not four a part and two a rule, and of others
module _ (parts rules : List ℕ) (room : ℕ) where
  pub misfit_in : {r : Refusal} → r ≡ numbers_refusal parts rules → (r.number ≡ 0 → ⊥) → r ≡ order_in parts rules room
  unfolding order_in
  misfit_in e n = or_first e _ n

  pub fit_in : R.none ≡ numbers_refusal parts rules → {r : Refusal} → r ≡ order_refusal (parts_in parts) (rules_in rules) room
      → r ≡ order_in parts rules room
  unfolding order_in
  fit_in passed e = or_next passed _ refl e

-- the answer of the placing order then
module _ (parts rules buffer : List ℕ) where
  pub record Answers (r : Refusal) (out : List ℕ) : Type 0 where
    pub refusal : r ≡ order_in parts rules (length buffer)
    pub order : out ≡ order_after_in parts rules buffer
    pub rule : PlacingRuleIn parts rules (length buffer) out r

  pub misfit : {r : Refusal} → r ≡ numbers_refusal parts rules → (r.number ≡ 0 → ⊥) → Answers r buffer
  unfolding order_after_in
  misfit e n = record {
    refusal = misfit_in parts rules (length buffer) e n;
    order = sym (refused _ _ e n);
    rule = λ z. absurd (number_not e n z);
  }

  pub fit_answer : R.none ≡ numbers_refusal parts rules → {r : Refusal} {out : List ℕ}
      → Placed (parts_in parts) (rules_in rules) buffer out r → Answers r out
  unfolding order_after_in
  fit_answer passed {r} {out} p = record {
    refusal = fit_in parts rules (length buffer) passed p.refusal;
    order = p.order ∙ sym (accepted _ _ passed refl);
    rule = λ _. rw (p.refusal, p.order) (placing_rule (parts_in parts) (rules_in rules) buffer);
  }

-- what a function answers for the records is what the numbers stand for
module _ {A : Type 0} (absent : A) (size : ℕ) (read : List ℕ → ℕ → A) (numbers : List ℕ)
    (in_record : (i : ℕ) → i < length numbers / size
    → read (get_or (first_chunks size (length numbers / size) numbers) i []) 0 ≡ read numbers i) where
  records_given : {records : List (List ℕ)} {post : ℕ → A → Type 0} → records ≡ first_chunks size (length numbers / size) numbers
      → ((i : ℕ) (r : A) → i < length records → post i r → r ≡ read (get_or records i []) 0)
      → Gives absent post (length records) (list_of (read numbers) (length numbers / size))
  records_given {records} e given =
      let n = length numbers / size in
      let count : length records ≡ n = ap length e ∙ length-first_chunks size n numbers in
      record {
        size = listed (read numbers) n ∙ sym count;
        each = λ i r h q. given i r h q ∙ ap (λ x. read (get_or x i []) 0) e ∙ in_record i (omega (arith, count))
            ∙ sym (listed_at (read numbers) n i absent (omega (arith, count)));
      }

pub parts_given : (numbers : List ℕ) {records : List (List ℕ)} {post : ℕ → Part → Type 0} → records ≡ first_chunks 4 (length numbers / 4) numbers
    → ((i : ℕ) (r : Part) → i < length records → post i r → r ≡ part_of_numbers (get_or records i []) 0)
    → GivesParts post (length records) (parts_in numbers)
parts_given numbers = records_given no_part 4 part_of_numbers numbers (part_in_record numbers)

pub rules_given : (numbers : List ℕ) {pairs : List (List ℕ)} {post : ℕ → Rule → Type 0} → pairs ≡ first_chunks 2 (length numbers / 2) numbers
    → ((i : ℕ) (r : Rule) → i < length pairs → post i r → r ≡ rule_in (get_or pairs i []) 0) → GivesRules post (length pairs) (rules_in numbers)
rules_given numbers = records_given no_rule 2 rule_in numbers (rule_in_record numbers)
