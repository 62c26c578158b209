-- The rows with the rules added, one after the other.
use Prim.Native.Nat.{ℕ, ◌+◌, ◌≤◌, ◌<◌}
use native.Mathlib.Omega.{arith}
use mathlib.Core.Path.{◌≡◌, refl, ap, sym, ◌∙◌}
use mathlib.Core.Logic.{⊎_elim}
use mathlib.Core.Bool.{not, ◌&&◌, ◌||◌, or-false, or_assoc, or_comm, and-true, and-false}
use mathlib.Core.List.{List, [], ◌∷◌, ◌++◌}
use lib.Dec.{T, ltb, eqb, eqb→eq, ltb→lt}
use lib.ListN.{length, get_or, set, take, length-set}
use lib.Seq.{length-take-le, get_or-take, take_all}
use Rattle.std.proofs.lemmas.List.{take_more}
use Rattle.model.specs.Count.{first_fail}
use Rattle.model.proofs.Tests.{le_or_lt, test, true_T, false_T, and_left, and_right}
use Rattle.order_rules.specs.declared.Part.{Part}
use Rattle.order_rules.specs.declared.Rule.{Rule}
use Rattle.order_rules.specs.Parts.{no_rule, names, ruled, before, rule_ok}
use Rattle.flat_order.specs.declared.sets.PartSet.{PartSet}
use Rattle.flat_order.specs.Sets.{has_part, single, joined}
use Rattle.flat_order.specs.Flat.{row_at}
use Rattle.placing.specs.Rows.{has_row, Marked, RowsFor}
use Rattle.placing.specs.Given.{Started}
use Rattle.flat_order.proofs.Members.{has-single, has-joined}
use Rattle.flat_order.proofs.Below.{row-set}
use Rattle.placing.proofs.Flagged.{fail_is}

-- a rule that is good names parts below n
pub rule_parts : (n : ℕ) (r : Rule) → T (rule_ok n r) → (r.earlier < n) × (r.later < n)
unfolding rule_ok
rule_parts n r u =
    let e = ltb r.earlier n in
    let l = ltb r.later n in
    let w = and_left (e && l) (not (eqb r.earlier r.later)) u in
    (ltb→lt r.earlier n (and_left e l w), ltb→lt r.later n (and_right e l w))

-- one mark more
marked-has : (rows : List PartSet) (r : Rule) → r.later < length rows → (a b : ℕ)
    → has_row (set rows r.later (joined (row_at rows r.later) (single r.earlier))) a b ≡ (has_row rows a b || names r a b)
marked-has rows r l a b =
    ap (λ s. has_part s a) (row-set rows r.later b _ l)
    ∙ ⊎_elim
    (λ u. let e = eqb→eq r.later b u in
    rw (true_T (eqb r.later b) u, ← e) (has-joined (row_at rows r.later) (single r.earlier) a
    ∙ rw (has-single r.earlier a, and-true (eqb r.earlier a))))
    (λ u. rw (false_T (eqb r.later b) u, and-false (eqb r.earlier a)) (sym (or-false (has_row rows a b))))
    (test (eqb r.later b))

-- one rule more
ruled-push : (rules : List Rule) (r : Rule) (a b : ℕ) → ruled (rules ++ r ∷ []) a b ≡ (ruled rules a b || names r a b)
unfolding ruled
ruled-push [] r a b = or-false (names r a b)
ruled-push (s ∷ rules) r a b = ap (λ t. names s a b || t) (ruled-push rules r a b) ∙ sym (or_assoc (names s a b) (ruled rules a b) (names r a b))

pub marked_none : (n : ℕ) (rows : List PartSet) → Marked n rows rows []
unfolding ruled
marked_none n rows = record { size = refl; good = λ k l. absurd (omega arith); more = λ a b. sym (or-false (has_row rows a b)) }

module _ (n : ℕ) (old rows : List PartSet) (rules : List Rule) (i : ℕ) (l : i < length rules) (m : Marked n old rows (take i rules)) where
  -- the rules before are good
  pub marked_good : (k : ℕ) → k < i → T (rule_ok n (get_or rules k no_rule))
  marked_good k h =
      let e = length-take-le i rules (omega arith) in
      rw (get_or-take i rules k no_rule h) at (m.good k (omega (arith, e)))

  pub marked_more : (r : Rule) → r ≡ get_or rules i no_rule → T (rule_ok n r) → n ≤ length old
      → Marked n old (set rows r.later (joined (row_at rows r.later) (single r.earlier))) (take (i + 1) rules)
  marked_more r e t h = record {
    size = length-set rows r.later _ ∙ m.size;
    good = λ k q. let z = length-take-le (i + 1) rules (omega arith) in
        rw (get_or-take (i + 1) rules k no_rule (omega (arith, z))) (⊎_elim
        (λ (y : i ≤ k). let s : k ≡ i = omega (arith, z) in rw (s, ← e) t)
        (λ (y : k < i). marked_good k y)
        (le_or_lt i k));
    more = λ a b. marked-has rows r (omega (arith, m.size, rule_parts n r t)) a b
        ∙ rw (m.more a b, take_more rules i no_rule l, ruled-push (take i rules) (get_or rules i no_rule) a b, ← e)
        (or_assoc (has_row old a b) (ruled (take i rules) a b) (names r a b));
  }

  -- the first rule that is bad
  pub marked_bad : (r : Rule) → r ≡ get_or rules i no_rule → T (not (rule_ok n r)) → i ≡ first_fail (rule_ok n) rules
  marked_bad r e t = fail_is (rule_ok n) no_rule rules i (omega arith) marked_good (λ _. rw (← e) t)

-- all rules
pub marked_all : (n : ℕ) (old rows : List PartSet) (rules : List Rule) (i : ℕ) → i ≡ length rules → Marked n old rows (take i rules)
    → Marked n old rows rules
marked_all n old rows rules i e m = rw (take_all i rules (omega arith)) at m

pub all_good : (n : ℕ) (old rows : List PartSet) (rules : List Rule) → Marked n old rows rules → length rules ≤ first_fail (rule_ok n) rules
all_good n old rows rules m = omega (arith, fail_is (rule_ok n) no_rule rules (length rules) (omega arith) m.good (λ h. absurd (omega arith)))

-- the rows by the flags, with all rules added
pub rows_for : (parts : List Part) (rules : List Rule) (start rows : List PartSet) → Started parts start → Marked (length parts) start rows rules
    → RowsFor parts rules rows
unfolding before
rows_for parts rules start rows s m = record {
  has = λ a b h k. m.more a b ∙ or_comm (has_row start a b) (ruled rules a b) ∙ ap (λ f. ruled rules a b || f) (s.flags a b h k);
}
