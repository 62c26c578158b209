use Rattle.std.proofs.Common.{sym, ◌∙◌}
use borrow.Author.Tests.{eqb-true, eqb-false}
use Rattle.number_calls.proofs.Numbered.{broken_parts, broken_rules, whole}
use Rattle.number_calls.proofs.records.records_of.Goals.{then-not-is_empty-via-then-not-is_empty}
use Rattle.number_calls.proofs.records.records_of.Goals.{then-not-is_empty-via-else-not-is_empty+then-not-is_empty-2}
use Rattle.number_calls.proofs.records.records_of.Goals as goal

pub returns-then-not-is_empty-clause-refusal : goal.returns-then-not-is_empty-clause-refusal
returns-then-not-is_empty-clause-refusal c =
    let four = c.as_chunks.ensures.back_len in
    let two = c.as_chunks-2.ensures.back_len in
    rw c.at.ensures (elim c.then-not-is_empty.branch [
      | then-not-is_empty-via-then-not-is_empty w ↦
          broken_parts _ _ (λ z. eqb-false _ 0 (sym c.is_empty.ensures ∙ w.if-not-is_empty.true) (four ∙ z))
      | then-not-is_empty-via-else-not-is_empty+then-not-is_empty-2 w ↦
          broken_rules _ _ (sym four ∙ eqb-true _ 0 (sym c.is_empty.ensures ∙ w.if-not-is_empty.false))
          (λ z. eqb-false _ 0 (sym w.is_empty-else-not-is_empty.ensures ∙ w.if-not-is_empty-2.true) (two ∙ z))
    ])

pub returns-clause-refusal : goal.returns-clause-refusal
returns-clause-refusal c =
    whole _ _ (sym c.as_chunks.ensures.back_len ∙ eqb-true _ 0 (sym c.is_empty.ensures ∙ c.if-not-is_empty.false))
    (sym c.as_chunks-2.ensures.back_len ∙ eqb-true _ 0 (sym c.is_empty-else-not-is_empty.ensures ∙ c.if-not-is_empty-2.false))
