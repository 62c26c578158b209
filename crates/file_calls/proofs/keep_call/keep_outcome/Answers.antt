use Rattle.model.proofs.Lists.{all_get_d}
use Rattle.file_calls.proofs.KeptFile.{kept-ruled}
use Rattle.file_calls.proofs.CasesTold.{keep_told}
use Rattle.file_calls.proofs.keep_call.keep_outcome.Goals as goal

pub returns-then-is_plain-clause-rule : goal.returns-then-is_plain-clause-rule
returns-then-is_plain-clause-rule c =
    let a = c.args in
    let bytes = all_get_d 0 a.file.now (λ i l. (c.type_inv.file i).fits) in
    kept-ruled a.file.now a.k a.out.now bytes c.plain_keep.ensures.outcome c.plain_keep.ensures.out

pub returns-then-is_plain-clause-cases : goal.returns-then-is_plain-clause-cases
returns-then-is_plain-clause-cases c = keep_told c.args.file.now c.args.k _ c.plain_keep.ensures.outcome

pub returns-else-is_plain-clause-rule : goal.returns-else-is_plain-clause-rule
returns-else-is_plain-clause-rule c =
    let a = c.args in
    let bytes = all_get_d 0 a.file.now (λ i l. (c.type_inv.file i).fits) in
    kept-ruled a.file.now a.k a.out.now bytes c.counted_keep.ensures.outcome c.counted_keep.ensures.out

pub returns-else-is_plain-clause-cases : goal.returns-else-is_plain-clause-cases
returns-else-is_plain-clause-cases c = keep_told c.args.file.now c.args.k _ c.counted_keep.ensures.outcome
