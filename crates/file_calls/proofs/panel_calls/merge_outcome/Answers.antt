use mathlib.Core.Path.{◌≡◌}
use Rattle.std.proofs.Common.{rules, Err}
use Rattle.model.proofs.Lists.{all_get_d}
use Rattle.refusal.proofs.Laws.{or_err, or_ok}
use Rattle.file_calls.proofs.TwoFiles.{merge_in, merge-refused, reads-refused, merge-ruled}
use Rattle.file_calls.proofs.CasesTold.{merge_told}
use Rattle.file_calls.proofs.panel_calls.merge_outcome.Goals as goal

pub returns-in_err-opened : goal.returns-in_err-opened
returns-in_err-opened c =
    let a = c.args in
    let e = c.in_err-opened.field-0.0 in
    let same : c.from_residual.result ≡ Err e = search rules in
    let told = reads-refused a.first.now a.second.now e (or_err _ e c.in_err-opened.ensures.refusal) in
    let bytes = all_get_d 0 a.first.now (λ i l. (c.type_inv.first i).fits) in
    let second-bytes = all_get_d 0 a.second.now (λ i l. (c.type_inv.second i).fits) in
    let (outcome, (out, rule)) = merge-refused a.first.now a.second.now e told a.out.now bytes second-bytes in
    let told = merge_told a.first.now a.second.now _ outcome in
    rw same (record { outcome = outcome; out = out; rule = rule; cases = told })

pub returns-in_err-other : goal.returns-in_err-other
returns-in_err-other c =
    let a = c.args in
    let e = c.in_err-other.field-0.0 in
    let same : c.from_residual-in_err-other.result ≡ Err e = search rules in
    let told = reads-refused a.first.now a.second.now e (or_ok _ c.in_ok-opened.ensures.refusal c.in_err-other.ensures.refusal) in
    let bytes = all_get_d 0 a.first.now (λ i l. (c.type_inv.first i).fits) in
    let second-bytes = all_get_d 0 a.second.now (λ i l. (c.type_inv.second i).fits) in
    let (outcome, (out, rule)) = merge-refused a.first.now a.second.now e told a.out.now bytes second-bytes in
    let told = merge_told a.first.now a.second.now _ outcome in
    rw same (record { outcome = outcome; out = out; rule = rule; cases = told })

pub returns-in_err-bytes : goal.returns-in_err-bytes
returns-in_err-bytes c =
    let a = c.args in
    let e = c.in_err-bytes.field-0.0 in
    let same : c.from_residual-in_err-bytes.result ≡ Err e = search rules in
    let read = c.in_ok-opened.ensures in
    let other = c.in_ok-other.ensures in
    let wrote = rw (read.same, other.same) at c.in_err-bytes.ensures in
    let (outcome, out) = merge_in a.first.now a.second.now read.refusal other.refusal a.out.now wrote.answer wrote.buffer in
    let bytes = all_get_d 0 a.first.now (λ i l. (c.type_inv.first i).fits) in
    let second-bytes = all_get_d 0 a.second.now (λ i l. (c.type_inv.second i).fits) in
    let rule = merge-ruled a.first.now a.second.now a.out.now bytes second-bytes outcome out in
    let told = merge_told a.first.now a.second.now _ outcome in
    rw same (record { outcome = outcome; out = out; rule = rule; cases = told })

pub returns : goal.returns
returns c =
    let a = c.args in
    let read = c.in_ok-opened.ensures in
    let other = c.in_ok-other.ensures in
    let wrote = rw (read.same, other.same) at c.in_ok-bytes.ensures in
    let (outcome, out) = merge_in a.first.now a.second.now read.refusal other.refusal a.out.now wrote.answer wrote.buffer in
    let bytes = all_get_d 0 a.first.now (λ i l. (c.type_inv.first i).fits) in
    let second-bytes = all_get_d 0 a.second.now (λ i l. (c.type_inv.second i).fits) in
    let rule = merge-ruled a.first.now a.second.now a.out.now bytes second-bytes outcome out in
    let told = merge_told a.first.now a.second.now _ outcome in
    rw c.one.ensures (record { outcome = outcome; out = out; rule = rule; cases = told })
