use Rattle.std.proofs.Common.{◌≡◌, ℕ, ◌+◌, ◌-◌, ◌++◌, take, drop, ap, ap₂, sym, ◌∙◌, append_assoc, arith}
use Rattle.std.specs.Int.{w64, to_be_bytes}
use native.Mathlib.Nat.{div-one}
use lib.Seq.{drop-drop}
use Rattle.job.specs.Job.{set_length, bytes_of}
use Rattle.job_write.proofs.put_set.Goals as goal

set_bytes : (x : ℕ) → to_be_bytes w64 x ≡ bytes_of set_length x
unfolding bytes_of
set_bytes x = simp div-one

pub returns : goal.returns
returns c =
    let a = c.args in
    let out = a.out.now in
    let rest : a.at + set_length - a.at ≡ set_length = omega arith in
    ap₂ (λ bytes behind. take a.at out ++ (bytes ++ behind))
    (c.copy_from_slice.ensures.after ∙ c.to_be_bytes.ensures ∙ set_bytes a.set)
    (ap (λ k. drop k (drop a.at out)) rest ∙ drop-drop set_length a.at out)
    ∙ sym (append_assoc (take a.at out) (bytes_of set_length a.set) (drop (a.at + set_length) out))
