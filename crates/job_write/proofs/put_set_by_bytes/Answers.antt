use Rattle.std.proofs.Common.{◌≡◌, ◌+◌, ◌-◌, ◌*◌, ◌/◌, ◌%◌, ◌^◌, get_or, take, drop, ap, sym, ◌∙◌, append_assoc, arith}
use Rattle.std.proofs.lemmas.List.Edits.{paste_none, paste_more, paste_all}
use Rattle.std.proofs.Math.Seq.{paste}
use Rattle.job.specs.Job.{set_length, bytes_of}
use Rattle.job.proofs.Numbers.{length-bytes_of, pow_bits, byte_there}
use Rattle.job_write.proofs.put_set_by_bytes.Goals as goal

pub loop-k-init : goal.loop-k-init
loop-k-init c = paste_none c.args.out.now c.args.at (bytes_of set_length c.args.set)

pub loop-k-preserved : goal.loop-k-preserved
loop-k-preserved c =
    let a = c.args in
    let k = c.loop-k.k in
    let bytes = bytes_of set_length a.set in
    let shift : 8 * (7 - k) ≡ 56 - 8 * k = omega arith in
    let byte : get_or bytes k 0 ≡ a.set / 2 ^ (56 - 8 * k) % 256 =
    byte_there a.set set_length k (7 - k) (omega arith) ∙ ap (λ p. a.set / p % 256) (pow_bits (7 - k) ∙ ap (λ n. 2 ^ n) shift) in
    rw (c.loop-k.invariant, sym byte)
    (paste_more a.out.now a.at bytes k 0 (omega arith) (omega (arith, length-bytes_of set_length a.set)))

pub returns : goal.returns
returns c =
    let a = c.args in
    let bytes = bytes_of set_length a.set in
    let all : c.loop-k.k ≡ set_length = omega arith in
    c.loop-k.invariant
    ∙ ap (paste a.out.now a.at bytes) all
    ∙ paste_all a.out.now a.at bytes set_length (sym (length-bytes_of set_length a.set))
    ∙ sym (append_assoc (take a.at a.out.now) bytes (drop (a.at + set_length) a.out.now))
