use Rattle.std.proofs.Common.{◌≡◌, ℕ, ◌+◌, ◌*◌, ◌^◌, ◌<◌, ◌≤◌, List, length, take, get_or, ap, refl, ◌∙◌, arith, add-one}
use native.Mathlib.Nat.{pow-succ'}
use lib.Seq.{take_all}
use Rattle.std.proofs.Math.Nat.{pow-le-pow_right}
use Rattle.job.specs.Job.{number_at, number_of}
use Rattle.job.proofs.Numbers.{number_parts, number_one}
use Rattle.job_read.proofs.set_by_bytes.Goals as goal

pub loop-byte-init : goal.loop-byte-init
unfolding number_of
loop-byte-init c = record { number = refl; small = omega arith }

-- a number of at most seven bytes has room for one more
seven : (k x : ℕ) → k < 8 → x < 256 ^ k → x < 256 ^ 7
seven k x h small = let few : k ≤ 7 = omega arith in omega (arith, pow-le-pow_right {n = 256} (omega arith) few)

pub overflow_mul-set : goal.overflow_mul-set
overflow_mul-set c = omega (arith, seven c.loop-byte.byte-index c.loop-byte.set (omega arith) c.loop-byte.invariant.small)

pub overflow_add-set : goal.overflow_add-set
overflow_add-set c = omega (arith, seven c.loop-byte.byte-index c.loop-byte.set (omega arith) c.loop-byte.invariant.small)

-- one byte more
more : (k : ℕ) (bytes : List ℕ) → k < length bytes → number_of (take (k + 1) bytes) ≡ number_of (take k bytes) * 256 + get_or bytes k 0
unfolding number_at
more k bytes h =
    let at : 0 + k ≡ k = omega arith in
    let parts : number_of (take k bytes) * 256 ^ 1 + number_at 1 bytes k ≡ number_of (take (k + 1) bytes) =
    rw at at (number_parts k 1 bytes 0 (omega arith)) in
    omega (arith, parts, number_one bytes k h)

pub loop-byte-preserved : goal.loop-byte-preserved
loop-byte-preserved c =
    let k = c.loop-byte.byte-index in
    record {
      number = omega (arith, more k c.args.bytes.now (omega arith), c.loop-byte.invariant.number);
      small = rw add-one (omega (arith, pow-succ' 256 k, c.loop-byte.invariant.small));
    }

pub returns : goal.returns
returns c = c.loop-byte.invariant.number ∙ ap number_of (take_all c.loop-byte.byte-index c.args.bytes.now (omega arith))
