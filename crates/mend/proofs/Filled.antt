-- A buffer that is filled from a place on: how it begins, where there is room, and some bytes more.
use Prim.Native.Nat.{ℕ, ◌+◌, ◌≤◌}
use native.Mathlib.Omega.{arith}
use mathlib.Core.Path.{◌≡◌, refl, sym, ap, ◌∙◌}
use mathlib.Core.List.{List, [], ◌++◌, append_assoc}
use lib.ListN.{length, take, drop, length-append}
use lib.Seq.{length-take-le, drop_at}
use Rattle.job.specs.Job.{header_length, header_of}
use Rattle.job.proofs.HeaderLaws.{length-header_of}
use Rattle.text.specs.Buffer.{put, Put, Printed}
use Rattle.text.proofs.Buffer.{start, both}

-- the bytes done stand from base on in out, which was old before, and at is the place after them
pub record Filled (base at : ℕ) (done old out : List ℕ) : Type 0 where
  pub put : Put old base done at out
  pub same : length out ≡ length old

pub fill_start : (base : ℕ) (out : List ℕ) → Filled base base [] out out
fill_start base out = record { put = start; same = refl }

module _ {base at : ℕ} {done old out : List ℕ} (p : Filled base at done old out) (xs whole : List ℕ) (e : whole ≡ done ++ xs)
    (room : base + length whole ≤ length old) where
  pub fill_room : at + length xs ≤ length out
  fill_room = omega (arith, ap length e, length-append done xs, p.put.place, p.same)

  pub fill_next : {next : ℕ} {out' : List ℕ} → Put out at xs next out' → length out' ≡ length out → Filled base next whole old out'
  fill_next q same = record { put = rw e (both (omega arith) p.put q); same = same ∙ p.same }

-- the header is put before what stands behind its place
pub headed : (v m n : ℕ) (lines : List ℕ) {at : ℕ} {out out' last : List ℕ} → header_length ≤ length out → Put out header_length lines at out'
    → last ≡ header_of v m n ++ drop header_length out' → Printed (header_of v m n ++ lines) out at last
unfolding put
headed v m n lines {at} {out} h p e =
    let head = header_of v m n in
    let rest = drop (header_length + length lines) out in
    let whole : length (head ++ lines) ≡ header_length + length lines =
    length-append head lines ∙ ap (λ k. k + length lines) (length-header_of v m n) in
    let behind : drop header_length (take header_length out ++ lines ++ rest) ≡ lines ++ rest =
    ap (drop header_length) (append_assoc (take header_length out) lines rest)
    ∙ drop_at (take header_length out) (lines ++ rest) header_length (length-take-le header_length out h) in
    record {
      size = p.place ∙ sym whole;
      bytes = e ∙ ap (λ b. head ++ b) (ap (drop header_length) p.bytes ∙ behind) ∙ sym (append_assoc head lines rest)
          ∙ ap (λ k. (head ++ lines) ++ drop k out) (sym whole);
    }
