use Rattle.std.proofs.Common.{◌≡◌, ℕ, [], ◌∷◌, ◌++◌, get_or, drop, ap}
use Rattle.std.specs.Int.{w64, to_be_bytes}
use native.Mathlib.Nat.{div-one}
use Rattle.job.specs.declared.Version.{Version}
use Rattle.job.specs.declared.Version.TheVariants.{Plain, Counted}
use Rattle.job.specs.Job.{header_length, bytes_of, header_of}
use Rattle.job.specs.Header.{version_number}
use Rattle.job_write.proofs.put_header.Goals as goal

-- the mark, the two bytes of the version, and the last bytes of the other numbers
header_bytes : (v : Version) (m n : ℕ) →
    let at : ℕ → ℕ → ℕ = λ x i. get_or (to_be_bytes w64 x) i 0 in
    (84 ∷ 73 ∷ 80 ∷ 0 ∷ version_number v ∷ at m 7 ∷ at n 6 ∷ at n 7 ∷ []) ≡ header_of (version_number v) m n
unfolding header_of bytes_of
header_bytes Plain m n = simp div-one
header_bytes Counted m n = simp div-one

pub returns : goal.returns
returns c =
    let a = c.args in
    rw (
      c.copy_from_slice.ensures.after,
      c.to_be_bytes-rack.ensures,
      c.to_be_bytes-count.ensures,
      c.number.ensures,
    )
    (ap (λ l. l ++ drop header_length a.out.now) (header_bytes a.header.version a.header.rack a.header.count))
