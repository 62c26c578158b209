-- THE JOB FILE OF THE BASE, by its own definitions in specs/Format, is the one that job/specs/Before has.
use Prim.Native.Nat.{ℕ, suc, ◌+◌, ◌*◌, ◌^◌}
use native.Mathlib.Omega.{arith}
use native.Mathlib.Nat.{mul_assoc, add-mul, pow-succ'}
use mathlib.Core.Path.{◌≡◌, refl, ap, ◌∙◌}
use mathlib.Core.List.{List, [], ◌∷◌, ◌++◌}
use lib.ListN.{length, take, drop}
use Rattle.model.specs.Count.{list_of}
use Rattle.model.specs.Plan.{in_rack, is_domain, rack_ok}
use Rattle.model.proofs.ListOf.{list_of_cong}
use Rattle.job.specs.Job.{bytes_of, number_of, number_at, set_length, header_of, count_in}
use Rattle.job.specs.Before.{bytes_of_sets, plain_file_of, plain_sets_in, plain_header_number, set_number, plain_refusal}
use Rattle.call_refusals.specs.Before.{set_before}
use Rattle.board_laws.specs.Format.{joined, found, sets_found, header_found, file_refusal_before, bytes_before, file_before}

joined_is : (x : ℕ) (bytes : List ℕ) → joined x bytes ≡ x * 256 ^ length bytes + number_of bytes
unfolding joined number_of
joined_is x [] = omega arith
joined_is x (b ∷ bytes) =
    let c = 256 ^ length bytes in
    let e : (x * 256 + b) * c ≡ x * (256 * c) + b * c = omega (arith, add-mul (x * 256) b c, mul_assoc x 256 c) in
    let q : x * 256 ^ suc (length bytes) ≡ x * (256 * c) = ap (λ k. x * k) (pow-succ' 256 (length bytes)) in
    joined_is (x * 256 + b) bytes ∙ omega (arith, e, q)

pub found_is : (w : ℕ) (file : List ℕ) (i : ℕ) → number_at w file i ≡ found w file i
unfolding number_at
found_is w file i = omega (arith, joined_is 0 (take w (drop i file)))

pub sets-found : (file : List ℕ) → plain_sets_in file ≡ sets_found file
unfolding plain_sets_in sets_found
sets-found file =
    list_of_cong _ _ (count_in file) (λ i _. found_is 8 file (8 + 8 * i))
    ∙ ap (list_of (λ i. found 8 file (8 + 8 * i))) (found_is 2 file 6)

pub file-refusal : (file : List ℕ) → plain_refusal file ≡ file_refusal_before file
unfolding plain_refusal plain_header_number rack_ok is_domain in_rack set_number set_before file_refusal_before header_found
file-refusal file =
    rw (← sets-found file, ← found_is 3 file 0, ← found_is 2 file 3, ← found_is 1 file 5, ← found_is 2 file 6) refl

bytes-before : (sets : List ℕ) → bytes_of_sets sets ≡ bytes_before sets
unfolding bytes_of_sets bytes_before bytes_of
bytes-before [] = refl
bytes-before (s ∷ sets) = ap (λ l. bytes_of set_length s ++ l) (bytes-before sets)

pub file-before : (m : ℕ) (sets : List ℕ) → plain_file_of m sets ≡ file_before m sets
unfolding plain_file_of file_before header_of bytes_of
file-before m sets = ap (λ l. header_of 1 m (length sets) ++ l) (bytes-before sets)
