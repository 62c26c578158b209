-- Laws for writing: a line put into the output, and the version by the quantities and by the length.
use Prim.Native.Nat.{ℕ, suc, ◌+◌, ◌*◌, ◌%◌, ◌≤◌, ◌<◌}
use native.Mathlib.Omega.{arith}
use native.Mathlib.Nat.{div-one, mod-eq_of_lt}
use mathlib.Core.Path.{◌≡◌, refl, sym, ap, ap₂, ◌∙◌}
use mathlib.Core.Logic.{⊎_elim}
use mathlib.Core.Bool.{Bool, true, false, cond, ◌&&◌}
use mathlib.Core.List.{List, [], ◌∷◌, ◌++◌, append_assoc, append-nil}
use lib.Bits.{bit_or, bit_xor, or_add_and, xor_add_and, and_le_l, and_le_r}
use lib.Dec.{eqb, eqb→eq}
use lib.ListN.{length, take, drop, set}
use lib.Seq.{append_snoc, set_split, take-set-le, drop_at, length-take-le}
use borrow.Author.Tests.{eq-eqb, ne_eqb, eqb-true, eqb-false}
use Rattle.model.specs.Count.{none}
use Rattle.model.proofs.Tests.{and_left, and_right, same_test, eqb_T}
use Rattle.job.specs.Job.{bytes_of, header_length, set_length, counted, line_length, file_length, line_of, version_for}
use Rattle.job.proofs.Lines.{line, line_two}
use Rattle.job.proofs.Writing.{version-for, version_one}

-- ---- a line in the output

module _ (v s q p : ℕ) (out : List ℕ) (small : q < 256) (room : p + line_length v ≤ length out) where
  -- the output with the line in it; and with its set in another output
  abbrev with_line : List ℕ
  with_line = take p out ++ line_of v (line s q) ++ drop (p + line_length v) out

  abbrev with_set : List ℕ → List ℕ
  with_set put = take p put ++ bytes_of set_length s ++ drop (p + set_length) put

  byte_one : bytes_of 1 q ≡ q ∷ []
  unfolding bytes_of
  byte_one = ap (λ x. x ∷ []) (ap (λ x. x % 256) (div-one q) ∙ mod-eq_of_lt small)

  counted-line : v ≡ 2 → with_set (set out (p + set_length) q) ≡ with_line
  unfolding line_of line_length
  counted-line e =
      let at = p + set_length in
      let l : at < length out = omega (arith, room, line_two v e) in
      let front = take p out ++ bytes_of set_length s in
      let rest = drop (suc at) out in
      let next : suc at ≡ p + (set_length + 1) = omega arith in
      let behind = ap (drop at) (set_split out at q l) ∙ drop_at (take at out) (q ∷ rest) at (length-take-le at out (omega arith)) in
      ap₂ (λ a b. a ++ bytes_of set_length s ++ b) (take-set-le p out at q (omega arith)) behind
      ∙ sym (append_snoc front q rest)
      ∙ ap₂ (λ b k. front ++ b ++ drop k out) (sym byte_one) next
      ∙ ap (λ b. b ++ drop (p + (set_length + 1)) out) (append_assoc (take p out) (bytes_of set_length s) (bytes_of 1 q))
      ∙ rw e refl

  plain-line : (v ≡ 2 → ⊥) → with_set out ≡ with_line
  unfolding line_of line_length bytes_of
  plain-line n = rw (ne_eqb v 2 n) (ap (λ b. take p out ++ b ++ drop (p + set_length) out) (sym (append-nil (bytes_of set_length s))))

  -- its quantity is put where the version has quantities, then its set: the line
  pub line-put : {put last : List ℕ} → put ≡ cond (counted v) (set out (p + set_length) q) out → last ≡ with_set put → last ≡ with_line
  line-put e f = f ∙ ap with_set e ∙ by (counted v) refl
    where
      by : (b : Bool) → counted v ≡ b → with_set (cond b (set out (p + set_length) q) out) ≡ with_line
      by true t = counted-line (eqb-true v 2 t)
      by false t = plain-line (eqb-false v 2 t)

-- ---- the version

-- one quantity more: no bit is gathered exactly where it is 1 and none was before
pub others-more : (others q : ℕ) → eqb (bit_or others (bit_xor q 1)) 0 ≡ (eqb others 0 && eqb q 1)
others-more a q =
    same_test (eqb (bit_or a b) 0) (eqb a 0 && eqb q 1)
    (λ t. let z = eqb→eq (bit_or a b) 0 t in
    let e = or_add_and a b in
    let f = xor_add_and q 1 in
    rw (eq-eqb a 0 (omega (arith, z, e, and_le_r a b)), eq-eqb q 1 (omega (arith, z, e, and_le_l a b, f, and_le_r q 1))) tt)
    (λ t. let x = eqb→eq a 0 (and_left (eqb a 0) (eqb q 1) t) in
    let y = eqb→eq q 1 (and_right (eqb a 0) (eqb q 1) t) in
    eqb_T (bit_or a b) 0 (rw (x, y) refl))
  where
    b : ℕ
    b = bit_xor q 1

-- the length tells the version
no-quantities : (qs : List ℕ) → length qs ≡ 0 → version_for qs ≡ 1
no-quantities [] e = version_one none
no-quantities (q ∷ qs) e = absurd (omega arith)

pub version_by-length : (qs : List ℕ) (n bytes : ℕ) → length qs ≡ n → bytes ≡ file_length (version_for qs) n
    → cond (eqb bytes (file_length 1 n)) 1 2 ≡ version_for qs
unfolding line_length
version_by-length qs n bytes e l =
    ⊎_elim
    (λ v. let short : bytes ≡ file_length 1 n = l ∙ ap (λ k. file_length k n) v in
    rw (eq-eqb bytes (file_length 1 n) short) (sym v))
    (λ v. let long : bytes ≡ file_length 2 n = l ∙ ap (λ k. file_length k n) v in
    let other : bytes ≡ file_length 1 n → ⊥ = λ f. omega (arith, v, no-quantities qs (omega arith)) in
    rw (ne_eqb bytes (file_length 1 n) other) (sym v))
    (version-for qs)

-- version 1 is the shorter one
pub plain_shorter : (v n : ℕ) → file_length 1 n ≤ file_length v n
unfolding line_length
plain_shorter v n = by (counted v)
  where
    by : (b : Bool) → header_length + set_length * n ≤ header_length + (set_length + cond b 1 0) * n
    by true = omega arith
    by false = omega arith
