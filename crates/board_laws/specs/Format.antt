-- The job file of the base: the mark "TIP", the version 1, the rack and the number of lines, in 3, 2, 1 and 2 bytes, then a set a line in 8. Numbers
-- are big-endian. It is written for itself, so that a change of today's format shows. For laws that say 'as before': no call's contract speaks of it.
use Rattle.std.specs.Prelude.{ℕ, ◌+◌, ◌*◌, ◌/◌, ◌%◌, ◌^◌, not, cond, ◌&&◌, List, [], ◌∷◌, ltb, leb, eqb, length, take, drop, get_or}
use Rattle.model.specs.Count.{list_of}
use Rattle.refusal.specs.Told.{Refusal}
use Rattle.refusal.specs.Refusal.{refuse, or_else, scan}
use Rattle.call_refusals.specs.Before.{set_before}

-- ---- reading

-- the number that the bytes stand for, after the number x of those before them
unfoldable pub joined : ℕ → List ℕ → ℕ
joined x [] = x
joined x (b ∷ bytes) = joined (x * 256 + b) bytes

-- the number that w bytes of the file from place i on stand for
abbrev pub found : ℕ → List ℕ → ℕ → ℕ
found w file i = joined 0 (take w (drop i file))

abbrev pub rack_found : List ℕ → ℕ
rack_found file = found 1 file 5

abbrev pub count_found : List ℕ → ℕ
count_found file = found 2 file 6

unfoldable pub sets_found : List ℕ → List ℕ
sets_found file = list_of (λ i. found 8 file (8 + 8 * i)) (count_found file)

-- a file of size bytes with this mark, version v, rack m and n lines; 0 for no refusal
unfoldable pub header_found : ℕ → ℕ → ℕ → ℕ → ℕ → ℕ
header_found size mark v m n =
    cond (ltb size 8) 6
    (cond (not (eqb mark (84 * 65536 + 73 * 256 + 80))) 7
    (cond (not (eqb v 1)) 8
    (cond (not (leb 1 m && leb m 64)) 1
    (cond (ltb 512 n) 9
    (cond (not (eqb size (8 + 8 * n))) 10 0)))))

-- the refusal of a file: by its header, then at its first bad set
unfoldable pub file_refusal_before : List ℕ → Refusal
file_refusal_before file =
    let m = rack_found file in
    let sets = sets_found file in
    or_else (refuse (header_found (length file) (found 3 file 0) (found 2 file 3) m (count_found file)))
    (scan (λ s. not (eqb s 0) && ltb s (2 ^ m)) (λ i. set_before m (get_or sets i 0)) sets)

-- ---- writing

-- the byte of x that counts 256 ^ k
abbrev pub byte : ℕ → ℕ → ℕ
byte x k = x / 256 ^ k % 256

unfoldable pub bytes_before : List ℕ → List ℕ
bytes_before [] = []
bytes_before (s ∷ sets) =
    byte s 7 ∷ byte s 6 ∷ byte s 5 ∷ byte s 4 ∷ byte s 3 ∷ byte s 2 ∷ byte s 1 ∷ byte s 0 ∷ bytes_before sets

-- the file of a rack of m tips and the sets of its lines
unfoldable pub file_before : ℕ → List ℕ → List ℕ
file_before m sets = 84 ∷ 73 ∷ 80 ∷ 0 ∷ 1 ∷ byte m 0 ∷ byte (length sets) 1 ∷ byte (length sets) 0 ∷ bytes_before sets
