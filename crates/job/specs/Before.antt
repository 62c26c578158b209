-- The job file as it was without quantities: version 1 alone, for each line its set.
use Rattle.std.specs.Prelude.{ℕ, ◌+◌, ◌*◌, not, cond, List, [], ◌∷◌, ◌++◌, ltb, eqb, length, get_or}
use Rattle.model.specs.Count.{list_of}
use Rattle.model.specs.Plan.{is_empty, in_rack, is_domain, rack_ok}
use Rattle.model.specs.Limits.{most_lines}
use Rattle.refusal.specs.Told.{Refusal}
use Rattle.refusal.specs.Refusal.{refuse, or_else, scan}
use Rattle.job.specs.Job.{bytes_of, number_at, mark, header_length, set_length, header_of, mark_in, version_in, rack_in, count_in}

-- the lines, one after the other
unfoldable pub bytes_of_sets : List ℕ → List ℕ
bytes_of_sets [] = []
bytes_of_sets (s ∷ sets) = bytes_of set_length s ++ bytes_of_sets sets

-- the file of a rack of m tips and the sets of its lines
unfoldable pub plain_file_of : ℕ → List ℕ → List ℕ
plain_file_of m sets = header_of 1 m (length sets) ++ bytes_of_sets sets

-- the set of each line of a file
unfoldable pub plain_sets_in : List ℕ → List ℕ
plain_sets_in file = list_of (λ i. number_at set_length file (header_length + set_length * i)) (count_in file)

-- the refusal of a file by its header and its length; 0 for none
unfoldable pub plain_header_number : List ℕ → ℕ
plain_header_number file =
    cond (ltb (length file) header_length) 6
    (cond (not (eqb (mark_in file) mark)) 7
    (cond (not (eqb (version_in file) 1)) 8
    (cond (not (rack_ok (rack_in file))) 1
    (cond (ltb most_lines (count_in file)) 9
    (cond (not (eqb (length file) (header_length + set_length * count_in file))) 10 0)))))

-- the refusal of a line's set; 0 for none
unfoldable pub set_number : ℕ → ℕ → ℕ
set_number m s = cond (is_empty s) 2 (cond (in_rack m s) 0 3)

-- the refusal of a file: by its header, else by its first bad line
unfoldable pub plain_refusal : List ℕ → Refusal
plain_refusal file =
    let sets = plain_sets_in file in
    or_else (refuse (plain_header_number file)) (scan (is_domain (rack_in file)) (λ i. set_number (rack_in file) (get_or sets i 0)) sets)
