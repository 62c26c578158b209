-- The lines of a file as one list, what is known of good lines, and the bytes of a file.
use Prim.Native.Nat.{ℕ, zero, suc, ◌+◌, ◌≤◌, ◌<◌}
use native.Mathlib.Omega.{arith}
use native.Mathlib.Nat.{mod-lt}
use mathlib.Core.Path.{◌≡◌, refl, sym, ap₂, ◌∙◌}
use mathlib.Core.Bool.{Bool, true, false, cond}
use mathlib.Core.List.{List, [], ◌∷◌}
use lib.Dec.{T, ltb, eqb, lt→ltb}
use lib.ListN.{length, get_or, length-map}
use Rattle.model.specs.Count.{All, none, more, list_of}
use Rattle.model.specs.Plan.{Domain}
use Rattle.model.specs.Limits.{most_tips, most_lines, most_placements}
use Rattle.model.proofs.Lists.{all_get_d, all-at, all_map, all-mapped}
use Rattle.model.proofs.ListOf.{length-list_of, list_of-at}
use Rattle.placements.specs.Good.{GoodLines}
use Rattle.model.proofs.Append.{all_append}
use Rattle.job.specs.Job.{Bytes, bytes_of, set_length, counted, file_length, JobLine, paired, header_of, line_of, bytes_of_lines, file_of, version_in}
use Rattle.job.specs.Job.{count_in, set_in, quantity_in, sets_in, quantities_in}
use Rattle.job.proofs.Numbers.{number_byte}
use Rattle.job.proofs.Lines.{line, length-paired, paired_at, Held}
use Rattle.mend_rules.specs.Mending.{lines_in}
use Rattle.mend_rules.specs.Rules.{sets_of, quantities_of, placements_of, no_line}

-- ---- the lines of a file

module _ (file : List ℕ) (n : ℕ) where
  same : length (list_of (quantity_in file) n) ≡ length (list_of (set_in file) n)
  same = length-list_of (quantity_in file) n ∙ sym (length-list_of (set_in file) n)

  pub length-lines_in : length (lines_in file n) ≡ n
  unfolding lines_in
  length-lines_in = length-paired (list_of (set_in file) n) (list_of (quantity_in file) n) same ∙ length-list_of (set_in file) n

  -- line i has the set and the quantity that the file has there
  pub line_at : (i : ℕ) → i < n → get_or (lines_in file n) i no_line ≡ line (set_in file i) (quantity_in file i)
  unfolding lines_in
  line_at i h =
      paired_at (list_of (set_in file) n) (list_of (quantity_in file) n) i same (omega (arith, length-list_of (set_in file) n))
      ∙ ap₂ line (list_of-at (set_in file) n i h) (list_of-at (quantity_in file) n i h)

  -- the version holds the quantities of the lines that it has
  pub lines-held : Bytes file → All (λ l. Held (version_in file) l.quantity) (lines_in file n)
  lines-held h =
      all_get_d no_line (lines_in file n) (λ i l. rw (line_at i (omega (arith, length-lines_in)))
      (by (counted (version_in file)) _ (number_byte file (file_length (version_in file) i + set_length) h)))
    where
      by : (b : Bool) (x : ℕ) → x < 256 → T (cond b (ltb (cond b x 1) 256) (eqb (cond b x 1) 1))
      by true x l = lt→ltb x 256 l
      by false x l = tt

-- the lines of a file are its sets and its quantities
pub all_lines : (file : List ℕ) → lines_in file (count_in file) ≡ paired (sets_in file) (quantities_in file)
unfolding lines_in sets_in quantities_in
all_lines file = refl

-- ---- good lines

-- the line's set is a domain, and its quantity is not 0
pub record GoodLine (m : ℕ) (l : JobLine) : Type 0 where
  pub domain : Domain m l.tips
  pub some : 1 ≤ l.quantity

module _ {m : ℕ} where
  -- few good lines with few placements are good together
  pub good-lines : {lines : List JobLine} → All (GoodLine m) lines → 1 ≤ m → m ≤ most_tips → length lines ≤ most_lines
      → placements_of lines ≤ most_placements → GoodLines m (quantities_of lines) (sets_of lines)
  good-lines {lines} g low high few within =
      let n = length-map lines (λ l. l.tips) in
      record {
        some = low;
        most = high;
        few-lines = omega (arith, n);
        same = length-map lines (λ l. l.quantity) ∙ sym n;
        placed = all-mapped (λ l. l.quantity) (all_map (λ l h. h.some) g);
        few = within;
        domains = all-mapped (λ l. l.tips) (all_map (λ l h. h.domain) g);
      }

  -- and the other way round
  pub lines_good : {qs sets : List ℕ} → GoodLines m qs sets → All (GoodLine m) (paired sets qs)
  lines_good {qs} {sets} g =
      all_get_d no_line (paired sets qs) (λ i l.
      let h : i < length sets = omega (arith, length-paired sets qs g.same) in
      rw (paired_at sets qs i g.same h)
      (record { domain = all-at 0 g.domains i h; some = all-at 0 g.placed i (omega (arith, g.same)) }))

-- ---- a file is bytes

bytes_bytes_of : (w x : ℕ) → Bytes (bytes_of w x)
unfolding bytes_of
bytes_bytes_of zero x = none
bytes_bytes_of (suc w) x = more (mod-lt _ (omega arith)) (bytes_bytes_of w x)

bytes_lines : (v : ℕ) (lines : List JobLine) → Bytes (bytes_of_lines v lines)
unfolding bytes_of_lines line_of
bytes_lines v [] = none
bytes_lines v (l ∷ lines) = all_append (all_append (bytes_bytes_of _ _) (bytes_bytes_of _ _)) (bytes_lines v lines)

pub bytes_file_of : (v m : ℕ) (lines : List JobLine) → Bytes (file_of v m lines)
unfolding file_of header_of
bytes_file_of v m lines =
    all_append (all_append (all_append (all_append (bytes_bytes_of _ _) (bytes_bytes_of _ _)) (bytes_bytes_of _ _)) (bytes_bytes_of _ _))
    (bytes_lines v lines)
