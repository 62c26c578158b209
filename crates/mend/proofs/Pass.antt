-- A pass over the lines read: what is known before line i, and one line more.
use Prim.Native.Nat.{ℕ, ◌+◌, ◌≤◌, ◌<◌}
use native.Mathlib.Omega.{arith}
use mathlib.Core.Path.{◌≡◌, sym, ap, ap₂, ◌∙◌}
use mathlib.Core.Bool.{cond}
use mathlib.Core.List.{List, [], ◌++◌}
use lib.ListN.{length, take, get_or, length-append, length-map}
use lib.Seq.{take_all}
use Rattle.job.specs.Job.{JobLine, line_of, bytes_of_lines, rack_in, set_in, quantity_in}
use Rattle.mend_rules.specs.Mending.{mended_line, after, stays, codes, running, kept, on_line, changes, read_count, read_lines, bytes_of_changes}
use Rattle.mend_rules.proofs.Steps.{running_more, length-kept-more, written-more, report_more}
use Rattle.mend_rules.proofs.Lengths.{length_report}
use Rattle.mend_rules.specs.Rules.{no_line}
use Rattle.mend_rules.proofs.Lines.{line_at}
use Rattle.mend_rules.proofs.Files.{length-read_lines}
use Rattle.mend.specs.Mend.{line_with}

-- what is known before line i of a file: the rack, the number of lines read, and the running total
pub record Passed (file : List ℕ) (rack count i total : ℕ) : Type 0 where
  pub rack_is : rack ≡ rack_in file
  pub count_is : count ≡ read_count file
  pub within : i ≤ count
  pub sum : total ≡ running (rack_in file) 0 (take i (read_lines file))

-- the lines kept of the first i, and the changes made to them
abbrev pub kept_to : List ℕ → ℕ → List JobLine
kept_to file i = kept (rack_in file) 0 (take i (read_lines file))

abbrev pub changes_to : List ℕ → ℕ → List (ℕ × ℕ)
changes_to file i = changes (rack_in file) 0 0 (take i (read_lines file))

-- before the first line
pub pass_start : (file : List ℕ) (rack count total : ℕ) → rack ≡ rack_in file → count ≡ read_count file → total ≡ 0
    → Passed file rack count 0 total
unfolding running
pass_start file rack count total r n t = record { rack_is = r; count_is = n; within = omega arith; sum = t }

-- after the last line
pub pass_end : (file : List ℕ) (rack count i total : ℕ) → Passed file rack count i total → count ≤ i → take i (read_lines file) ≡ read_lines file
pass_end file rack count i total p h = take_all i (read_lines file) (omega (arith, length-read_lines file))

module _ (file : List ℕ) (rack count i total set quantity : ℕ) (p : Passed file rack count i total) (h : i < count)
    (s : set ≡ set_in file i) (q : quantity ≡ quantity_in file i) where
  abbrev m : ℕ
  m = rack_in file

  abbrev lines : List JobLine
  lines = read_lines file

  short : i < length lines
  short = omega (arith, length-read_lines file)

  -- the line as it was read
  same : {A : Type 0} (f : ℕ → ℕ → JobLine → A) → f rack total (line_with set quantity) ≡ f m (running m 0 (take i lines)) (get_or lines i no_line)
  same f =
      ap₂ (λ a b. f a b (line_with set quantity)) p.rack_is p.sum
      ∙ ap (f m (running m 0 (take i lines))) (ap₂ line_with s q ∙ sym (line_at file (read_count file) i (omega arith)))

  pub pass_next : (rack_next next : ℕ) → rack_next ≡ rack → next ≡ after rack total (line_with set quantity)
      → Passed file rack_next count (i + 1) next
  pass_next rack_next next r e = record {
    rack_is = r ∙ p.rack_is;
    count_is = p.count_is;
    within = omega arith;
    sum = e ∙ same after ∙ sym (running_more m lines i short);
  }

  pub kept_next : length (kept_to file (i + 1)) ≡ length (kept_to file i) + cond (stays rack total (line_with set quantity)) 1 0
  kept_next = length-kept-more m lines i short ∙ ap (λ b. length (kept_to file i) + cond b 1 0) (sym (same stays))

  pub lines_next : (v : ℕ)
      → bytes_of_lines v (kept_to file (i + 1))
      ≡ bytes_of_lines v (kept_to file i) ++ cond (stays rack total (line_with set quantity))
      (line_of v (mended_line rack (line_with set quantity))) []
  lines_next v =
      written-more m lines i short v
      ∙ ap (λ x. bytes_of_lines v (kept_to file i) ++ x) (sym (same (λ a b l. cond (stays a b l) (line_of v (mended_line a l)) [])))

  pub report_next : bytes_of_changes (changes_to file (i + 1))
      ≡ bytes_of_changes (changes_to file i) ++ bytes_of_changes (on_line i (codes rack total (line_with set quantity)))
  report_next = report_more m lines i short ∙ ap (λ x. bytes_of_changes (changes_to file i) ++ bytes_of_changes (on_line i x)) (sym (same codes))

  pub changes_next : length (changes_to file (i + 1)) ≡ length (changes_to file i) + length (codes rack total (line_with set quantity))
  changes_next =
      let cs = codes rack total (line_with set quantity) in
      omega (
        arith,
        ap length report_next,
        length-append (bytes_of_changes (changes_to file i)) (bytes_of_changes (on_line i cs)),
        length_report (changes_to file (i + 1)),
        length_report (changes_to file i),
        length_report (on_line i cs),
        length-map {B = ℕ × ℕ} cs (λ c. (i, c)),
      )
