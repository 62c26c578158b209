-- Writing a file, and both ways round: what is written is read back, and what is read is written again.
use Prim.Native.Nat.{ℕ, ◌+◌, ◌*◌, ◌≤◌}
use native.Mathlib.Omega.{arith}
use native.Mathlib.Nat.{lt_of_lt_of_le}
use mathlib.Core.Path.{◌≡◌, refl, sym, ap, ap₂, ◌∙◌}
use mathlib.Core.Logic.{◌⊎◌, inl, inr, ⊎_elim}
use mathlib.Core.Bool.{Bool, true, false, cond}
use mathlib.Core.List.{List, ◌++◌}
use lib.ListN.{length, drop, length-append, length-drop, take-append-drop}
use lib.Seq.{drop_at}
use lib.Dec.{T, eqb, eqb→eq, lt→ltb}
use lib.Pow.{pow_mono}
use borrow.Author.Tests.{eqb-true, eqb-false}
use Rattle.model.specs.Count.{All, each}
use Rattle.model.proofs.Tests.{true_T, eqb_T}
use Rattle.model.proofs.Lists.{all_map, all_drop, each_iff}
use Rattle.placements.specs.Repeated.{total}
use Rattle.placements.specs.Good.{GoodLines}
use Rattle.placements.proofs.Repeated.{length-repeated, repeated_ones}
use Rattle.placements.proofs.Totals.{all_one}
use Rattle.refusal.specs.Refusal.{none}
use Rattle.job.specs.Job.{Bytes, header_length, line_length, file_length, paired, header_of, bytes_of_lines, file_of, version_for, written_of}
use Rattle.job.specs.Job.{version_in, rack_in, count_in, sets_in, quantities_in, header_number, read_refusal, GoodHeader, InShorterForm, ReadsAs}
use Rattle.job.proofs.HeaderLaws.{header_good, header_again, length-header_of, mark_back, version_back, rack_back, count_back}
use Rattle.job.proofs.Lines.{Held, length-paired, paired-append, lines-append, length-bytes_of_lines, sets_back, quantities_back, lines_again}
use Rattle.job.proofs.Reading.{length-sets_in, length-quantities_in, sets_after, quantities_after, bytes_quantities, plain_quantities}
use Rattle.job.proofs.Reading.{read_good, read_iff, read_none}

-- ---- the version that is written

-- it is 1 or 2, and can hold the quantities
pub version-for : (qs : List ℕ) → (version_for qs ≡ 1) ⊎ (version_for qs ≡ 2)
unfolding version_for
version-for qs = by (each (λ q. eqb q 1) qs)
  where
    by : (b : Bool) → ◌≡◌ {A = ℕ} (cond b 1 2) 1 ⊎ ◌≡◌ {A = ℕ} (cond b 1 2) 2
    by true = inl refl
    by false = inr refl

pub held_for : (qs : List ℕ) → Bytes qs → All (Held (version_for qs)) qs
unfolding version_for
held_for qs h = by (each (λ q. eqb q 1) qs) (each_iff (λ q. eqb q 1) qs).0
  where
    by : (b : Bool) → (T b → All (λ q. T (eqb q 1)) qs) → All (Held (cond b 1 2)) qs
    by true f = f tt
    by false f = all_map (λ q k. lt→ltb q 256 k) h

-- it is 1 exactly where each quantity is 1
pub version_one : {qs : List ℕ} → All (λ q. q ≡ 1) qs → version_for qs ≡ 1
unfolding version_for
version_one {qs} h = rw (true_T (each (λ q. eqb q 1) qs) ((each_iff (λ q. eqb q 1) qs).1 (all_map (λ q e. eqb_T q 1 e) h)))

pub one_version : (qs : List ℕ) → version_for qs ≡ 1 → All (λ q. q ≡ 1) qs
unfolding version_for
one_version qs = by (each (λ q. eqb q 1) qs) (each_iff (λ q. eqb q 1) qs).0
  where
    by : (b : Bool) → (T b → All (λ q. T (eqb q 1)) qs) → ◌≡◌ {A = ℕ} (cond b 1 2) 1 → All (λ q. q ≡ 1) qs
    by true f e = all_map (λ q t. eqb→eq q 1 t) (f tt)
    by false f e = absurd (omega (arith, e))

-- where no quantity is 0, their total tells it: it is the number of lines exactly where each is 1
pub version_by_total : (qs : List ℕ) → All (λ q. 1 ≤ q) qs → cond (eqb (total qs) (length qs)) 1 2 ≡ version_for qs
version_by_total qs placed = by (eqb (total qs) (length qs)) refl
  where
    by : (b : Bool) → eqb (total qs) (length qs) ≡ b → cond b 1 2 ≡ version_for qs
    by true e = let few : total qs ≤ length qs = omega (arith, eqb-true _ _ e) in sym (version_one (all_one placed few))
    by false e =
        ⊎_elim
        (λ v. absurd (eqb-false _ _ e
        (sym (length-repeated qs qs refl) ∙ ap length (repeated_ones (one_version qs v) qs refl))))
        sym
        (version-for qs)

-- ---- what is written is read back

pub length-file_of : (v m : ℕ) (qs sets : List ℕ) → length qs ≡ length sets → length (file_of v m (paired sets qs)) ≡ file_length v (length sets)
unfolding file_of
length-file_of v m qs sets e =
    let lines = paired sets qs in
    let n = length-paired sets qs e in
    length-append (header_of v m (length lines)) (bytes_of_lines v lines)
    ∙ ap₂ ◌+◌ (length-header_of v m (length lines)) (length-bytes_of_lines v lines ∙ ap (λ k. line_length v * k) n)

-- the file of two lists of lines, one after the other
pub file-append : (v m : ℕ) (sets others qs rs : List ℕ) → length qs ≡ length sets → length rs ≡ length others
    → file_of v m (paired (sets ++ others) (qs ++ rs))
    ≡ header_of v m (length sets + length others) ++ (bytes_of_lines v (paired sets qs) ++ bytes_of_lines v (paired others rs))
unfolding file_of
file-append v m sets others qs rs e f =
    let lines = paired sets qs in
    let more = paired others rs in
    let count = length-append lines more ∙ ap₂ ◌+◌ (length-paired sets qs e) (length-paired others rs f) in
    ap (λ l. header_of v m (length l) ++ bytes_of_lines v l) (paired-append sets others qs rs e)
    ∙ ap₂ (λ n l. header_of v m n ++ l) count (lines-append v lines more)

-- in either version that can hold the quantities
module _ (v m : ℕ) (qs sets : List ℕ) (ok : (v ≡ 1) ⊎ (v ≡ 2)) (g : GoodLines m qs sets) (held : All (Held v) qs) where
  abbrev file : List ℕ
  file = file_of v m (paired sets qs)

  count-paired : length (paired sets qs) ≡ length sets
  count-paired = length-paired sets qs g.same

  version-is : version_in file ≡ v
  unfolding file_of
  version-is = version_back v m (length (paired sets qs)) (bytes_of_lines v (paired sets qs)) (⊎_elim (λ e. omega arith) (λ e. omega arith) ok)

  rack-is : rack_in file ≡ m
  unfolding file_of
  rack-is = rack_back v m (length (paired sets qs)) (bytes_of_lines v (paired sets qs)) (omega (arith, g.most))

  count-is : count_in file ≡ length sets
  unfolding file_of
  count-is = count_back v m (length (paired sets qs)) (bytes_of_lines v (paired sets qs)) (omega (arith, count-paired, g.few-lines)) ∙ count-paired

  header_is : GoodHeader file
  header_is = record {
    start = record {
      long = omega (arith, length-file_of v m qs sets g.same);
      marked = unfold file_of in mark_back v m (length (paired sets qs)) (bytes_of_lines v (paired sets qs));
      versioned = rw version-is ok;
      rack_low = rw rack-is g.some;
      rack_high = rw rack-is g.most;
    };
    few_lines = rw count-is g.few-lines;
    whole = length-file_of v m qs sets g.same ∙ ap₂ file_length (sym version-is) (sym count-is);
  }

  -- the lines stand after the header
  body_is : drop header_length file ≡ bytes_of_lines v (paired sets qs)
  unfolding file_of
  body_is = drop_at (header_of v m (length (paired sets qs))) (bytes_of_lines v (paired sets qs)) header_length
      (length-header_of v m (length (paired sets qs)))

  sets_are : sets_in file ≡ sets
  sets_are =
      sets_after file
      ∙ rw (version-is, count-is, body_is)
      (sets_back v sets qs g.same (all_map (λ s d. lt_of_lt_of_le d.below (pow_mono g.most)) g.domains))

  quantities_are : quantities_in file ≡ qs
  quantities_are = quantities_after file ∙ rw (version-is, count-is, body_is) (quantities_back v sets qs g.same held)

  pub reads_as : ReadsAs m qs sets file
  reads_as = record {
    header_is = header_is;
    rack-is = rack-is;
    count-is = count-is;
    sets_are = sets_are;
    quantities_are = quantities_are;
    accepted = read_none file ((read_iff file).1 (header_is, rw (rack-is, sets_are, quantities_are) g));
  }

-- what is written, in the version for its quantities
module _ (m : ℕ) (qs sets : List ℕ) (g : GoodLines m qs sets) (small : Bytes qs) where
  pub written_back : ReadsAs m qs sets (written_of m qs sets)
  written_back = reads_as (version_for qs) m qs sets (version-for qs) g (held_for qs small)

  pub rack_of_file : rack_in (written_of m qs sets) ≡ m
  rack_of_file = written_back.rack-is

  pub count_of_file : count_in (written_of m qs sets) ≡ length sets
  count_of_file = written_back.count-is

  pub sets_of_file : sets_in (written_of m qs sets) ≡ sets
  sets_of_file = written_back.sets_are

  pub quantities_of_file : quantities_in (written_of m qs sets) ≡ qs
  quantities_of_file = written_back.quantities_are

  pub read_of_file : read_refusal (written_of m qs sets) ≡ none
  read_of_file = written_back.accepted

-- ---- what is read is written again

-- lines in its own version are its bytes
pub own_lines : (file : List ℕ) → Bytes (drop header_length file) → GoodHeader file
    → bytes_of_lines (version_in file) (paired (sets_in file) (quantities_in file)) ≡ drop header_length file
own_lines file bytes g =
    let v = version_in file in
    ap₂ (λ s q. bytes_of_lines v (paired s q)) (sets_after file) (quantities_after file)
    ∙ lines_again v (count_in file) (drop header_length file) bytes (simp length-drop (omega (arith, g.whole)))

module _ (file : List ℕ) (bytes : Bytes file) where
  -- the whole in its own version
  pub form_again : GoodHeader file → file_of (version_in file) (rack_in file) (paired (sets_in file) (quantities_in file)) ≡ file
  unfolding file_of
  form_again g =
      let v = version_in file in
      let n = length-paired (sets_in file) (quantities_in file) (length-quantities_in file ∙ sym (length-sets_in file)) ∙ length-sets_in file in
      ap₂ ◌++◌ (ap (header_of v (rack_in file)) n ∙ header_again file bytes g.start)
      (own_lines file (all_drop header_length bytes) g)
      ∙ take-append-drop header_length file

  -- a file in the shorter form that is read and written again is the same file
  pub file_again : header_number file ≡ 0 → InShorterForm file → written_of (rack_in file) (quantities_in file) (sets_in file) ≡ file
  file_again z e = ap (λ v. file_of v (rack_in file) (paired (sets_in file) (quantities_in file))) (sym e) ∙ form_again (header_good file z)

  -- an accepted file of either form is written as one that reads the same
  pub rewritten : (read_refusal file).number ≡ 0
      → ReadsAs (rack_in file) (quantities_in file) (sets_in file) (written_of (rack_in file) (quantities_in file) (sets_in file))
  rewritten e = written_back (rack_in file) (quantities_in file) (sets_in file) (read_good file e) (bytes_quantities file bytes)

-- a file of version 1 is in the shorter form
pub plain-short : (file : List ℕ) → version_in file ≡ 1 → InShorterForm file
plain-short file e = e ∙ sym (version_one (plain_quantities file (rw e refl)))
