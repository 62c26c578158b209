-- Keep within k on an accepted file without quantities, from the occurrences of each tip.
use Prim.Native.Nat.{ℕ, ◌^◌, ◌≤◌, ◌<◌}
use mathlib.Core.Path.{◌≡◌, refl, sym, ap, ap₂, subst, ◌∙◌}
use mathlib.Core.List.{List, ◌++◌, zip_with}
use native.Mathlib.Omega.{arith}
use lib.Dec.{leb}
use lib.IntN.{ℤ, pos}
use lib.ListN.{length, drop}
use mir.Syntax.{w32}
use mir.Val.{to_z, of_z}
use mir.ValLaws.{to_z-of_z}
use Rattle.std.specs.Prelude.{Result, Ok, Err}
use Rattle.model.specs.Count.{largest}
use Rattle.model.specs.CommonTip.{set_of, margin}
use Rattle.placements.specs.Repeated.{total, repeated}
use Rattle.placements.specs.Good.{GoodLines}
use Rattle.placements.specs.Keep.{V, prune_q}
use Rattle.placements.proofs.Repeated.{length-repeated, length-zip}
use Rattle.counts.specs.Counts.{count_at, Counts, Countable}
use Rattle.counts.proofs.Read.{largest-top}
use Rattle.common_tip.specs.Common.{margin_by, least_count, kept_by}
use Rattle.common_tip.proofs.Laws.{top-total, margin-by, margin_small, least_common, prune-by}
use Rattle.refusal.specs.Refusal.{none}
use Rattle.refusal.specs.declared.Refused.{Refused}
use Rattle.refusal.specs.declared.Unkept.{Unkept}
use Rattle.refusal.specs.Reasons.{told_of, unkept_of, margin_in}
use Rattle.refusal.proofs.Laws.{reason_not_0}
use Rattle.job.specs.Job.{counted, file_length, version_for, version_in, rack_in, count_in, sets_in, quantities_in, written_of, read_refusal}
use Rattle.job.proofs.Reading.{length-sets_in, plain_quantities, read_good, read_none}
use Rattle.job.proofs.Writing.{version_one}
use Rattle.call_refusals.specs.Calls.{keep_refusal, write_refusal}
use Rattle.line_calls.specs.Answers.{keep_told}
use Rattle.line_calls.specs.Lines.{keep_of}
use Rattle.line_calls.proofs.KeepWithin.{keep-all, keep_bits}
use Rattle.line_calls.proofs.JobFile.{write_accepted}
use Rattle.line_calls.proofs.JobFile as Written
use Rattle.file_calls.specs.Outcomes.{Outcome, twos_complement, refused_outcome}
use Rattle.file_calls.specs.Calls.{keep_in, keep_file_in}
use Rattle.file_calls.proofs.KeptFile.{margin-refused, write-refused, kept-written}

module _ (file : List ℕ) (z : (read_refusal file).number ≡ 0) {planes : List ℕ}
    (c : Counts (repeated (quantities_in file) (sets_in file)) planes) where
  abbrev m : ℕ
  m = rack_in file

  abbrev qs : List ℕ
  qs = quantities_in file

  abbrev sets : List ℕ
  sets = sets_in file

  good : GoodLines m qs sets
  good = read_good file z

  countable : Countable qs sets
  countable = record { same = good.same; few = good.few }

  pub few_all : (largest (count_at planes) m ≤ total qs) × (total qs ≤ 2048)
  few_all = let (t, n) = top-total m countable in (omega (arith, largest-top c m, t), n)

  module _ (k : ℕ) (small : k < 2 ^ 16) where
    size : total qs ≡ length (repeated qs sets)
    size = sym (length-repeated qs sets good.same)

    -- the margin, also as the code holds it
    margin-is : {y : ℤ} → y ≡ margin_by (largest (count_at planes) m) (total qs) k → y ≡ margin m (repeated qs sets) k
    margin-is e = e ∙ ap₂ (λ t n. margin_by t n k) (largest-top c m) size ∙ margin-by m (repeated qs sets) k

    held : {y : ℤ} → y ≡ margin_by (largest (count_at planes) m) (total qs) k → to_z w32 (of_z w32 y) ≡ margin m (repeated qs sets) k
    held {y} e = to_z-of_z w32 y (rw (margin-is e) (margin_small m k countable small)) ∙ margin-is e

    tips-are : {v : ℕ} → v ≡ set_of (λ t. leb (least_count (total qs) k) (count_at planes t)) m → v ≡ V m (repeated qs sets) k
    tips-are e = e ∙ least_common m k c (ap (λ n. least_count n k) size)

    -- what keep answers
    pub told : {y : ℤ} → y ≡ margin_by (largest (count_at planes) m) (total qs) k → (r : Result ℤ Unkept)
        → unkept_of r ≡ keep_refusal none (to_z w32 (of_z w32 y)) → margin_in r ≡ to_z w32 (of_z w32 y)
        → keep_told r ≡ keep_of none m qs sets k
    told e r f g = (keep-all m qs sets k (held e) f g refl).0

    -- what is given and left, for another name of the bytes
    module _ (out : List ℕ) {other : List ℕ} (same : file ≡ other) where
      Leaves : Outcome → List ℕ → List ℕ → Type 0
      Leaves o last x = (o ≡ keep_in x k (length out)) × (last ≡ keep_file_in x k out)

      -- nothing is written
      pub stopped : (u : Unkept) → keep_told (Err u) ≡ keep_of none m qs sets k
          → (refused_outcome u.refused (twos_complement u.margin) ≡ keep_in other k (length out)) × (out ≡ keep_file_in other k out)
      unfolding Leaves
      stopped u p =
          subst (Leaves (refused_outcome u.refused (twos_complement u.margin)) out) same
          (margin-refused file (sym (read_none file z)) (λ _. good) (λ _. (refl, refl, refl)) k out u p)

      module _ (plain : version_in file ≡ 1) {y : ℤ} (p : keep_told (Ok y) ≡ keep_of none m qs sets k) {n : ℕ} (lines : n ≡ count_in file) where
        abbrev pruned : List ℕ
        pruned = prune_q m qs sets k

        version : 1 ≡ version_for qs
        version = sym (version_one (plain_quantities file (ap counted plain)))

        count : n ≡ length pruned
        unfolding prune_q
        count = lines ∙ sym (length-zip _ qs sets good.same ∙ length-sets_in file)

        -- the output has no room
        pub no-room : (w : Refused) → told_of w ≡ write_refusal none 1 n (length out)
            → (refused_outcome w (twos_complement (pos 0)) ≡ keep_in other k (length out)) × (out ≡ keep_file_in other k out)
        unfolding Leaves
        no-room w e =
            let (f, g) = Written.write-refused none m qs pruned out e version count (reason_not_0 w.reason) in
            subst (Leaves (refused_outcome w (twos_complement (pos 0))) out) same
            (write-refused file (sym (read_none file z)) (λ _. good) (λ _. (refl, refl, refl)) k out p (λ _. refl) w f g)

        -- the lines are written
        pub kept : {x : ℤ} → x ≡ y → {v : ℕ} → v ≡ set_of (λ t. leb (least_count (total qs) k) (count_at planes t)) m
            → none ≡ write_refusal none 1 n (length out) → {bytes : ℕ} → bytes ≡ file_length 1 n
            → {put : List ℕ} → put ≡ written_of m qs (zip_with (kept_by v x) qs sets)
            → (record { refusal = none; first = twos_complement y; second = bytes; third = 0 } ≡ keep_in other k (length out))
            × ((put ++ drop bytes out) ≡ keep_file_in other k out)
        unfolding Leaves keep_of
        kept {x} x-is v-is e {bytes} b {put} w =
            let margin = x-is ∙ ap (λ a. a.margin) p in
            let all = w ∙ ap (written_of m qs) (ap₂ (λ v x. zip_with (kept_by v x) qs sets) (tips-are v-is) margin ∙ prune-by m qs sets k) in
            let (f, g) = write_accepted none m qs pruned out e version count refl b all in
            subst (Leaves (record { refusal = none; first = twos_complement y; second = bytes; third = 0 }) (put ++ drop bytes out)) same
            (kept-written file (sym (read_none file z)) (λ _. good) (λ _. (refl, refl, refl)) k out p (λ _. refl) bytes f g)

        -- and the margin told is read back from its 32 bits
        pub bits : to_z w32 (of_z w32 y) ≡ y
        bits = subst (λ y. to_z w32 (of_z w32 y) ≡ y) (sym (ap (λ r. r.margin) p)) (keep_bits none k (λ _. good) small)
