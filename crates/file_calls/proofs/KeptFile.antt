-- Keep within k on a file: the kept lines are written, and what is written reads back as the pruned lines of the same rack with the same quantities.
use Prim.Native.Nat.{ℕ}
use mathlib.Core.Path.{◌≡◌, refl, sym, ap, subst, ◌∙◌}
use mathlib.Core.Logic.{◌↔◌}
use mathlib.Core.List.{List, append-nil}
use native.Mathlib.Omega.{arith}
use lib.IntN.{ℤ, pos}
use mathlib.Core.Bool.{Bool, true, false, cond}
use lib.Dec.{eqb, ltb}
use lib.ListN.{length, take}
use lib.Seq.{drop-length}
use Rattle.model.specs.CommonTip.{margin}
use Rattle.placements.specs.Repeated.{repeated}
use Rattle.placements.specs.Good.{GoodLines}
use Rattle.placements.specs.Keep.{prune_q}
use Rattle.refusal.specs.Told.{Refusal}
use Rattle.refusal.specs.Refusal.{none, or_else, when}
use Rattle.job.specs.Job.{Bytes, file_length, version_for, rack_in, sets_in, quantities_in, read_refusal, InShorterForm, ReadsAs}
use Rattle.job.proofs.Reading.{read_good}
use Rattle.call_refusals.specs.Calls.{is_negative, keep_refusal, write_refusal}
use Rattle.call_refusals.proofs.Calls.{keep-none}
use Rattle.std.specs.Prelude.{Ok, Err}
use Rattle.refusal.specs.declared.Refused.{Refused}
use Rattle.refusal.specs.declared.Unkept.{Unkept}
use Rattle.refusal.specs.Reasons.{reason_number, told_of}
use Rattle.refusal.proofs.Laws.{reason_not_0, accepted}
use Rattle.line_calls.proofs.JobFile.{write_stopped}
use Rattle.line_calls.specs.Answers.{KeepAnswer, keep_told, file_told}
use Rattle.line_calls.specs.Answers.{FileAnswer}
use Rattle.line_calls.specs.Lines.{keep_of, sets_kept, write_of, write_buffer}
use Rattle.line_calls.specs.Rules.{NoneWithin}
use Rattle.line_calls.proofs.KeepWithin.{keep_exact, keep-refuses, keep_good}
use Rattle.line_calls.proofs.Refused.{Same, keep_same, write_same, write_buffer_same}
use Rattle.file_calls.specs.Outcomes.{Outcome, twos_complement, refused_outcome}
use Rattle.file_calls.specs.Calls.{keep_outcome, keep_in, keep_file_in}
use Rattle.file_calls.specs.Rules.{KeepRuleOf}
use Rattle.file_calls.proofs.ReadLines.{AsRead}
use Rattle.file_calls.proofs.WrittenFile.{same_number, decided, earlier_none, reads, shorter}

-- ---- the lines that keep leaves

module _ (d : Refusal) {m : ℕ} {qs sets : List ℕ} (given : d.number ≡ 0 → GoodLines m qs sets) (k : ℕ)
    {kept : KeepAnswer} (p : kept ≡ keep_of d m qs sets k) where
  -- the margin, and the lines pruned
  abbrev left : ℤ
  left = margin m (repeated qs sets) k

  abbrev pruned-lines : List ℕ
  pruned-lines = prune_q m qs sets k

  -- nothing is refused where the answer refuses nothing
  by-margin : kept.refusal ≡ keep_refusal d left
  unfolding keep_of
  by-margin = ap (λ a. a.refusal) p

  module _ (z : kept.refusal.number ≡ 0) where
    through : (keep_refusal d left).number ≡ 0
    through = ap (λ r. r.number) (sym by-margin) ∙ z

    pub kept_free : d.number ≡ 0
    kept_free = (keep-none d left through).0

    pub good-kept : GoodLines m qs pruned-lines
    good-kept = keep_good d k given through

    pub kept-lines : {last : List ℕ} → last ≡ sets_kept d m qs sets k sets → last ≡ pruned-lines
    unfolding sets_kept
    kept-lines q = q ∙ accepted _ sets by-margin z ∙ rw drop-length (append-nil pruned-lines)

-- ---- from the lines that were read to the file

module _ (file : List ℕ) {d : Refusal} (e : d ≡ read_refusal file) {m : ℕ} {qs sets : List ℕ} (given : d.number ≡ 0 → GoodLines m qs sets)
    (same : d.number ≡ 0 → AsRead file m qs sets) (k : ℕ) {kept : KeepAnswer} (p : kept ≡ keep_of d m qs sets k)
    {last : List ℕ} (q : kept.refusal.number ≡ 0 → last ≡ prune_q m qs sets k) (out : List ℕ) where
  abbrev pruned_in : List ℕ
  pruned_in = prune_q (rack_in file) (quantities_in file) (sets_in file) k

  kept_in : kept ≡ keep_of (read_refusal file) (rack_in file) (quantities_in file) (sets_in file) k
  kept_in = p ∙ keep_same d same k ∙ ap (λ r. keep_of r (rack_in file) (quantities_in file) (sets_in file) k) e

  same_kept : kept.refusal.number ≡ 0 → Same m (rack_in file) qs (quantities_in file) last pruned_in
  same_kept z =
      let (rack, quantities, read) = same (kept_free d given k p z) in
      (rack, quantities, q z ∙ rw (rack, quantities, read) refl)

  pub keep-in : {w : FileAnswer} {bytes : List ℕ} → w ≡ write_of kept.refusal qs last (length out)
      → bytes ≡ write_buffer kept.refusal m qs last out → (keep_outcome kept w ≡ keep_in file k (length out)) × (bytes ≡ keep_file_in file k out)
  unfolding keep_in keep_file_in
  keep-in f g = (
    ap (keep_outcome kept) (f ∙ write_same kept.refusal same_kept out)
        ∙ ap (λ a. keep_outcome a (write_of a.refusal (quantities_in file) pruned_in (length out))) kept_in,
    g ∙ write_buffer_same kept.refusal same_kept out
        ∙ ap (λ a. write_buffer a.refusal (rack_in file) (quantities_in file) pruned_in out) kept_in,
  )

-- ---- the rule

module _ (file : List ℕ) (k : ℕ) (out : List ℕ) where
  abbrev m : ℕ
  m = rack_in file

  abbrev qs : List ℕ
  qs = quantities_in file

  abbrev kept_refusal : Refusal
  kept_refusal = keep_refusal (read_refusal file) (margin m (repeated qs (sets_in file)) k)

  abbrev pruned : List ℕ
  pruned = prune_q m qs (sets_in file) k

  good_kept : kept_refusal.number ≡ 0 → GoodLines m qs pruned
  good_kept = keep_good (read_refusal file) k (read_good file)

  abbrev o : Outcome
  o = keep_in file k (length out)

  decided-by : o.refusal.number ≡ 0 → (decided file kept_refusal pruned good_kept out).number ≡ 0
  unfolding keep_in keep_of write_of
  decided-by z = z

  refuses : read_refusal file ≡ none → (o.refusal.number ≡ 26) ↔ NoneWithin m qs (sets_in file) k
  unfolding keep_in keep_of write_of
  refuses e =
      let (there, back) = same_number kept_refusal (version_for qs) (length pruned) (length out) 26 (λ e. omega arith) (λ e. omega arith) in
      let (no-plan, refused) = keep-refuses (read_refusal file) k (read_good file) (ap (λ r. r.number) e) in
      (λ h. no-plan (there h), λ h. back (refused h))

  -- what is written reads as the pruned lines
  module _ (bytes : Bytes file) where
    pub as_pruned : (z : o.refusal.number ≡ 0) → ReadsAs m qs pruned (take o.second (keep_file_in file k out))
    unfolding keep_in keep_file_in keep_of
    as_pruned z = reads file kept_refusal pruned good_kept out (decided-by z) bytes

    in_short : (z : o.refusal.number ≡ 0) → InShorterForm (take o.second (keep_file_in file k out))
    unfolding keep_in keep_file_in keep_of
    in_short z = shorter file kept_refusal pruned good_kept out (decided-by z) bytes

    pub keep-rule : KeepRuleOf file k (keep_file_in file k out) o
    keep-rule = record {
      is_read = λ z. (as_pruned z).accepted;
      shorter_form = in_short;
      same_rack = λ z. (as_pruned z).rack-is;
      same_quantities = λ z. (as_pruned z).quantities_are;
      exact = λ z.
          let free = earlier_none file kept_refusal pruned good_kept out (decided-by z) in
          rw (as_pruned z).sets_are (keep_exact (read_refusal file) k (read_good file) free);
      refuses = refuses;
    }

-- a refusal of keep alone is none of the output's, and that of the output is 11
pub keep-number : (z : ℤ) → eqb (keep_refusal none z).number 11 ≡ false
unfolding keep_refusal or_else
keep-number z = by (is_negative z)
  where
    by : (b : Bool) → eqb (when b 26).number 11 ≡ false
    by true = refl
    by false = refl

pub write-number : (v n room : ℕ) → ((write_refusal none v n room).number ≡ 0 → ⊥) → eqb (write_refusal none v n room).number 11 ≡ true
unfolding write_refusal or_else
write-number v n room = by (ltb room (file_length v n))
  where
    by : (b : Bool) → ((when b 11).number ≡ 0 → ⊥) → eqb (when b 11).number 11 ≡ true
    by true f = refl
    by false f = absurd (f refl)

-- ---- what is given by a result

-- the rule of what is given and left, where these are what keep gives and leaves
pub kept-ruled : (file : List ℕ) (k : ℕ) (out : List ℕ) → Bytes file → {o : Outcome} {last : List ℕ}
    → o ≡ keep_in file k (length out) → last ≡ keep_file_in file k out → KeepRuleOf file k last o
kept-ruled file k out bytes {o} {last} p q =
    subst (λ x. KeepRuleOf file k x o) (sym q)
    (subst (λ x. KeepRuleOf file k (keep_file_in file k out) x) (sym p) (keep-rule file k out bytes))

-- a refusal of writing gives no margin, and only 26 has one
no_margin : twos_complement (pos 0) ≡ 0
unfolding twos_complement
no_margin = refl

module _ (file : List ℕ) (e : none ≡ read_refusal file) {m : ℕ} {qs sets : List ℕ} (given : none.number ≡ 0 → GoodLines m qs sets)
    (same : none.number ≡ 0 → AsRead file m qs sets) (k : ℕ) (out : List ℕ) where
  -- keep is refused: nothing is written
  pub margin-refused : (u : Unkept) → keep_told (Err u) ≡ keep_of none m qs sets k
      → (refused_outcome u.refused (twos_complement u.margin) ≡ keep_in file k (length out)) × (out ≡ keep_file_in file k out)
  unfolding keep_of
  margin-refused u p =
      let left = prune_q m qs sets k in
      let (f, g) = write_stopped (told_of u.refused) m qs left out (reason_not_0 u.refused.reason) in
      let (o, b) = keep-in file e given same k {kept = keep_told (Err u)} p {last = left} (λ _. refl) out f g in
      let number : eqb (reason_number u.refused.reason) 11 ≡ false =
      ap (λ a. eqb a.refusal.number 11) p ∙ keep-number (margin m (repeated qs sets) k) in
      (ap (λ b. record { refusal = told_of u.refused; first = cond b 0 (twos_complement u.margin); second = 0; third = 0 }) (sym number) ∙ o, b)

  module _ {z : ℤ} (p : keep_told (Ok z) ≡ keep_of none m qs sets k) {last : List ℕ}
      (q : none.number ≡ 0 → last ≡ prune_q m qs sets k) {bytes : List ℕ} where
    -- the output has no room: the refusal has no margin
    pub write-refused : (w : Refused) → file_told (Err w) ≡ write_of none qs last (length out)
        → bytes ≡ write_buffer none m qs last out
        → (refused_outcome w (twos_complement (pos 0)) ≡ keep_in file k (length out)) × (bytes ≡ keep_file_in file k out)
    unfolding write_of
    write-refused w f g =
        let (o, b) = keep-in file e given same k p q out f g in
        let told = ap (λ a. a.refusal) f in
        let number : eqb (reason_number w.reason) 11 ≡ true =
        ap (λ r. eqb r.number 11) told
        ∙ write-number (version_for qs) (length last) (length out)
        (λ h. reason_not_0 w.reason (ap (λ r. r.number) told ∙ h)) in (
          ap (refused_outcome w) no_margin
              ∙ ap (λ b. record { refusal = told_of w; first = cond b 0 (twos_complement z); second = 0; third = 0 }) (sym number) ∙ o,
          b,
        )

    pub kept-written : (size : ℕ) → file_told (Ok size) ≡ write_of none qs last (length out)
        → bytes ≡ write_buffer none m qs last out
        → (record { refusal = none; first = twos_complement z; second = size; third = 0 } ≡ keep_in file k (length out))
        × (bytes ≡ keep_file_in file k out)
    kept-written size f g = keep-in file e given same k p q out f g
