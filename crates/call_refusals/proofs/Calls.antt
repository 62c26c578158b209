-- What is known where a call is not refused.
use Prim.Native.Nat.{ℕ, ◌+◌, ◌*◌, ◌≤◌, ◌<◌}
use mathlib.Core.Path.{◌≡◌, refl, sym, ap, ◌∙◌}
use mathlib.Core.Bool.{Bool, true, false, cond}
use mathlib.Core.List.{List}
use mathlib.Core.Logic.{⊎_elim}
use native.Mathlib.Omega.{arith}
use lib.Dec.{T, eqb, ltb}
use lib.IntN.{ℤ, pos, negsuc}
use lib.Signed.{lt_z}
use mir.Syntax.{w32}
use mir.Val.{SFits, to_z, of_z}
use mir.ValLaws.{to_z-of_z}
use lib.ListN.{length, get_or}
use borrow.Author.Tests.{eq-eqb, ne_eqb, eqb-true, eqb-false, lt-ltb, le-ltb, ltb-false}
use Rattle.model.specs.Count.{All, first_fail}
use Rattle.model.specs.Choice.{Mounted}
use Rattle.model.specs.Plan.{Domain}
use Rattle.model.specs.Interval.{named, is_run_of, Misses}
use Rattle.model.specs.Limits.{most_tips, most_lines, most_placements}
use Rattle.model.proofs.Tests.{le_or_lt}
use Rattle.model.proofs.Lists.{all-at}
use Rattle.model.proofs.Fails.{none_fails, fails_at, fails_first}
use Rattle.model.proofs.Run.{run_misses, broken_misses}
use Rattle.refusal.specs.Told.{Refusal}
use Rattle.refusal.specs.Refusal.{refuse, accepts, or_else, when}
use Rattle.refusal.proofs.Laws.{or_first, or_next, or_none, when-none, scan-none, scan_passes, scan-at}
use Rattle.job.specs.Job.{file_length, line_number}
use Rattle.job.proofs.Reading.{line-number}
use Rattle.call_refusals.specs.Calls.{add_refusal, is_negative, keep_refusal, is_outside, mounted_refusal}
use Rattle.call_refusals.specs.Calls.{plan_refusal, run_refusal, best_refusal, write_refusal}

-- the code's test of the sign of a number of 32 bits
pub sign_test : (y : ℤ) → SFits w32 y → lt_z (to_z w32 (of_z w32 y)) (pos 0) ≡ is_negative y
sign_test y fits = rw (to_z-of_z w32 y fits) (by y)
  where
    by : (x : ℤ) → lt_z x (pos 0) ≡ is_negative x
    by (pos n) = le-ltb n 0 (omega arith)
    by (negsuc n) = refl

-- a buffer of room places that is not refused has n; a limit that is not passed
long_enough : (room n number : ℕ) → (number ≡ 0 → ⊥) → (when (ltb room n) number).number ≡ 0 → n ≤ room
long_enough room n number h z = ltb-false room n (when-none (ltb room n) number h z)

-- what is known where a line can be added to n lines that have t placements
pub record Addable (earlier : Refusal) (m n t s q : ℕ) : Type 0 where
  pub free : earlier.number ≡ 0
  pub not_full : n ≡ most_lines → ⊥
  pub domain : Domain m s
  pub placed : 1 ≤ q
  pub few : t + q ≤ most_placements

module _ (earlier : Refusal) where
  -- a line can be added: the board is not full, the line is good, and with it the placements are few
  pub add_none : (m n t s q : ℕ) → (add_refusal earlier m n t s q).number ≡ 0 → Addable earlier m n t s q
  unfolding add_refusal
  add_none m n t s q z =
      let full = when (eqb n most_lines) 24 in
      let line = refuse (line_number m s q) in
      let over = when (ltb most_placements (t + q)) 30 in
      let (free, later) = or_none earlier (or_else full (or_else line over)) z in
      let (below, last) = or_none full (or_else line over) later in
      let (good, within) = or_none line over last in
      let (domain, placed) = (line-number m s q).0 good in
      record {
        free = free;
        not_full = eqb-false n most_lines (when-none (eqb n most_lines) 24 (λ e. omega arith) below);
        domain = domain;
        placed = placed;
        few = long_enough most_placements (t + q) 30 (λ e. omega arith) within;
      }

  module _ (z : earlier.number ≡ 0) (m n t s q : ℕ) where
    pub add_full : n ≡ most_lines → refuse 24 ≡ add_refusal earlier m n t s q
    unfolding add_refusal or_else
    add_full e = rw (eq-eqb earlier.number 0 z, eq-eqb n most_lines e)

    module _ (h : n ≡ most_lines → ⊥) where
      pub add-line : (line_number m s q ≡ 0 → ⊥) → refuse (line_number m s q) ≡ add_refusal earlier m n t s q
      unfolding add_refusal or_else
      add-line k = rw (eq-eqb earlier.number 0 z, ne_eqb n most_lines h, ne_eqb (line_number m s q) 0 k)

      pub add_over : line_number m s q ≡ 0 → when (ltb most_placements (t + q)) 30 ≡ add_refusal earlier m n t s q
      unfolding add_refusal or_else
      add_over e = rw (eq-eqb earlier.number 0 z, ne_eqb n most_lines h, eq-eqb (line_number m s q) 0 e)

  -- the plan buffer's refusal, and what follows it in best sharing
  module _ (z : earlier.number ≡ 0) (m : ℕ) (lines : List ℕ) (room places : ℕ) where
    pub best-short : room < length lines → refuse 4 ≡ best_refusal earlier m lines room places
    unfolding best_refusal plan_refusal or_else
    best-short h = rw (eq-eqb earlier.number 0 z, lt-ltb room (length lines) h)

    pub best_few : length lines ≤ room → places < m * m → refuse 5 ≡ best_refusal earlier m lines room places
    unfolding best_refusal plan_refusal or_else
    best_few h l = rw (eq-eqb earlier.number 0 z, le-ltb room (length lines) h, lt-ltb places (m * m) l)

    pub best-run : length lines ≤ room → m * m ≤ places → run_refusal lines ≡ best_refusal earlier m lines room places
    unfolding best_refusal plan_refusal or_else
    best-run h l = rw (eq-eqb earlier.number 0 z, le-ltb room (length lines) h, le-ltb places (m * m) l)

  pub keep-none : (margin : ℤ) → (keep_refusal earlier margin).number ≡ 0 → (earlier.number ≡ 0) × (is_negative margin ≡ false)
  unfolding keep_refusal
  keep-none margin z =
      let (free, rest) = or_none earlier (when (is_negative margin) 26) z in
      (free, when-none (is_negative margin) 26 (λ e. omega arith) rest)

  -- nothing is refused before, and the mounted tip is in the rack
  pub mounted_none : (m : ℕ) (mounted : Mounted) → (mounted_refusal earlier m mounted).number ≡ 0
      → (earlier.number ≡ 0) × (is_outside m mounted ≡ false)
  unfolding mounted_refusal
  mounted_none m mounted = by (is_outside m mounted)
    where
      by : (t : Bool) → (cond {A = Refusal} t (or_else earlier (refuse 16)) earlier).number ≡ 0 → (earlier.number ≡ 0) × (t ≡ false)
      by true z = absurd (omega (arith, (or_none earlier (refuse 16) z).1))
      by false z = (z, refl)

  -- an earlier refusal stays; else the mounted tip decides
  pub mounted_earlier : (m : ℕ) (mounted : Mounted) → (earlier.number ≡ 0 → ⊥) → earlier ≡ mounted_refusal earlier m mounted
  unfolding mounted_refusal
  mounted_earlier m mounted n = by (is_outside m mounted)
    where
      by : (t : Bool) → earlier ≡ cond {A = Refusal} t (or_else earlier (refuse 16)) earlier
      by true = or_first refl (refuse 16) n
      by false = refl

  pub mounted_outside : (m : ℕ) (mounted : Mounted) → earlier.number ≡ 0 → is_outside m mounted ≡ true
      → refuse 16 ≡ mounted_refusal earlier m mounted
  unfolding mounted_refusal
  mounted_outside m mounted z e = or_next {d = earlier} refl (refuse 16) z refl ∙ rw e

  pub mounted_inside : (m : ℕ) (mounted : Mounted) → is_outside m mounted ≡ false → earlier ≡ mounted_refusal earlier m mounted
  unfolding mounted_refusal
  mounted_inside m mounted e = rw e

  -- the rack counts only where nothing is refused before
  pub mounted_same : {m n : ℕ} (mounted : Mounted) → (earlier.number ≡ 0 → m ≡ n)
      → mounted_refusal earlier m mounted ≡ mounted_refusal earlier n mounted
  mounted_same {m} {n} mounted same = by (accepts earlier) refl
    where
      by : (t : Bool) → accepts earlier ≡ t → mounted_refusal earlier m mounted ≡ mounted_refusal earlier n mounted
      by true e = rw (same (eqb-true earlier.number 0 e)) refl
      by false e = let h = eqb-false earlier.number 0 e in sym (mounted_earlier m mounted h) ∙ mounted_earlier n mounted h

  -- the plan buffer has a byte a line
  pub plan_none : (n room : ℕ) → (plan_refusal earlier n room).number ≡ 0 → (earlier.number ≡ 0) × (n ≤ room)
  unfolding plan_refusal
  plan_none n room z =
      let (free, rest) = or_none earlier (when (ltb room n) 4) z in
      (free, long_enough room n 4 (λ e. omega arith) rest)

  -- the output has room for the file
  pub write_none : (v n room : ℕ) → (write_refusal earlier v n room).number ≡ 0 → (earlier.number ≡ 0) × (file_length v n ≤ room)
  unfolding write_refusal
  write_none v n room z =
      let (free, rest) = or_none earlier (when (ltb room (file_length v n)) 11) z in
      (free, long_enough room (file_length v n) 11 (λ e. omega arith) rest)

-- what is known where best sharing is not refused
pub record Bestable (earlier : Refusal) (m : ℕ) (lines : List ℕ) (room places : ℕ) : Type 0 where
  pub free : earlier.number ≡ 0
  pub bytes : length lines ≤ room
  pub cells : m * m ≤ places
  pub runs : All (λ s. T (is_run_of (named lines) s)) lines

pub best_none : (earlier : Refusal) (m : ℕ) (lines : List ℕ) (room places : ℕ) → (best_refusal earlier m lines room places).number ≡ 0
    → Bestable earlier m lines room places
unfolding best_refusal
best_none earlier m lines room places z =
    let short = when (ltb places (m * m)) 5 in
    let (plan, rest) = or_none (plan_refusal earlier (length lines) room) (or_else short (run_refusal lines)) z in
    let (table, run) = or_none short (run_refusal lines) rest in
    let (free, bytes) = plan_none earlier (length lines) room plan in
    record {
      free = free;
      bytes = bytes;
      cells = long_enough places (m * m) 5 (λ e. omega arith) table;
      runs = scan-none (is_run_of (named lines)) (λ _. 25) lines (λ _ e. omega (arith, e)) run;
    }

-- 25 IS TOLD at the first line that misses a named tip
pub record MissTold (lines : List ℕ) (r : Refusal) : Type 0 where
  pub number_is : r.number ≡ 25
  pub inside : r.place < length lines
  pub tip : (c : ℕ) × Misses lines (get_or lines r.place 0) c
  pub first : (i c : ℕ) → i < r.place → Misses lines (get_or lines i 0) c → ⊥

pub run-told : {m : ℕ} {lines : List ℕ} → m ≤ most_tips → All (Domain m) lines → ((run_refusal lines).number ≡ 0 → ⊥)
    → MissTold lines (run_refusal lines)
run-told {m} {lines} narrow ds n =
    rw (scan-at run (λ _. 25) lines inside) (record {
      number_is = refl;
      inside = inside;
      tip = broken_misses lines (get_or lines (first_fail run lines) 0) (fails_at run lines inside);
      first = λ i c l. run_misses narrow (all-at 0 ds i (omega (arith, inside))) lines (fails_first run lines i l) c;
    })
  where
    run : ℕ → Bool
    run = is_run_of (named lines)

    inside : first_fail run lines < length lines
    inside =
        ⊎_elim
        (λ p. absurd (n (ap (λ r. r.number) (scan_passes run (λ _. 25) lines (none_fails run lines p)))))
        (λ p. p)
        (le_or_lt (length lines) (first_fail run lines))

-- an earlier refusal stays
module _ (earlier : Refusal) (n : earlier.number ≡ 0 → ⊥) where
  pub plan_first : (count room : ℕ) → earlier ≡ plan_refusal earlier count room
  unfolding plan_refusal
  plan_first count room = or_first {d = earlier} refl _ n

  pub best_first : (m : ℕ) (lines : List ℕ) (room places : ℕ) → earlier ≡ best_refusal earlier m lines room places
  unfolding best_refusal
  best_first m lines room places = or_first (plan_first (length lines) room) _ n
