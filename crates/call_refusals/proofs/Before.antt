-- TODAY'S REFUSALS ARE THE BASE'S for boards whose lines have quantity 1: 27 and 28 stand where 21 stood, and unbroken runs are no more refused.
use Prim.Native.Nat.{ℕ, ◌+◌, ◌*◌, ◌^◌, ◌≤◌, ◌<◌}
use mathlib.Core.Path.{◌≡◌, refl, sym, ap, ◌∙◌}
use mathlib.Core.Logic.{⊎_elim}
use mathlib.Core.Bool.{Bool, true, false, not, cond, ◌&&◌, ◌||◌}
use mathlib.Core.List.{List}
use native.Mathlib.Omega.{arith}
use lib.Dec.{T, T_not, ltb, leb, eqb, ltb→lt, lt→ltb}
use lib.IntN.{ℤ, pos, negsuc}
use lib.ListN.{length, take, drop, length-take}
use borrow.Author.Tests.{ne_eqb, eqb-true, leb-true, le-leb, le-ltb}
use Rattle.model.specs.Count.{All, each, first_fail}
use Rattle.model.specs.Plan.{Domain, rack_ok, in_rack}
use Rattle.model.specs.Limits.{most_tips, most_lines, most_placements}
use Rattle.model.specs.Choice.{bare}
use Rattle.model.specs.Interval.{is_run, named, is_run_of}
use Rattle.model.specs.Before.{is_run_before}
use Rattle.model.proofs.Tests.{le_or_lt, true_T, T_true, false_T, test, and_left, and_right, and_in}
use Rattle.model.proofs.Lists.{all_map, all_both, each_iff}
use Rattle.model.proofs.Fails.{none_fails}
use Rattle.model.proofs.Unbroken.{unbroken_runs}
use Rattle.model.proofs.Before.{run_before}
use Rattle.placements.specs.Repeated.{total}
use Rattle.placements.proofs.Repeated.{length-repeated, repeated_ones}
use Rattle.refusal.specs.Told.{Refusal}
use Rattle.refusal.specs.Refusal.{none, refuse, accepts, or_else, when, scan, refuse_at}
use Rattle.refusal.proofs.Laws.{or_same, scan_passes, scan-at}
use Rattle.job.specs.Job.{line_length, line_number}
use Rattle.sound.specs.Sound.{count_ok, first_wrong, first_held, sound_refusal}
use Rattle.sound.proofs.Laws.{Sound, sound_iff, sound_none, sound_holds}
use Rattle.call_refusals.specs.declared.Stage.{Stage}
use Rattle.call_refusals.specs.declared.Stage.TheVariants.{Open, Closed}
use Rattle.call_refusals.specs.State.{stage_refusal, state_refusal}
use Rattle.call_refusals.specs.Calls.{add_refusal, keep_refusal, mounted_refusal, plan_refusal, run_refusal, best_refusal, write_refusal}
use Rattle.call_refusals.specs.Before.{sound_before, stage_before, state_before, below_zero, set_before, told_before, Plain}
use Rattle.call_refusals.specs.Before.{add_refusal_before, keep_refusal_before, quick_refusal_before, best_refusal_before, write_refusal_before}
use Rattle.call_refusals.proofs.Calls.{plan_none}

-- ---- what the base told

-- it accepted what is accepted
pub told_accepts : (r : Refusal) → accepts (told_before r) ≡ accepts r
unfolding told_before
told_accepts r = by (eqb r.number 27) (eqb r.number 28) refl refl
  where
    by : (x y : Bool) → eqb r.number 27 ≡ x → eqb r.number 28 ≡ y → accepts (cond (x || y) (refuse 21) r) ≡ accepts r
    by true y e f = sym (ne_eqb r.number 0 (λ z. omega (arith, eqb-true r.number 27 e)))
    by false true e f = sym (ne_eqb r.number 0 (λ z. omega (arith, eqb-true r.number 28 f)))
    by false false e f = refl

-- a later refusal that the base knew is told as it is
told_or : (r x : Refusal) → told_before x ≡ x → told_before (or_else r x) ≡ or_else (told_before r) x
unfolding or_else
told_or r x h = rw (told_accepts r) (by (accepts r))
  where
    by : (t : Bool) → told_before (cond t x r) ≡ cond t x (told_before r)
    by true = h
    by false = refl

-- ---- the state

-- a board that is not sound was refused with 21
unsound_told : (a b c : Bool) (i j : ℕ) (next : Refusal) →
    let r = or_else (when a 21) (or_else (cond b (record { number = 27; place = i }) none) (cond c (record { number = 28; place = j }) none)) in
    (r.number ≡ 0 → ⊥) → told_before (or_else r next) ≡ refuse 21
unfolding or_else told_before
unsound_told true b c i j next n = refl
unsound_told false true c i j next n = refl
unsound_told false false true i j next n = refl
unsound_told false false false i j next n = absurd (n refl)

stage_told : (asked held : Stage) → told_before (or_else none (stage_refusal asked held)) ≡ refuse (stage_before asked held)
unfolding or_else told_before stage_refusal stage_before
stage_told Open Open = refl
stage_told Open Closed = refl
stage_told Closed Open = refl
stage_told Closed Closed = refl

module _ (m n : ℕ) (qs sets : List ℕ) (same : length qs ≡ length sets) (plain : Plain n qs) where
  abbrev inside : ℕ → Bool
  inside s = ltb 0 s && ltb s (2 ^ m)

  domain : (s : ℕ) → T (inside s) → Domain m s
  domain s t = record {
    some = ltb→lt 0 s (and_left (ltb 0 s) (ltb s (2 ^ m)) t);
    below = ltb→lt s (2 ^ m) (and_right (ltb 0 s) (ltb s (2 ^ m)) t);
  }

  -- as many placements as lines
  ones_total : total (take n qs) ≡ length (take n sets)
  ones_total =
      let size = same in
      let each_one : length (take n qs) ≡ length (take n sets) = omega (arith, size, length-take n qs, length-take n sets) in
      sym (length-repeated (take n qs) (take n sets) each_one) ∙ ap length (repeated_ones plain.ones (take n sets) each_one)

  -- the base's sound boards are sound
  sound_now : T (sound_before m n sets) → Sound m n qs sets
  unfolding sound_before
  sound_now t =
      let size = same in
      let r = leb 1 m && leb m 64 in
      let l = each inside (take n sets) in
      let e = each (λ s. eqb s 0) (drop n sets) in
      let rack = and_left r (leb n 512 && (l && e)) t in
      let u = and_right r (leb n 512 && (l && e)) t in
      let v = and_right (leb n 512) (l && e) u in
      let count : n ≤ most_lines = leb-true n 512 (true_T _ (and_left (leb n 512) (l && e) u)) in
      record {
        good = record {
          some = leb-true 1 m (true_T _ (and_left (leb 1 m) (leb m 64) rack));
          most = leb-true m 64 (true_T _ (and_right (leb 1 m) (leb m 64) rack));
          few-lines = omega (arith, count, length-take n sets);
          same = omega (arith, size, length-take n qs, length-take n sets);
          placed = all_map (λ q o. omega (arith, o)) plain.ones;
          few = omega (arith, count, ones_total, length-take n sets);
          domains = all_map domain ((each_iff inside (take n sets)).0 (and_left l e v));
        };
        count_most = count;
        rest = and_right l e v;
        quantities_rest = plain.rest;
      }

  -- and the sound boards of today were
  sound_then : Sound m n qs sets → T (sound_before m n sets)
  unfolding sound_before
  sound_then s =
      let g = s.good in
      let l = each inside (take n sets) in
      let e = each (λ x. eqb x 0) (drop n sets) in
      let rack = and_in (leb 1 m) (leb m 64) (T_true (le-leb 1 m (g.some))) (T_true (le-leb m 64 (g.most))) in
      let own = (each_iff inside (take n sets)).1
      (all_map (λ x d. and_in (ltb 0 x) (ltb x (2 ^ m)) (lt→ltb 0 x (d.some)) (lt→ltb x (2 ^ m) (d.below))) (g.domains)) in
      and_in (leb 1 m && leb m 64) (leb n 512 && (l && e)) rack
      (and_in (leb n 512) (l && e) (T_true (le-leb n 512 (s.count_most))) (and_in l e own (s.rest)))

  abbrev Same : Stage → Stage → Type 0
  Same asked stage =
      told_before (or_else (sound_refusal m n qs sets) (stage_refusal asked stage))
      ≡ refuse (cond (sound_before m n sets) (stage_before asked stage) 21)

  unsound : (asked stage : Stage) → T (not (sound_before m n sets)) → Same asked stage
  unfolding sound_refusal
  unsound asked stage t =
      let i = first_wrong m (take n qs) (take n sets) in
      let j = n + first_held (drop n qs) (drop n sets) in
      let range = not (rack_ok m && count_ok n) in
      rw (false_T (sound_before m n sets) t) (unsound_told range (ltb i (length (take n sets))) (ltb j (length sets)) i j (stage_refusal asked stage)
      (λ z. T_not (sound_before m n sets) t (sound_then (sound_none m n qs sets same z))))

  -- THE STATE'S REFUSALS, where 21 told all that 27 and 28 tell
  pub state-before : (asked stage : Stage) → told_before (state_refusal asked m stage n qs sets) ≡ state_before asked m stage n sets
  unfolding state_refusal state_before
  state-before asked stage = ⊎_elim sound (unsound asked stage) (test (sound_before m n sets))
    where
      sound : T (sound_before m n sets) → Same asked stage
      sound t =
          rw (true_T (sound_before m n sets) t, sound_holds m n qs sets same ((sound_iff m n qs sets same).1 (sound_now t))) (stage_told asked stage)

-- ---- the calls

-- a number that the base had is told as it is
known : (t : Bool) (n : ℕ) → (eqb n 27 || eqb n 28) ≡ false → told_before (when t n) ≡ when t n
unfolding told_before
known true n e = rw e refl
known false n e = refl

best_known : (t b : Bool) (i : ℕ) →
    let r = or_else (when t 5) (cond b (record { number = 25; place = i }) none) in
    told_before r ≡ r
unfolding told_before or_else
best_known true b i = refl
best_known false true i = refl
best_known false false i = refl

add_known : (a b c : Bool) →
    let r = or_else (when a 24) (refuse (cond b 2 (cond c 0 3))) in
    told_before r ≡ r
unfolding told_before or_else
add_known true b c = refl
add_known false true c = refl
add_known false false true = refl
add_known false false false = refl

-- nothing follows the last refusal
pub or_last : (n : ℕ) → or_else (refuse n) none ≡ refuse n
unfolding or_else
or_last n = by (eqb n 0) refl
  where
    by : (t : Bool) → eqb n 0 ≡ t → cond t none (refuse n) ≡ refuse n
    by true e = ap refuse (sym (eqb-true n 0 e))
    by false e = refl

-- a line of quantity 1 is refused by its set
line-before : (m s : ℕ) → line_number m s 1 ≡ set_before m s
unfolding line_number in_rack set_before
line-before m s = by (eqb s 0) (ltb s (2 ^ m))
  where
    by : (a b : Bool) → ◌≡◌ {A = ℕ} (cond a 2 (cond (not b) 3 0)) (cond a 2 (cond b 0 3))
    by true b = refl
    by false true = refl
    by false false = refl

-- after the same earlier refusal, and after what the base told of it
module _ (earlier : Refusal) where
  -- one placement more is not too many
  pub add-same : (m n t s : ℕ) → (earlier.number ≡ 0 → t < most_placements) → add_refusal earlier m n t s 1 ≡ add_refusal_before earlier m n s
  unfolding add_refusal add_refusal_before
  add-same m n t s few =
      or_same earlier (λ z.
      let over = le-ltb most_placements (t + 1) (omega (arith, few z)) in
      ap (or_else (when (eqb n most_lines) 24))
      (ap (λ b. or_else (refuse (line_number m s 1)) (when b 30)) over ∙ or_last (line_number m s 1) ∙ ap refuse (line-before m s)))

  pub add-told : (m n s : ℕ) → told_before (add_refusal_before earlier m n s) ≡ add_refusal_before (told_before earlier) m n s
  unfolding add_refusal_before set_before
  add-told m n s = told_or earlier _ (add_known (eqb n 512) (eqb s 0) (ltb s (2 ^ m)))

  pub keep-same : (z : ℤ) → keep_refusal earlier z ≡ keep_refusal_before earlier z
  unfolding keep_refusal keep_refusal_before below_zero
  keep-same (pos n) = refl
  keep-same (negsuc n) = refl

  pub keep-told : (z : ℤ) → told_before (keep_refusal_before earlier z) ≡ keep_refusal_before (told_before earlier) z
  unfolding keep_refusal_before
  keep-told z = told_or earlier (when (below_zero z) 26) (known (below_zero z) 26 refl)

  pub quick-same : (n room : ℕ) → plan_refusal earlier n room ≡ quick_refusal_before earlier n room
  unfolding plan_refusal quick_refusal_before
  quick-same n room = refl

  pub quick-told : (n room : ℕ) → told_before (quick_refusal_before earlier n room) ≡ quick_refusal_before (told_before earlier) n room
  unfolding quick_refusal_before
  quick-told n room = told_or earlier (when (ltb room n) 4) (known (ltb room n) 4 refl)

  -- without a mounted tip nothing is asked
  pub bare-same : (m : ℕ) → mounted_refusal earlier m bare ≡ earlier
  unfolding mounted_refusal
  bare-same m = refl

  pub write-same : (n room : ℕ) → write_refusal earlier 1 n room ≡ write_refusal_before earlier n room
  unfolding write_refusal write_refusal_before line_length
  write-same n room = refl

  pub write-told : (n room : ℕ) → told_before (write_refusal_before earlier n room) ≡ write_refusal_before (told_before earlier) n room
  unfolding write_refusal_before
  write-told n room = told_or earlier (when (ltb room (8 + 8 * n)) 11) (known (ltb room (8 + 8 * n)) 11 refl)

  pub best-told : (m : ℕ) (lines : List ℕ) (room places : ℕ)
      → told_before (best_refusal_before earlier m lines room places) ≡ best_refusal_before (told_before earlier) m lines room places
  unfolding best_refusal_before scan
  best-told m lines room places =
      let i = first_fail is_run_before lines in
      let last = or_else (when (ltb places (m * m)) 5) (refuse_at 25 i (length lines)) in
      told_or (quick_refusal_before earlier (length lines) room) last (best_known (ltb places (m * m)) (ltb i (length lines)) i)
      ∙ ap (λ r. or_else r last) (quick-told (length lines) room)

module _ {m : ℕ} {lines : List ℕ} (narrow : m ≤ most_tips) (ds : All (Domain m) lines) where
  unbroken : All (λ s. T (is_run_before s)) lines → All (λ s. T (is_run s)) lines
  unbroken rs = all_map (λ s (d, r). rw (run_before narrow d) r) (all_both ds rs)

  -- unbroken runs are not refused, and were not
  runs_before : All (λ s. T (is_run_before s)) lines → run_refusal lines ≡ scan is_run_before (λ _. 25) lines
  runs_before rs =
      scan_passes (is_run_of (named lines)) (λ _. 25) lines (unbroken_runs narrow ds (unbroken rs))
      ∙ sym (scan_passes is_run_before (λ _. 25) lines rs)

  -- WHERE 25 IS GIVEN THE BASE GAVE IT, if not at the same line
  pub broken_before : ((run_refusal lines).number ≡ 0 → ⊥) → (scan is_run_before (λ _. 25) lines).number ≡ 25
  broken_before n =
      ap (λ r. r.number) (scan-at is_run_before (λ _. 25) lines (⊎_elim
      (λ p.
      let rs = none_fails is_run_before lines p in
      absurd (n (ap (λ r. r.number) (runs_before rs ∙ scan_passes is_run_before (λ _. 25) lines rs))))
      (λ p. p)
      (le_or_lt (length lines) (first_fail is_run_before lines))))

-- the lines are good where nothing is refused before, and unbroken runs
module _ (earlier : Refusal) {m : ℕ} {lines : List ℕ} (good : earlier.number ≡ 0 → (m ≤ most_tips) × All (Domain m) lines)
    (rs : All (λ s. T (is_run_before s)) lines) where
  pub best-same : (room places : ℕ) → best_refusal earlier m lines room places ≡ best_refusal_before earlier m lines room places
  unfolding best_refusal best_refusal_before plan_refusal quick_refusal_before
  best-same room places =
      or_same (plan_refusal earlier (length lines) room) (λ z.
      let (narrow, ds) = good (plan_none earlier (length lines) room z).0 in
      ap (or_else (when (ltb places (m * m)) 5)) (runs_before narrow ds rs))
