-- Each of two boards planned alone: what is answered and left, refused and accepted, and the half rule of each plan where it stands.
use Prim.Native.Nat.{ℕ, ◌+◌, ◌-◌, ◌≤◌}
use mathlib.Core.Path.{◌≡◌, refl, sym, ap, ◌∙◌}
use mathlib.Core.List.{List, ◌++◌, append_assoc, append-nil}
use native.Mathlib.Omega.{arith}
use lib.ListN.{length, take, drop, length-drop, drop_of_length-le}
use lib.Seq.{drop-drop, take_at, drop_at}
use borrow.Author.Tests.{eq-eqb, le-ltb}
use Rattle.model.specs.Choice.{bare}
use Rattle.model.specs.Plan.{pairs}
use Rattle.model.proofs.Loops.{part-rest}
use Rattle.placements.specs.Repeated.{repeated}
use Rattle.placements.proofs.Plans.{length_quick}
use Rattle.refusal.specs.Told.{Refusal}
use Rattle.refusal.specs.Refusal.{none, or_else}
use Rattle.refusal.proofs.Laws.{number_of, or_first, refused, accepted, lent_refused, lent_accepted}
use Rattle.call_refusals.specs.Calls.{plan_refusal}
use Rattle.call_refusals.proofs.Calls.{plan_none}
use Rattle.line_calls.specs.Answers.{PlanAnswer}
use Rattle.line_calls.specs.Lines.{quick_of, quick_buffer}
use Rattle.line_calls.specs.Rules.{HalfRule}
use Rattle.panel.specs.Answers.{AloneAnswer}
use Rattle.panel.specs.Panel.{alone_refusal, alone_plan, alone_of, alone_buffer}
use Rattle.panel.specs.Rules.{AloneRule}

-- an earlier refusal stays; else the decision by the counts is that by the lines
pub alone_stopped : (earlier : Refusal) (lines others : List ℕ) (room : ℕ) → (earlier.number ≡ 0 → ⊥)
    → earlier ≡ alone_refusal earlier lines others room
unfolding plan_refusal
alone_stopped earlier lines others room f = or_first {d = earlier} refl _ f

-- the half rule speaks of the first bytes of a buffer, and only where the number is 0
half_front : {qs lines x y : List ℕ} {k l shared : ℕ} → take (length lines) x ≡ take (length lines) y → (l ≡ 0 → k ≡ 0)
    → HalfRule qs lines x k shared → HalfRule qs lines y l shared
half_front e f r = record {
  plan = λ z. record { own = rw (← e) (r.plan (f z)).own; counted = rw (← e) (r.plan (f z)).counted };
  half = λ z. r.half (f z);
}

half_stopped : (qs lines buffer : List ℕ) {k : ℕ} (shared : ℕ) → (k ≡ 0 → ⊥) → HalfRule qs lines buffer k shared
half_stopped qs lines buffer shared f = record { plan = λ z. absurd (f z); half = λ z. absurd (f z) }

-- a refusal that is none, and a buffer that is long enough
plan_free : (d : Refusal) → d.number ≡ 0 → (n room : ℕ) → n ≤ room → plan_refusal d n room ≡ none
unfolding plan_refusal or_else
plan_free d z n room h = rw (eq-eqb d.number 0 z, le-ltb room n h) refl

-- quick sharing of lines, without a mounted tip, where nothing is refused
module _ (d : Refusal) (z : d.number ≡ 0) (m : ℕ) (qs lines : List ℕ) where
  module _ (room : ℕ) (h : length lines ≤ room) {a : PlanAnswer} (e : a ≡ quick_of d m bare qs lines room) where
    pub quick_number : a.refusal.number ≡ 0
    unfolding quick_of
    quick_number = ap (λ x. x.refusal.number) e ∙ ap (λ r. r.number) (plan_free d z (length lines) room h)

    quick-pairs : a.pairs ≡ pairs (repeated qs (alone_plan m qs lines))
    unfolding quick_of
    quick-pairs = ap (λ x. x.pairs) e ∙ accepted _ 0 {d = none} (sym (plan_free d z (length lines) room h)) refl

  quick-plan : (old : List ℕ) → length lines ≤ length old → {new : List ℕ} → new ≡ quick_buffer d m bare qs lines old
      → new ≡ alone_plan m qs lines ++ drop (length lines) old
  unfolding quick_buffer
  quick-plan old h e = e ∙ accepted _ old {d = none} (sym (plan_free d z (length lines) (length old) h)) refl

module _ (earlier : Refusal) (m : ℕ) (qs lines : List ℕ) (o : ℕ) (rs others old : List ℕ) where
  abbrev plans : List ℕ
  plans = alone_plan m qs lines ++ alone_plan o rs others

  -- the three clauses, for what the code answers and leaves
  abbrev Both : AloneAnswer → List ℕ → Type 0
  Both r last =
      (r ≡ alone_of earlier m qs lines o rs others (length old))
      × ((last ≡ alone_buffer earlier m qs lines o rs others old)
      × AloneRule qs lines rs others last r.refusal.number r.first_pairs r.second_pairs)

  module _ {d : Refusal} (e : d ≡ alone_refusal earlier lines others (length old)) where
    pub alone_refused : (d.number ≡ 0 → ⊥) → Both (record { refusal = d; first_pairs = 0; second_pairs = 0 }) old
    unfolding alone_of alone_buffer
    alone_refused f = (
      rw (e, refused (pairs (repeated qs (alone_plan m qs lines))) 0 e f, refused (pairs (repeated rs (alone_plan o rs others))) 0 e f) refl,
      (
        lent_refused e (length lines + length others) plans old f,
        record { first_half = half_stopped qs lines old 0 f; second_half = half_stopped rs others (drop (length lines) old) 0 f },
      ),
    )

    -- the two plans as quick sharing leaves them: the second in the part from n on, which reaches to the end
    module _ (z : d.number ≡ 0) {n : ℕ} (count : n ≡ length lines) {a b : PlanAnswer} {first second : List ℕ}
        (p : a ≡ quick_of d m bare qs lines (length old)) (q : first ≡ quick_buffer d m bare qs lines old)
        (v : HalfRule qs lines first a.refusal.number a.pairs)
        (s : b ≡ quick_of d o bare rs others (length (take (length first - n) (drop n first))))
        (t : second ≡ quick_buffer d o bare rs others (take (length first - n) (drop n first)))
        (w : HalfRule rs others second b.refusal.number b.pairs) where
      abbrev last : List ℕ
      last = take n first ++ (second ++ drop (length first - n) (drop n first))

      few : length lines + length others ≤ length old
      few = (plan_none earlier (length lines + length others) (length old) (number_of e z)).1

      -- the first plan, then the bytes after it
      first_is : first ≡ alone_plan m qs lines ++ drop n old
      first_is = rw count (quick-plan d z m qs lines old (omega (arith, few)) q)

      front : take n first ≡ alone_plan m qs lines
      front = ap (take n) first_is ∙ take_at (alone_plan m qs lines) (drop n old) n (length_quick bare m qs lines ∙ sym count)

      behind : drop n first ≡ drop n old
      behind = ap (drop n) first_is ∙ drop_at (alone_plan m qs lines) (drop n old) n (length_quick bare m qs lines ∙ sym count)

      -- the part is all that is behind the first plan
      part : take (length first - n) (drop n first) ≡ drop n old
      part = part-rest first n ∙ behind

      room : length others ≤ length (drop n old)
      room = omega (arith, few, count, length-drop n old)

      second_is : second ≡ alone_plan o rs others ++ drop (n + length others) old
      second_is =
          quick-plan d z o rs others (drop n old) room (t ∙ ap (quick_buffer d o bare rs others) part)
          ∙ ap (λ l. alone_plan o rs others ++ l) (drop-drop (length others) n old)

      last_is : last ≡ take n first ++ second
      last_is =
          let nothing = drop_of_length-le (drop n first) {i = length first - n} (rw length-drop (omega arith)) in
          rw (nothing, append-nil) refl

      first_half : HalfRule qs lines last d.number a.pairs
      first_half =
          let same : take (length lines) first ≡ take (length lines) last =
          rw (last_is, ← count) (sym (take_at (take n first) second n (ap length front ∙ length_quick bare m qs lines ∙ sym count))) in
          half_front same (λ _. quick_number d z m qs lines (length old) (omega (arith, few)) p) v

      second_half : HalfRule rs others (drop (length lines) last) d.number b.pairs
      second_half =
          let same : second ≡ drop (length lines) last =
          rw (last_is, ← count) (sym (drop_at (take n first) second n (ap length front ∙ length_quick bare m qs lines ∙ sym count))) in
          half_front (ap (take (length others)) same)
          (λ _. quick_number d z o rs others (length (drop n old)) room (s ∙ ap (λ l. quick_of d o bare rs others (length l)) part)) w

      -- both plans, then the bytes past them
      together : alone_plan m qs lines ++ (alone_plan o rs others ++ drop (length lines + length others) old)
          ≡ alone_buffer earlier m qs lines o rs others old
      unfolding alone_buffer
      together =
          sym (append_assoc (alone_plan m qs lines) (alone_plan o rs others) (drop (length lines + length others) old))
          ∙ lent_accepted e (length lines + length others) plans old z refl

      pub alone_accepted : Both (record { refusal = d; first_pairs = a.pairs; second_pairs = b.pairs }) last
      unfolding alone_of alone_buffer
      alone_accepted = (
        rw (
          e,
          accepted (pairs (repeated qs (alone_plan m qs lines))) 0 e z,
          accepted (pairs (repeated rs (alone_plan o rs others))) 0 e z,
          quick-pairs d z m qs lines (length old) (omega (arith, few)) p,
          quick-pairs d z o rs others (length (drop n old)) room (s ∙ ap (λ l. quick_of d o bare rs others (length l)) part),
        ) refl,
        (
          last_is ∙ rw (front, second_is, count) together,
          record { first_half = first_half; second_half = second_half },
        ),
      )
