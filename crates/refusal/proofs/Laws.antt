-- Laws of the ordered decision of a call: which refusal is the first, and what holds where none is.
use Prim.Native.Nat.{ℕ, ◌≤◌, ◌<◌}
use mathlib.Core.Path.{◌≡◌, refl, ap, sym, ◌∙◌}
use mathlib.Core.Bool.{Bool, true, false, cond}
use mathlib.Core.List.{List, [], ◌++◌, append-nil}
use native.Mathlib.Omega.{arith}
use lib.Dec.{T, ltb}
use lib.ListN.{length, take, drop, length-take, drop_of_length-le, take-append-drop}
use borrow.Author.Tests.{eq-eqb, ne_eqb, eqb-true, eqb-false, ltb-false, lt-ltb, le-ltb}
use Rattle.model.specs.Count.{All, first_fail, place_in}
use Rattle.model.proofs.Fails.{fails_none, none_fails}
use Rattle.refusal.specs.Told.{Refusal}
use Rattle.std.specs.Prelude.{Some, None, Result, Ok, Err}
use Rattle.std.specs.Result.{IsErr, IsErrAnd}
use Rattle.refusal.specs.declared.Reason.{Reason}
use Rattle.refusal.specs.declared.Reason.TheVariants.{RackSize, EmptyLine, TipOutside, ShortPlan, ShortTable, ShortFile, WrongMark, WrongVersion}
use Rattle.refusal.specs.declared.Reason.TheVariants.{FileLines, FileLength, ShortOutput, BadWindow, BadRule, ShortOrder, ZeroQuantity}
use Rattle.refusal.specs.declared.Reason.TheVariants.{MountedOutside, RacksDiffer, ForeignTip, WrongClaim, UnsoundBoard, BoardClosed, BoardOpen}
use Rattle.refusal.specs.declared.Reason.TheVariants.{TooManyLines, NoRun, NoPlan, UnsoundLine, HeldBehind, NoOrder, TooManyPlacements, NoTwoTips}
use Rattle.refusal.specs.declared.Reason.TheVariants.{WrongTable, GoalMissed, TooManyNamed, BrokenRecord}
use Rattle.refusal.specs.declared.Refused.{Refused}
use Rattle.refusal.specs.Reasons.{reason_number, told_of, refusal_of, refused_at}
use Rattle.refusal.specs.Refusal.{none, refuse, accepts, or_else, when, refuse_at, scan, lent_by, Given}

-- a refusal known by an equation has its number
pub number_of : {d r : Refusal} → d ≡ r → d.number ≡ 0 → r.number ≡ 0
number_of e z = ap (λ q. q.number) (sym e) ∙ z

pub number_not : {d r : Refusal} → d ≡ r → (d.number ≡ 0 → ⊥) → r.number ≡ 0 → ⊥
number_not e n z = n (ap (λ q. q.number) e ∙ z)

-- the first refuses; or it does not, and the next one decides
module _ {d r : Refusal} (e : d ≡ r) (next : Refusal) where
  pub or_first : (d.number ≡ 0 → ⊥) → d ≡ or_else r next
  unfolding or_else
  or_first n = e ∙ rw (ne_eqb r.number 0 (number_not e n))

  pub or_next : d.number ≡ 0 → {x : Refusal} → x ≡ next → x ≡ or_else r next
  unfolding or_else
  or_next z f = f ∙ rw (eq-eqb r.number 0 (number_of e z))

-- what comes next counts only where the first does not refuse
pub or_same : (first : Refusal) {x y : Refusal} → (first.number ≡ 0 → x ≡ y) → or_else first x ≡ or_else first y
unfolding or_else
or_same first {x} {y} h = by (accepts first) refl
  where
    by : (b : Bool) → accepts first ≡ b → cond b x first ≡ cond b y first
    by true e = h (eqb-true first.number 0 e)
    by false e = refl

-- no refusal is the first of two only where both are none
pub or_none : (first next : Refusal) → (or_else first next).number ≡ 0 → (first.number ≡ 0) × (next.number ≡ 0)
unfolding or_else
or_none first next = by (accepts first) refl
  where
    by : (b : Bool) → accepts first ≡ b → (cond b next first).number ≡ 0 → (first.number ≡ 0) × (next.number ≡ 0)
    by true e h = (eqb-true first.number 0 e, h)
    by false e h = absurd (eqb-false first.number 0 e h)

pub when-none : (test : Bool) (n : ℕ) → (n ≡ 0 → ⊥) → (when test n).number ≡ 0 → test ≡ false
when-none true n h e = absurd (h e)
when-none false n h e = refl

pub when_taken : (test : Bool) (n : ℕ) → 0 < (when test n).number → test ≡ true
when_taken true n h = refl
when_taken false n h = absurd (omega arith)

-- the number is not told at a place only past the places
pub at_none : (number i n : ℕ) → (number ≡ 0 → ⊥) → (refuse_at number i n).number ≡ 0 → n ≤ i
at_none number i n h = by (ltb i n) refl
  where
    by : (t : Bool) → ltb i n ≡ t → (cond {A = Refusal} t (record { number = number; place = i }) none).number ≡ 0 → n ≤ i
    by true e z = absurd (h z)
    by false e z = ltb-false i n e

-- THE SCAN: it refuses nothing exactly where each element passes
module _ {A : Type 0} (test : A → Bool) (number : ℕ → ℕ) (xs : List A) where
  pub scan-none : ((i : ℕ) → number i ≡ 0 → ⊥) → (scan test number xs).number ≡ 0 → All (λ x. T (test x)) xs
  unfolding scan
  scan-none h z = none_fails test xs (at_none (number (first_fail test xs)) (first_fail test xs) (length xs) (h (first_fail test xs)) z)

  pub scan_passes : All (λ x. T (test x)) xs → scan test number xs ≡ none
  unfolding scan
  scan_passes h = rw (le-ltb (first_fail test xs) (length xs) (omega (arith, fails_none test h))) refl

  pub scan-at : first_fail test xs < length xs → scan test number xs ≡ record { number = number (first_fail test xs); place = first_fail test xs }
  unfolding scan
  scan-at h = rw (lt-ltb (first_fail test xs) (length xs) h) refl

-- an answer by cases on the refusal: where it refuses, and where it does not
module _ {A : Type 0} (x y : A) {d r : Refusal} (e : d ≡ r) where
  pub refused : (d.number ≡ 0 → ⊥) → cond (accepts r) x y ≡ y
  refused n = rw (ne_eqb r.number 0 (number_not e n))

  pub accepted : d.number ≡ 0 → cond (accepts r) x y ≡ x
  accepted z = rw (eq-eqb r.number 0 (number_of e z))

-- a buffer after a refusal, and after none
module _ {d r : Refusal} (e : d ≡ r) (n : ℕ) (new old : List ℕ) where
  pub lent_refused : (d.number ≡ 0 → ⊥) → old ≡ lent_by r n new old
  lent_refused f = sym (refused _ _ e f)

  pub lent_accepted : d.number ≡ 0 → {out : List ℕ} → out ≡ new → out ++ drop n old ≡ lent_by r n new old
  lent_accepted z q = rw q (sym (accepted _ _ e z))

-- an answer whose refusing case tells the refusal's number tells 0 only where nothing is refused
pub by_number : {A : Type 0} (r : Refusal) (number : A → ℕ) (x y : A) → number y ≡ r.number → number (cond (accepts r) x y) ≡ 0 → r.number ≡ 0
by_number r number x y e = by (accepts r) refl
  where
    by : (b : Bool) → accepts r ≡ b → number (cond b x y) ≡ 0 → r.number ≡ 0
    by true t h = eqb-true r.number 0 t
    by false t h = sym e ∙ h

-- lines given after one refusal are given after a later one
pub later : {r d : Refusal} {m n : ℕ} {qs sets : List ℕ} → (d.number ≡ 0 → r.number ≡ 0) → Given r m n qs sets → Given d m n qs sets
later f g = record { room = λ z. g.room (f z); quantity_room = λ z. g.quantity_room (f z); good = λ z. g.good (f z) }

-- a place among n places refuses as its number does
pub refused_place : (number i n : ℕ) → refused_at (place_in i n) number ≡ refuse_at number i n
refused_place number i n = by (ltb i n)
  where
    by : (b : Bool) → refused_at (cond b (Some i) None) number ≡ cond b (record { number = number; place = i }) none
    by true = refl
    by false = refl

-- no reason has the number 0
pub reason_not_0 : (reason : Reason) → reason_number reason ≡ 0 → ⊥
reason_not_0 RackSize h = cc
reason_not_0 EmptyLine h = cc
reason_not_0 TipOutside h = cc
reason_not_0 ShortPlan h = cc
reason_not_0 ShortTable h = cc
reason_not_0 ShortFile h = cc
reason_not_0 WrongMark h = cc
reason_not_0 WrongVersion h = cc
reason_not_0 FileLines h = cc
reason_not_0 FileLength h = cc
reason_not_0 ShortOutput h = cc
reason_not_0 BadWindow h = cc
reason_not_0 BadRule h = cc
reason_not_0 ShortOrder h = cc
reason_not_0 ZeroQuantity h = cc
reason_not_0 MountedOutside h = cc
reason_not_0 RacksDiffer h = cc
reason_not_0 ForeignTip h = cc
reason_not_0 WrongClaim h = cc
reason_not_0 UnsoundBoard h = cc
reason_not_0 BoardClosed h = cc
reason_not_0 BoardOpen h = cc
reason_not_0 TooManyLines h = cc
reason_not_0 NoRun h = cc
reason_not_0 NoPlan h = cc
reason_not_0 UnsoundLine h = cc
reason_not_0 HeldBehind h = cc
reason_not_0 NoOrder h = cc
reason_not_0 TooManyPlacements h = cc
reason_not_0 NoTwoTips h = cc
reason_not_0 WrongTable h = cc
reason_not_0 GoalMissed h = cc
reason_not_0 TooManyNamed h = cc
reason_not_0 BrokenRecord h = cc

-- a result that `?` returns is the error that it was given, and tells it
pub err_of : {A E : Type 0} (r : Result A E) (e : E) → IsErr r × IsErrAnd r (λ x. x ≡ e) → r ≡ Err e
err_of (Ok x) e h = absurd h.1
err_of (Err x) e h = ap Err h.1

pub told_err : {A : Type 0} (r : Result A Refused) (e : Refused) → IsErr r × IsErrAnd r (λ x. x ≡ e) → refusal_of r ≡ told_of e
told_err r e h = ap refusal_of (err_of r e h)

pub told_reason : {A : Type 0} (r : Result A Refused) (reason : Reason) → IsErr r × IsErrAnd r (λ x. x ≡ record { reason = reason; place = 0 })
    → refusal_of r ≡ refuse (reason_number reason)
told_reason r reason h = ap refusal_of (err_of r _ h)

-- a result that tells a refusal is an error
pub refused_err : {A : Type 0} (r : Result A Refused) → ((refusal_of r).number ≡ 0 → ⊥) → IsErr r
refused_err (Ok x) n = absurd (n refl)
refused_err (Err e) n = refl

-- the first refuses with an error; or it does not, and the next one decides
pub or_err : {first : Refusal} (next : Refusal) (e : Refused) → told_of e ≡ first → told_of e ≡ or_else first next
or_err next e h = or_first h next (reason_not_0 e.reason)

pub or_ok : {first : Refusal} (next : Refusal) {x : Refusal} → none ≡ first → x ≡ next → x ≡ or_else first next
or_ok next h k = or_next h next refl k

-- a buffer whose first part is lent, and the rest behind it
pub lent_front : (r : Refusal) (n : ℕ) (new old : List ℕ) → n ≤ length old → lent_by r n new (take n old) ++ drop n old ≡ lent_by r n new old
lent_front r n new old h = by (accepts r)
  where
    nothing : drop n (take n old) ≡ []
    nothing = drop_of_length-le (take n old) (omega (arith, length-take n old))

    by : (b : Bool) → cond b (new ++ drop n (take n old)) (take n old) ++ drop n old ≡ cond b (new ++ drop n old) old
    by true = ap (λ l. (new ++ l) ++ drop n old) nothing ∙ ap (λ l. l ++ drop n old) (append-nil new)
    by false = take-append-drop n old
