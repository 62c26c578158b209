-- The reasons of the code by their numbers in the rule book, and what a call tells by its result.
use Rattle.std.specs.Prelude.{ℕ, ℤ, Option, Some, None, Result, Ok, Err}
use Rattle.refusal.specs.Told.{Refusal}
use Rattle.refusal.specs.Refusal.{none}
use Rattle.refusal.specs.declared.Reason.{Reason}
use Rattle.refusal.specs.declared.Reason.TheVariants.{RackSize, EmptyLine, TipOutside, ShortPlan, ShortTable, ShortFile, WrongMark, WrongVersion}
use Rattle.refusal.specs.declared.Reason.TheVariants.{FileLines, FileLength, ShortOutput, BadWindow, BadRule, ShortOrder, ZeroQuantity}
use Rattle.refusal.specs.declared.Reason.TheVariants.{MountedOutside, RacksDiffer, ForeignTip, WrongClaim, UnsoundBoard, BoardClosed, BoardOpen}
use Rattle.refusal.specs.declared.Reason.TheVariants.{TooManyLines, NoRun, NoPlan, UnsoundLine, HeldBehind, NoOrder, TooManyPlacements, NoTwoTips}
use Rattle.refusal.specs.declared.Reason.TheVariants.{WrongTable, GoalMissed, TooManyNamed, BrokenRecord}
use Rattle.refusal.specs.declared.Refused.{Refused}
use Rattle.refusal.specs.declared.Unkept.{Unkept}

-- the number of a reason
abbrev pub reason_number : Reason → ℕ
reason_number RackSize = 1
reason_number EmptyLine = 2
reason_number TipOutside = 3
reason_number ShortPlan = 4
reason_number ShortTable = 5
reason_number ShortFile = 6
reason_number WrongMark = 7
reason_number WrongVersion = 8
reason_number FileLines = 9
reason_number FileLength = 10
reason_number ShortOutput = 11
reason_number BadWindow = 12
reason_number BadRule = 13
reason_number ShortOrder = 14
reason_number ZeroQuantity = 15
reason_number MountedOutside = 16
reason_number RacksDiffer = 17
reason_number ForeignTip = 19
reason_number WrongClaim = 20
reason_number UnsoundBoard = 21
reason_number BoardClosed = 22
reason_number BoardOpen = 23
reason_number TooManyLines = 24
reason_number NoRun = 25
reason_number NoPlan = 26
reason_number UnsoundLine = 27
reason_number HeldBehind = 28
reason_number NoOrder = 29
reason_number TooManyPlacements = 30
reason_number NoTwoTips = 31
reason_number WrongTable = 33
reason_number GoalMissed = 34
reason_number TooManyNamed = 35
reason_number BrokenRecord = 101

-- the refusal of an error
abbrev pub told_of : Refused → Refusal
told_of e = record { number = reason_number e.reason; place = e.place }

-- what a call tells by its result: nothing is refused where it has a value
abbrev pub refusal_of : {A : Type 0} → Result A Refused → Refusal
refusal_of (Ok x) = none
refusal_of (Err e) = told_of e

-- the number of a result that tells no place
abbrev pub number_in : {A : Type 0} → Result A Reason → ℕ
number_in (Ok x) = 0
number_in (Err reason) = reason_number reason

-- a number told by a result; 0 where it refuses
abbrev pub count_in : Result ℕ Refused → ℕ
count_in (Ok x) = x
count_in (Err e) = 0

-- what keep tells by its result: its refusal, and its margin, which a refusal tells too
abbrev pub unkept_of : {A : Type 0} → Result A Unkept → Refusal
unkept_of (Ok x) = none
unkept_of (Err e) = told_of e.refused

abbrev pub margin_in : Result ℤ Unkept → ℤ
margin_in (Ok margin) = margin
margin_in (Err e) = e.margin

-- the number at the place, where there is one
abbrev pub refused_at : Option ℕ → ℕ → Refusal
refused_at (Some i) number = record { number = number; place = i }
refused_at None number = none
