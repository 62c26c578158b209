-- A search of a range that finds no number: `any` where the closure's answer false says something of its number.
use Prim.Native.Nat.{ℕ, ◌+◌, ◌-◌, ◌≤◌, ◌<◌}
use native.Mathlib.Omega.{arith}
use mathlib.Core.Path.{◌≡◌, refl, subst}
use mathlib.Core.Bool.{Bool, true, false}
use mathlib.Core.List.{List}
use lib.ListN.{length, get_or}
use denote.Param.Members.{Mut}
use Rattle.std.specs.declared.option.Option.{Option}
use Rattle.std.specs.declared.ops.Range.{Range}
use Rattle.std.specs.Iterator.{YieldsThen}
use Rattle.std.specs.List.{FoldsTo, AllWithin, range_with_len}
use Rattle.std.specs.Fn.{Called}
use Rattle.std.specs.Option.{MatchOption}
use Rattle.std.specs.Bool.{⊤}
use Rattle.std.proofs.iter.Yields.{nat_range_steps}
use Rattle.std.proofs.lemmas.Iterator.{YieldsList-from_range, cases_from_any}
use Rattle.std.proofs.lemmas.List.FromFn.{length-range_with_len, get_or-range_with_len}

pub none_from_any : {F : Type 0} {g : Mut F (ℕ × Unit {0}) Bool} {s : Range ℕ} (u : Range ℕ) (f : F) (r : Bool) (No : ℕ → Type 0)
    → (xs : List ℕ) × (o : Option ℕ) × (j : F) × YieldsThen nat_range_steps s xs o u × FoldsTo (λ p x q. Called g p (x, tt) false q) f xs j
    × MatchOption o (r ≡ false) (λ x. (r ≡ true) × ((h : F) × Called g j (x, tt) true h))
    → ((x : ℕ) (q : F) → Called g f (x, tt) false q → (q ≡ f) × No x) → r ≡ false
    → (k : ℕ) → s.start ≤ k → k < s.end → No k
none_from_any {s = s} u f r No d fail e k a b =
    let n = s.end - s.start in
    let all = range_with_len s.start n in
    let fails : AllWithin No all 0 (length all) =
    rw e at (cases_from_any u f r (λ _. ⊤) No d (YieldsList-from_range s.start s.end n refl refl) (λ _ _ _. tt) fail) in
    let here : get_or all (k - s.start) 0 ≡ s.start + (k - s.start) = get_or-range_with_len s.start n (k - s.start) 0 (omega arith) in
    subst No (omega (arith, here)) (fails (k - s.start) 0 (omega arith) (omega (arith, length-range_with_len s.start n)))
