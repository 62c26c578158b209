-- Our own best plan is accepted: what best sharing leaves in its buffers, for every mounted tip, with its pairs as the claim.
use Prim.Native.Nat.{ℕ}
use mathlib.Core.Path.{◌≡◌, refl, sym, ap, subst}
use mathlib.Core.List.{List}
use lib.ListN.{length}
use Rattle.model.specs.Choice.{Mounted}
use Rattle.model.specs.Interval.{C}
use Rattle.placements.specs.Repeated.{repeated}
use Rattle.placements.specs.Good.{GoodLines}
use Rattle.refusal.specs.Told.{Refusal}
use Rattle.refusal.specs.Refusal.{none}
use Rattle.refusal.proofs.Laws.{accepted}
use Rattle.call_refusals.specs.declared.Stage.TheVariants.{Closed}
use Rattle.call_refusals.specs.Calls.{best_refusal}
use Rattle.call_refusals.proofs.Calls.{mounted_none, mounted_inside, best_none}
use Rattle.line_calls.specs.Lines
use Rattle.line_calls.proofs.Checked.{own_left}
use Rattle.board.specs.declared.Board.{Board}
use Rattle.board.specs.Board.{lines_of, quantities_of, state_refusal, answer}
use Rattle.board.specs.Sharing.{mounted_refusal, best_of, best_buffer, best_table}
use Rattle.board.specs.Check.{check_of}
use Rattle.board.proofs.Sets.{Full, given}

-- where the mounted tip is not refused, best sharing is asked what the check is asked
same_asked : {d r : Refusal} → d ≡ r → (m : ℕ) (mounted : Mounted) (qs lines plan cells : List ℕ) → GoodLines m qs lines
    → (best_refusal d m lines (length plan) (length cells)).number ≡ 0
    → Lines.check_of r m qs lines (Lines.best_buffer d m mounted qs lines plan (length cells)) (C (repeated qs lines) 0 m)
    (Lines.best_table d m qs lines (length plan) cells) ≡ none
same_asked {d} {r} e m mounted qs lines plan cells good z =
    subst (λ x. Lines.check_of x m qs lines (Lines.best_buffer d m mounted qs lines plan (length cells)) (C (repeated qs lines) 0 m)
    (Lines.best_table d m qs lines (length plan) cells) ≡ none) e (own_left d m mounted qs lines plan cells good z)

-- OUR OWN BEST PLAN, its pairs and its table are accepted
pub own_accepted : (b : Board) → Full b → (mounted : Mounted) (plan cells : List ℕ)
    → let r = best_of b mounted (length plan) (length cells) in
    r.number ≡ 0
    → check_of b (best_buffer b mounted plan (length cells)) r.pairs (best_table b mounted (length plan) cells) ≡ answer b none
unfolding check_of best_of best_buffer best_table Lines.best_of
own_accepted b full mounted plan cells z =
    let m = b.rack in
    let lines = lines_of b in
    let before = mounted_refusal b mounted in
    let free = (best_none before m lines (length plan) (length cells) z).free in
    let (state, inside) = mounted_none (state_refusal Closed b) m mounted free in
    let same : before ≡ state_refusal Closed b = sym (mounted_inside (state_refusal Closed b) m mounted inside) in
    let good = (given Closed b full {d = state_refusal Closed b} refl).good state in
    rw (accepted (C (repeated (quantities_of b) lines) 0 m) 0 {d = best_refusal before m lines (length plan) (length cells)} refl z)
    (ap (answer b) (same_asked same m mounted (quantities_of b) lines plan cells good z))
