-- The pairs that a call tells are few. The table that best sharing leaves has the most pairs of each interval, and the check accepts what it leaves.
use Prim.Native.Nat.{ℕ, ◌≤◌}
use mathlib.Core.Path.{◌≡◌, refl, ap}
use mathlib.Core.List.{List}
use lib.ListN.{length}
use Rattle.model.specs.Limits.{most_pairs}
use Rattle.model.specs.Choice.{Mounted}
use Rattle.placements.specs.Good.{GoodLines}
use Rattle.refusal.proofs.Laws.{or_none}
use Rattle.call_refusals.specs.declared.Stage.TheVariants.{Closed}
use Rattle.call_refusals.proofs.Calls.{mounted_none}
use Rattle.line_calls.proofs.Left as Lines
use Rattle.line_calls.proofs.AlongPlan as AlongLines
use Rattle.line_calls.proofs.ExactPlan as ExactLines
use Rattle.panel.proofs.Few as Panel
use Rattle.board.specs.declared.Board.{Board}
use Rattle.board.specs.Answers.{Shared, Junior, Along, Exact, Alone}
use Rattle.board.specs.Board.{lines_of, quantities_of, state_refusal, answer}
use Rattle.board.specs.Sharing.{mounted_refusal, quick_of, best_of, best_buffer, best_table, TableRule}
use Rattle.board.specs.Check.{check_of, CheckAccepts}
use Rattle.board.specs.Junior.{junior_of}
use Rattle.board.specs.Along.{along_of, along_buffer, AlongRule}
use Rattle.board.specs.Exact.{exact_of, exact_buffer, ExactRule}
use Rattle.board.specs.Panel.{states_refusal, alone_of}
use Rattle.board.proofs.Sets.{Full, given}

module _ (b : Board) (full : Full b) where
  abbrev qs : List ℕ
  qs = quantities_of b

  abbrev lines : List ℕ
  lines = lines_of b

  good : (state_refusal Closed b).number ≡ 0 → GoodLines b.rack qs lines
  good = (given Closed b full {d = state_refusal Closed b} refl).good

  pub junior_few : (plan : List ℕ) {r : Junior} → r ≡ junior_of b (length plan) → r.pairs ≤ most_pairs
  unfolding junior_of
  junior_few plan e = rw e (Lines.junior_few (state_refusal Closed b) b.rack qs lines good plan)

  module _ (mounted : Mounted) where
    good_mounted : (mounted_refusal b mounted).number ≡ 0 → GoodLines b.rack qs lines
    good_mounted z = good (mounted_none (state_refusal Closed b) b.rack mounted z).0

    pub quick_few : (room : ℕ) {r : Shared} → r ≡ quick_of b mounted room → r.pairs ≤ most_pairs
    unfolding quick_of
    quick_few room e = rw e (Lines.quick_few (mounted_refusal b mounted) b.rack qs lines good_mounted mounted room)

    -- what the plan along the list leaves keeps its rule
    pub along_holds : (plan : List ℕ) {r : Along} {last : List ℕ} → r ≡ along_of b mounted (length plan) → last ≡ along_buffer b mounted plan
        → AlongRule b mounted last r × (r.pairs ≤ most_pairs)
    unfolding along_of along_buffer
    along_holds plan e p = rw (e, p) (AlongLines.along_holds (mounted_refusal b mounted) mounted qs lines plan good_mounted)

    -- and what exact sharing leaves
    pub exact_holds : (price : ℕ) (plan cells : List ℕ) {r : Exact} {last : List ℕ}
        → r ≡ exact_of b mounted price (length plan) (length cells) → last ≡ exact_buffer b mounted price plan (length cells)
        → ExactRule b price last r × (r.pairs ≤ most_pairs)
    unfolding exact_of exact_buffer
    exact_holds price plan cells e p =
        rw (e, p) (ExactLines.exact_holds (mounted_refusal b mounted) b.rack mounted price qs lines plan cells good_mounted)

    module _ (plan cells : List ℕ) {r : Shared} (e : r ≡ best_of b mounted (length plan) (length cells)) where
      pub best_few : r.pairs ≤ most_pairs
      unfolding best_of
      best_few = rw e (Lines.best_few (mounted_refusal b mounted) b.rack qs lines good_mounted (length plan) (length cells))

      module _ {table : List ℕ} (t : table ≡ best_table b mounted (length plan) cells) where
        pub best_entries : TableRule b table r
        unfolding best_of best_table
        best_entries = rw (e, t) (Lines.best_entries (mounted_refusal b mounted) b.rack qs lines good_mounted (length plan) cells)

        pub best_checked : {laid : List ℕ} → laid ≡ best_buffer b mounted plan (length cells) → CheckAccepts b laid table r
        unfolding best_of best_table best_buffer check_of
        best_checked p = rw (e, t, p) (λ z. ap (answer b) (Lines.best_checked (state_refusal Closed b) b.rack qs lines good mounted plan cells z))

pub alone_few : (a b : Board) → Full a → Full b → (room : ℕ) {r : Alone} → r ≡ alone_of a b room
    → (r.first_pairs ≤ most_pairs) × (r.second_pairs ≤ most_pairs)
unfolding alone_of
alone_few a b full-a full-b room e =
    rw e (Panel.alone_few (states_refusal a b) a.rack (quantities_of a) (lines_of a) b.rack (quantities_of b) (lines_of b)
    (λ z. let (x, y) = or_none (state_refusal Closed a) (state_refusal Closed b) z in (good a full-a x, good b full-b y)) room)
