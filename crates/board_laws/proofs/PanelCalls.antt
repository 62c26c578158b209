-- A panel's answers beside those of its two boards: the off count that common tip tells, and the pairs of best sharing where it accepts all three.
use Prim.Native.Nat.{ℕ, ◌+◌, ◌-◌, ◌≤◌}
use mathlib.Core.Path.{◌≡◌, refl, sym, ap, subst}
use Rattle.model.specs.Choice.{Mounted, bare}
use Rattle.model.specs.CommonTip.{top}
use Rattle.model.specs.Interval.{C}
use Rattle.placements.specs.Repeated.{total, repeated}
use Rattle.placements.specs.Keep.{LeastOffQ}
use Rattle.placements.specs.Plans.{best_plan_q}
use Rattle.placements.proofs.CommonTip.{least_off-placements}
use Rattle.placements.proofs.Plans.{best_valid_lines, best-pairs-placements, best-placements}
use Rattle.refusal.proofs.Laws.{accepted}
use Rattle.call_refusals.specs.declared.Stage.TheVariants.{Closed}
use Rattle.call_refusals.specs.Calls.{best_refusal}
use Rattle.call_refusals.proofs.Calls.{mounted_none, best_none}
use Rattle.line_calls.specs.Lines
use Rattle.line_calls.specs.Table.{MostPairs}
use Rattle.board.specs.declared.Board.{Board}
use Rattle.board.specs.Board.{lines_of, quantities_of, state_refusal}
use Rattle.board.specs.Common.{common_of}
use Rattle.board.specs.Sharing.{mounted_refusal, best_of}
use Rattle.board.specs.Panel.{merge_of}
use Rattle.board.proofs.Sets.{Full, given}
use Rattle.board.proofs.PanelRule.{merge_rule, full_panel, panel-state, states_free}

module _ (b : Board) (full : Full b) where
  -- the off count of a board whose state does not refuse is the least
  off-told : (state_refusal Closed b).number ≡ 0 → LeastOffQ b.rack (quantities_of b) (lines_of b) (common_of b).off
  unfolding common_of Lines.common_of
  off-told z =
      let good = (given Closed b full {d = state_refusal Closed b} refl).good z in
      rw (accepted (total (quantities_of b) - top b.rack (repeated (quantities_of b) (lines_of b))) 0 {d = state_refusal Closed b} refl z)
      (least_off-placements good.some good.domains (quantities_of b) good.same)

  -- the pairs of best sharing that is accepted are the most
  pairs-told : (mounted : Mounted) (room places : ℕ) → (best_of b mounted room places).number ≡ 0
      → MostPairs (quantities_of b) (lines_of b) (best_of b mounted room places).pairs
  unfolding best_of Lines.best_of
  pairs-told mounted room places z =
      let m = b.rack in
      let lines = lines_of b in
      let k = best_none (mounted_refusal b mounted) m lines room places z in
      let state = (mounted_none (state_refusal Closed b) m mounted k.free).0 in
      let good = (given Closed b full {d = state_refusal Closed b} refl).good state in
      let pairs_are = best-pairs-placements bare good.domains good.placed good.same good.most k.runs in
      rw (accepted (C (repeated (quantities_of b) lines) 0 m) 0 {d = best_refusal (mounted_refusal b mounted) m lines room places} refl z) (record {
        reached = (
          best_plan_q bare m (quantities_of b) lines,
          best_valid_lines bare good.domains good.placed good.same good.most k.runs,
          pairs_are,
        );
        most = λ plan v. rw (← pairs_are) (best-placements bare good.domains good.placed good.same good.most k.runs v);
      })

module _ (a b : Board) (full : Full a) (other : Full b) (z : (merge_of a b).number ≡ 0) where
  abbrev panel : Board
  panel = (merge_of a b).panel

  same_rack : panel.rack ≡ a.rack
  same_rack = (merge_rule a b full other).same_rack z

  -- THE OFF COUNT that common tip tells of the panel is at least the sum
  pub off-sum : (common_of a).off + (common_of b).off ≤ (common_of panel).off
  off-sum =
      let (first, second, racks) = states_free a b full other z in
      let state = ap (λ r. r.number) (panel-state a b full other z) in
      let b-off = subst (λ m. LeastOffQ m (quantities_of b) (lines_of b) (common_of b).off) (sym racks) (off-told b other second) in
      let panel-off =
      subst (λ m. LeastOffQ m (quantities_of panel) (lines_of panel) (common_of panel).off) same_rack
      (off-told panel (full_panel a b full other z) state) in
      ((merge_rule a b full other).rule z).off _ _ _ (off-told a full first) b-off panel-off

  -- THE PAIRS that best sharing tells of the panel are at least the sum, where it accepts all three, whatever is mounted
  pub pairs-sum : (t u v : Mounted) (room places room' places' room'' places'' : ℕ)
      → (best_of a t room places).number ≡ 0 → (best_of b u room' places').number ≡ 0 → (best_of panel v room'' places'').number ≡ 0
      → (best_of a t room places).pairs + (best_of b u room' places').pairs ≤ (best_of panel v room'' places'').pairs
  pairs-sum t u v room places room' places' room'' places'' f g h =
      ((merge_rule a b full other).rule z).best _ _ _ (pairs-told a full t room places f) (pairs-told b other u room' places' g)
      (pairs-told panel (full_panel a b full other z) v room'' places'' h)
