-- What merging two boards into one panel and planning each alone answer, what is left in the lent buffer, and what the answers mean.
use Rattle.std.specs.Prelude.{ℕ, ◌+◌, ◌≡◌, cond, List, ◌++◌, T, drop}
use Rattle.refusal.specs.Told.{Refusal}
use Rattle.refusal.specs.Refusal.{none, accepts, or_else}
use Rattle.call_refusals.specs.declared.Stage.TheVariants.{Closed}
use Rattle.panel.specs.Panel
use Rattle.panel.specs.Rules
use Rattle.panel.specs.Rules.{PanelRule}
use Rattle.board.specs.declared.Board.{Board}
use Rattle.board.specs.Answers.{Merged}
use Rattle.board.specs.Answers.{Alone}
use Rattle.board.specs.Board.{lines_of, quantities_of, sound, state_refusal, no_sets, no_quantities, empty_board}

-- the refusals because of the boards' states: those of the first, then those of the second
abbrev pub states_refusal : Board → Board → Refusal
states_refusal a b = or_else (state_refusal Closed a) (state_refusal Closed b)

-- then racks that differ, too many lines together, and too many placements together
abbrev pub merge_refusal : Board → Board → Refusal
merge_refusal a b = Panel.merge_of (states_refusal a b) a.rack (quantities_of a) (lines_of a) b.rack (quantities_of b) (lines_of b)

-- the closed board of the first's lines and then the second's
abbrev pub panel_of : Board → Board → Board
panel_of a b =
    record {
      rack = a.rack;
      stage = Closed;
      count = a.count + b.count;
      sets = (lines_of a ++ lines_of b) ++ drop (a.count + b.count) no_sets;
      quantities = (quantities_of a ++ quantities_of b) ++ drop (a.count + b.count) no_quantities;
    }

-- both boards as they were, a panel, and the refusal's number and place
abbrev pub merged : Board → Board → Board → Refusal → Merged
merged a b p r = record { first = a; second = b; panel = p; number = r.number; place = r.place }

-- a refused merge's panel is the board of a refused read
unfoldable pub merge_of : Board → Board → Merged
merge_of a b =
    let r = merge_refusal a b in
    cond (accepts r) (merged a b (panel_of a b) none) (merged a b (empty_board 1) r)

-- an accepted merge gives a sound closed board of the same rack: occurrences add, and its off count and its best pairs are at least the sums
pub record MergeRule (a b : Board) (r : Merged) : Type 0 where
  pub gives_sound : r.number ≡ 0 → T (sound r.panel)
  pub gives_closed : r.number ≡ 0 → r.panel.stage ≡ Closed
  pub same_rack : r.number ≡ 0 → r.panel.rack ≡ a.rack
  pub rule : r.number ≡ 0
      → PanelRule a.rack (quantities_of a) (lines_of a) (quantities_of b) (lines_of b) (quantities_of r.panel) (lines_of r.panel)

-- each board planned alone, where the plan buffer has room bytes
unfoldable pub alone_of : Board → Board → ℕ → Alone
alone_of a b room =
    let r = Panel.alone_of (states_refusal a b) a.rack (quantities_of a) (lines_of a) b.rack (quantities_of b) (lines_of b) room in
    record {
      first = a;
      second = b;
      number = r.refusal.number;
      place = r.refusal.place;
      first_pairs = r.first_pairs;
      second_pairs = r.second_pairs;
    }

unfoldable pub alone_buffer : Board → Board → List ℕ → List ℕ
alone_buffer a b plan =
    Panel.alone_buffer (states_refusal a b) a.rack (quantities_of a) (lines_of a) b.rack (quantities_of b) (lines_of b) plan

-- each plan keeps the half rule of its own board, as its bytes stand in the buffer: the second from the first's line count on
abbrev pub AloneRule : Board → Board → List ℕ → Alone → Type 0
AloneRule a b buffer r =
    Rules.AloneRule (quantities_of a) (lines_of a) (quantities_of b) (lines_of b) buffer r.number r.first_pairs r.second_pairs
