-- Two boards on one panel: what merging and planning each alone answer, from the answers for the boards' lines, and what holds of the panel.
use Prim.Native.Nat.{ℕ, ◌+◌, ◌≤◌}
use mathlib.Core.Path.{◌≡◌, refl, sym, ap, ap₂, subst, ◌∙◌}
use mathlib.Core.Bool.{Bool, true, false}
use mathlib.Core.List.{List, ◌++◌}
use native.Mathlib.Omega.{arith}
use lib.ListN.{length, drop, length-append}
use borrow.Author.Tests.{eqb-true, eqb-false}
use Rattle.model.specs.Limits.{most_lines}
use Rattle.refusal.specs.Told.{Refusal}
use Rattle.refusal.specs.Refusal.{none, accepts, Given, or_else}
use Rattle.refusal.proofs.Laws.{number_of, or_none, refused, accepted, by_number, later}
use Rattle.sound.proofs.Laws.{sound_iff}
use Rattle.call_refusals.specs.declared.Stage.TheVariants.{Closed}
use Rattle.panel.specs.Answers.{AloneAnswer}
use Rattle.panel.specs.Panel
use Rattle.panel.specs.Panel.{merged_by}
use Rattle.panel.specs.Rules.{PanelRule}
use Rattle.panel.proofs.Merged.{known, merged-rule}
use Rattle.board.specs.declared.Board.{Board}
use Rattle.board.specs.Answers.{Merged}
use Rattle.board.specs.Answers.{Alone}
use Rattle.board.specs.Board.{lines_of, quantities_of, state_refusal, no_sets, no_quantities, empty_board}
use Rattle.board.specs.Panel.{states_refusal, merge_refusal, panel_of, merged, merge_of, MergeRule, alone_of, alone_buffer}
use Rattle.board.proofs.Sets.{no-sets, no-quantities, Full, same_size, ReadyBoard, ready, given, state-free, lines-count}
use Rattle.board.proofs.JobFileRule.{front, rest, filled}

module _ (a b : Board) (full : Full a) (other : Full b) where
  module _ {first second state : Refusal} (e : first ≡ state_refusal Closed a) (f : second ≡ state_refusal Closed b)
      (g : state ≡ or_else first second) where
    states : state ≡ states_refusal a b
    states = g ∙ ap₂ or_else e f

    -- the lines of both are given where neither state refuses
    pub given-first : Given state a.rack a.count a.quantities a.sets
    given-first = later (λ z. (or_none first second (number_of g z)).0) (given Closed a full e)

    pub given_second : Given state b.rack b.count b.quantities b.sets
    given_second = later (λ z. (or_none first second (number_of g z)).1) (given Closed b other f)

    pub alone_answer : (old : List ℕ) {r : AloneAnswer} {plan : List ℕ}
        → r ≡ Panel.alone_of state a.rack (quantities_of a) (lines_of a) b.rack (quantities_of b) (lines_of b) (length old)
        → plan ≡ Panel.alone_buffer state a.rack (quantities_of a) (lines_of a) b.rack (quantities_of b) (lines_of b) old
        → (◌≡◌ {A = Alone} (record {
          first = a;
          second = b;
          number = r.refusal.number;
          place = r.refusal.place;
          first_pairs = r.first_pairs;
          second_pairs = r.second_pairs;
        }) (alone_of a b (length old))) × (plan ≡ alone_buffer a b old)
    unfolding alone_of alone_buffer
    alone_answer old p q = (rw (p, states) refl, rw (q, states) refl)

    -- what the code answers to a merge of the boards' lines
    module _ {d : Refusal} (h : d ≡ Panel.merge_of state a.rack (quantities_of a) (lines_of a) b.rack (quantities_of b) (lines_of b)) where
      decided : d ≡ merge_refusal a b
      decided = h ∙ ap (λ r. Panel.merge_of r a.rack (quantities_of a) (lines_of a) b.rack (quantities_of b) (lines_of b)) states

      pub merge_refused : (d.number ≡ 0 → ⊥) → merged a b (empty_board 1) d ≡ merge_of a b
      unfolding merge_of
      merge_refused n = ap (merged a b (empty_board 1)) decided ∙ sym (refused _ _ decided n)

      pub refused-rule : (d.number ≡ 0 → ⊥) → (p : Board) → MergeRule a b (merged a b p d)
      refused-rule n p = record {
        gives_sound = λ z. absurd (n z);
        gives_closed = λ z. absurd (n z);
        same_rack = λ z. absurd (n z);
        rule = λ z. absurd (n z);
      }

      module _ (z : d.number ≡ 0) where
        abbrev qs : List ℕ
        qs = quantities_of a ++ quantities_of b

        abbrev lines : List ℕ
        lines = lines_of a ++ lines_of b

        abbrev n : ℕ
        n = a.count + b.count

        lines-rule : PanelRule a.rack (quantities_of a) (lines_of a) (quantities_of b) (lines_of b) qs lines
        lines-rule = merged-rule state (λ z. given-first.good z) (λ z. given_second.good z) (number_of h z)

        -- neither state refuses, so the lines are as many as the counts
        free : state.number ≡ 0
        free = (known state (quantities_of a) (lines_of a) (quantities_of b) (lines_of b) (number_of h z)).free

        ready_first : ReadyBoard Closed a
        ready_first = ready Closed a full e (or_none first second (number_of g free)).0

        ready_second : ReadyBoard Closed b
        ready_second = ready Closed b other f (or_none first second (number_of g free)).1

        first_count : length (lines_of a) ≡ a.count
        first_count = lines-count Closed a full ready_first

        second_count : length (lines_of b) ≡ b.count
        second_count = lines-count Closed b other ready_second

        lines_size : length lines ≡ n
        lines_size = length-append (lines_of a) (lines_of b) ∙ rw (first_count, second_count) refl

        quantities_size : length qs ≡ n
        quantities_size = lines-rule.good.same ∙ lines_size

        panel_sets : {sets : List ℕ} → sets ≡ merged_by d (lines_of a) (lines_of b) no_sets → sets ≡ lines ++ drop n no_sets
        panel_sets s = s ∙ accepted _ _ {d = d} refl z ∙ ap₂ (λ k l. lines ++ drop (k + l) no_sets) first_count second_count

        panel_quantities : {quantities : List ℕ} → quantities ≡ merged_by d (quantities_of a) (quantities_of b) no_quantities
            → quantities ≡ qs ++ drop n no_quantities
        panel_quantities s =
            s ∙ accepted _ _ {d = d} refl z
            ∙ ap₂ (λ k l. qs ++ drop (k + l) no_quantities)
            (ready_first.sound.good.same ∙ first_count) (ready_second.sound.good.same ∙ second_count)

        pub few : n ≤ most_lines
        few = omega (arith, lines-rule.good.few-lines, lines_size)

        pub panel_full : Full (panel_of a b)
        panel_full =
            record { sets_full = filled no-sets lines n lines_size few; quantities_full = filled no-quantities qs n quantities_size few }

        panel-rule : MergeRule a b (merged a b (panel_of a b) none)
        panel-rule =
            let p = panel_of a b in
            record {
              gives_sound = λ _. (sound_iff p.rack p.count p.quantities p.sets (same_size p panel_full)).1 (record {
                good = rw (front no-sets lines n lines_size, front no-quantities qs n quantities_size) lines-rule.good;
                count_most = few;
                rest = rest no-sets lines n lines_size;
                quantities_rest = rest no-quantities qs n quantities_size;
              });
              gives_closed = λ _. refl;
              same_rack = λ _. refl;
              rule = λ _. rw (front no-sets lines n lines_size, front no-quantities qs n quantities_size) lines-rule;
            }

        pub merge_accepted : {sets quantities : List ℕ}
            → sets ≡ merged_by d (lines_of a) (lines_of b) no_sets → quantities ≡ merged_by d (quantities_of a) (quantities_of b) no_quantities
            → let r = merged a b (record { rack = a.rack; stage = Closed; count = n; sets = sets; quantities = quantities }) none in
            (r ≡ merge_of a b) × MergeRule a b r
        unfolding merge_of
        merge_accepted {sets} {quantities} s q =
            let same : merged a b (record { rack = a.rack; stage = Closed; count = n; sets = sets; quantities = quantities }) none
            ≡ merged a b (panel_of a b) none = rw (panel_sets s, panel_quantities q) refl in
            (same ∙ sym (accepted _ _ decided z), subst (MergeRule a b) (sym same) panel-rule)

  -- THE RULE of the merge, by its definition
  pub merge_rule : MergeRule a b (merge_of a b)
  merge_rule = by (accepts (merge_refusal a b)) refl
    where
      by : (t : Bool) → accepts (merge_refusal a b) ≡ t → MergeRule a b (merge_of a b)
      by true h =
          let (same, rule) = merge_accepted refl refl refl {d = merge_refusal a b} refl (eqb-true (merge_refusal a b).number 0 h) refl refl in
          subst (MergeRule a b) same rule
      by false h =
          let n = eqb-false (merge_refusal a b).number 0 h in
          subst (MergeRule a b) (merge_refused refl refl refl refl n) (refused-rule refl refl refl refl n (empty_board 1))

  -- an accepted merge gives the panel, whose state refuses no call on a closed board
  module _ (z : (merge_of a b).number ≡ 0) where
    pub merge_free : (merge_refusal a b).number ≡ 0
    unfolding merge_of
    merge_free = by_number (merge_refusal a b) (λ (x : Merged). x.number) _ _ refl z

    pub panel_is : (merge_of a b).panel ≡ panel_of a b
    unfolding merge_of
    panel_is = ap (λ (x : Merged). x.panel) (accepted _ _ {d = merge_refusal a b} refl merge_free)

    pub full_panel : Full (merge_of a b).panel
    full_panel = rw panel_is (panel_full refl refl refl refl merge_free)

    pub panel-state : state_refusal Closed (merge_of a b).panel ≡ none
    panel-state = state-free Closed (merge_of a b).panel full_panel (merge_rule.gives_sound z) (merge_rule.gives_closed z)

    -- neither board's state refuses, and the racks are the same
    pub states_free : ((state_refusal Closed a).number ≡ 0) × ((state_refusal Closed b).number ≡ 0) × (a.rack ≡ b.rack)
    states_free =
        let k = known (states_refusal a b) (quantities_of a) (lines_of a) (quantities_of b) (lines_of b) merge_free in
        let (first, second) = or_none (state_refusal Closed a) (state_refusal Closed b) k.free in
        (first, second, k.same_rack)
