-- THE PROVED SET for two boards: the definitions, refusals included, give each of the starred rows of RULES 9. An error names the row.
use mathlib.Core.Path.{refl}
use lib.Count.{count_leading_zeros, count_trailing_zeros}
use Rattle.model.specs.Count.{All, none, more, count, select, each, first_fail, largest, lowest_at, every, list_of}
use Rattle.model.specs.Plan.{has, occ, uses, pairs, choose2, in_rack, is_domain, rack_ok}
use Rattle.model.specs.Choice.{choice, from}
use Rattle.model.specs.CommonTip.{set_of, top, W}
use Rattle.model.specs.Greedy.{busiest, rounds, first, quick_tip}
use Rattle.model.specs.Interval.{low, high, named, fills, is_run_of, lies, inside, most, C}
use Rattle.placements.specs.Repeated.{total, repeated}
use Rattle.placements.specs.Totals.{first_over}
use Rattle.placements.specs.Plans.{quick_plan_q}
use Rattle.refusal.specs.Refusal.{or_else, scan}
use Rattle.sound.specs.Sound.{count_ok, first_wrong, first_held, sound_refusal}
use Rattle.call_refusals.specs.State.{stage_refusal, state_refusal}
use Rattle.call_refusals.specs.Calls.{mounted_refusal, plan_refusal, best_refusal}
use Rattle.line_calls.specs.Lines
use Rattle.panel.specs.Panel
use Rattle.panel.specs.Panel.{merge_refusal}
use Rattle.board.specs.Board.{no_sets, no_quantities}
use Rattle.board.specs.Common.{common_of}
use Rattle.board.specs.Sharing.{best_of}
use Rattle.board.specs.Panel.{merge_of, alone_of, alone_buffer}
use Rattle.rows.specs.PanelRows.{Merges, merge_rows, PlansAlone, alone_rows, Sums}
use Rattle.rows.specs.PanelRows.{B66_merge, B67_merge, B68_lines, B68_none, B69_none, B69_line, B69_rack, B70_last, B70_over, B71_first}
use Rattle.rows.specs.PanelRows.{B71_second, B71_both, B72_21, B72_27, B72_28, B72_23, B72_open_first, B72_short_first, B72_alone_21}
use Rattle.rows.specs.PanelRows.{B72_alone_27, B72_alone_28, B72_alone_23, B72_alone_open_first, B72_alone_short_first, B73_short, B73_alone}
use Rattle.rows.specs.PanelRows.{B73_longer, B74_first, B74_second, B74_both, B74_no_bytes}

pub merge_starred : All Merges merge_rows
unfolding merge_of Panel.merge_of merge_refusal or_else stage_refusal state_refusal sound_refusal first_wrong first_held first_over count_ok
    rack_ok is_domain
    in_rack each first_fail total no_sets no_quantities has
merge_starred =
    more {x = B66_merge} refl
    (more {x = B67_merge} refl
    (more {x = B68_lines} refl
    (more {x = B68_none} refl
    (more {x = B69_none} refl
    (more {x = B69_line} refl
    (more {x = B69_rack} refl
    (more {x = B70_last} refl
    (more {x = B70_over} refl
    (more {x = B71_first} refl
    (more {x = B71_second} refl
    (more {x = B71_both} refl
    (more {x = B72_21} refl
    (more {x = B72_27} refl
    (more {x = B72_28} refl
    (more {x = B72_23} refl
    (more {x = B72_open_first} refl
    (more {x = B72_short_first} refl none)))))))))))))))))

pub alone_starred : All PlansAlone alone_rows
unfolding alone_of alone_buffer Panel.alone_of Panel.alone_buffer plan_refusal or_else stage_refusal state_refusal sound_refusal first_wrong
    first_held first_over
    count_ok rack_ok is_domain in_rack each first_fail total repeated largest occ has count quick_plan_q quick_tip rounds first busiest choice
    lowest_at
    select pairs uses
alone_starred =
    more {x = B72_alone_21} (refl, refl)
    (more {x = B72_alone_27} (refl, refl)
    (more {x = B72_alone_28} (refl, refl)
    (more {x = B72_alone_23} (refl, refl)
    (more {x = B72_alone_open_first} (refl, refl)
    (more {x = B72_alone_short_first} (refl, refl)
    (more {x = B73_short} (refl, refl)
    (more {x = B73_alone} (refl, refl)
    (more {x = B73_longer} (refl, refl)
    (more {x = B74_first} (refl, refl)
    (more {x = B74_second} (refl, refl)
    (more {x = B74_both} (refl, refl)
    (more {x = B74_no_bytes} (refl, refl) none))))))))))))

pub sums : Sums
unfolding common_of Lines.common_of best_of Lines.best_of mounted_refusal plan_refusal best_refusal or_else scan stage_refusal state_refusal
    sound_refusal
    first_wrong first_held first_over count_ok rack_ok is_domain
    in_rack each first_fail total repeated W set_of top largest occ has count select pairs uses
    choice lowest_at from named C most lies inside low high choose2 count_leading_zeros count_trailing_zeros fills is_run_of every list_of
sums = record { B66_off = refl; B66_best = refl; B67_off = refl; B67_best = refl }
