-- THE PROVED SET: the definitions of the calls, refusals included, give each of the starred boards of RULES 9. An error names the row.
use mathlib.Core.Path.{refl}
use mathlib.Core.List.{zip_with}
use lib.Count.{count_leading_zeros, count_trailing_zeros}
use Rattle.model.specs.Count.{All, none, more, count, select, each, first_fail, every, list_of, largest, lowest_at}
use Rattle.model.specs.Plan.{empty, line, has, occ, uses, pairs, choose2, in_rack, is_domain, rack_ok}
use Rattle.model.specs.Choice.{choice, from}
use Rattle.model.specs.CommonTip.{set_of, top, W, margin, covers, narrowed}
use Rattle.model.specs.Greedy.{busiest, rounds, first, quick_tip}
use Rattle.model.specs.Interval.{low, high, named, fills, is_run_of, lies, inside, most, C, tip_by, worth, pick_of, best_tip, table}
use Rattle.placements.specs.Repeated.{total, repeated}
use Rattle.placements.specs.Totals.{first_over}
use Rattle.placements.specs.Plans.{quick_plan_q, best_plan_q}
use Rattle.placements.specs.Keep.{V, scarce, kept_q, prune_q}
use Rattle.refusal.specs.Refusal.{or_else, scan}
use Rattle.job.specs.Job.{bytes_of, number_of, number_at, line_length, paired, header_of}
use Rattle.job.specs.Job.{line_of, bytes_of_lines, file_of, version_for, sets_in, quantities_in}
use Rattle.job.specs.Job.{version_ok, start_number, size_number, header_number, line_number, line_numbers, read_refusal}
use Rattle.sound.specs.Sound.{count_ok, first_wrong, first_held, sound_refusal}
use Rattle.call_refusals.specs.State.{stage_refusal, state_refusal}
use Rattle.call_refusals.specs.Calls.{add_refusal, keep_refusal, mounted_refusal, plan_refusal, best_refusal, write_refusal}
use Rattle.goal_rules.specs.Check.{entry, is_valid, bounds}
use Rattle.goal_rules.specs.Goal.{only, goal_tips, strike}
use Rattle.checking.specs.Checking.{claim_refusal, table_ok, check_refusal}
use Rattle.striking.specs.Striking.{goal_refusal}
use Rattle.line_calls.specs.Lines
use Rattle.line_calls.specs.Goal
use Rattle.call_refusals.specs.Junior.{junior_refusal}
use Rattle.holder_rules.specs.Holders.{is_served, first_tip, second_tip, junior_plan, line_plan, chosen}
use Rattle.holder_rules.specs.Holders.{score, is_choice, serves, two_plan, to_first, gathered}
use Rattle.line_calls.specs.Junior as LinesJunior
use Rattle.along.specs.Along.{parted, common as shared_tips, fewest_from, final, plan_from, start_set, fewest, plan_along}
use Rattle.line_calls.specs.Along as LinesAlong
use Rattle.line_calls.specs.Exact as LinesExact
use Rattle.model.specs.Renumber.{names, rank}
use Rattle.subset_rules.specs.Subsets.{tips_used, lying, gain, score_by, score as exact_score, worth as exact_worth}
use Rattle.subset_rules.specs.Subsets.{pick, order, exact_tip, exact_plan_q}
use Rattle.subset_rules.specs.Table.{tips_at, exact_table}
use Rattle.board.specs.Board.{no_sets, no_quantities, add_of, close_of}
use Rattle.board.specs.Common.{common_of, keep_of}
use Rattle.board.specs.Sharing.{quick_of, quick_buffer, best_of, best_buffer, best_table}
use Rattle.board.specs.Junior.{junior_of, junior_buffer}
use Rattle.board.specs.Along.{along_of, along_buffer}
use Rattle.board.specs.Exact.{exact_of, exact_buffer, exact_cells}
use Rattle.board.specs.JobFile.{read_of, write_of, write_buffer}
use Rattle.board.specs.Check.{check_of}
use Rattle.board.specs.Goal.{goal_of}
use Rattle.rows.specs.Rows.{run, rows, Gives, HalfReached}
use Rattle.rows.specs.Rows.{B1_common, B1_keep, B2_keep, B3_keep, B4_quick, B5_best, B6_best, B7_quick, B8_best, B9_quick, B9_best, B10_best}
use Rattle.rows.specs.Rows.{B15_rack_0, B15_rack_65, B16_count_513, B16_count_most, B17_first, B17_middle, B17_last, B18_next, B18_last}
use Rattle.rows.specs.Rows.{B18_both, B19_21, B19_27, B19_27_open, B19_27_closed, B19_28_closed, B20_quick, B20_best, B21_common, B21_keep_0}
use Rattle.rows.specs.Rows.{B21_keep_1, B21_keep_2, B21_keep_3, B21_keep_4, B22_quick, B23_quick, B23_best, B24_none, B24_bad_set, B24_last}
use Rattle.rows.specs.Rows.{B24_over, B25_none, B25_over, B25_first, B26_next, B26_after_set, B27_common, B27_best, B28_read, B28_write}
use Rattle.rows.specs.Rows.{B29_read, B30_read, B30_over, B30_none, B31_best, B32_best, B33_best, B34_best, B35_best, B36_quick_0}
use Rattle.rows.specs.Rows.{B36_quick_2, B36_best_1, B36_best_2, B37_quick, B37_best, B38_quick, B39_none, B39_best, B40_quick, B40_best}
use Rattle.rows.specs.Rows.{B41_quick, B41_best, B41_open, B42_check, B43_foreign, B43_64, B43_255, B44_more, B44_most, B45_whole, B45_less}
use Rattle.rows.specs.Rows.{B46_exact, B46_less, B46_huge, B47_huge, B48_open, B48_short, B48_few, B48_run, B48_none, B49_none, B49_14}
use Rattle.rows.specs.Rows.{B49_17, B50_18, B50_20, B51_21, B51_most, B51_empty_0, B51_empty_1, B52_goal, B53_all, B53_gap, B53_best, B54_2}
use Rattle.rows.specs.Rows.{B54_3, B54_4, B55_open, B55_run, B55_most, B56_junior, B57_tied, B57_later, B58_first, B58_second, B58_equal}
use Rattle.rows.specs.Rows.{B59_junior, B60_junior, B61_junior, B62_most, B62_over, B63_most, B63_over, B63_both, B64_none, B64_rack}
use Rattle.rows.specs.Rows.{B65_open, B65_short, B113_0, B113_4, B114_most, B115_exact, B116_none, B116_4, B117_none, B118_over, B118_most}
use Rattle.rows.specs.Rows.{B118_short, B118_few, B119_outside, B119_open, B120_none, B120_0, B120_2, B121_along, B122_along, B122_quick}
use Rattle.rows.specs.Rows.{B123_all, B123_none, B124_open, B124_outside, B124_short, B124_line}

pub starred : All Gives rows
unfolding run add_of close_of common_of keep_of quick_of quick_buffer best_of best_buffer best_table check_of Lines.check_of check_refusal
    claim_refusal
    table_ok is_valid bounds entry Lines.common_of Lines.keep_of Lines.sets_kept Lines.quick_of Lines.quick_buffer Lines.best_of Lines.best_buffer
    Lines.best_table add_refusal keep_refusal mounted_refusal plan_refusal best_refusal or_else scan stage_refusal state_refusal sound_refusal
    first_wrong
    first_held first_over count_ok rack_ok is_domain in_rack each first_fail line_number total repeated margin
    prune_q zip_with kept_q scarce V
    narrowed covers every W set_of top largest occ has count quick_plan_q quick_tip rounds first busiest choice lowest_at select pairs uses table
    list_of best_plan_q best_tip tip_by pick_of worth from named C most lies inside low high choose2 count_leading_zeros count_trailing_zeros
    fills is_run_of read_of
    write_of write_buffer Lines.write_of Lines.write_buffer write_refusal read_refusal header_number start_number size_number version_ok
    line_numbers sets_in
    quantities_in number_at number_of bytes_of line_length header_of line_of bytes_of_lines file_of version_for paired no_sets no_quantities
    goal_of Goal.goal_of Goal.goal_asked Goal.struck_sets goal_refusal strike goal_tips only
    junior_of junior_buffer LinesJunior.junior_of LinesJunior.junior_buffer LinesJunior.junior_refusal junior_refusal is_served first_tip second_tip
    junior_plan line_plan chosen score is_choice serves two_plan to_first gathered
    along_of along_buffer LinesAlong.along_of LinesAlong.along_buffer fewest plan_along start_set plan_from fewest_from final shared_tips parted
    exact_of exact_buffer exact_cells LinesExact.exact_of LinesExact.exact_buffer LinesExact.exact_cells LinesExact.exact_refusal
    rank names tips_used lying gain score_by exact_score exact_worth pick order exact_tip exact_plan_q tips_at exact_table
starred =
    more {x = B1_common} refl
    (more {x = B1_keep} refl
    (more {x = B2_keep} refl
    (more {x = B3_keep} refl
    (more {x = B4_quick} refl
    (more {x = B5_best} refl
    (more {x = B6_best} refl
    (more {x = B7_quick} refl
    (more {x = B8_best} refl
    (more {x = B9_quick} refl
    (more {x = B9_best} refl
    (more {x = B10_best} refl
    (more {x = B15_rack_0} refl
    (more {x = B15_rack_65} refl
    (more {x = B16_count_513} refl
    (more {x = B16_count_most} refl
    (more {x = B17_first} refl
    (more {x = B17_middle} refl
    (more {x = B17_last} refl
    (more {x = B18_next} refl
    (more {x = B18_last} refl
    (more {x = B18_both} refl
    (more {x = B19_21} refl
    (more {x = B19_27} refl
    (more {x = B19_27_open} refl
    (more {x = B19_27_closed} refl
    (more {x = B19_28_closed} refl
    (more {x = B20_quick} refl
    (more {x = B20_best} refl
    (more {x = B21_common} refl
    (more {x = B21_keep_0} refl
    (more {x = B21_keep_1} refl
    (more {x = B21_keep_2} refl
    (more {x = B21_keep_3} refl
    (more {x = B21_keep_4} refl
    (more {x = B22_quick} refl
    (more {x = B23_quick} refl
    (more {x = B23_best} refl
    (more {x = B24_none} refl
    (more {x = B24_bad_set} refl
    (more {x = B24_last} refl
    (more {x = B24_over} refl
    (more {x = B25_none} refl
    (more {x = B25_over} refl
    (more {x = B25_first} refl
    (more {x = B26_next} refl
    (more {x = B26_after_set} refl
    (more {x = B27_common} refl
    (more {x = B27_best} refl
    (more {x = B28_read} refl
    (more {x = B28_write} refl
    (more {x = B29_read} refl
    (more {x = B30_read} refl
    (more {x = B30_over} refl
    (more {x = B30_none} refl
    (more {x = B31_best} refl
    (more {x = B32_best} refl
    (more {x = B33_best} refl
    (more {x = B34_best} refl
    (more {x = B35_best} refl
    (more {x = B36_quick_0} refl
    (more {x = B36_quick_2} refl
    (more {x = B36_best_1} refl
    (more {x = B36_best_2} refl
    (more {x = B37_quick} refl
    (more {x = B37_best} refl
    (more {x = B38_quick} refl
    (more {x = B39_none} refl
    (more {x = B39_best} refl
    (more {x = B40_quick} refl
    (more {x = B40_best} refl
    (more {x = B41_quick} refl
    (more {x = B41_best} refl
    (more {x = B41_open} refl
    (more {x = B42_check} refl
    (more {x = B43_foreign} refl
    (more {x = B43_64} refl
    (more {x = B43_255} refl
    (more {x = B44_more} refl
    (more {x = B44_most} refl
    (more {x = B45_whole} refl
    (more {x = B45_less} refl
    (more {x = B46_exact} refl
    (more {x = B46_less} refl
    (more {x = B46_huge} refl
    (more {x = B47_huge} refl
    (more {x = B48_open} refl
    (more {x = B48_short} refl
    (more {x = B48_few} refl
    (more {x = B48_run} refl
    (more {x = B48_none} refl
    (more {x = B49_none} refl
    (more {x = B49_14} refl
    (more {x = B49_17} refl
    (more {x = B50_18} refl
    (more {x = B50_20} refl
    (more {x = B51_21} refl
    (more {x = B51_most} refl
    (more {x = B51_empty_0} refl
    (more {x = B51_empty_1} refl
    (more {x = B52_goal} refl
    (more {x = B53_all} refl
    (more {x = B53_gap} refl
    (more {x = B53_best} refl
    (more {x = B54_2} refl
    (more {x = B54_3} refl
    (more {x = B54_4} refl
    (more {x = B55_open} refl
    (more {x = B55_run} refl
    (more {x = B55_most} refl
    (more {x = B56_junior} refl
    (more {x = B57_tied} refl
    (more {x = B57_later} refl
    (more {x = B58_first} refl
    (more {x = B58_second} refl
    (more {x = B58_equal} refl
    (more {x = B59_junior} refl
    (more {x = B60_junior} refl
    (more {x = B61_junior} refl
    (more {x = B62_most} refl
    (more {x = B62_over} refl
    (more {x = B63_most} refl
    (more {x = B63_over} refl
    (more {x = B63_both} refl
    (more {x = B64_none} refl
    (more {x = B64_rack} refl
    (more {x = B65_open} refl
    (more {x = B65_short} refl
    (more {x = B113_0} refl
    (more {x = B113_4} refl
    (more {x = B114_most} refl
    (more {x = B115_exact} refl
    (more {x = B116_none} refl
    (more {x = B116_4} refl
    (more {x = B117_none} refl
    (more {x = B118_over} refl
    (more {x = B118_most} refl
    (more {x = B118_short} refl
    (more {x = B118_few} refl
    (more {x = B119_outside} refl
    (more {x = B119_open} refl
    (more {x = B120_none} refl
    (more {x = B120_0} refl
    (more {x = B120_2} refl
    (more {x = B121_along} refl
    (more {x = B122_along} refl
    (more {x = B122_quick} refl
    (more {x = B123_all} refl
    (more {x = B123_none} refl
    (more {x = B124_open} refl
    (more {x = B124_outside} refl
    (more {x = B124_short} refl
    (more {x = B124_line} refl none
    ))))))))))))))))))))))))))))))))))))))))))))))))))))))))))))))))))))))))))))
    ))))))))))))))))))))))))))))))))))))))))))))))))))))))))))))))))))))))))))))

pub half_reached : HalfReached
unfolding has pairs uses count
half_reached = record { other = line tt (line tt (line tt (line tt empty))); twice = refl }
