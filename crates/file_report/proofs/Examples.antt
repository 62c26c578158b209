-- The definitions give the rule book's printed text, and its forms without runs, with quantities and of a refused file: its file of 24 bytes, with
-- rack 3 and {0}, {1,2}; the file of board B4, where line 3 is no run; board B7, its equal lines as one each; board B31, where tip 3 is absent;
-- the empty file; a quantity of 0.
use mathlib.Core.Path.{◌≡◌, refl}
use mathlib.Core.List.{[], ◌∷◌, ◌++◌}
use lib.Count.{count_leading_zeros, count_trailing_zeros}
use Rattle.model.specs.Count.{count, select, each, every, first_fail, list_of, largest, lowest_at}
use Rattle.model.specs.Plan.{has, occ, uses, pairs, choose2, in_rack, rack_ok}
use Rattle.model.specs.Choice.{choice, from}
use Rattle.model.specs.CommonTip.{set_of, top, W}
use Rattle.model.specs.Greedy.{busiest, rounds, first, quick_tip}
use Rattle.model.specs.Interval.{low, high, fills, is_run_of, lies, inside, named, most, C, tip_by, worth, pick_of, best_tip}
use Rattle.placements.specs.Repeated.{total, repeated}
use Rattle.placements.specs.Totals.{first_over}
use Rattle.placements.specs.Plans.{quick_plan_q, best_plan_q}
use Rattle.refusal.specs.Refusal.{or_else, scan}
use Rattle.job.specs.Job.{bytes_of, number_of, number_at, line_length, paired, header_of, line_of, bytes_of_lines, file_of, sets_in, quantities_in}
use Rattle.job.specs.Job.{version_ok, start_number, size_number, header_number, line_number, line_numbers, read_refusal}
use Rattle.text.specs.Text.{ascii, digits, decimal, joined}
use Rattle.report.specs.Report.{best_text, tip_text, head_text, off_text, pairs_text, line_text, line_at, report_of, refused_text}
use Rattle.file_report.specs.Summary.{facts_of, text_of}

pub printed : (
    text_of (0x54 ∷ 0x49 ∷ 0x50 ∷ 0 ∷ 1 ∷ 3 ∷ 0 ∷ 2 ∷ 0 ∷ 0 ∷ 0 ∷ 0 ∷ 0 ∷ 0 ∷ 0 ∷ 1 ∷ 0 ∷ 0 ∷ 0 ∷ 0 ∷ 0 ∷ 0 ∷ 0 ∷ 6 ∷ [])
    ≡ ascii "lines 2 rack 3\noff 1 tips 0 1 2\nquick 0\nbest 0\nline 0 quick 0 best 0\nline 1 quick 1 best 1\n"
    ) × (
    text_of (file_of 1 3 (paired (2 ∷ 4 ∷ 3 ∷ 5 ∷ []) (1 ∷ 1 ∷ 1 ∷ 1 ∷ [])))
    ≡ ascii "lines 4 rack 3\noff 2 tips 0 1 2\nquick 1\nbest none\n"
    ++ ascii "line 0 quick 1 best -\nline 1 quick 2 best -\nline 2 quick 0 best -\nline 3 quick 0 best -\n"
    ) × (
    text_of (file_of 2 3 (paired (1 ∷ 3 ∷ 6 ∷ 4 ∷ []) (2 ∷ 3 ∷ 3 ∷ 2 ∷ [])))
    ≡ ascii "lines 4 rack 3\noff 4 tips 1\nquick 17\nbest 20\n"
    ++ ascii "line 0 quick 0 best 0\nline 1 quick 1 best 0\nline 2 quick 1 best 2\nline 3 quick 2 best 2\n"
    ) × (
    text_of (file_of 1 5 (paired (16 ∷ 20 ∷ []) (1 ∷ 1 ∷ [])))
    ≡ ascii "lines 2 rack 5\noff 0 tips 4\nquick 1\nbest 1\nline 0 quick 4 best 4\nline 1 quick 4 best 4\n"
    ) × (text_of [] ≡ ascii "refused 6\n") × (text_of (file_of 2 3 (paired (1 ∷ []) (0 ∷ []))) ≡ ascii "refused 15\n")
unfolding text_of facts_of read_refusal or_else scan line_numbers line_number header_number start_number size_number version_ok sets_in quantities_in
    number_at number_of file_of header_of bytes_of_lines line_of paired bytes_of line_length first_over
    rack_ok in_rack list_of each first_fail repeated total W set_of top largest occ has count select pairs uses choose2
    quick_plan_q quick_tip rounds first busiest choice from lowest_at best_plan_q best_tip tip_by pick_of worth named C most lies inside
    low high fills is_run_of every count_leading_zeros count_trailing_zeros
    report_of head_text off_text pairs_text line_text line_at joined tip_text best_text decimal digits ascii refused_text
printed = (refl, refl, refl, refl, refl, refl)
