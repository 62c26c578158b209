-- THE PROVED SET: the definitions of mending, refusals included, give each of the starred files of RULES 9. An error names the row.
use mathlib.Core.Path.{refl}
use Rattle.model.specs.Count.{All, none, more, list_of}
use Rattle.model.specs.Plan.{in_rack, rack_ok}
use Rattle.refusal.specs.Refusal.{or_else}
use Rattle.job.specs.Job.{bytes_of, number_of, number_at, line_length, paired, header_of, line_of, bytes_of_lines, file_of, version_ok, start_number}
use Rattle.mend_rules.specs.Mending.{lines_in, read_count, mended_line, left_empty, after, stays, codes, kept, changes, mended_file, changes_in}
use Rattle.mend_rules.specs.Mending.{bytes_of_changes, mend_refusal}
use Rattle.mend.specs.Call.{mend_of, out_after, report_after}
use Rattle.mend.specs.Rows.{run, rows, Gives}
use Rattle.mend.specs.Rows.{B75_plain, B75_counted, B76_3, B76_65535, B77_1, B77_0, B78, B79_more, B79_less, B79_counted, B80, B81_plain}
use Rattle.mend.specs.Rows.{B81_counted, B82_empty, B82_outside, B83, B84_first, B84_next, B85, B86, B87_15, B87_8, B87_exact, B88_short}
use Rattle.mend.specs.Rows.{B88_none, B88_mark, B88_version_3, B88_version_0, B88_rack_0, B88_rack_65, B89_2, B89_0, B89_3}

pub starred : All Gives rows
unfolding run mend_of out_after report_after mend_refusal or_else start_number version_ok rack_ok mended_file changes_in
    bytes_of_changes changes codes kept stays
    after left_empty mended_line read_count in_rack lines_in
    paired list_of line_length number_at number_of file_of header_of bytes_of_lines line_of bytes_of
starred =
    more {x = B75_plain} refl
    (more {x = B75_counted} refl
    (more {x = B76_3} refl
    (more {x = B76_65535} refl
    (more {x = B77_1} refl
    (more {x = B77_0} refl
    (more {x = B78} refl
    (more {x = B79_more} refl
    (more {x = B79_less} refl
    (more {x = B79_counted} refl
    (more {x = B80} refl
    (more {x = B81_plain} refl
    (more {x = B81_counted} refl
    (more {x = B82_empty} refl
    (more {x = B82_outside} refl
    (more {x = B83} refl
    (more {x = B84_first} refl
    (more {x = B84_next} refl
    (more {x = B85} refl
    (more {x = B86} refl
    (more {x = B87_15} refl
    (more {x = B87_8} refl
    (more {x = B87_exact} refl
    (more {x = B88_short} refl
    (more {x = B88_none} refl
    (more {x = B88_mark} refl
    (more {x = B88_version_3} refl
    (more {x = B88_version_0} refl
    (more {x = B88_rack_0} refl
    (more {x = B88_rack_65} refl
    (more {x = B89_2} refl
    (more {x = B89_0} refl
    (more {x = B89_3} refl
    none))))))))))))))))))))))))))))))))
