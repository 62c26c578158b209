-- THE PROVED SET: the definitions of the windows, refusals included, give each of their starred rows of RULES 9. An error names the row.
use mathlib.Core.Path.{refl}
use Rattle.model.specs.Count.{All, none, more, first_fail, every, list_of, lowest_at}
use Rattle.refusal.specs.Refusal.{or_else, scan}
use Rattle.order_rules.specs.Number.{number, lowest}
use Rattle.order_rules.specs.Least.{due, tight, is_free_part, fits, pick_by, prepend, greedy_by, earliest, relax, settle, lasts_of, best_order}
use Rattle.order_rules.specs.Least.{least_order}
use Rattle.order_rules.specs.Parts.{ruled, by_flags, before, window_ok, rule_ok, placing_order}
use Rattle.order_rules.specs.Call.{given_refusal, order_refusal}
use Rattle.windows.specs.Bounds.{solvable, soonest, latest}
use Rattle.part_windows.specs.Call.{soonest_of, latest_of, first_after, last_after}
use Rattle.part_windows.specs.Rows.{run, rows, Gives}
use Rattle.part_windows.specs.Rows.{B130, B131, B132, B132_between, B133, B134, B135, B136_first, B136_last, B137_rule, B137_window, B138}

pub starred : All Gives rows
unfolding run first_after last_after soonest_of latest_of solvable soonest latest
    order_refusal given_refusal or_else scan first_fail window_ok rule_ok placing_order least_order best_order lasts_of settle earliest relax
    greedy_by pick_by prepend tight due fits is_free_part before by_flags ruled number lowest lowest_at every list_of
starred =
    more {x = B130} refl
    (more {x = B131} refl
    (more {x = B132} refl
    (more {x = B132_between} refl
    (more {x = B133} refl
    (more {x = B134} refl
    (more {x = B135} refl
    (more {x = B136_first} refl
    (more {x = B136_last} refl
    (more {x = B137_rule} refl
    (more {x = B137_window} refl
    (more {x = B138} refl none)))))))))))
