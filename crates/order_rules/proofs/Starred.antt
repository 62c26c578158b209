-- THE PROVED SET: the definitions of the placing order, refusals included, give each of its starred rows of RULES 9. An error names the row.
use mathlib.Core.Path.{refl}
use Rattle.model.specs.Count.{All, none, more, first_fail, every, list_of, lowest_at}
use Rattle.refusal.specs.Refusal.{or_else, scan}
use Rattle.order_rules.specs.Number.{number, lowest}
use Rattle.order_rules.specs.Least.{due, tight, is_free_part, fits, pick_by, prepend, greedy_by, earliest, relax, settle, lasts_of, best_order}
use Rattle.order_rules.specs.Least.{least_order}
use Rattle.order_rules.specs.Parts.{ruled, by_flags, before, window_ok, rule_ok, placing_order}
use Rattle.order_rules.specs.Call.{given_refusal, order_refusal, order_after}
use Rattle.order_rules.specs.Rows.{run, rows, Gives}
use Rattle.order_rules.specs.Rows.{B90_junk, B90_none, B91, B93, B94, B95, B96_later, B96_earlier, B97, B98, B99, B100, B101, B102, B103, B104}
use Rattle.order_rules.specs.Rows.{B104_twice, B105, B106}

pub starred : All Gives rows
unfolding run order_refusal order_after given_refusal or_else scan first_fail window_ok rule_ok placing_order least_order best_order lasts_of settle
    earliest relax greedy_by pick_by prepend tight due fits is_free_part before by_flags ruled number lowest lowest_at every list_of
starred =
    more {x = B90_junk} refl
    (more {x = B90_none} refl
    (more {x = B91} refl
    (more {x = B93} refl
    (more {x = B94} refl
    (more {x = B95} refl
    (more {x = B96_later} refl
    (more {x = B96_earlier} refl
    (more {x = B97} refl
    (more {x = B98} refl
    (more {x = B99} refl
    (more {x = B100} refl
    (more {x = B101} refl
    (more {x = B102} refl
    (more {x = B103} refl
    (more {x = B104} refl
    (more {x = B104_twice} refl
    (more {x = B105} refl
    (more {x = B106} refl none))))))))))))))))))
