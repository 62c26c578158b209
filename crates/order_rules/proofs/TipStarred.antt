-- THE PROVED SET: the definitions of the placing order by tips, refusals included, give each of its starred rows of RULES 9.
use mathlib.Core.Path.{refl}
use Rattle.model.specs.Choice.{is_on}
use Rattle.model.specs.Count.{All, none, more, first_fail, every, list_of, lowest_at}
use Rattle.along.specs.Along as Along
use Rattle.refusal.specs.Refusal.{or_else, scan}
use Rattle.order_rules.specs.Number.{number, lowest, lowest_on}
use Rattle.order_rules.specs.Least.{due, tight, is_free_part, fits, pick_by, prepend, greedy_by, earliest, relax, settle, lasts_of, best_order}
use Rattle.order_rules.specs.Parts.{ruled, by_flags, before, window_ok, rule_ok}
use Rattle.order_rules.specs.Call.{given_refusal}
use Rattle.order_rules.specs.Tips.{placing_by_tips}
use Rattle.order_rules.specs.TipCall.{tips_refusal, given_by_tips, refusal_by_tips, buffer_by_tips, changes_by_tips}
use Rattle.order_rules.specs.TipRows.{run, rows, Gives}
use Rattle.order_rules.specs.TipRows.{B140, B141, B142, B143, B144, B145, B146, B147, B148_14, B148_4, B148_3, B148_16, B148_29}

pub starred_by_tips : All Gives rows
unfolding run refusal_by_tips buffer_by_tips changes_by_tips given_by_tips tips_refusal given_refusal or_else scan first_fail window_ok rule_ok
    placing_by_tips best_order lasts_of settle earliest relax greedy_by pick_by lowest_on is_on prepend tight due fits is_free_part before by_flags
    ruled number lowest lowest_at every list_of Along.changes Along.changes_after
starred_by_tips =
    more {x = B140} refl
    (more {x = B141} refl
    (more {x = B142} refl
    (more {x = B143} refl
    (more {x = B144} refl
    (more {x = B145} refl
    (more {x = B146} refl
    (more {x = B147} refl
    (more {x = B148_14} refl
    (more {x = B148_4} refl
    (more {x = B148_3} refl
    (more {x = B148_16} refl
    (more {x = B148_29} refl none))))))))))))
