-- The cases of mending, in the order of RULES 4.3.
use Rattle.std.specs.Prelude.{ℕ, ◌<◌, ◌⊎◌, List, [], ◌∷◌, ◌++◌, length}
use Rattle.refusal.specs.declared.Reason.TheVariants.{ShortOutput}
use Rattle.cases.specs.Cases.{Case, plain}
use Rattle.call_cases.specs.Reading.{start_cases}
use Rattle.mend_rules.specs.Mending.{mended_file, mended_report}

-- 6, 7, 8, 1, then 11: the output has fewer bytes than the mended file, or the one for the report than the report
abbrev pub mend_cases : List ℕ → ℕ → ℕ → List Case
mend_cases file room space = start_cases file ++ (plain ShortOutput ((room < length (mended_file file)) ⊎ (space < length (mended_report file))) ∷ [])
