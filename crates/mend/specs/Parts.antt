-- The structs of the crate as the definitions of mending see them.
use Rattle.std.specs.Prelude.{ℕ}
use Rattle.job.specs.Job.{JobLine}
use Rattle.mend.specs.declared.change.Change.{Change}
use Rattle.mend.specs.declared.change.Change.TheVariants.{Cleared, Emptied, Raised, Dropped, Recounted, MoreBytes}
use Rattle.mend.specs.declared.line.Line.{Line}
use Rattle.mend.specs.Mend.{line_with}

abbrev pub read_as : Line → JobLine
read_as l = line_with l.set l.quantity

-- the codes of the changes
abbrev pub code_of : Change → ℕ
code_of Cleared = 1
code_of Emptied = 2
code_of Raised = 3
code_of Dropped = 4
code_of Recounted = 5
code_of MoreBytes = 6
