-- What the program tipshare is asked for, what it writes to its streams, and its exit status.
use Rattle.std.specs.Prelude.{ℕ, zero, suc, ◌≡◌, ◌≤◌, ◌==◌, cond, List, [], ◌++◌, take, bytes_eq, Option, Some, option_map}
use Rattle.std.specs.Io.KnownBytes.{Appends, Keeps}
use Rattle.file_report.specs.Summary.{text_of, taken_bytes}
use Rattle.tipshare_run.specs.declared.failing.Failure.{Failure}
use Rattle.tipshare_run.specs.declared.failing.Failure.TheVariants.{Reading, Writing}
use Rattle.tipshare_run.specs.declared.wish.Wish.{Wish}
use Rattle.tipshare_run.specs.declared.wish.Wish.TheVariants.{Plan, Help, Version, Usage}
use Rattle.tipshare_run.specs.declared.wording.TheConstants.{HELP_WORD, VERSION_WORD, HELP, VERSION, USAGE}
use Rattle.tipshare_run.specs.declared.wording.TheConstants.{CANNOT_READ, CANNOT_WRITE, READ_ADVICE, WRITE_ADVICE}

-- what the arguments behind the program's name ask for, by their number and the first of them
abbrev pub wish_of : ℕ → List ℕ → Wish
wish_of count word =
    cond (count == 0) Plan
    (cond (count == 1) (cond (bytes_eq word HELP_WORD) Help (cond (bytes_eq word VERSION_WORD) Version Usage)) Usage)

-- the text for the bytes of the input, of which it takes one more than the longest good file has
abbrev pub planned : Option (List ℕ) → Option (List ℕ)
planned input = option_map (λ file. text_of (take taken_bytes file)) input

-- the text on standard output; of a wrong call there is none
abbrev pub text_for : Wish → Option (List ℕ) → Option (List ℕ)
text_for Plan input = planned input
text_for Help input = Some HELP
text_for Version input = Some VERSION
text_for Usage input = Some []

-- known bytes grew by a beginning of the text
abbrev pub Begun : Option (List ℕ) → Option (List ℕ) → List ℕ → Type 0
Begun old new text = (done : List ℕ) × (rest : List ℕ) × (text ≡ done ++ rest) × Appends old new done

-- 2 for wrong arguments alone; else 0, or 1 where reading or writing failed
abbrev pub StatusFor : Wish → ℕ → Type 0
StatusFor Plan status = status ≤ 1
StatusFor Help status = status ≤ 1
StatusFor Version status = status ≤ 1
StatusFor Usage status = status ≡ 2

-- what failed, why, and what to do
abbrev pub sentence : Failure → List ℕ → List ℕ
sentence (Reading error) reason = CANNOT_READ ++ reason ++ READ_ADVICE
sentence (Writing error) reason = CANNOT_WRITE ++ reason ++ WRITE_ADVICE

-- standard error: nothing at status 0, at 1 the sentence of a failure, at 2 how the program is called; where it cannot be written whole, a beginning
abbrev pub Told : ℕ → Option (List ℕ) → Option (List ℕ) → Type 0
Told zero old new = Keeps old new
Told (suc zero) old new = (failure : Failure) × (reason : List ℕ) × Begun old new (sentence failure reason)
Told (suc (suc more)) old new = Begun old new USAGE
