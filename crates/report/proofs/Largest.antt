-- The largest numbers of a report as it prints them: the most placements, and their pairs.
use mathlib.Core.Path.{◌≡◌, refl, ap, ◌∙◌}
use mathlib.Core.List.{◌++◌}
use native.Mathlib.Omega.{arith}
use Rattle.model.specs.Limits.{most_placements, most_pairs}
use Rattle.text.specs.Text.{ascii, digit_text, digits, decimal}
use Rattle.text.proofs.Decimal.{decimal_step}

placements : decimal most_placements ≡ ascii "2048"
unfolding decimal digits ascii
placements = refl

thousands : decimal 2_096 ≡ ascii "2096"
unfolding decimal digits ascii
thousands = refl

-- computed down to the thousands: the steps of a larger number are too many for the checker
pairs : decimal most_pairs ≡ ascii "2096128"
unfolding ascii
pairs =
    decimal_step 2_096_128 (omega arith)
    ∙ ap (λ d. d ++ digit_text 8) (decimal_step 209_612 (omega arith)
    ∙ ap (λ d. d ++ digit_text 2) (decimal_step 20_961 (omega arith) ∙ ap (λ d. d ++ digit_text 1) thousands))
