-- A line's text looks at its tip of best sharing only where there is one.
use Rattle.std.proofs.Common.{◌≡◌, ℕ, Bool, true, false, Option, refl}
use Rattle.std.specs.Bool.{then_some}
use Rattle.std.specs.Option.{is_some, unwrap_or}
use Rattle.report.specs.Report.{best_text, line_text}

pub line_shown : (i quick : ℕ) (runs : Bool) (x : ℕ) {o : Option ℕ} → o ≡ then_some runs x
    → line_text i quick (is_some o) (unwrap_or o 0) ≡ line_text i quick runs x
unfolding line_text best_text
line_shown i quick true x e = rw e refl
line_shown i quick false x e = rw e refl
