use Rattle.std.proofs.Common.{◌≡◌, ℕ, List, [], ◌∷◌, length, refl, sym, ◌∙◌, arith}
use Rattle.text.proofs.Buffer.{start}
use Rattle.mend_rules.specs.Mending.{codes, bytes_of_changes}
use Rattle.mend.specs.Parts.{read_as}
use Rattle.mend.proofs.report.put_codes.Goals as goal

-- no changes
no-codes : (cs : List ℕ) → length cs ≡ 0 → cs ≡ []
no-codes [] e = refl
no-codes (c ∷ cs) e = absurd (omega arith)

pub returns-then-changes-eq0 : goal.returns-then-changes-eq0
unfolding bytes_of_changes
returns-then-changes-eq0 c =
    let a = c.args in
    rw (no-codes (codes a.running.rack a.running.total (read_as a.line)) (sym c.requires.changes_are ∙ c.if-changes-eq0.true)) start
