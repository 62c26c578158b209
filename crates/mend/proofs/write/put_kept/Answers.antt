use Rattle.std.proofs.Common.{sym, ◌∙◌}
use Rattle.text.proofs.Buffer.{start}
use Rattle.mend.proofs.write.put_kept.Goals as goal

pub returns-else-kept : goal.returns-else-kept
returns-else-kept c = rw (sym c.requires.kept_is ∙ c.if-kept.false) start
