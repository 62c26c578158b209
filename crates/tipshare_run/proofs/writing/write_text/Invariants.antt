use Rattle.std.proofs.Common.{◌≤◌, length}
use Rattle.std.specs.Prelude.{take}
use Rattle.std.specs.Io.KnownBytes.{Appends}
use Rattle.tipshare_run.proofs.writing.write_text.Given as goal

-- the bytes up to `done` were written
abbrev pub invariant-loop : goal.invariant-loop
invariant-loop g l = record {
  within : l.done ≤ length l.text;
  written : Appends (g.W.Write.contents l.fn.to) (g.W.Write.contents l.to) (take l.done l.text);
}
