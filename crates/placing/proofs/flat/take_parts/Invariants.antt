use Rattle.std.proofs.Common.{◌≡◌, ℕ, ◌<◌, List, length, get_or}
use Rattle.order_rules.specs.declared.Part.{Part}
use Rattle.placing.specs.Rows.{GivesParts, Taken}
use Rattle.placing.proofs.flat.take_parts.Given as goal

abbrev pub invariant-loop-i : goal.invariant-loop-i
invariant-loop-i g l = record {
  firsts_size : length l.firsts ≡ length l.initial.firsts;
  lasts_size : length l.lasts ≡ length l.initial.lasts;
  firsts : (k : ℕ) → k < l.i → get_or l.firsts k 0 < l.n;
  lasts : (k : ℕ) → k < l.i → get_or l.lasts k 0 < l.n;
  taken : (parts : List Part) → GivesParts (λ i r. g.P.Fn.post l.part_at (i, tt) r) l.n parts → Taken parts l.i l.firsts l.lasts l.kinds;
}
