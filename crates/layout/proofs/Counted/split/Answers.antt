use Rattle.layout.proofs.Counted.split.Goals as goal

pub invariant_of-lines : goal.invariant_of-lines
invariant_of-lines c = record { ready = c.args.self.now.searchable.readable }
