use Rattle.text.proofs.Buffer.{one}
use Rattle.text.proofs.put_digit.Goals as goal

pub returns : goal.returns
returns c = one _ c.requires.at_in_bounds
