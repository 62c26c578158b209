use Rattle.std.specs.Prelude.{take}
use Rattle.tipshare_run.proofs.failing.tell.Goals as goal

pub returns-in-Reading : goal.returns-in-Reading
returns-in-Reading g c = rw c.in-Reading.is (take c.put_reason-size.result c.put_reason-size.new.room, c.write_three.ensures)

pub returns-in-Writing : goal.returns-in-Writing
returns-in-Writing g c =
    rw c.in-Writing.is (take c.put_reason-size-in-Writing.result c.put_reason-size-in-Writing.new.room, c.write_three-in-Writing.ensures)
