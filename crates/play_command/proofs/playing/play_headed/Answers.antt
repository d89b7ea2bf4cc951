use Rattle.std.proofs.Common.{inl, inr}
use Rattle.play_command.proofs.playing.play_headed.Goals as goal

pub returns-in-Done : goal.returns-in-Done
returns-in-Done g c = inr (record { behind = g.F.Sink.state c.put_head.new.frames; head = rw c.in-Done.is at c.put_head.ensures; played = c.play_with.ensures })

pub returns-in-Failed : goal.returns-in-Failed
returns-in-Failed g c = inl (rw c.in-Failed.is at c.put_head.ensures)

pub returns-in-OutOfMemory : goal.returns-in-OutOfMemory
returns-in-OutOfMemory g c = inl (rw c.in-OutOfMemory.is at c.put_head.ensures)
