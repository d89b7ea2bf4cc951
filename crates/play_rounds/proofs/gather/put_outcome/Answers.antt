use Rattle.play_rounds.proofs.gather.put_outcome.Goals as goal

pub returns-in-Shown : goal.returns-in-Shown
returns-in-Shown g c = rw c.in-Shown.is (rw c.as_slice.ensures at c.put_each.ensures)
