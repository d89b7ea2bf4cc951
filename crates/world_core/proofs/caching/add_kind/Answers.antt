use Rattle.world_core.proofs.caching.add_kind.Goals as goal

pub returns : goal.returns
returns c = rw (c.in_ok-add_part-3.ensures, c.in_ok-add_part-2.ensures, c.in_ok-add_part.ensures) at c.add_part-4.ensures
