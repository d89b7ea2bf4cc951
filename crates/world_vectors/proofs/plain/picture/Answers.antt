use Rattle.world_vectors.proofs.plain.picture.Goals as goal

pub plan_at-requires-clause-setting : goal.plan_at-requires-clause-setting
plan_at-requires-clause-setting c = record { script = rw c.deref.ensures c.requires.script; fonts = rw c.deref-2.ensures c.requires.fonts; frame = c.plain.ensures.range c.requires.size }
