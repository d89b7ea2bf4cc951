use Rattle.frame_rate.proofs.RateLemmas as law
use Rattle.frame_rate.proofs.InstantLemmas as instant_law
use Rattle.frame_rate.proofs.laws.frames_are_on_time.Goals as goal

pub returns : goal.returns
returns c = record { time = law.frames_are_on_time; count = law.counted_frames_come_before; asked = instant_law.counted_instants_are_there; steps = law.steps_are_rates }
