use Rattle.std.proofs.Common.{◌≡◌}
use Rattle.track_history.proofs.Tries.{tried}
use Rattle.track_history.proofs.track.Track.offer_within.Given as goal

abbrev pub invariant-loop-lost : goal.invariant-loop-lost
invariant-loop-lost l = l.waiting ≡ tried l.fn.pass l._lost
