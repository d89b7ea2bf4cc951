use Rattle.std.proofs.Common.{arith}
use Rattle.ass_events.proofs.LawLemmas.{chunk_gives_event}
use Rattle.ass_events.proofs.TextLemmas.{chunk_fits}
use Rattle.track_history.proofs.local_track.LocalTrack.feed.Goals as goal

pub offer_new-requires-clause-event : goal.offer_new-requires-clause-event
offer_new-requires-clause-event c = chunk_gives_event _ _ _ _ c.in-Ok.ensures

pub offer_new-requires-clause-short : goal.offer_new-requires-clause-short
offer_new-requires-clause-short c = let fits = chunk_fits _ _ _ _ c.in-Ok.ensures in omega (arith, fits, c.requires)
