use Rattle.track_history.proofs.LocalTrackLemmas.{offered_to, still_told}
use Rattle.track_history.proofs.local_track.LocalTrack.offer.Goals as goal

pub invariant_of-self : goal.invariant_of-self
invariant_of-self c = still_told c.self.inside.live _ c.args.event.now.value c.feed.result c.self.invariant c.feed.ensures.sound c.feed.ensures.history

pub returns : goal.returns
returns c = offered_to _ c.self.inside.live _ c.args.event.now.value c.feed.result c.self.view_is c.self.invariant c.feed.ensures.answer c.feed.ensures.history
