use Rattle.std.proofs.Common.{pos, to_z, of_z, w64}
use Rattle.turn_cell.proofs.Passes.{IsOf-Follows}
use Rattle.track_history.proofs.LawLemmas.{fed_follows}
use Rattle.sharing_tests.proofs.tracks.offer.Goals as goal

pub returns : goal.returns
returns g c =
    let follows = (fed_follows c.as_bytes-bytes.result.now (to_z w64 (of_z w64 c.args.start)) (pos 10) c.args.pass c.feed.result.0 c.feed.result.1 c.feed.ensures).1 in
    (IsOf-Follows c.args.track.now c.args.pass c.feed.result.0 _ c.requires follows, follows.number)
