-- A seat may go to another thread: each part of it may.
use denote.Param.Send.{IsSend, view_send, recorded_send, struct_send, sendable}
use denote.Struct.Declared.{shape}
use Rattle.std_alloc.proofs.arc.Arc.TheSendSync.{the_send as arc_send}
use Rattle.std_heap.proofs.Global.TheSendSync.{the_send as global_send, the_sync as global_sync}
use Rattle.std_heap.proofs.GlobalAllocator.TheSendSync.{the_frees}
use Rattle.player.proofs.PlayerSent.{player_send}
use Rattle.track_history.proofs.track.Track.TheSendSync.{the_send as track_send, the_sync as track_sync}
use Rattle.track_history.proofs.track.TrackPass.TheSendSync.{the_send as pass_send}
use Rattle.shared_player.specs.contracts.seat.Seat as seat
use Rattle.shared_player.specs.contracts.seat.Seat.TheInside as inside

pub seat_send : IsSend seat.the_row
seat_send =
    view_send _ _ _ _ _ (recorded_send inside.the_field.row _ _ inside.the_type.to_one (struct_send (shape inside.the_type) (
      player_send,
      (
        arc_send _ _ _ track_send global_send track_sync global_sync the_frees,
        (search (sendable, pass_send) depth 10, (search sendable, tt)),
      ),
    )))
