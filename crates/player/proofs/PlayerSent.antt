-- A player may go to another thread: each part of it may. A cache keeps a snapshot, which has no bytes.
use denote.Param.Send.{IsSend, view_send, recorded_send, struct_send, sendable}
use denote.Struct.Declared.{shape}
use Rattle.core.proofs.snapshot.Sent.{snapshot_send}
use Rattle.core.proofs.option.Option.TheSendSync.{the_field_send as option_send}
use Rattle.std_alloc.proofs.arc.Arc.TheSendSync.{the_send as arc_send}
use Rattle.std_alloc.proofs.vec.Vec.TheSendSync.{the_send as vec_send}
use Rattle.std_heap.proofs.Global.TheSendSync.{the_send as global_send, the_sync as global_sync}
use Rattle.std_heap.proofs.GlobalAllocator.TheSendSync.{the_frees}
use Rattle.evict_core.proofs.entries.Entries.TheSendSync.{the_send as entries_send}
use Rattle.ass_num.proofs.region.Region.TheSendSync.{the_send as region_send, the_sync as region_sync}
use Rattle.ass_num.proofs.mask.Mask.TheSendSync.{the_send as mask_send, the_sync as mask_sync}
use Rattle.mask_keys.proofs.region_key.RegionKey.TheSendSync.{the_send as region_key_send}
use Rattle.mask_keys.proofs.mask_key.MaskKey.TheSendSync.{the_send as mask_key_send}
use Rattle.mask_keys.proofs.composite_key.CompositeKey.TheSendSync.{the_send as composite_key_send}
use Rattle.bdf_font.proofs.sets.FontSet.TheSendSync.{the_send as font_set_send, the_sync as font_set_sync}
use Rattle.ass_script.proofs.script.Script.TheSendSync.{the_send as script_send, the_sync as script_sync}
use Rattle.track_history.proofs.local_track.LocalTrack.TheSendSync.{the_send as track_send}
use Rattle.plain_images.proofs.plain.PlainImage.TheSendSync.{the_send as plain_image_send}
use Rattle.player.proofs.player.Listed.TheSendSync.{the_send as listed_send}
use Rattle.local_caches.specs.contracts.local.LocalCaches as local
use Rattle.local_caches.specs.contracts.local.LocalCaches.TheInside as alone_inside
use Rattle.player.specs.contracts.player.Player as player
use Rattle.player.specs.contracts.player.Player.TheInside as player_inside

local_send : IsSend local.the_row
local_send =
    view_send _ _ _ _ _ (recorded_send alone_inside.the_field.row _ _ alone_inside.the_type.to_one (struct_send (shape alone_inside.the_type) (
      arc_send _ _ _ font_set_send global_send font_set_sync global_sync the_frees,
      (
        search (sendable, snapshot_send, entries_send, region_key_send, region_send, region_sync) depth 30 fits 10000,
        (
          search (sendable, snapshot_send, entries_send, mask_key_send, mask_send, mask_sync) depth 30 fits 10000,
          (search (sendable, snapshot_send, entries_send, composite_key_send, mask_send, mask_sync) depth 30 fits 10000, tt),
        ),
      ),
    )))

pub player_send : IsSend player.the_row
player_send =
    view_send _ _ _ _ _ (recorded_send player_inside.the_field.row _ _ player_inside.the_type.to_one (struct_send (shape player_inside.the_type) (
      arc_send _ _ _ script_send global_send script_sync global_sync the_frees,
      (
        arc_send _ _ _ font_set_send global_send font_set_sync global_sync the_frees,
        (
          track_send,
          (
            local_send,
            (
              search sendable,
              (
                search (sendable, option_send, listed_send) depth 10,
                (search (sendable, vec_send, plain_image_send, global_send, the_frees) depth 10, (search sendable, tt)),
              ),
            ),
          ),
        ),
      ),
    )))
