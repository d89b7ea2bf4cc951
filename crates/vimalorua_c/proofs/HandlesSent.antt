-- What stands behind a handle may go to another thread: a player may, and so may a seat.
use denote.Param.Send.{IsSend, recorded_send, struct_send}
use denote.Struct.Declared.{shape}
use Rattle.core.proofs.option.Option.TheSendSync.{the_field_send as option_send}
use Rattle.player.proofs.PlayerSent.{player_send}
use Rattle.shared_player.proofs.SeatSent.{seat_send}
use Rattle.vimalorua_c.specs.contracts.held_seat.HeldSeat as held_seat
use Rattle.vimalorua_c.specs.contracts.kept.HeldPlayer as kept

pub kept_send : IsSend kept.the_row
kept_send = recorded_send kept.the_field.row _ _ kept.the_type.to_one (struct_send (shape kept.the_type) (option_send _ player_send, tt))

pub held_seat_send : IsSend held_seat.the_row
held_seat_send = recorded_send held_seat.the_field.row _ _ held_seat.the_type.to_one (struct_send (shape held_seat.the_type) (option_send _ seat_send, tt))
