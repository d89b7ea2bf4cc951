-- Handles and their parts own what a box at the same types owns.
use mir.Syntax.{impl, tnil, dnil}
use mathlib.Core.List.{[]}
use denote.Signature.{Slot, plain}
use Rattle.core.proofs.alloc.Calls.{Al}
use Rattle.std_alloc.proofs.BoxSteps.Form.{Bx}
use Rattle.std_heap.specs.contracts.Global as heap
use Rattle.std_heap.specs.contracts.GlobalAllocator.TheImpl.{ghosts, dict}
use Rattle.std_heap.proofs.Global.TheLaws as heap_laws
use Rattle.vimalorua_c.specs.contracts.held_seat.HeldSeat as held_seat
use Rattle.vimalorua_c.proofs.held_seat.HeldSeat.TheLaws as held_seat_laws
use Rattle.vimalorua_c.specs.contracts.kept.HeldPlayer as kept
use Rattle.vimalorua_c.proofs.kept.HeldPlayer.TheLaws as kept_laws
use Rattle.vimalorua_c.specs.contracts.parts.Parts as parts
use Rattle.vimalorua_c.specs.contracts.handle.Handle as handle
use Rattle.vimalorua_c.specs.contracts.seat_handle.SeatHandle as seat_handle

abbrev of_heap : Al
of_heap = record { row = heap.the_row; laws = heap_laws.the_row_laws; g = ghosts; d = dict; drops = impl [] tnil dnil }

abbrev pub E : Bx
E = record { row = kept.the_row; laws = kept_laws.the_row_laws; al = of_heap }

abbrev pub SeatE : Bx
SeatE = record { row = held_seat.the_row; laws = held_seat_laws.the_row_laws; al = of_heap }

abbrev pub FromParts : Slot 0
FromParts = plain (λ _. parts.the_row kept.the_row heap.the_row ghosts)

abbrev pub FromSeatParts : Slot 0
FromSeatParts = plain (λ _. parts.the_row held_seat.the_row heap.the_row ghosts)

abbrev pub FromHandle : Slot 0
FromHandle = plain (λ _. handle.the_row)

abbrev pub FromSeatHandle : Slot 0
FromSeatHandle = plain (λ _. seat_handle.the_row)
