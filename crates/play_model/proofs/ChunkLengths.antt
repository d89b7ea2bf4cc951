-- The chunk of a line is little longer than the line.
use Rattle.std.proofs.Common.{◌≡◌, ℕ, ◌+◌, ◌<◌, ◌≤◌, ℤ, pos, negsuc, List, [], ◌∷◌, length, Ok, arith, length-append}
use Rattle.std.specs.Fmt.{decimal, signed_decimal}
use Rattle.std.specs.List.{join_with_byte}
use Rattle.std.proofs.lemmas.Fmt.{length-decimal-le, length_signed_le}
use Rattle.std.proofs.lemmas.Int.{ints}
use Rattle.ass_num.specs.Limits.{IsWithin, max_text_bytes, max_whole}
use Rattle.ass_num.specs.Bytes.{comma}
use Rattle.ass_events.specs.Events.{chunk_bytes, event_of_line}
use Rattle.ass_events.specs.Ranges.{IsEvent, text_bytes}
use Rattle.ass_events.specs.declared.event.Event.{Event}
use Rattle.ass_events.proofs.LawLemmas.{line_gives_event}
use Rattle.ass_events.proofs.TextLemmas.{line_fits}
use Rattle.play_model.specs.Plays.{IsPlayable, PlayView}

whole_short : (z : ℤ) → IsWithin max_whole z → length (signed_decimal z) ≤ 11
whole_short (pos n) within = length_signed_le 10 (pos n) (omega (arith, ints, within.1)) (omega (arith, ints, within.1))
whole_short (negsuc n) within = length_signed_le 10 (negsuc n) (omega (arith, ints, within.0)) (omega (arith, ints, within.0))

abbrev bytes_in : List (List ℕ) → ℕ
bytes_in [] = 0
bytes_in (piece ∷ pieces) = length piece + bytes_in pieces

joined_short : (c : ℕ) (pieces : List (List ℕ)) → length (join_with_byte c pieces) ≤ bytes_in pieces + length pieces
joined_short c [] = omega arith
joined_short c (p ∷ []) = omega arith
joined_short c (p ∷ (q ∷ pieces)) = omega (arith, joined_short c (q ∷ pieces), length-append p (c ∷ join_with_byte c (q ∷ pieces)))

chunk_short : (event : Event) → IsEvent event → length (chunk_bytes event) ≤ text_bytes event + 63
chunk_short event is =
    let order : length (decimal event.order) ≤ 10 = length-decimal-le 10 event.order (omega arith) (omega (arith, is.order)) (omega (arith, is.order)) in
    let layer = whole_short event.layer is.layer in
    let left = whole_short event.margin_l is.margin_l in
    let right = whole_short event.margin_r is.margin_r in
    let vertical = whole_short event.margin_v is.margin_v in
    let joined = joined_short comma (
    decimal event.order ∷ signed_decimal event.layer ∷ event.style ∷ event.name ∷ signed_decimal event.margin_l
    ∷ signed_decimal event.margin_r ∷ signed_decimal event.margin_v ∷ event.effect ∷ event.text ∷ []) in
    omega (arith, order, layer, left, right, vertical, joined)

pub short_chunk : (play : PlayView) (i : ℕ) (event : Event) → IsPlayable play → i < length play.script.lines → event_of_line play.script i ≡ Ok event → length (chunk_bytes event) ≤ max_text_bytes
short_chunk play i event playable inside is =
    let range = line_gives_event play.script i event playable.script inside is in
    let texts = line_fits play.script i event is in
    let line = playable.short i [] inside in
    let chunk = chunk_short event range in
    omega (arith, texts, line, chunk)
