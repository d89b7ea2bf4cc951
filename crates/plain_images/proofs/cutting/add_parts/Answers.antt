use Rattle.std.proofs.Common.{◌≡◌, ◌+◌, ◌-◌, true, pos, drop, length, arith}
use Rattle.std.proofs.lemmas.List.{get_or-take, length-take-le, length-drop}
use Rattle.ass_num.specs.Coverage.{moved_value}
use Rattle.blend.specs.Areas.{in_moved_box, placed_of}
use Rattle.blend.proofs.AreaLemmas.{moved_value-outside}
use Rattle.blend.proofs.BlockLemmas.{get_or-part}
use Rattle.plain_images.proofs.ClipLemmas.{under_parts}
use Rattle.plain_images.proofs.cutting.add_parts.Goals as goal

pub cover-over-requires-clause-first : goal.cover-over-requires-clause-first
cover-over-requires-clause-first c =
    let some = c.requires.some in
    c.requires.part.inside c.args.part.from (omega arith) (omega arith)

pub cover-over-requires-clause-last : goal.cover-over-requires-clause-last
cover-over-requires-clause-last c =
    let some = c.requires.some in
    let last : c.args.x + (c.args.part.to - 1) ≡ c.args.x + c.args.part.to - 1 = omega arith in
    let inside : in_moved_box (placed_of c.args.clip.over) (c.args.x + (c.args.part.to - 1)) c.args.j ≡ true = c.requires.part.inside (c.args.part.to - 1) (omega arith) (omega arith) in
    rw last at inside

pub returns : goal.returns
returns c =
    let is = c.requires.part in
    let some = c.requires.some in
    let frame = c.requires.frame in
    let within = is.within in
    let row = c.args.row.now in
    let from = c.args.part.from in
    let to = c.args.part.to in
    let over = placed_of c.args.clip.over in
    let count = c.cover-over.ensures.count in
    under_parts c.args.clip.inverse (λ k. moved_value over (pos (c.args.x + k)) (pos c.args.j)) row _ _ _ c.cover-over.result.now
    c.args.bytes.now.items c.add_outside.new.bytes.items c.add_inside.new.bytes.items c.add_outside-2.new.bytes.items from to (omega arith) within
    (λ k l. moved_value-outside over (c.args.x + k) c.args.j (is.before k l))
    (λ k l. let place : c.args.x + from + k ≡ c.args.x + (from + k) = omega arith in rw place at (c.cover-over.ensures.values k (omega arith)))
    (λ k h l. moved_value-outside over (c.args.x + k) c.args.j (is.behind k h l))
    (length-take-le from row (omega arith))
    (λ k l. get_or-take from row k 0 l)
    (length-take-le (to - from) (drop from row) (let rest = length-drop from row in omega arith))
    (λ k l. get_or-part row from (to - from) k l)
    (length-take-le (length row - to) (drop to row) (let rest = length-drop to row in omega arith))
    (λ k l. get_or-part row to (length row - to) k l)
    c.in_ok-add_outside.ensures c.in_ok-add_inside.ensures c.in_ok-add_outside-2.ensures
