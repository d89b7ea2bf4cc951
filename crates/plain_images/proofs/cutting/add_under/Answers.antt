use Rattle.std.proofs.Common.{◌+◌, ◌<◌, ◌≤◌, pos, ⊎_elim, arith}
use Rattle.std.proofs.lemmas.Bool.{cases_lt}
use Rattle.ass_num.specs.Coverage.{moved_value}
use Rattle.blend.specs.Areas.{placed_of}
use Rattle.blend.proofs.AreaLemmas.{moved_value-outside}
use Rattle.plain_images.proofs.ClipLemmas.{under_outside}
use Rattle.plain_images.proofs.cutting.add_under.Goals as goal

pub returns : goal.returns
returns c =
    let is = c.part_in_box-part.ensures in
    let part = c.part_in_box-part.result in
    let none : part.to ≤ part.from = c.if-part.false in
    let over = placed_of c.args.clip.over in
    under_outside c.args.clip.inverse (λ k. moved_value over (pos (c.args.x + k)) (pos c.args.j)) c.args.row.now c.args.bytes.now.items c.add_outside.new.bytes.items
    (λ k l. moved_value-outside over (c.args.x + k) c.args.j
    (⊎_elim (λ (less : k < part.from). is.before k less) (λ (past : part.from ≤ k). is.behind k (omega arith) l) (cases_lt k part.from)))
    c.in_ok-add_outside.ensures
