use Rattle.std.proofs.Common.{◌≡◌, ◌-◌, ◌*◌, if◌then◌else◌, length, length-append, slice_index, ◌∙◌, ap, sym, subst, rules, arith}
use Rattle.std.proofs.lemmas.Grind.{common_steps}
use Rattle.blend.specs.Blending.{by_255}
use Rattle.plain_images.specs.Cutting.{AddsBytes}
use Rattle.plain_images.proofs.ClipLemmas.{adds_clipped, written}
use Rattle.plain_images.proofs.cutting.add_inside.Goals as goal

pub clip_from-requires : goal.clip_from-requires
clip_from-requires c =
    let start : c.len-start.result ≡ length c.args.bytes.now.items = grind (arith, common_steps) in
    let n = ap length c.as_mut_slice.ensures.value in
    let m = ap length c.in_ok-extend_from_slice.ensures.items ∙ length-append c.args.bytes.now.items c.args.row.now in
    let same = c.requires in
    omega arith

pub returns : goal.returns
returns c =
    let start : c.len-start.result ≡ length c.args.bytes.now.items = grind (arith, common_steps) in
    let whole : c.extend_from_slice.new.self.len ≡ length c.extend_from_slice.new.self.items = search rules in
    let v = c.as_mut_slice.ensures.value in
    let n : length c.clip_from.new.bytes ≡ length c.extend_from_slice.new.self.items = c.clip_from.auto.bytes ∙ ap length v in
    let same = rw (v, start) at c.clip_from.ensures.same in
    let clipped = rw (v, start) at c.clip_from.ensures.clipped in
    let w = written c.extend_from_slice.new.self.len c.clip_from.new.bytes c.extend_from_slice.new.self.items n whole in
    subst (AddsBytes (λ k. by_255 (slice_index c.args.row.now k * (if c.args.inverse then 255 - slice_index c.args.over.now k else slice_index c.args.over.now k))) (length c.args.row.now) c.args.bytes.now.items)
    (sym w)
    (adds_clipped c.args.inverse c.args.row.now c.args.over.now c.args.bytes.now.items c.extend_from_slice.new.self.items c.clip_from.new.bytes c.in_ok-extend_from_slice.ensures.items c.requires n same clipped)
