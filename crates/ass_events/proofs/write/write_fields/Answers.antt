use Rattle.std.proofs.Common.{◌∙◌, rules, FitsSigned, w32, to_z-of_z}
use Rattle.std.specs.Fmt.{decimal, signed_decimal}
use Rattle.ass_events.proofs.WriteLemmas.{put_together, written}
use Rattle.ass_events.proofs.write.write_fields.Goals as goal

pub returns : goal.returns
returns c =
    let fields = c.args.fields.now in
    let layer : FitsSigned w32 fields.layer = search rules in
    let l : FitsSigned w32 fields.margin_l = search rules in
    let r : FitsSigned w32 fields.margin_r = search rules in
    let v : FitsSigned w32 fields.margin_v = search rules in
    put_together _ _ _ _ _ _ _ _ _ _ fields.style.now fields.name.now _ fields.effect.now fields.text.now
    c.in_ok-bytes.ensures.items c.in_ok-extend_from_slice.ensures.items c.in_ok-extend_from_slice-2.ensures.items c.in_ok-push.ensures.items
    c.in_ok-extend_from_slice-3.ensures.items c.in_ok-extend_from_slice-4.ensures.items c.in_ok-extend_from_slice-5.ensures.items c.in_ok-push-2.ensures.items
    c.in_ok-extend_from_slice-6.ensures.items
    ∙ written (decimal c.args.order) (signed_decimal fields.layer) fields.style.now fields.name.now (signed_decimal fields.margin_l) (signed_decimal fields.margin_r)
    (signed_decimal fields.margin_v) fields.effect.now fields.text.now _ _
    (c.as_bytes.ensures.value ∙ rw (to_z-of_z layer) at c.in_ok-head.ensures)
    (c.as_bytes-2.ensures.value ∙ rw (to_z-of_z l, to_z-of_z r, to_z-of_z v) at c.in_ok-margins.ensures)
