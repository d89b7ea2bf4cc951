use Rattle.std.proofs.Common.{ap, refl, rules, to_z-of_z, w32}
use Rattle.std.specs.Int.RustNames.{FitsSigned}
use Rattle.ass_num.specs.Masks.{MaskValue}
use Rattle.blend.specs.Blending.{Drawn, StencilValue}
use Rattle.renderer.proofs.Leasing.{lent-none}
use Rattle.renderer.proofs.images.lend_clip.Goals as goal

pub returns-in-Free : goal.returns-in-Free
returns-in-Free g c = rw c.in-Free.is (record { lent = lent-none c.args.caches.now c.args.pass c.requires.pass; refused = tt; shown = refl })

pub returns-in-Rect : goal.returns-in-Rect
returns-in-Rect g c =
    let x1 : FitsSigned w32 c.in-Rect.x1 = search rules in
    let y1 : FitsSigned w32 c.in-Rect.y1 = search rules in
    let x2 : FitsSigned w32 c.in-Rect.x2 = search rules in
    let y2 : FitsSigned w32 c.in-Rect.y2 = search rules in
    rw (c.in-Rect.is, to_z-of_z x1, to_z-of_z y1, to_z-of_z x2, to_z-of_z y2) (record { lent = lent-none c.args.caches.now c.args.pass c.requires.pass; refused = tt; shown = refl })

pub returns-in-Ok : goal.returns-in-Ok
returns-in-Ok g c =
    let x : FitsSigned w32 c.in-Drawn.x = search rules in
    let y : FitsSigned w32 c.in-Drawn.y = search rules in
    let e = rw (c.in-Ok.is, c.deref.ensures) at c.lend_mask-pass.ensures in
    rw (c.in-Drawn.is, to_z-of_z x, to_z-of_z y) (record {
      lent = e.lent;
      refused = tt;
      shown = ap (λ (m : MaskValue). let s : StencilValue = Drawn m c.in-Drawn.x c.in-Drawn.y c.in-Drawn.inverse in s) e.value;
    })

pub returns-in-Err : goal.returns-in-Err
returns-in-Err g c =
    let e = rw (c.in-Err.is, c.deref.ensures) at c.lend_mask-pass.ensures in
    rw c.in-Drawn.is (record { lent = tt; refused = e.refused; shown = tt })
