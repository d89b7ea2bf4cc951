use Rattle.std.proofs.Common.{rules, SFits, w64}
use Rattle.std.proofs.lemmas.Int.{to_z-of_z}
use Rattle.event_places.proofs.shift.meet.Goals as goal

pub returns-then-overlap : goal.returns-then-overlap
returns-then-overlap c =
    let a = c.args.a.now in
    let b = c.args.b.now in
    let al : SFits w64 a.left = search rules in
    let ar : SFits w64 a.right = search rules in
    let at : SFits w64 a.top = search rules in
    let ab : SFits w64 a.bottom = search rules in
    let bl : SFits w64 b.left = search rules in
    let br : SFits w64 b.right = search rules in
    let bt : SFits w64 b.top = search rules in
    let bb : SFits w64 b.bottom = search rules in
    let e = simp to_z-of_z at c.overlap.ensures in
    let f = simp to_z-of_z at c.overlap-then-overlap.ensures in
    (λ h. (e.0 c.if-overlap.true, f.0 h), λ m. f.1 m.1)
