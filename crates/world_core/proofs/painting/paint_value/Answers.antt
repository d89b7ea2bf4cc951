use Rattle.std.proofs.Common.{refl, ◌∙◌, rules, to_z-of_z, w32}
use Rattle.std.specs.Int.RustNames.{FitsSigned}
use Rattle.world_core.proofs.painting.paint_value.Goals as goal

pub returns-in-Free-clause-held : goal.returns-in-Free-clause-held
returns-in-Free-clause-held c = rw c.in-Free.is (λ t. tt, λ h. refl)

pub returns-in-Free-clause-painted : goal.returns-in-Free-clause-painted
returns-in-Free-clause-painted c = λ t. rw (c.blend_draw.ensures _ c.requires.value, c.in-Free.is) refl

pub returns-in-Rect-clause-held : goal.returns-in-Rect-clause-held
returns-in-Rect-clause-held c = rw c.in-Rect.is (λ t. tt, λ h. refl)

pub returns-in-Rect-clause-painted : goal.returns-in-Rect-clause-painted
returns-in-Rect-clause-painted c = λ t.
    let x1 : FitsSigned w32 c.in-Rect.x1 = search rules in
    let y1 : FitsSigned w32 c.in-Rect.y1 = search rules in
    let x2 : FitsSigned w32 c.in-Rect.x2 = search rules in
    let y2 : FitsSigned w32 c.in-Rect.y2 = search rules in
    rw (c.blend_draw-in-Rect.ensures _ c.requires.value, c.in-Rect.is, to_z-of_z x1, to_z-of_z y1, to_z-of_z x2, to_z-of_z y2) refl

pub returns-in-Some-clause-held : goal.returns-in-Some-clause-held
returns-in-Some-clause-held c = rw c.in-Drawn.is (λ t. rw (c.in-Some.is, c.deref.ensures) at c.in_ok-found-in-Drawn.ensures.held, λ h. refl)

pub returns-in-Some-clause-painted : goal.returns-in-Some-clause-painted
returns-in-Some-clause-painted c = λ t.
    let x : FitsSigned w32 c.in-Drawn.x = search rules in
    let y : FitsSigned w32 c.in-Drawn.y = search rules in
    let over = c.deref-in-Some.ensures ∙ (rw (c.in-Some.is, c.deref.ensures) at c.in_ok-found-in-Drawn.ensures.value) in
    rw (c.blend_clipped.ensures _ _ c.requires.value over, c.in-Drawn.is, to_z-of_z x, to_z-of_z y) refl

pub returns-in-None-clause-held : goal.returns-in-None-clause-held
returns-in-None-clause-held c = rw c.in-Drawn.is (λ t. cc, λ h. absurd ((rw (c.in-None.is, c.deref.ensures) at c.in_ok-found-in-Drawn.ensures.none) h))
