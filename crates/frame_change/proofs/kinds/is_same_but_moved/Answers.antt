use Rattle.std.proofs.Common.{◌≡◌, sym, ap, ◌∙◌, arith}
use Rattle.std.proofs.lemmas.Int.{ints}
use Rattle.std.proofs.lemmas.Bool.{false≢true}
use Rattle.mask_keys.proofs.Equal.{composite_same, composites_decided}
use Rattle.frame_change.proofs.DrawLemmas.{colour_same, clip_same, clips_decided, moved_same}
use Rattle.frame_change.proofs.kinds.is_same_but_moved.Goals as goal

pub returns-then-not-eq-3 : goal.returns-then-not-eq-3
returns-then-not-eq-3 c = ((λ e. absurd (false≢true e)), (λ same. c.if-not-eq-3.ensures ∙ (clips_decided c.args.a.now.clip c.args.b.now.clip).1 (ap (λ d. d.clip) same)))

pub returns : goal.returns
returns c =
    let a = c.args.a.now in
    let b = c.args.b.now in
    let edge : a.edge ≡ b.edge = first_of (omega (arith, ints, c.if-a-b.false), grind (arith, ints, c.if-a-b.false)) in
    let left = colour_same a.left b.left (sym c.if-not-eq.ensures) in
    let right = colour_same a.right b.right (sym c.if-not-eq-2.ensures) in
    let clip = clip_same a.clip b.clip (sym c.if-not-eq-3.ensures) in
    ((λ e. moved_same a b (composite_same a.key b.key (sym c.eq-4.ensures ∙ e)) left right edge clip), (λ same. c.eq-4.ensures ∙ (composites_decided a.key b.key).1 (ap (λ d. d.key) same)))
