-- A pass of a renderer after a call on one of its parts.
use Rattle.std.proofs.Common.{◌≡◌, List, sym, ◌∙◌, subst, Option}
use Rattle.turn_cell.specs.Passes.{CellView, Follows, IsOf, joined_pass}
use Rattle.turn_cell.proofs.Passes.{IsOf-Follows}
use Rattle.flight_cache.specs.Laws.{IsLater}
use Rattle.mask_caches.specs.declared.passes.CachesPass.{CachesPass}
use Rattle.ass_events.specs.Histories.{Entry}
use Rattle.track_history.specs.Calls.{IsTurn, TrackView}
use Rattle.track_history.proofs.LawLemmas.{turn_follows}
use Rattle.track_history.specs.declared.answers.TrackEntry.{TrackEntry}
use Rattle.renderer.specs.Passes.{GoTogether, IsPassOfRenderer, RenderView, RendererView}

-- a pass of these two
abbrev pub pass_of : TrackView → CachesPass → RenderView
pass_of track caches = record { track = track; caches = caches }

pub track-together : (old new : TrackView) (caches : CachesPass) (given : List TrackEntry) → GoTogether (pass_of old caches) → Follows old new given → GoTogether (pass_of new caches)
track-together old new caches given g f = record { number = g.number ∙ sym f.number; next = g.next ∙ sym f.next }

pub track-of : (renderer : RendererView) (pass : RenderView) (old new : TrackView) (caches : CachesPass) (given : List TrackEntry) → IsPassOfRenderer renderer pass → pass_of old caches ≡ pass → Follows old new given
    → IsPassOfRenderer renderer (pass_of new caches)
track-of renderer pass old new caches given of is f =
    let old_of = subst (λ (p : RenderView). IsPassOfRenderer renderer p) (sym is) of in
    record { track = IsOf-Follows renderer.track old new given old_of.track f; caches = old_of.caches }

pub turn-of : (renderer : RendererView) (old new : TrackView) (entry : Option Entry) → IsOf renderer.track old → IsTurn old new entry → IsOf renderer.track new
turn-of renderer old new entry of turn = let gives = turn_follows old new entry turn in IsOf-Follows renderer.track old new gives.0 of gives.2

pub caches-together : (track : TrackView) (old new : CachesPass) → GoTogether (pass_of track old) → IsLater old.regions new.regions → GoTogether (pass_of track new)
caches-together track old new g later =
    let f = later.first.1 in
    record { number = f.number ∙ g.number; next = f.next ∙ g.next }

-- after a join
pub joined-of : (cell : CellView (Unit {0})) (track other joined : TrackView) → IsOf cell track → joined ≡ joined_pass track other → IsOf cell joined
joined-of cell track other joined of is = subst (λ (t : TrackView). IsOf cell t) (sym is) (record { id = of.id; tagged = of.tagged })
