-- The draws of a set of events at an instant are the only ones.
use Rattle.std.proofs.Common.{◌≡◌, ◌∙◌, refl, sym, ap, ap₂, subst, ℤ, pos, List, [], ◌∷◌, ◌++◌}
use Rattle.frame_view.specs.declared.view.FrameView.{FrameView}
use Rattle.ass_events.specs.NearEvents.{Span}
use Rattle.ass_events.specs.declared.event.Event.{Event}
use Rattle.ass_script.specs.Ranges.{IsScript}
use Rattle.ass_script.specs.Scripts.{ScriptValue}
use Rattle.bdf_font.specs.Fonts.{FontValue}
use Rattle.event_draws.specs.MovedDraws.{AreMovedDraws}
use Rattle.event_places.proofs.OneShift.{one_move}
use Rattle.event_places.proofs.OneStand.{one_stand}
use Rattle.mask_keys.specs.declared.plans.Draw.{Draw}
use Rattle.mask_keys.specs.Pictures.{picture}
use Rattle.picture_laws.proofs.Moved.{one_moved}
use Rattle.picture_laws.specs.OnePicture.{HaveOneListOfDraws, HaveOnePicture}
use Rattle.picture_plan.specs.Pictures.{AreDrawsInOrder, AreEventDraws, AreShown}
use Rattle.picture_plan.specs.Pictures as pictures
use Rattle.track_history.proofs.LawLemmas.{same_sorted}

-- By layer, then ReadOrder, is by start, then ReadOrder, of spans that start at the layer.
abbrev layer_span : Event → Span
layer_span event = record { layer = pos 0; start = event.layer; end = pos 0; order = event.order }

one_shown : (events : List Event) (t : ℤ) (a b : List Event) → AreShown events t a → AreShown events t b → a ≡ b
one_shown events t a b h k =
    same_sorted layer_span a b h.sorted k.sorted (λ e c. (k.members e).1 ((h.members e).0 c)) (λ e c. (h.members e).1 ((k.members e).0 c))

module _ (script : ScriptValue) (fonts : List FontValue) (events : List Event) (t : ℤ) (frame : FrameView) where
  -- what draws in order are made of
  abbrev InOrder : List Event → List Draw → Type 0
  InOrder [] draws = draws ≡ []
  InOrder (event ∷ above) draws =
      (first : List Draw) × (rest : List Draw) × AreEventDraws script fonts events t frame event first × AreDrawsInOrder script fonts events t frame above rest × (draws ≡ first ++ rest)

  in_order : {shown : List Event} {draws : List Draw} → AreDrawsInOrder script fonts events t frame shown draws → InOrder shown draws
  in_order pictures.None = refl
  in_order (pictures.Next event above first rest drawn later) = (first, rest, drawn, later, refl)

  module _ (sound : IsScript script) where
    one_event : (event : Event) (a b : List Draw) → AreEventDraws script fonts events t frame event a → AreEventDraws script fonts events t frame event b → a ≡ b
    one_event event a b h k =
        let shift : h.shift ≡ k.shift = one_move (one_stand script fonts frame sound) event h.shift k.shift h.moved k.moved in
        one_moved script fonts frame sound event t k.shift a b (subst (λ (z : ℤ). AreMovedDraws script fonts event t frame z a) shift h.drawn) k.drawn

    one_order : (shown : List Event) (a b : List Draw) → AreDrawsInOrder script fonts events t frame shown a → AreDrawsInOrder script fonts events t frame shown b → a ≡ b
    one_order [] a b h k = in_order h ∙ sym (in_order k)
    one_order (event ∷ above) a b h k =
        let p = in_order h in
        let q = in_order k in
        p.4 ∙ (ap₂ (λ (x y : List Draw). x ++ y) (one_event event p.0 q.0 p.2 q.2) (one_order above p.1 q.1 p.3 q.3) ∙ sym q.4)

pub one_list_of_draws : (script : ScriptValue) (fonts : List FontValue) → IsScript script → HaveOneListOfDraws script fonts
one_list_of_draws script fonts sound events t frame a b h k =
    let shown = one_shown events t h.shown k.shown h.are_shown k.are_shown in
    one_order script fonts events t frame sound k.shown a b (subst (λ (z : List Event). AreDrawsInOrder script fonts events t frame z a) shown h.in_order) k.in_order

pub one_picture : (script : ScriptValue) (fonts : List FontValue) → IsScript script → HaveOnePicture script fonts
one_picture script fonts sound events t frame a b h k =
    h.value ∙ (ap (picture fonts frame.size) (one_list_of_draws script fonts sound events t frame h.draws k.draws h.are_draws k.are_draws) ∙ sym k.value)
