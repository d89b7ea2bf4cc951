-- Two lists of events with the same looks at the same moments, in scripts with the same header and styles, show the same.
use Rattle.std.proofs.Common.{◌≡◌, inl, inr, ℕ, zero, suc, ◌<◌, List, [], ◌∷◌, get_or, map, All, Contains, Option, Some, None, ℤ, ◌+ℤ◌, refl, sym, ap, ◌∙◌, subst, arith}
use Rattle.std.specs.Option.{option_map}
use Rattle.std.proofs.lemmas.Bool.{cases_lt}
use Rattle.std.proofs.lemmas.Int.{ints}
use Rattle.std.proofs.lemmas.List.{get_or-map, length-map}
use Rattle.std.proofs.lemmas.List.Elements.{All-contains, All-contains_itself, All-cons, All-head, All-nil, All-tail, All-weaker, Contains-append_right}
use Rattle.frame_view.specs.declared.view.FrameView.{FrameView}
use Rattle.ass_script.specs.Scripts.{ScriptValue}
use Rattle.ass_script.specs.declared.script.EventField.{EventField}
use Rattle.ass_events.specs.Histories.{Pairwise}
use Rattle.ass_events.specs.NearEvents.{ComesBefore, IsShownAt, span_of}
use Rattle.ass_events.specs.declared.event.Event.{Event}
use Rattle.bdf_font.specs.Fonts.{FontValue}
use Rattle.blend.specs.Canvases.{CanvasValue}
use Rattle.mask_keys.specs.declared.plans.Draw.{Draw}
use Rattle.event_places.specs.Placement.{moved_box}
use Rattle.event_places.specs.declared.stands.Box2.{Box2}
use Rattle.event_places.specs.declared.stands.Stand.{Stand}
use Rattle.event_draws.specs.MovedDraws.{AreMovedDraws}
use Rattle.event_places.specs.Shifts.{Alone, HasShift, IsMovedBy, IsRival, IsRivalBox, Placed, Pointed, Shifted}
use Rattle.event_places.specs.Stands.{HasPoint, IsStandOf}
use Rattle.picture_plan.specs.Pictures.{AreDrawsInOrder, AreEventDraws, AreShown, IsDrawnBefore, IsPictureAt}
use Rattle.picture_plan.specs.Pictures as drawn
use Rattle.picture_laws.proofs.Views.{drawn_later, later_stand, point_later, renumbered, stand_later, with_lines}
use Rattle.track_write.proofs.NearLemmas.{among_map}

-- ---- lists and options

none_back : {X Y : Type 0} (f : X → Y) (o : Option X) → option_map f o ≡ None → o ≡ None
none_back f None is = refl
none_back f (Some x) is = absurd cc

some_back : {X Y : Type 0} (f : X → Y) (o : Option X) (y : Y) → option_map f o ≡ Some y → (x : X) × (o ≡ Some x) × (f x ≡ y)
some_back f None y is = absurd cc
some_back f (Some x) y is = (x, refl, cc)

-- ---- from one list to the other

-- Each event of b is one of a, so much later, and the ReadOrders are in the same order.
pub record Corresponds (by : ℤ) (a b : List Event) (from : Event → Event) : Type 0 where
  pub listed : (g : Event) → Contains b g → Contains a (from g)
  pub onto : (e : Event) → Contains a e → (g : Event) × Contains b g × (from g ≡ e)
  pub alike : (g : Event) → Contains b g → g ≡ renumbered by g.order (from g)
  pub forth : (f g : Event) → Contains b f → Contains b g → (from f).order < (from g).order → f.order < g.order
  pub back : (f g : Event) → Contains b f → Contains b g → f.order < g.order → (from f).order < (from g).order

module _ (by : ℤ) (a b : List Event) (from : Event → Event) (h : Corresponds by a b from) where
  start_is : (g : Event) → Contains b g → g.start ≡ (from g).start +ℤ by
  start_is g c = ap (λ (e : Event). e.start) (h.alike g c)

  duration_is : (g : Event) → Contains b g → g.duration ≡ (from g).duration
  duration_is g c = ap (λ (e : Event). e.duration) (h.alike g c)

  layer_is : (g : Event) → Contains b g → g.layer ≡ (from g).layer
  layer_is g c = ap (λ (e : Event). e.layer) (h.alike g c)

  same_order : (f g : Event) → Contains b f → Contains b g → from f ≡ from g → f.order ≡ g.order
  same_order f g cf cg same =
      let orders : (from f).order ≡ (from g).order = ap (λ (e : Event). e.order) same in
      elim (cases_lt f.order g.order) [
        | inl less ↦ let under = h.back f g cf cg less in absurd (omega (arith, under, orders))
        | inr rest ↦ elim (cases_lt g.order f.order) [
          | inl less ↦ let under = h.back g f cg cf less in absurd (omega (arith, under, orders))
          | inr other ↦ omega (arith, rest, other)
        ]
      ]

  injective : (f g : Event) → Contains b f → Contains b g → from f ≡ from g → f ≡ g
  injective f g cf cg same =
      h.alike f cf ∙ ap (λ n. renumbered by n (from f)) (same_order f g cf cg same) ∙ ap (renumbered by g.order) same ∙ sym (h.alike g cg)

  before_back : (f g : Event) → Contains b f → Contains b g → ComesBefore (span_of f) (span_of g) → ComesBefore (span_of (from f)) (span_of (from g))
  before_back f g cf cg (layers, inl less) =
      let first = start_is f cf in let second = start_is g cg in (sym (layer_is f cf) ∙ layers ∙ layer_is g cg, inl (omega (arith, ints, less, first, second)))
  before_back f g cf cg (layers, inr same) =
      let first = start_is f cf in let second = start_is g cg in (sym (layer_is f cf) ∙ layers ∙ layer_is g cg, inr (omega (arith, ints, same.0, first, second), h.back f g cf cg same.1))

  before_forth : (f g : Event) → Contains b f → Contains b g → ComesBefore (span_of (from f)) (span_of (from g)) → ComesBefore (span_of f) (span_of g)
  before_forth f g cf cg (layers, inl less) =
      let first = start_is f cf in let second = start_is g cg in (layer_is f cf ∙ layers ∙ sym (layer_is g cg), inl (omega (arith, ints, less, first, second)))
  before_forth f g cf cg (layers, inr same) =
      let first = start_is f cf in let second = start_is g cg in (layer_is f cf ∙ layers ∙ sym (layer_is g cg), inr (omega (arith, ints, same.0, first, second), h.forth f g cf cg same.1))

  rival_back : (e g f : Event) → Contains b g → from g ≡ e → IsRival b g f → IsRival a e (from f)
  rival_back e g f c same r =
      let first = start_is f r.listed in
      let second = start_is g c in
      let lasts = duration_is f r.listed in
      subst (λ z. IsRival a z (from f)) same (record {
        listed = h.listed f r.listed;
        before = before_back f g r.listed c r.before;
        lasts = omega (arith, ints, r.lasts, first, second, lasts);
      })

  rival_forth : (g f : Event) → Contains b g → Contains b f → IsRival a (from g) (from f) → IsRival b g f
  rival_forth g f c listed r =
      let first = start_is f listed in
      let second = start_is g c in
      let lasts = duration_is f listed in
      record {
        listed = listed;
        before = before_forth f g listed c r.before;
        lasts = omega (arith, ints, r.lasts, first, second, lasts);
      }

  shown_back : (g : Event) (t : ℤ) → Contains b g → IsShownAt (span_of g) (t +ℤ by) → IsShownAt (span_of (from g)) t
  shown_back g t c s =
      let start = start_is g c in let lasts = duration_is g c in (omega (arith, ints, s.0, start), omega (arith, ints, s.1, start, lasts))

  shown_forth : (g : Event) (t : ℤ) → Contains b g → IsShownAt (span_of (from g)) t → IsShownAt (span_of g) (t +ℤ by)
  shown_forth g t c s =
      let start = start_is g c in let lasts = duration_is g c in (omega (arith, ints, s.0, start), omega (arith, ints, s.1, start, lasts))

  drawn_forth : (f g : Event) → Contains b f → Contains b g → IsDrawnBefore (from f) (from g) → IsDrawnBefore f g
  drawn_forth f g cf cg (inl less) = let first = layer_is f cf in let second = layer_is g cg in inl (omega (arith, ints, less, first, second))
  drawn_forth f g cf cg (inr same) = inr (layer_is f cf ∙ same.0 ∙ sym (layer_is g cg), h.forth f g cf cg same.1)

  -- where the events of b stand, by where those of a do
  abbrev later_place : Stand × ℤ → Stand × ℤ
  later_place place = (later_stand by place.0, place.1)

  abbrev places_of : (Event → Option (Stand × ℤ)) → Event → Option (Stand × ℤ)
  places_of place_of g = option_map later_place (place_of (from g))

  box_forth : (place_of : Event → Option (Stand × ℤ)) (e g : Event) (box : Box2) → Contains b g → from g ≡ e → IsRivalBox a place_of e box → IsRivalBox b (places_of place_of) g box
  box_forth place_of e g box c same r =
      let found = h.onto r.rival r.is_rival.listed in
      let rival : IsRival a (from g) (from found.0) = subst (λ z. IsRival a z (from found.0)) (sym same) (subst (IsRival a e) (sym found.2) r.is_rival) in
      record {
        rival = found.0;
        is_rival = rival_forth g found.0 c found.1 rival;
        stand = later_stand by r.stand;
        shift = r.shift;
        stands = ap (option_map later_place) (ap place_of found.2 ∙ r.stands);
        moved = r.moved;
      }

  box_back : (place_of : Event → Option (Stand × ℤ)) (e g : Event) (box : Box2) → Contains b g → from g ≡ e → IsRivalBox b (places_of place_of) g box → IsRivalBox a place_of e box
  box_back place_of e g box c same r =
      let was = some_back later_place (place_of (from r.rival)) (r.stand, r.shift) r.stands in
      record {
        rival = from r.rival;
        is_rival = rival_back e g r.rival c same r.is_rival;
        stand = was.0.0;
        shift = was.0.1;
        stands = was.1;
        moved = r.moved ∙ sym (ap (λ (p : Stand × ℤ). moved_box p.0.down p.1 p.0.place) was.2);
      }

  module _ (script : ScriptValue) (format : List EventField) (lines : List (List ℕ)) (fonts : List FontValue) (frame : FrameView) where
    stand_forth : (e g : Event) (stand : Stand) → Contains b g → from g ≡ e → IsStandOf script fonts frame e stand → IsStandOf (with_lines script format lines) fonts frame g (later_stand by stand)
    stand_forth e g stand c same is =
        subst (λ z. IsStandOf (with_lines script format lines) fonts frame z (later_stand by stand)) (sym (h.alike g c))
        (stand_later script format lines by g.order (from g) fonts frame stand (subst (λ z. IsStandOf script fonts frame z stand) (sym same) is))

    point_forth : (e g : Event) → Contains b g → from g ≡ e → HasPoint e → HasPoint g
    point_forth e g c same has = subst HasPoint (sym (h.alike g c)) (point_later by g.order (from g) (subst HasPoint (sym same) has))

    shift_forth : (e : Event) (stand : Stand) (shift : ℤ) → HasShift script fonts frame a e stand shift → (g : Event) → Contains b g → from g ≡ e →
        HasShift (with_lines script format lines) fonts frame b g (later_stand by stand) shift
    shift_forth _ _ _ (Placed e stand others place_of shift stands points each boxes least) g c same =
        Placed g (later_stand by stand) others (places_of place_of) shift
        (stand_forth e g stand c same stands)
        (λ f rival none. point_forth (from f) f rival.listed refl (points (from f) (rival_back e g f c same rival) (none_back later_place (place_of (from f)) none)))
        (λ f s z rival has.
        let was = some_back later_place (place_of (from f)) (s, z) has in
        subst (λ (p : Stand × ℤ). HasShift (with_lines script format lines) fonts frame b f p.0 p.1) was.2
        (shift_forth (from f) was.0.0 was.0.1 (each (from f) was.0.0 was.0.1 (rival_back e g f c same rival) was.1) f rival.listed refl))
        (λ box. (
          λ m. box_forth place_of e g box c same ((boxes box).0 m),
          λ r. (boxes box).1 (box_back place_of e g box c same r),
        ))
        least

    move_forth : (e : Event) (down : ℤ) → IsMovedBy script fonts frame a e down → (g : Event) → Contains b g → from g ≡ e → IsMovedBy (with_lines script format lines) fonts frame b g down
    move_forth _ _ (Shifted e stand shift shifted) g c same = Shifted g (later_stand by stand) shift (shift_forth e stand shift shifted g c same)
    move_forth _ _ (Pointed e point) g c same = Pointed g (point_forth e g c same point)
    move_forth _ _ (Alone e local) g c same = Alone g (λ f r. local (from f) (rival_back e g f c same r))

    event_forth : (t : ℤ) (e g : Event) (draws : List Draw) → Contains b g → from g ≡ e → AreEventDraws script fonts a t frame e draws → AreEventDraws (with_lines script format lines) fonts b (t +ℤ by) frame g draws
    event_forth t e g draws c same are =
        let was : AreMovedDraws script fonts (from g) t frame are.shift draws = subst (λ z. AreMovedDraws script fonts z t frame are.shift draws) (sym same) are.drawn in
        record {
          shift = are.shift;
          moved = move_forth e are.shift are.moved g c same;
          drawn =
              subst (λ z. AreMovedDraws (with_lines script format lines) fonts z (t +ℤ by) frame are.shift draws) (sym (h.alike g c))
              (drawn_later script format lines by g.order (from g) fonts t frame are.shift draws was);
        }

    order_forth : (t : ℤ) (shown : List Event) (draws : List Draw) → AreDrawsInOrder script fonts a t frame shown draws →
        (now : List Event) → map from now ≡ shown → All (Contains b) now → AreDrawsInOrder (with_lines script format lines) fonts b (t +ℤ by) frame now draws
    order_forth t _ _ drawn.None [] is all = drawn.None
    order_forth t _ _ drawn.None (g ∷ now) is all = absurd cc
    order_forth t _ _ (drawn.Next event above draws rest first others) [] is all = absurd cc
    order_forth t _ _ (drawn.Next event above draws rest first others) (g ∷ now) is all =
        let head : from g ≡ event = cc in
        let tail : map from now ≡ above = cc in
        drawn.Next g now draws rest
        (event_forth t event g draws (All-head (Contains b) g now all) head first)
        (order_forth t above rest others now tail (All-tail (Contains b) g now all))

  -- ---- what is shown

  chosen : (shown : List Event) → All (Contains a) shown → (now : List Event) × (map from now ≡ shown) × All (Contains b) now
  chosen [] all = ([], refl, All-nil (Contains b))
  chosen (e ∷ shown) all =
      let first = h.onto e (All-head (Contains a) e shown all) in
      let others = chosen shown (All-tail (Contains a) e shown all) in
      (first.0 ∷ others.0, ap (λ x. x ∷ map from others.0) first.2 ∙ ap (λ xs. e ∷ xs) others.1, All-cons (Contains b) first.0 others.0 first.1 others.2)

  found_back : (now : List Event) (g : Event) → All (Contains b) now → Contains b g → Contains (map from now) (from g) → Contains now g
  found_back [] g all c has = absurd (omega (arith, has.1))
  found_back (f ∷ now) g all c (zero, inside, is) =
      subst (Contains (f ∷ now)) (injective f g (All-head (Contains b) f now all) c is) (zero, omega arith, refl)
  found_back (f ∷ now) g all c (suc k, inside, is) =
      Contains-append_right (f ∷ []) now g (found_back now g (All-tail (Contains b) f now all) c (k, omega (arith, inside), is))

  sorted_forth : (now : List Event) → All (Contains b) now → Pairwise IsDrawnBefore (map from now) → Pairwise IsDrawnBefore now
  sorted_forth [] all sorted = tt
  sorted_forth (g ∷ now) all sorted =
      let first = All-head (Contains b) g now all in
      let others = All-tail (Contains b) g now all in (
        λ k d inside.
            let f = get_or now k d in
            drawn_forth g f first (others k d inside) (subst (IsDrawnBefore (from g)) (get_or-map from now k d (from d) inside) (sorted.0 k (from d) (omega (arith, inside, length-map now from)))),
        sorted_forth now others sorted.1,
      )

  shown_now : (t : ℤ) (now : List Event) → All (Contains b) now → AreShown a t (map from now) → AreShown b (t +ℤ by) now
  shown_now t now all are = record {
    members = λ g. (
      λ c.
          let listed = All-contains (Contains b) now g all c in
          (listed, shown_forth g t listed ((are.members (from g)).0 (among_map from now g c)).1),
      λ p. found_back now g all p.0 ((are.members (from g)).1 (h.listed g p.0, shown_back g t p.0 p.1)),
    );
    sorted = sorted_forth now all are.sorted;
  }

  pub picture_forth : (script : ScriptValue) (format : List EventField) (lines : List (List ℕ)) (fonts : List FontValue) (t : ℤ) (frame : FrameView) (canvas : CanvasValue) →
      IsPictureAt script fonts a t frame canvas → IsPictureAt (with_lines script format lines) fonts b (t +ℤ by) frame canvas
  picture_forth script format lines fonts t frame canvas is =
      let shown = is.are_draws.shown in
      let of_a = All-weaker (Contains shown) (Contains a) (λ e c. ((is.are_draws.are_shown.members e).0 c).0) shown (All-contains_itself shown) in
      let now = chosen shown of_a in
      record {
        draws = is.draws;
        are_draws = record {
          shown = now.0;
          are_shown = shown_now t now.0 now.2 (subst (AreShown a t) (sym now.1) is.are_draws.are_shown);
          in_order = order_forth script format lines fonts frame t shown is.draws is.are_draws.in_order now.0 now.1 now.2;
        };
        value = is.value;
      }
