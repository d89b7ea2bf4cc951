-- Events that are moved one after the other stand clear of their rivals among all events.
use Rattle.std.proofs.Common.{◌≡◌, ◌≢◌, ℕ, ◌+◌, ◌<◌, get_or, take, ℤ, pos, ◌<ℤ◌, true, false, cond, List, [], ◌∷◌, ◌++◌, length, map, refl, sym, ap, subst, ◌∙◌, arith, ◌⊎◌, ⊎_elim, inl, inr, Option, Some, None}
use Rattle.std.specs.Prelude.{slice_get, ◌==◌, if◌then◌else◌}
use Rattle.std.specs.List.{All, Contains, filter}
use Rattle.std.specs.List.Sorted.{IsPermutation}
use Rattle.std.proofs.lemmas.Bool.{cases_Bool, false≢true}
use Rattle.std.proofs.lemmas.Bool.Decides.{nat_tests}
use Rattle.std.proofs.lemmas.Int.{ints}
use Rattle.std.proofs.lemmas.List.{take_more}
use Rattle.std.proofs.lemmas.Option.{get_or_from_slice_get, slice_get-get_or}
use Rattle.std.proofs.lemmas.List.Elements.{All-contains, Contains-append_left, Contains-append_right, Contains-append_cases, Contains-push, Contains-push_cases}
use Rattle.std.proofs.lemmas.List.Sorted.{Contains-permutation, IsPermutation-sym}
use Rattle.frame_view.specs.declared.view.FrameView.{FrameView}
use Rattle.ass_events.specs.declared.event.Event.{Event}
use Rattle.ass_events.specs.Histories.{HaveOwnOrders, Pairwise}
use Rattle.ass_events.specs.NearEvents.{ComesBefore, IsEarlier, Chained, Span, span_of}
use Rattle.ass_script.specs.Scripts.{ScriptValue}
use Rattle.bdf_font.specs.Fonts.{FontValue}
use Rattle.event_places.specs.Placement.{IsLeastShift, moved_box}
use Rattle.event_places.specs.declared.stands.Box2.{Box2}
use Rattle.event_places.specs.declared.stands.Stand.{Stand}
use Rattle.event_places.specs.PlacedEvents.{IsPlacedEvent, placed_places}
use Rattle.event_places.specs.Shifts.{HasShift, IsRival, IsRivalBox, Placed}
use Rattle.near_events.specs.Spans.{AreNearSpans, IsSpanOf, StandsBefore, event_span, span_at}
use Rattle.event_places.specs.Stands.{HasPoint, IsStandOf}
use Rattle.event_places.specs.Steps.{AreSteps, Next, IsAlone, IsPlacing, IsPlacingStep, Alone, Moved, boxes_in_way, is_in_way, placed_box, unmoved}
use Rattle.event_places.specs.declared.placed.PlacedEvent.{PlacedEvent}
use Rattle.near_events.specs.declared.spans.EventSpan.{EventSpan}
use Rattle.event_places.specs.declared.placed_boxes.PlacedBox.{PlacedBox}
use Rattle.near_events.proofs.NearSpans.{no_span}
use Rattle.near_events.proofs.Lists.{there_from_get, get_from_there, same_some, none_some, in_map, from_map, in_filter, from_filter, pairwise_get}
use Rattle.near_events.proofs.Orders.{before_in_layer, before_trans, earlier_start, layer_le, not_before_itself}
use Rattle.event_places.proofs.ClearLemmas.{in_way, way_end, way_layer}
use Rattle.near_events.proofs.Pairs.{Contains-nil, Contains-head, Contains-tail, Contains-cons_cases, Pairwise-cross, Pairwise-right}

-- ---- the event of a ReadOrder
pub nat_three : (m n : ℕ) → (m ≡ n) ⊎ ((m < n) ⊎ (n < m))
nat_three m n = grind arith

pub same_place : (events : List Event) (i j : ℕ) (e f : Event) → HaveOwnOrders events → slice_get events i ≡ Some e → slice_get events j ≡ Some f → e.order ≡ f.order → i ≡ j
same_place events i j e f orders at at' same =
    let R : Event → Event → Type 0 = λ a b. a.order ≢ b.order in
    ⊎_elim (λ is. is)
    (λ other. absurd (⊎_elim (λ lt. pairwise_get R events i j e f orders lt at at' same) (λ lt. pairwise_get R events j i f e orders lt at' at (sym same)) other))
    (nat_three i j)

pub same_event : (events : List Event) (i j : ℕ) (e f : Event) → HaveOwnOrders events → slice_get events i ≡ Some e → slice_get events j ≡ Some f → e.order ≡ f.order → e ≡ f
same_event events i j e f orders at at' same =
    let place = same_place events i j e f orders at at' same in
    same_some e f (sym at ∙ (ap (slice_get events) place ∙ at'))

-- ---- places by ReadOrder
-- An event that was moved, whether or not its box is still in the way of any.
pub record ClearedEvent : Type 0 where
  pub span : EventSpan
  pub stand : Stand
  pub shift : ℤ

-- what is left of it
abbrev pub cleared_box : ClearedEvent → PlacedBox
cleared_box x = placed_box x.span x.stand x.shift

abbrev pub DifferCleared : ClearedEvent → ClearedEvent → Type 0
DifferCleared a b = a.span.order ≢ b.span.order

-- what is found of it
abbrev entry : ClearedEvent → Stand × ℤ
entry x = (x.stand, x.shift)

-- the stand and the shift of the event of this ReadOrder
abbrev pub place_in : List ClearedEvent → ℕ → Option (Stand × ℤ)
place_in [] order = None
place_in (x ∷ cleared) order = if x.span.order == order then Some (entry x) else place_in cleared order

place_first : (x : ClearedEvent) (xs : List ClearedEvent) (order : ℕ) → (x.span.order == order) ≡ true → place_in (x ∷ xs) order ≡ Some (entry x)
place_first x xs order e = ap (λ b. cond b (Some (entry x)) (place_in xs order)) e

place_later : (x : ClearedEvent) (xs : List ClearedEvent) (order : ℕ) → (x.span.order == order) ≡ false → place_in (x ∷ xs) order ≡ place_in xs order
place_later x xs order e = ap (λ b. cond b (Some (entry x)) (place_in xs order)) e

place_some : (xs : List ClearedEvent) (order : ℕ) (p : Stand × ℤ) → place_in xs order ≡ Some p → (x : ClearedEvent) × Contains xs x × (x.span.order ≡ order) × (entry x ≡ p)
place_some [] order p has = absurd (none_some p has)
place_some (x ∷ xs) order p has =
    ⊎_elim
    (λ yes. let same : x.span.order ≡ order = grind (arith, nat_tests) in
    (x, Contains-head x xs, same, same_some (entry x) p (sym (place_first x xs order yes) ∙ has)))
    (λ no. let r = place_some xs order p (sym (place_later x xs order no) ∙ has) in (r.0, Contains-tail x xs r.0 r.1, r.2, r.3))
    (cases_Bool (x.span.order == order))

place_of_cleared : (xs : List ClearedEvent) (x : ClearedEvent) → Pairwise DifferCleared xs → Contains xs x → place_in xs x.span.order ≡ Some (entry x)
place_of_cleared [] x h c = absurd (Contains-nil x c)
place_of_cleared (y ∷ ys) x h c =
    ⊎_elim
    (λ is. let same : y.span.order ≡ x.span.order = ap (λ (z : ClearedEvent). z.span.order) is in
    place_first y ys x.span.order (grind (arith, nat_tests)) ∙ ap (λ (z : ClearedEvent). Some (entry z)) is)
    (λ later. let other : y.span.order ≢ x.span.order = All-contains (DifferCleared y) ys x h.0 later in
    place_later y ys x.span.order (grind (arith, nat_tests)) ∙ place_of_cleared ys x h.1 later)
    (Contains-cons_cases y ys x c)

-- ---- what holds behind some spans
-- The span has its layer for itself, its event has a point, or it was cleared.
abbrev pub IsDone : List Event → List EventSpan → List ClearedEvent → EventSpan → Type 0
IsDone events near cleared s =
    IsAlone near s ⊎ (((e : Event) → slice_get events s.place ≡ Some e → HasPoint e) ⊎ ((x : ClearedEvent) × Contains cleared x × (x.span ≡ s)))

pub record AreCleared (script : ScriptValue) (fonts : List FontValue) (frame : FrameView) (events : List Event) (near spans : List EventSpan) (cleared : List ClearedEvent) : Type 0 where
  pub spanned : (x : ClearedEvent) → Contains cleared x → Contains spans x.span
  pub shifted : (x : ClearedEvent) (e : Event) → Contains cleared x → slice_get events x.span.place ≡ Some e → HasShift script fonts frame events e x.stand x.shift
  pub done : (s : EventSpan) → Contains spans s → IsDone events near cleared s
  pub differ : Pairwise DifferCleared cleared

-- What is kept is left of cleared events, and of each one that is in the way of any span to come it is kept.
pub record IsKept (rest : List EventSpan) (cleared : List ClearedEvent) (kept : List PlacedBox) : Type 0 where
  pub own : (k : PlacedBox) → Contains kept k → (x : ClearedEvent) × Contains cleared x × (cleared_box x ≡ k)
  pub all : (x : ClearedEvent) → Contains cleared x → Contains kept (cleared_box x) ⊎ ((r : EventSpan) → Contains rest r → is_in_way r (cleared_box x) ≡ false)

pub record AreDone (script : ScriptValue) (fonts : List FontValue) (frame : FrameView) (events : List Event) (near spans rest : List EventSpan) (placed : List PlacedEvent) (kept : List PlacedBox) : Type 0 where
  pub cleared : List ClearedEvent
  pub clearing : AreCleared script fonts frame events near spans cleared
  pub is_kept : IsKept rest cleared kept
  pub each : All (IsPlacedEvent script fonts frame events) placed
  pub places : placed_places placed ≡ map (λ (s : EventSpan). s.place) spans

pub done_more : (events : List Event) (near : List EventSpan) (cleared : List ClearedEvent) (x : ClearedEvent) (s : EventSpan) → IsDone events near cleared s → IsDone events near (cleared ++ x ∷ []) s
done_more events near cleared x s d =
    ⊎_elim (λ a. inl a) (λ b. ⊎_elim (λ p. inr (inl p)) (λ q. inr (inr (q.0, Contains-append_left cleared (x ∷ []) q.0 q.1, q.2))) b) d

-- ---- what is in the way of a span
-- What isn't in the way of a span behind its own isn't in that of a later one either.
ended_later : (own s r : EventSpan) (x : PlacedBox) → StandsBefore own s → StandsBefore s r → x.layer ≡ own.layer → is_in_way s x ≡ false → is_in_way r x ≡ false
ended_later own s r x before behind layer ended =
    ⊎_elim
    (λ yes.
    let a = way_layer r x yes in
    let b = layer_le own s before in
    let d = layer_le s r behind in
    let same : s.layer ≡ r.layer = omega (arith, ints, a, b, d, layer) in
    let start = earlier_start (span_at s) (span_at r) (before_in_layer s r same behind) in
    let last = way_end r x yes in
    absurd (false≢true (sym ended ∙ in_way s x (omega (arith, ints, a, same)) (omega (arith, ints, start, last)))))
    (λ no. no)
    (cases_Bool (is_in_way r x))

-- ---- rivals among the spans
module _ (events : List Event) (t : ℤ) (near : List EventSpan) (orders : HaveOwnOrders events) (are : AreNearSpans events t near) where
  pub span_is : (s : EventSpan) (e : Event) → Contains near s → slice_get events s.place ≡ Some e → s ≡ event_span e s.place
  span_is s e c at = let own = are.own s c in own.span ∙ ap (λ (z : Event). event_span z s.place) (same_some own.event e (sym own.stands ∙ at))

  -- a rival has a span, which stands before
  rival_span : (s : EventSpan) (e f : Event) → Contains near s → slice_get events s.place ≡ Some e → IsRival events e f
      → (r : EventSpan) × Contains near r × (slice_get events r.place ≡ Some f) × (r ≡ event_span f r.place) × StandsBefore r s
  rival_span s e f c at rival =
      let place = get_from_there events f rival.listed in
      let n = are.matters s e c at in
      let is : span_of e ≡ span_at s = sym (ap span_at (span_is s e c at)) in
      let before : ComesBefore (span_of f) (span_at s) = subst (ComesBefore (span_of f)) is rival.before in (
        event_span f place.0,
        are.all place.0 f place.1 (Chained n rival.listed rival.before rival.lasts),
        place.1,
        refl,
        inr (before.0, before.1),
      )

  module _ (spans : List EventSpan) (s : EventSpan) (rest : List EventSpan) (split : near ≡ spans ++ s ∷ rest) where
    up : Pairwise StandsBefore (spans ++ s ∷ rest)
    up = subst (Pairwise StandsBefore) split are.sorted

    here : Contains near s
    here = subst (λ z. Contains z s) (sym split) (Contains-append_right spans (s ∷ rest) s (Contains-head s rest))

    earlier_near : (r : EventSpan) → Contains spans r → Contains near r
    earlier_near r c = subst (λ z. Contains z r) (sym split) (Contains-append_left spans (s ∷ rest) r c)

    -- what was gone through stands before
    gone_before : (r : EventSpan) → Contains spans r → StandsBefore r s
    gone_before r c = All-contains (StandsBefore r) (s ∷ rest) s (All-contains (λ a. All (StandsBefore a) (s ∷ rest)) spans r (Pairwise-cross StandsBefore spans (s ∷ rest) up) c) (Contains-head s rest)

    -- and what stands before was gone through
    before_gone : (r : EventSpan) → Contains near r → StandsBefore r s → Contains spans r
    before_gone r c before =
        let behind = Pairwise-right StandsBefore spans (s ∷ rest) up in
        ⊎_elim (λ a. a)
        (λ b. absurd (⊎_elim (λ is. not_before_itself s (subst (λ z. StandsBefore z s) (sym is) before))
        (λ later. not_before_itself s (before_trans s r s (All-contains (StandsBefore s) rest r behind.0 later) before)) (Contains-cons_cases s rest r b)))
        (Contains-append_cases spans (s ∷ rest) r (subst (λ z. Contains z r) split c))

    -- a rival isn't alone
    rival_not_alone : (r : EventSpan) → r.layer ≡ s.layer → StandsBefore r s → IsAlone near r → ⊥
    rival_not_alone r layer before alone = not_before_itself s (subst (λ z. StandsBefore z s) (sym (alone s here (sym layer))) before)

    module _ (script : ScriptValue) (fonts : List FontValue) (frame : FrameView) (cleared : List ClearedEvent) (kept : List PlacedBox) (so : AreCleared script fonts frame events near spans cleared) (keep : IsKept (s ∷ rest) cleared kept) where
      -- where nothing was cleared
      pub still_kept : IsKept rest cleared kept
      still_kept = record {
        own = keep.own;
        all = λ x c. ⊎_elim (λ there. inl there) (λ ended. inr (λ r later. ended r (Contains-tail s rest r later))) (keep.all x c);
      }

      -- where one more was
      pub kept_more : (stand : Stand) (shift : ℤ) (new : List PlacedBox) → IsPermutation (placed_box s stand shift ∷ filter (is_in_way s) kept) new
          → IsKept rest (cleared ++ record { span = s; stand = stand; shift = shift } ∷ []) new
      kept_more stand shift new members =
          let one : ClearedEvent = record { span = s; stand = stand; shift = shift } in
          let stay = filter (is_in_way s) kept in
          let behind = Pairwise-right StandsBefore spans (s ∷ rest) up in
          let over : (k : PlacedBox) → Contains (cleared_box one ∷ stay) k → Contains new k = λ k c. Contains-permutation (cleared_box one ∷ stay) new k members c in
          let old : (x : ClearedEvent) → Contains cleared x → Contains new (cleared_box x) ⊎ ((r : EventSpan) → Contains rest r → is_in_way r (cleared_box x) ≡ false) =
          λ x c.
          ⊎_elim
          (λ there.
          ⊎_elim
          (λ yes. inl (over (cleared_box x) (Contains-tail (cleared_box one) stay (cleared_box x) (in_filter (is_in_way s) kept (cleared_box x) there yes))))
          (λ no. inr (λ r later. ended_later x.span s r (cleared_box x) (gone_before x.span (so.spanned x c)) (All-contains (StandsBefore s) rest r behind.0 later) refl no))
          (cases_Bool (is_in_way s (cleared_box x))))
          (λ ended. inr (λ r later. ended r (Contains-tail s rest r later)))
          (keep.all x c)
          in
          record {
            own = λ k c.
                ⊎_elim
                (λ is. (one, Contains-push cleared one, is))
                (λ there. let o = keep.own k (from_filter (is_in_way s) kept k there).0 in (o.0, Contains-append_left cleared (one ∷ []) o.0 o.1, o.2))
                (Contains-cons_cases (cleared_box one) stay k (Contains-permutation new (cleared_box one ∷ stay) k (IsPermutation-sym (cleared_box one ∷ stay) new members) c));
            all = λ x c.
                ⊎_elim (λ before. old x before)
                (λ is. inl (subst (λ (y : ClearedEvent). Contains new (cleared_box y)) is (over (cleared_box one) (Contains-head (cleared_box one) stay))))
                (Contains-push_cases cleared one x c);
          }

    module _ (script : ScriptValue) (fonts : List FontValue) (frame : FrameView) (cleared : List ClearedEvent) (kept : List PlacedBox) (so : AreCleared script fonts frame events near spans cleared) (keep : IsKept (s ∷ rest) cleared kept) (e : Event) (at : slice_get events s.place ≡ Some e) where
      -- what was cleared has an event
      event_of : (x : ClearedEvent) → Contains cleared x → IsSpanOf events x.span
      event_of x c = are.own x.span (earlier_near x.span (so.spanned x c))

      order_of : (x : ClearedEvent) → (c : Contains cleared x) → x.span.order ≡ (event_of x c).event.order
      order_of x c = ap (λ (z : EventSpan). z.order) (event_of x c).span

      -- that of a ReadOrder is the rival
      rival_of : (x : ClearedEvent) (f : Event) → (c : Contains cleared x) → IsRival events e f → x.span.order ≡ f.order → (event_of x c).event ≡ f
      rival_of x f c rival same =
          let place = get_from_there events f rival.listed in
          same_event events x.span.place place.0 (event_of x c).event f orders (event_of x c).stands place.1 (sym (order_of x c) ∙ same)

      points : (f : Event) → IsRival events e f → place_in cleared f.order ≡ None → HasPoint f
      points f rival none =
          let r = rival_span s e f here at rival in
          let layer : (r.0).layer ≡ s.layer = ap (λ (z : EventSpan). z.layer) r.3 ∙ (rival.before.0 ∙ sym (ap (λ (z : EventSpan). z.layer) (span_is s e here at))) in
          ⊎_elim (λ alone. absurd (rival_not_alone r.0 layer r.4 alone))
          (λ b. ⊎_elim (λ point. point f r.2)
          (λ x.
          let order : (x.0).span.order ≡ f.order = ap (λ (z : EventSpan). z.order) (x.2 ∙ r.3) in
          absurd (none_some (entry x.0) (sym none ∙ (ap (place_in cleared) (sym order) ∙ place_of_cleared cleared x.0 so.differ x.1)))) b)
          (so.done r.0 (before_gone r.0 r.1 r.4))

      shifts : (f : Event) (a : Stand) (z : ℤ) → IsRival events e f → place_in cleared f.order ≡ Some (a, z) → HasShift script fonts frame events f a z
      shifts f a z rival has =
          let x = place_some cleared f.order (a, z) has in
          let own = event_of x.0 x.1 in
          let shift = so.shifted x.0 own.event x.1 own.stands in
          let first : HasShift script fonts frame events f (x.0).stand (x.0).shift = subst (λ (g : Event). HasShift script fonts frame events g (x.0).stand (x.0).shift) (rival_of x.0 f x.1 rival x.2) shift in
          subst (λ (p : Stand × ℤ). HasShift script fonts frame events f p.0 p.1) x.3 first

      box_rival : (box : Box2) → Contains (boxes_in_way s kept) box → IsRivalBox events (λ f. place_in cleared f.order) e box
      box_rival box c =
          let m = from_map (λ (k : PlacedBox). k.place) (filter (is_in_way s) kept) box c in
          let there = from_filter (is_in_way s) kept m.0 m.1 in
          let o = keep.own m.0 there.0 in
          let x = o.0 in
          let way : is_in_way s (cleared_box x) ≡ true = ap (is_in_way s) o.2 ∙ there.1 in
          let own = event_of x o.1 in
          let g = own.event in
          let mine = span_is s e here at in
          let before : StandsBefore x.span s = gone_before x.span (so.spanned x o.1) in
          let layer : x.span.layer ≡ s.layer = way_layer s (cleared_box x) way in
          let earlier : IsEarlier (span_at x.span) (span_at s) = before_in_layer x.span s layer before in
          let g_span : span_at x.span ≡ span_of g = ap span_at own.span in
          let e_span : span_at s ≡ span_of e = ap span_at mine in
          let comes : ComesBefore (span_of g) (span_of e) =
          subst (λ z. ComesBefore z (span_of e)) g_span (subst (ComesBefore (span_at x.span)) e_span (layer, earlier)) in
          let lasts : e.start <ℤ (span_of g).end =
          subst (λ (z : Span). e.start <ℤ z.end) g_span (subst (λ (z : Span). z.start <ℤ x.span.end) e_span (way_end s (cleared_box x) way)) in
          record {
            rival = g;
            is_rival = record { listed = there_from_get events x.span.place g own.stands; before = comes; lasts = lasts };
            stand = x.stand;
            shift = x.shift;
            stands = ap (place_in cleared) (sym (order_of x o.1)) ∙ place_of_cleared cleared x so.differ o.1;
            moved = sym m.2 ∙ sym (ap (λ (k : PlacedBox). k.place) o.2);
          }

      rival_box : (box : Box2) → IsRivalBox events (λ f. place_in cleared f.order) e box → Contains (boxes_in_way s kept) box
      rival_box box r =
          let x = place_some cleared r.rival.order (r.stand, r.shift) r.stands in
          let own = event_of x.0 x.1 in
          let g : own.event ≡ r.rival = rival_of x.0 r.rival x.1 r.is_rival x.2 in
          let x_span : span_at (x.0).span ≡ span_of r.rival = ap span_at own.span ∙ ap span_of g in
          let e_span : span_at s ≡ span_of e = ap span_at (span_is s e here at) in
          let layer : (x.0).span.layer ≡ s.layer = ap (λ (z : Span). z.layer) x_span ∙ (r.is_rival.before.0 ∙ sym (ap (λ (z : Span). z.layer) e_span)) in
          let lasts : s.start <ℤ (x.0).span.end =
          subst (λ (z : Span). s.start <ℤ z.end) (sym x_span) (subst (λ (z : Span). z.start <ℤ (span_of r.rival).end) (sym e_span) r.is_rival.lasts) in
          let way : is_in_way s (cleared_box x.0) ≡ true = in_way s (cleared_box x.0) layer lasts in
          let place : (cleared_box x.0).place ≡ box = ap (λ (p : Stand × ℤ). moved_box (p.0).down p.1 (p.0).place) x.3 ∙ sym r.moved in
          ⊎_elim
          (λ there. subst (Contains (boxes_in_way s kept)) place
          (in_map (λ (k : PlacedBox). k.place) (filter (is_in_way s) kept) (cleared_box x.0) (in_filter (is_in_way s) kept (cleared_box x.0) there way)))
          (λ ended. absurd (false≢true (sym (ended s (Contains-head s rest)) ∙ way)))
          (keep.all x.0 x.1)

      pub has_shift : (stand : Stand) (shift : ℤ) → IsStandOf script fonts frame e stand → IsLeastShift stand.place (boxes_in_way s kept) stand.down shift → HasShift script fonts frame events e stand shift
      has_shift stand shift stands least =
          Placed e stand (boxes_in_way s kept) (λ f. place_in cleared f.order) shift stands points shifts (λ box. (box_rival box, rival_box box)) least

      -- no other event has its ReadOrder
      pub new_differs : (x : ClearedEvent) → Contains cleared x → x.span.order ≢ s.order
      new_differs x c same =
          let own = event_of x c in
          let order : own.event.order ≡ e.order = sym (order_of x c) ∙ (same ∙ ap (λ (z : EventSpan). z.order) (span_is s e here at)) in
          let place = same_place events x.span.place s.place own.event e orders own.stands at order in
          let event = same_event events x.span.place s.place own.event e orders own.stands at order in
          let is : x.span ≡ s = own.span ∙ (ap (λ (z : Event). event_span z x.span.place) event ∙ (ap (event_span e) place ∙ sym (span_is s e here at))) in
          not_before_itself s (subst (λ z. StandsBefore z s) is (gone_before x.span (so.spanned x c)))

    -- an event alone in its layer has no rival
    pub no_rival : (e f : Event) → slice_get events s.place ≡ Some e → IsAlone near s → IsRival events e f → ⊥
    no_rival e f at alone rival =
        let r = rival_span s e f here at rival in
        let layer : (r.0).layer ≡ s.layer = ap (λ (z : EventSpan). z.layer) r.3 ∙ (rival.before.0 ∙ sym (ap (λ (z : EventSpan). z.layer) (span_is s e here at))) in
        not_before_itself s (subst (λ z. StandsBefore z s) (alone r.0 r.1 layer) r.4)

-- ---- one more step
pub steps_more : (script : ScriptValue) (fonts : List FontValue) (frame : FrameView) (events : List Event) (near : List EventSpan) (k : ℕ) (placed pushed : List PlacedEvent) (boxes more : List PlacedBox) (one : PlacedEvent)
    → k < length near → AreSteps script fonts frame events near (take k near) placed boxes
    → ((span : EventSpan) → slice_get near k ≡ Some span → IsPlacingStep script fonts frame events near span boxes one more)
    → pushed ≡ placed ++ one ∷ [] → AreSteps script fonts frame events near (take (k + 1) near) pushed more
steps_more script fonts frame events near k placed pushed boxes more one lt steps step is =
    let s = get_or near k no_span in
    let next = Next (take k near) placed boxes s one more steps (step s (slice_get-get_or near k no_span lt)) in
    subst (λ z. AreSteps script fonts frame events near z pushed more) (sym (take_more near k no_span lt))
    (subst (λ z. AreSteps script fonts frame events near (take k near ++ s ∷ []) z more) (sym is) next)

pub step_alone : (script : ScriptValue) (fonts : List FontValue) (frame : FrameView) (events : List Event) (near : List EventSpan) (k : ℕ) (span : EventSpan) (boxes : List PlacedBox) (one : PlacedEvent)
    → slice_get near k ≡ Some span → IsAlone near span → one ≡ unmoved (get_or near k no_span).place None → IsPlacingStep script fonts frame events near span boxes one boxes
step_alone script fonts frame events near k span boxes one at alone is =
    let same : get_or near k no_span ≡ span = get_or_from_slice_get near k span no_span at in
    subst (λ (p : PlacedEvent). IsPlacingStep script fonts frame events near span boxes p boxes) (sym (is ∙ ap (λ (s : EventSpan). unmoved s.place None) same)) (Alone alone)

pub step_moved : (script : ScriptValue) (fonts : List FontValue) (frame : FrameView) (events : List Event) (near : List EventSpan) (k : ℕ) (span : EventSpan) (boxes : List PlacedBox) (one : PlacedEvent) (more : List PlacedBox) (e : Event)
    → k < length near → slice_get near k ≡ Some span → slice_get events (get_or near k no_span).place ≡ Some e → IsPlacing script fonts frame e (get_or near k no_span) boxes one more
    → IsPlacingStep script fonts frame events near span boxes one more
step_moved script fonts frame events near k span boxes one more e lt at event placing =
    let same : get_or near k no_span ≡ span = get_or_from_slice_get near k span no_span at in
    subst (λ (s : EventSpan). IsPlacingStep script fonts frame events near s boxes one more) same (Moved e one more event placing)
