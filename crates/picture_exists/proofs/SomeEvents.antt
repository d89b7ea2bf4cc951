-- Events that are all among drawable ones have a picture, however often and in whatever order they are listed.
use Rattle.std.proofs.Common.{◌≡◌, ◌≢◌, ℕ, ◌≤◌, ℤ, Bool, true, false, cond, List, [], ◌∷◌, length, Contains, ⊎_elim, refl, sym, ap, subst, ◌∙◌, arith}
use Rattle.std.specs.Prelude.{◌==◌, ◌||◌}
use Rattle.std.specs.List.{All, filter}
use Rattle.std.proofs.lemmas.Bool.{cases_Bool, false≢true}
use Rattle.std.proofs.lemmas.Bool.Decides.{nat_tests}
use Rattle.std.proofs.lemmas.List.Elements.{All-contains, All-filter}
use Rattle.ass_num.specs.Limits.{max_text_bytes}
use Rattle.ass_events.specs.Histories.{Pairwise, has_order}
use Rattle.ass_events.specs.Ranges.{IsEvent}
use Rattle.ass_events.specs.declared.event.Event.{Event}
use Rattle.ass_script.specs.Scripts.{ScriptValue}
use Rattle.bdf_font.specs.Fonts.{FontValue}
use Rattle.blend.specs.Canvases.{CanvasValue}
use Rattle.frame_view.specs.declared.view.FrameView.{FrameView}
use Rattle.near_events.proofs.Lists.{from_filter, in_filter}
use Rattle.near_events.proofs.Pairs.{Contains-cons_cases, Contains-head, Contains-nil, Contains-tail}
use Rattle.picture_exists.specs.Existence.{AreDrawable}
use Rattle.picture_exists.proofs.PictureExistence.{picture_exists}
use Rattle.picture_exists.proofs.ShiftExistence.{same_event_of}
use Rattle.picture_plan.specs.Pictures.{HaveSameEvents, IsPictureAt}
use Rattle.picture_plan.proofs.DrawLaws.{pictures_of_a_set}

filter_pairwise : {X : Type 0} (R : X → X → Type 0) (p : X → Bool) (xs : List X) → Pairwise R xs → Pairwise R (filter p xs)
filter_pairwise R p [] h = tt
filter_pairwise R p (x ∷ xs) h =
    let rest = filter_pairwise R p xs h.1 in
    elim (p x) as (λ b. Pairwise R (cond b (x ∷ filter p xs) (filter p xs))) [ true ↦ (All-filter p (R x) xs h.0, rest) | false ↦ rest ]

has_it : (order : ℕ) (some : List Event) (e : Event) → Contains some e → e.order ≡ order → has_order order some ≡ true
has_it order [] e c same = absurd (Contains-nil e c)
has_it order (x ∷ some) e c same =
    ⊎_elim
    (λ is. let own : x.order ≡ order = ap (λ (z : Event). z.order) is ∙ same in let test : (x.order == order) ≡ true = grind (arith, nat_tests) in ap (λ (b : Bool). b || has_order order some) test)
    (λ later. let rest = has_it order some e later same in elim (x.order == order) as (λ b. (b || has_order order some) ≡ true) [ true ↦ refl | false ↦ rest ])
    (Contains-cons_cases x some e c)

that_has_it : (order : ℕ) (some : List Event) → has_order order some ≡ true → (e : Event) × Contains some e × (e.order ≡ order)
that_has_it order [] has = absurd (false≢true has)
that_has_it order (x ∷ some) has =
    ⊎_elim (λ yes. let same : x.order ≡ order = grind (arith, nat_tests) in (x, Contains-head x some, same))
    (λ no.
    let found = that_has_it order some (sym (ap (λ (b : Bool). b || has_order order some) no) ∙ has) in
    (found.0, Contains-tail x some found.0 found.1, found.2))
    (cases_Bool (x.order == order))

module _ (all some : List Event) (are : AreDrawable all) (among : All (Contains all) some) where
  abbrev listed : Event → Bool
  listed e = has_order e.order some

  few_are : AreDrawable (filter listed all)
  few_are = record {
    each = All-filter listed IsEvent all are.each;
    texts = All-filter listed (λ (e : Event). length e.text ≤ max_text_bytes) all are.texts;
    orders = filter_pairwise (λ (e f : Event). e.order ≢ f.order) listed all are.orders;
  }

  same_events : HaveSameEvents (filter listed all) some
  same_events e = (
    λ c.
        let both = from_filter listed all e c in
        let found = that_has_it e.order some both.1 in
        subst (Contains some) (same_event_of all found.0 e are.orders (All-contains (Contains all) some found.0 among found.1) both.0 found.2) found.1,
    λ c. in_filter listed all e (All-contains (Contains all) some e among c) (has_it e.order some e c refl),
  )

  pub some_have_a_picture : (script : ScriptValue) (fonts : List FontValue) (t : ℤ) (frame : FrameView) → (canvas : CanvasValue) × IsPictureAt script fonts some t frame canvas
  some_have_a_picture script fonts t frame =
      let found = picture_exists script fonts (filter listed all) t frame few_are in
      (found.0, pictures_of_a_set script fonts (filter listed all) some t frame found.0 same_events found.1)
