-- What an event shows at each instant, by the items of its text.
use Rattle.std.proofs.Common.{◌≡◌, ℕ, ◌-◌, length, ℤ, pos, Bool, true, false, List, [], ◌∷◌, ◌++◌, reverse, refl, sym, ap, subst, ◌∙◌, Option, Some, None}
use Rattle.std.specs.Prelude.{◌&&◌, ◌||◌, is_some, slice_get, unwrap_or}
use Rattle.std.specs.List.{cons_option, filter_map, list_all}
use Rattle.std.proofs.lemmas.Bool.{false≢true}
use Rattle.ass_script.specs.Scripts.{ScriptValue}
use Rattle.ass_events.specs.declared.event.Event.{Event}
use Rattle.override_tags.specs.Readings.{IsTextReading}
use Rattle.override_tags.specs.declared.item.Item.{Item}
use Rattle.override_tags.specs.declared.item.ItemKind.{ItemKind}
use Rattle.override_tags.specs.declared.item.ItemKind.TheVariants as item
use Rattle.override_tags.specs.declared.tag.Tag.{Tag}
use Rattle.override_tags.specs.declared.tag.Tag.TheVariants as tag
use Rattle.override_tags.specs.declared.view.EventView.{EventView}
use Rattle.override_tags.proofs.OneReadingLemmas.{one_items}
use Rattle.tag_state.specs.Choices.{clip_at, fade_said, first_in, first_of, has_point, is_point, point_said, wrap_at}
use Rattle.tag_state.specs.Looks.{AreLooks, Look}
use Rattle.tag_state.specs.Looks as looks
use Rattle.tag_state.specs.Setters.{Effect, effects_of, past, past_all}
use Rattle.tag_state.specs.Still.{IsStill, stays}
use Rattle.tag_state.specs.Views.{HasState, IsViewBy, IsViewOf, elapsed_at}

-- what a view shows, by the items that were read of the text
view_by_read : {script : ScriptValue} {event : Event} {t : ℤ} {view : EventView} (items : List Item) → IsTextReading event.text items → IsViewOf script event t view
    → IsViewBy script event (elapsed_at event t) items view
view_by_read {script} {event} {t} {view} items reading is =
    subst (λ (z : List Item). IsViewBy script event (elapsed_at event t) z view) (one_items is.reading items reading) is.shown

-- ---- a point

point_in : (duration elapsed : ℤ) (kind : ItemKind) → is_point kind ≡ is_some (first_in (point_said duration elapsed) kind)
point_in duration elapsed (item.Tag (tag.Pos x y)) = refl
point_in duration elapsed (item.Tag (tag.Move path from to)) = refl
point_in duration elapsed (item.Tag t) = refl
point_in duration elapsed kind = refl

first_or : {V : Type 0} (o : Option V) (said : List V) → is_some (slice_get (cons_option o said) 0) ≡ (is_some o || is_some (slice_get said 0))
first_or None said = refl
first_or (Some v) said = refl

point_first : (duration elapsed : ℤ) (items : List Item) → has_point items ≡ is_some (first_of (point_said duration elapsed) items)
point_first duration elapsed [] = refl
point_first duration elapsed (i ∷ items) =
    let says = λ (j : Item). first_in (point_said duration elapsed) j.kind in
    ap (λ (b : Bool). b || has_point items) (point_in duration elapsed i.kind)
    ∙ (ap (λ (b : Bool). is_some (says i) || b) (point_first duration elapsed items) ∙ sym (first_or (says i) (filter_map says items)))

-- An event has a point at each instant or at none.
pub point_shown : {script : ScriptValue} {event : Event} {t : ℤ} {view : EventView} (items : List Item) → IsTextReading event.text items → IsViewOf script event t view
    → has_point items ≡ is_some view.pos
point_shown {script} {event} {t} items reading is =
    point_first event.duration (elapsed_at event t) items ∙ ap is_some (sym (view_by_read items reading is).position)

-- ---- texts that show the same at every instant

abbrev AreStill : List Item → Type 0
AreStill items = list_all (λ (i : Item). stays i.kind) items ≡ true

both : (a b : Bool) → (a && b) ≡ true → (a ≡ true) × (b ≡ true)
both true true is = (refl, refl)
both true false is = absurd (false≢true is)
both false b is = absurd (false≢true is)

still_head : (i : Item) (items : List Item) → AreStill (i ∷ items) → stays i.kind ≡ true
still_head i items still = (both (stays i.kind) (list_all (λ (j : Item). stays j.kind) items) still).0

still_tail : (i : Item) (items : List Item) → AreStill (i ∷ items) → AreStill items
still_tail i items still = (both (stays i.kind) (list_all (λ (j : Item). stays j.kind) items) still).1

still_behind : (items more : List Item) → AreStill (items ++ more) → AreStill more
still_behind [] more still = still
still_behind (i ∷ items) more still = still_behind items more (still_tail i (items ++ more) still)

module _ (duration a b : ℤ) where
  effects_still : (kind : ItemKind) → stays kind ≡ true → effects_of duration a kind ≡ effects_of duration b kind
  effects_still (item.Tag (tag.Transform times quarters tags)) still = absurd (false≢true still)
  effects_still (item.Tag t) still = refl
  effects_still kind still = refl

  past_still : (before : List Effect) (i : Item) → stays i.kind ≡ true → past duration a before i ≡ past duration b before i
  past_still before i still = ap (λ (z : List Effect). reverse z ++ before) (effects_still i.kind still)

  all_still : (before : List Effect) (items : List Item) → AreStill items → past_all duration a before items ≡ past_all duration b before items
  all_still before [] still = refl
  all_still before (i ∷ items) still =
      ap (λ (z : List Effect). past_all duration a z items) (past_still before i (still_head i items still)) ∙ all_still (past duration b before i) items (still_tail i items still)

  looks_still : (text : List ℕ) {before : List Effect} {items : List Item} {all : List Look} → AreLooks text duration a before items all → AreStill items → AreLooks text duration b before items all
  looks_still text (looks.none before) still = looks.none before
  looks_still text (looks.unseen before i items all hidden rest) still =
      looks.unseen before i items all hidden
      (subst (λ (z : List Effect). AreLooks text duration b z items all) (past_still before i (still_head i items still)) (looks_still text rest (still_tail i items still)))
  looks_still text (looks.seen before i kind items all level shows rest) still = looks.seen before i kind items all level shows (looks_still text rest (still_tail i items still))
  looks_still text (looks.drawn before i slice items path all level shown begins is rest) still =
      looks.drawn before i slice items path all level shown begins is (looks_still text rest (still_behind (i ∷ slice) items still))

  point_still : (kind : ItemKind) → stays kind ≡ true → first_in (point_said duration a) kind ≡ first_in (point_said duration b) kind
  point_still (item.Tag (tag.Move path from to)) still = absurd (false≢true still)
  point_still (item.Tag t) still = refl
  point_still kind still = refl

  fade_still : (kind : ItemKind) → stays kind ≡ true → first_in (fade_said duration a) kind ≡ first_in (fade_said duration b) kind
  fade_still (item.Tag (tag.Fad fade_in fade_out)) still = absurd (false≢true still)
  fade_still (item.Tag (tag.Fade numbers)) still = absurd (false≢true still)
  fade_still (item.Tag t) still = refl
  fade_still kind still = refl

-- where two ways to say something agree on each item
first_alike : {V : Type 0} (f g : Tag → Option V) → ((kind : ItemKind) → stays kind ≡ true → first_in f kind ≡ first_in g kind) → (items : List Item) → AreStill items
    → filter_map (λ (i : Item). first_in f i.kind) items ≡ filter_map (λ (i : Item). first_in g i.kind) items
first_alike f g alike [] still = refl
first_alike f g alike (i ∷ items) still =
    ap (λ o. cons_option o (filter_map (λ (j : Item). first_in f j.kind) items)) (alike i.kind (still_head i items still))
    ∙ ap (cons_option (first_in g i.kind)) (first_alike f g alike items (still_tail i items still))

by_still : (script : ScriptValue) (event : Event) (a b : ℤ) (items : List Item) (view : EventView) → AreStill items → IsViewBy script event a items view → IsViewBy script event b items view
by_still script event a b items view still is =
    let all : past_all event.duration a [] items ≡ past_all event.duration b [] items = all_still event.duration a b [] items still in
    record {
      looks = is.looks;
      shows = looks_still event.duration a b event.text is.shows still;
      seen = is.seen;
      last = subst (λ (z : List Effect). HasState script event.style view.names view.states z (length view.states - 1)) all is.last;
      align = is.align;
      wrap = is.wrap ∙ ap (wrap_at script.header.wrap) all;
      position = is.position ∙ ap (λ (z : List (ℤ × ℤ)). slice_get z 0) (first_alike (point_said event.duration a) (point_said event.duration b) (point_still event.duration a b) items still);
      origin = is.origin;
      fade = is.fade ∙ ap (λ (z : List ℤ). unwrap_or (slice_get z 0) (pos 0)) (first_alike (fade_said event.duration a) (fade_said event.duration b) (fade_still event.duration a b) items still);
      clip = is.clip ∙ ap (clip_at script.header) all;
    }

pub still_shows : (items : List Item) → AreStill items → IsStill items
still_shows items still script event a b view reading is = record {
  items = items;
  reading = reading;
  shown = by_still script event (elapsed_at event a) (elapsed_at event b) items view still (view_by_read items reading is);
  once = is.once;
}
