use Rattle.std.proofs.Common.{rules, ◌≡◌, ◌∙◌, ap, ℕ, pos, List, [], All, sym, subst, ◌-ℤ◌, FitsSigned, w64, to_z-of_z, arith}
use Rattle.tag_state.proofs.ViewLemmas.{items_few, items_of_reading, names_once, elapsed_fits, view_by, view_held}
use Rattle.override_tags.specs.Laws.{IsAtCharacters}
use Rattle.override_tags.specs.Ranges.{IsHeldItem}
use Rattle.override_tags.specs.Readings.{AreItems}
use Rattle.override_tags.specs.declared.item.Item.{Item}
use Rattle.std.specs.Prelude.{unwrap_or}
use Rattle.ass_script.specs.Scripts.{style_for}
use Rattle.ass_script.specs.declared.script.Header.{Header}
use Rattle.ass_script.specs.declared.style.Style.{Style}
use Rattle.tag_state.specs.Choices.{IsSaid}
use Rattle.tag_state.specs.Views.{IsViewBy}
use Rattle.tag_state.specs.Walks.{AreItemsOf, IsItemWalk}
use Rattle.tag_state.proofs.view.view_of.Goals as goal
use Rattle.tag_state.proofs.view.view_of.Goals.{After-drop-pen-3}

pub overflow_sub-elapsed : goal.overflow_sub-elapsed
overflow_sub-elapsed c =
    let begins : FitsSigned w64 c.args.event.now.start = search rules in
    rw (to_z-of_z c.ranges.t, to_z-of_z begins) (elapsed_fits c.args.t c.args.event.now.start c.requires.instant c.requires.event.start)

pub walk-requires-clause-items : goal.walk-requires-clause-items
walk-requires-clause-items c = let read = c.requires.items in items_of_reading c.args.event.now.text c.args.items.now read.reading read.held read.cuts c.requires.few

-- what the walk and the tags came to
shown : (c : After-drop-pen-3)
    → IsItemWalk c.args.script.now c.args.event.now (c.args.t -ℤ c.args.event.now.start) c.args.items.now c.walk.new.pen c.in_ok-sheet.sheet
    × IsViewBy c.args.script.now c.args.event.now (c.args.t -ℤ c.args.event.now.start) c.args.items.now (record {
      names = c.walk.new.pen.fonts.names;
      states = c.in_ok-sheet.sheet.states;
      items = c.in_ok-sheet.sheet.items;
      align = c.unwrap_or.result;
      wrap = c.in_ok-said.said.wrap;
      pos = c.in_ok-said.said.pos;
      org = c.in_ok-said.said.org;
      fade = c.unwrap_or-2.result;
      clip = c.in_ok-said.said.clip;
    })
shown c =
    let script = c.args.script.now in
    let event = c.args.event.now in
    let items = c.args.items.now in
    let begins : FitsSigned w64 c.args.event.now.start = search rules in
    let lasts : FitsSigned w64 c.args.event.now.duration = search rules in
    let fits : FitsSigned w64 (c.args.t -ℤ c.args.event.now.start) = elapsed_fits c.args.t c.args.event.now.start c.requires.instant c.requires.event.start in
    let all : IsItemWalk c.args.script.now c.args.event.now (c.args.t -ℤ c.args.event.now.start) c.args.items.now c.walk.new.pen c.in_ok-sheet.sheet =
    simp (to_z-of_z c.ranges.t, to_z-of_z begins, to_z-of_z fits) at c.in_ok-sheet.ensures in
    let said : IsSaid c.header.result c.args.event.now.duration (c.args.t -ℤ c.args.event.now.start) c.args.items.now c.in_ok-said.said =
    simp (to_z-of_z c.ranges.t, to_z-of_z begins, to_z-of_z lasts, to_z-of_z fits) at c.in_ok-said.ensures in
    let Q : Header → Type 0 = λ h. IsSaid h c.args.event.now.duration (c.args.t -ℤ c.args.event.now.start) c.args.items.now c.in_ok-said.said in (
      all,
      view_by script event (c.args.t -ℤ c.args.event.now.start) items c.walk.new.pen c.in_ok-sheet.sheet c.in_ok-said.said c.unwrap_or.result c.unwrap_or-2.result all (subst Q c.header.ensures said)
          (c.unwrap_or.ensures
          ∙ ap (λ (s : Style). unwrap_or c.in_ok-said.said.align s.alignment) (c.style_named-style.ensures.style ∙ ap (λ (z : List ℕ). style_for z script) c.as_str-2.ensures))
          c.unwrap_or-2.ensures,
    )

pub returns-clause-view : goal.returns-clause-view
returns-clause-view c = record {
  items = c.args.items.now;
  reading = c.requires.items.reading;
  shown = (shown c).1;
  once = names_once c.args.script.now c.walk.new.pen.fonts (shown c).0.behind.fonts;
}

pub returns-clause-range : goal.returns-clause-range
returns-clause-range c =
    let both = shown c in
    let read = c.requires.items in
    view_held c.args.script.now c.args.event.now (c.args.t -ℤ c.args.event.now.start) c.args.items.now _ c.requires.script read.held both.1 both.0.held
    (omega (arith, both.0.few, items_few read.reading, c.requires.few))
