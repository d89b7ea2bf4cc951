use Rattle.std.proofs.Common.{[], ◌∷◌, ◌++◌, refl, sym, ap, subst, ◌∙◌}
use Rattle.std.specs.Global.{Vec}
use Rattle.turn_cell.specs.Passes.{TurnView}
use Rattle.evict_core.specs.Machine.{hit_all}
use Rattle.flight_cache.specs.Histories.{Stands}
use Rattle.flight_cache.specs.Pinning.{keys_in}
use Rattle.flight_cache.specs.Holds.{IsPassPinned}
use Rattle.flight_cache.specs.declared.kept.Kept.{Kept}
use Rattle.flight_cache.specs.declared.kept.Entry.{Entry}
use Rattle.flight_cache.specs.declared.kept.Entry.TheVariants.{PinAll}
use Rattle.flight_cache.specs.declared.kept.Opening.{Opening}
use Rattle.flight_cache.specs.declared.holds.Hold.{Hold}
use Rattle.flight_cache.proofs.Pinned.{hits-of, stands-pinned}
use Rattle.flight_cache.proofs.shard.Shard.pin_all.Goals as goal

pub pin_keys-requires-clause-ready : goal.pin_keys-requires-clause-ready
pin_keys-requires-clause-ready g c =
    hits-of g.M.Key.PartialEq.eq g.met.M.Key.Eq.laws g.met.M.Made.same_key g.M.Made.meaning c.args.self.now c.in-Turn.turn.value c.in-Turn.turn.list (rw c.in-Turn.is at c.requires.held).1 c.args.keys.now.items (rw c.in-Turn.is at c.requires.ready)

pub give-requires-clause-value : goal.give-requires-clause-value
give-requires-clause-value g c =
    subst (λ (t : TurnView (Kept g.row.M.Denot g.row.M-Key.Denot g.row.M-Value.Denot g.row.M-Tag.Denot) (Entry g.row.M-Key.Denot) (Opening g.row.M-Tag.Denot)). Stands g.M.Key.PartialEq.eq g.M.Made.meaning c.args.self.now.tag t.value (t.list ++ (t.pass.number, PinAll c.of.result) ∷ [])) (sym c.pin_keys.ensures)
    (stands-pinned g.M.Key.PartialEq.eq g.met.M.Key.Eq.laws g.met.M.Made.same_key g.M.Made.meaning c.args.self.now c.in-Turn.turn.value
    (record { entries = hit_all g.M.Key.PartialEq.eq c.in-Turn.turn.value.entries (keys_in g.M.Made.meaning c.args.self.now c.args.keys.now.items) }) c.in-Turn.turn.list c.in-Turn.turn.pass.number c.of.result c.args.keys.now.items
    (ap (λ (v : Vec g.row.M-Key.Denot). v.items) c.of.ensures) (rw c.in-Turn.is at c.requires.held).1 (rw c.in-Turn.is at c.requires.ready) refl)

pub returns-in-Turn : goal.returns-in-Turn
returns-in-Turn g c =
    subst (λ (h : Hold g.row.M.Denot g.row.M-Key.Denot g.row.M-Value.Denot g.row.M-Tag.Denot). IsPassPinned g.M.Key.PartialEq.eq g.M.Made.meaning c.args.self.now c.args.keys.now.items h c.give.result) (sym c.in-Turn.is) (
      c.of.result,
      ap (λ (v : Vec g.row.M-Key.Denot). v.items) c.of.ensures,
      c.give.ensures.pass ∙ ap (λ (t : TurnView (Kept g.row.M.Denot g.row.M-Key.Denot g.row.M-Value.Denot g.row.M-Tag.Denot) (Entry g.row.M-Key.Denot) (Opening g.row.M-Tag.Denot)). record t.pass { seen = t.list ++ (t.pass.number, PinAll c.of.result) ∷ [] }) c.pin_keys.ensures,
      c.give.ensures.legal,
    )
