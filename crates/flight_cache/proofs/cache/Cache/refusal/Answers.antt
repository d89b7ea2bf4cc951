use Rattle.std.proofs.Common.{◌≡◌, ℕ, ◌+◌, ◌<◌, length, take, Some, None, refl, sym, ap, subst, ◌∙◌, arith, rules}
use Rattle.std.proofs.lemmas.Option.{slice_get_read}
use Rattle.evict_core.specs.Machine.{max_pins}
use Rattle.evict_core.specs.History.{times_named}
use Rattle.flight_cache.specs.Meaning.{shard_of}
use Rattle.flight_cache.specs.Shards.{at}
use Rattle.flight_cache.specs.Holds.{pins_at, maker_at, four_of, IsRefusalOf}
use Rattle.flight_cache.specs.declared.holds.Hold.{Hold}
use Rattle.flight_cache.proofs.Places.{shard-at, named-take}
use Rattle.flight_cache.proofs.Four.{can-pin-none, can-pin-more}
use Rattle.flight_cache.proofs.Refusing.{unready-of}
use Rattle.flight_cache.proofs.cache.Cache.refusal.Goals as goal
use Rattle.flight_cache.proofs.cache.Cache.refusal.Goals.{else-room-i-via-then-room-i+else-room-places, else-room-i-via-else-room-i}

pub loop-i-init : goal.loop-i-init
loop-i-init g c = can-pin-none g.M.Key.PartialEq.eq g.met.M.Key.Eq.laws g.met.M.Made.same_key g.M.Made.meaning c.args.self.now c.args.holds.now

pub returns-in_default-clause-some : goal.returns-in_default-clause-some
returns-in_default-clause-some g c =
    let lt : c.loop-i.i < length c.args.keys.now.items = search rules in
    let fk : shard_of (g.M.Made.meaning.numbers c.index-key.result.now) ≡ c.index.result.now = ap (λ (k : g.row.M-Key.Denot). shard_of (g.M.Made.meaning.numbers k)) c.index-key.ensures ∙ shard-at (λ (k : g.row.M-Key.Denot). shard_of (g.M.Made.meaning.numbers k)) c.args.keys.now.items c.args.shards.now.items c.loop-i.i c.index.result.now c.index-key.result.now lt c.requires c.index.ensures in
    let found : pins_at g.M.Key.PartialEq.eq (at (four_of c.args.holds.now) (shard_of (g.M.Made.meaning.numbers c.index-key.result.now))) c.index-key.result.now ≡ None = ap (λ (n : ℕ). pins_at g.M.Key.PartialEq.eq (at (four_of c.args.holds.now) n) c.index-key.result.now) fk ∙ (ap (λ (h : Hold g.row.M.Denot g.row.M-Key.Denot g.row.M-Value.Denot g.row.M-Tag.Denot). pins_at g.M.Key.PartialEq.eq h c.index-key.result.now) (sym c.of-hold.ensures) ∙ (sym c.pins_of.ensures ∙ c.in_default.is)) in
    let there = slice_get_read c.args.keys.now.items (length c.args.keys.now.items) c.loop-i.i c.index-key.result.now refl lt c.index-key.ensures in
    let made = ap (λ (n : ℕ). maker_at g.M.Key.PartialEq.eq (at (four_of c.args.holds.now) n) c.index-key.result.now) fk ∙ ap (λ (h : Hold g.row.M.Denot g.row.M-Key.Denot g.row.M-Value.Denot g.row.M-Tag.Denot). maker_at g.M.Key.PartialEq.eq h c.index-key.result.now) (sym c.of-hold.ensures) in
    subst (IsRefusalOf g.M.Key.PartialEq.eq g.M.Made.meaning c.args.self.now c.args.keys.now.items c.args.holds.now) (sym c.unready.ensures)
    (unready-of g.M.Key.PartialEq.eq g.M.Made.meaning c.args.self.now c.args.keys.now.items c.args.holds.now c.loop-i.i c.index-key.result.now there c.loop-i.invariant found _ made)

pub returns-then-room-places-clause-some : goal.returns-then-room-places-clause-some
returns-then-room-places-clause-some g c =
    let lt : c.loop-i.i < length c.args.keys.now.items = search rules in
    let fk : shard_of (g.M.Made.meaning.numbers c.index-key.result.now) ≡ c.index.result.now = ap (λ (k : g.row.M-Key.Denot). shard_of (g.M.Made.meaning.numbers k)) c.index-key.ensures ∙ shard-at (λ (k : g.row.M-Key.Denot). shard_of (g.M.Made.meaning.numbers k)) c.args.keys.now.items c.args.shards.now.items c.loop-i.i c.index.result.now c.index-key.result.now lt c.requires c.index.ensures in
    let found : pins_at g.M.Key.PartialEq.eq (at (four_of c.args.holds.now) (shard_of (g.M.Made.meaning.numbers c.index-key.result.now))) c.index-key.result.now ≡ Some c.in-Some.pins = ap (λ (n : ℕ). pins_at g.M.Key.PartialEq.eq (at (four_of c.args.holds.now) n) c.index-key.result.now) fk ∙ (ap (λ (h : Hold g.row.M.Denot g.row.M-Key.Denot g.row.M-Value.Denot g.row.M-Tag.Denot). pins_at g.M.Key.PartialEq.eq h c.index-key.result.now) (sym c.of-hold.ensures) ∙ (sym c.pins_of.ensures ∙ c.in-Some.is)) in
    (c.index-key.result.now, c.in-Some.pins, slice_get_read c.args.keys.now.items (length c.args.keys.now.items) c.loop-i.i c.index-key.result.now refl lt c.index-key.ensures, c.loop-i.invariant, found, omega (arith, c.if-room-places.true, c.places.ensures))

pub loop-i-preserved : goal.loop-i-preserved
loop-i-preserved g c =
    let lt : c.loop-i.i < length c.args.keys.now.items = search rules in
    let fk : shard_of (g.M.Made.meaning.numbers c.index-key.result.now) ≡ c.index.result.now = ap (λ (k : g.row.M-Key.Denot). shard_of (g.M.Made.meaning.numbers k)) c.index-key.ensures ∙ shard-at (λ (k : g.row.M-Key.Denot). shard_of (g.M.Made.meaning.numbers k)) c.args.keys.now.items c.args.shards.now.items c.loop-i.i c.index.result.now c.index-key.result.now lt c.requires c.index.ensures in
    let found : pins_at g.M.Key.PartialEq.eq (at (four_of c.args.holds.now) (shard_of (g.M.Made.meaning.numbers c.index-key.result.now))) c.index-key.result.now ≡ Some c.in-Some.pins = ap (λ (n : ℕ). pins_at g.M.Key.PartialEq.eq (at (four_of c.args.holds.now) n) c.index-key.result.now) fk ∙ (ap (λ (h : Hold g.row.M.Denot g.row.M-Key.Denot g.row.M-Value.Denot g.row.M-Tag.Denot). pins_at g.M.Key.PartialEq.eq h c.index-key.result.now) (sym c.of-hold.ensures) ∙ (sym c.pins_of.ensures ∙ c.in-Some.is)) in
    elim c.else-room-i.branch [
      | else-room-i-via-then-room-i+else-room-places w ↦ can-pin-more g.M.Key.PartialEq.eq g.met.M.Key.Eq.laws g.met.M.Made.same_key g.M.Made.meaning c.args.self.now c.proof_numbered.ensures c.args.keys.now.items c.loop-i.i c.index-key.result.now lt c.args.holds.now c.loop-i.invariant c.in-Some.pins
          (subst (λ (x : g.row.M-Key.Denot). pins_at g.M.Key.PartialEq.eq (at (four_of c.args.holds.now) (shard_of (g.M.Made.meaning.numbers x))) x ≡ Some c.in-Some.pins) c.index-key.ensures found)
          (subst (λ (x : g.row.M-Key.Denot). c.in-Some.pins + times_named g.M.Key.PartialEq.eq x (take c.loop-i.i c.args.keys.now.items) < max_pins) c.index-key.ensures (omega (arith, w.if-room-places.false, w.places.ensures)))
      | else-room-i-via-else-room-i w ↦ can-pin-more g.M.Key.PartialEq.eq g.met.M.Key.Eq.laws g.met.M.Made.same_key g.M.Made.meaning c.args.self.now c.proof_numbered.ensures c.args.keys.now.items c.loop-i.i c.index-key.result.now lt c.args.holds.now c.loop-i.invariant c.in-Some.pins
          (subst (λ (x : g.row.M-Key.Denot). pins_at g.M.Key.PartialEq.eq (at (four_of c.args.holds.now) (shard_of (g.M.Made.meaning.numbers x))) x ≡ Some c.in-Some.pins) c.index-key.ensures found)
          (subst (λ (x : g.row.M-Key.Denot). c.in-Some.pins + times_named g.M.Key.PartialEq.eq x (take c.loop-i.i c.args.keys.now.items) < max_pins) c.index-key.ensures (omega (arith, w.if-room-i.false, named-take g.M.Key.PartialEq.eq c.index-key.result.now c.args.keys.now.items c.loop-i.i (omega (arith, lt)))))
    ]
