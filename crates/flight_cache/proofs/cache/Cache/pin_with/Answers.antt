use Rattle.std.proofs.Common.{ℕ, List, length, ap, arith, rules, sym, subst, ◌∙◌}
use Rattle.std.specs.Arc.{arc_value}
use Rattle.std.proofs.lemmas.List.{length-map}
use Rattle.flight_cache.specs.Shards.{CachePassView}
use Rattle.flight_cache.specs.Pinning.{GivesNothing, IsRefused}
use Rattle.flight_cache.specs.Holds.{AreHoldsOf, CanPinAll}
use Rattle.flight_cache.specs.declared.pinning.PinRefusal.TheVariants.{OutOfMemory}
use Rattle.flight_cache.proofs.Four.{back-nothing}
use Rattle.flight_cache.proofs.Homes.{pinned-homes}
use Rattle.flight_cache.proofs.Refusals.{out-nothing}
use Rattle.flight_cache.proofs.Refusing.{refused-of, pinned-of, short-of}
use Rattle.flight_cache.proofs.cache.Cache.pin_with.Goals as goal

pub returns-in-Some-clause-refused : goal.returns-in-Some-clause-refused
returns-in-Some-clause-refused g c =
    let h = subst (λ (l : List ℕ). AreHoldsOf g.M.Key.PartialEq.eq g.M.Made.meaning l c.args.self.now c.args.pass c.in-Ok.holds) c.requires.shards c.in-Ok.ensures.held in
    subst (λ (p : CachePassView g.row.M-Key.Denot g.row.M-Tag.Denot). IsRefused g.M.Key.PartialEq.eq g.M.Made.meaning c.args.self.now c.args.pass c.args.keys.items p c.in-Some.refusal) (sym c.let_go.ensures)
    (refused-of g.M.Key.PartialEq.eq g.met.M.Key.Eq.laws g.met.M.Made.same_key g.M.Made.meaning c.args.self.now c.proof_numbered.ensures c.args.pass c.args.keys.items c.in-Ok.holds h c.in-Some.refusal c.in-Some.ensures.some)

pub returns-in-Err-clause-nothing : goal.returns-in-Err-clause-nothing
returns-in-Err-clause-nothing g c = out-nothing g.M.Key.PartialEq.eq g.M.Made.meaning c.args.self.now c.args.pass c.args.shards.now.items c.in-Err.pass c.in-Err.ensures.out

pub returns-in-Some-clause-nothing : goal.returns-in-Some-clause-nothing
returns-in-Some-clause-nothing g c =
    subst (λ (p : CachePassView g.row.M-Key.Denot g.row.M-Tag.Denot). GivesNothing c.args.pass p) (sym c.let_go.ensures)
    (back-nothing g.M.Key.PartialEq.eq g.met.M.Key.Eq.laws g.met.M.Made.same_key g.M.Made.meaning c.args.shards.now.items c.args.self.now c.args.pass c.in-Ok.holds c.in-Ok.ensures.held)

pub returns-in_default-values : goal.returns-in_default-values
returns-in_default-values g c =
    let nothing = subst (λ (p : CachePassView g.row.M-Key.Denot g.row.M-Tag.Denot). GivesNothing c.args.pass p) (sym c.let_go-in_default-values.ensures)
    (back-nothing g.M.Key.PartialEq.eq g.met.M.Key.Eq.laws g.met.M.Made.same_key g.M.Made.meaning c.args.shards.now.items c.args.self.now c.args.pass c.in-Ok.holds c.in-Ok.ensures.held) in
    let h = subst (λ (l : List ℕ). AreHoldsOf g.M.Key.PartialEq.eq g.M.Made.meaning l c.args.self.now c.args.pass c.in-Ok.holds) c.requires.shards c.in-Ok.ensures.held in
    let can : CanPinAll g.M.Key.PartialEq.eq g.M.Made.meaning c.args.self.now c.args.keys.items c.in-Ok.holds = search rules in
    let refused = subst (λ (p : CachePassView g.row.M-Key.Denot g.row.M-Tag.Denot). IsRefused g.M.Key.PartialEq.eq g.M.Made.meaning c.args.self.now c.args.pass c.args.keys.items p OutOfMemory) (sym c.let_go-in_default-values.ensures)
    (short-of g.M.Key.PartialEq.eq g.met.M.Key.Eq.laws g.met.M.Made.same_key g.M.Made.meaning c.args.self.now c.proof_numbered.ensures c.args.pass c.args.keys.items c.in-Ok.holds h can) in
    record { pinned = tt; refused = refused; nothing = nothing }

pub returns-clause-pinned : goal.returns-clause-pinned
returns-clause-pinned g c =
    let h = subst (λ (l : List ℕ). AreHoldsOf g.M.Key.PartialEq.eq g.M.Made.meaning l c.args.self.now c.args.pass c.in-Ok.holds) c.requires.shards c.in-Ok.ensures.held in
    let homes = pinned-homes g.M.Key.PartialEq.eq g.M.Made.meaning c.args.keys.items c.args.self.now c.args.pass c.pin_all-pass.result c.requires.cell c.in-Ok.holds h c.pin_all-pass.ensures c.pins_with-pins.result.items c.args.shards.now.items c.requires.shards c.pins_with-pins.ensures.cells in
    pinned-of g.M.Key.PartialEq.eq g.met.M.Key.Eq.laws g.met.M.Made.same_key g.M.Made.meaning c.args.self.now c.proof_numbered.ensures c.args.pass c.args.keys.items c.in-Ok.holds h c.pin_all-pass.result c.pins_with-pins.result.items c.pin_all-pass.ensures c.pins_with-pins.ensures.keys
    (c.pins_with-pins.ensures.values ∙ c.in-Ok-values.ensures) homes

pub pins_with-pins-requires-clause-values : goal.pins_with-pins-requires-clause-values
pins_with-pins-requires-clause-values g c =
    omega (arith, ap length c.in-Ok-values.ensures, length-map c.in-Ok-values.values.items arc_value, length-map c.args.keys.items (g.M.Made.meaning.made c.args.self.now.tag))
