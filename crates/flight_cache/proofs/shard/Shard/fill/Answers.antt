use Rattle.std.proofs.Common.{◌≡◌, ℕ, true, false, [], ◌∷◌, ap, sym, subst, ◌∙◌}
use Rattle.std.specs.Arc.{arc_value}
use Rattle.evict_core.specs.Machine as machine
use Rattle.evict_core.specs.History.{has_open}
use Rattle.flight_cache.specs.Meaning.{entry_cost}
use Rattle.flight_cache.specs.Histories.{value_under, is_in}
use Rattle.flight_cache.specs.Calls.{TicketView, GivesSteps, own_steps}
use Rattle.flight_cache.specs.declared.kept.Kept.{Kept}
use Rattle.flight_cache.proofs.shard.Shard.fill.Goals as goal

pub fill_at-pass-requires-clause-cell : goal.fill_at-pass-requires-clause-cell
fill_at-pass-requires-clause-cell g c =
    rw c.of-before.ensures c.requires.cell

pub fill_at-pass-requires-clause-turn : goal.fill_at-pass-requires-clause-turn
fill_at-pass-requires-clause-turn g c =
    rw c.of-before.ensures c.take-turn.ensures.turn

pub fill_at-pass-requires-clause-legal : goal.fill_at-pass-requires-clause-legal
fill_at-pass-requires-clause-legal g c =
    rw c.of-before.ensures c.take-turn.ensures.legal

pub fill_at-pass-requires-clause-shard : goal.fill_at-pass-requires-clause-shard
fill_at-pass-requires-clause-shard g c =
    subst (λ (k : g.row.M-Key.Denot). is_in g.M.Made.meaning c.args.self.now.tag k ≡ true) (sym (ap (λ (t : TicketView g.row.M-Key.Denot). t.key) c.ticket.view_is)) c.requires.shard

pub fill_at-pass-requires-clause-open : goal.fill_at-pass-requires-clause-open
fill_at-pass-requires-clause-open g c =
    rw c.of-before.ensures (subst (λ (k : g.row.M-Key.Denot). has_open g.M.Key.PartialEq.eq (own_steps g.M.Made.meaning c.args.self.now.tag c.args.pass) k ≡ true) (sym (ap (λ (t : TicketView g.row.M-Key.Denot). t.key) c.ticket.view_is)) c.requires.open)

pub fill_at-pass-requires-clause-kept : goal.fill_at-pass-requires-clause-kept
fill_at-pass-requires-clause-kept g c = c.requires.kept ∙ ap (value_under g.M.Made.meaning c.args.self.now.tag) (sym (ap (λ (t : TicketView g.row.M-Key.Denot). t.key) c.ticket.view_is))

pub fill_at-pass-requires-clause-cost : goal.fill_at-pass-requires-clause-cost
fill_at-pass-requires-clause-cost g c = c.entry_cost-cost.ensures ∙ ap (λ (v : g.row.M-Value.Denot). entry_cost g.M.Made.meaning c.ticket.inside.key v) c.deref.ensures

pub fill_at-pass-requires-clause-room : goal.fill_at-pass-requires-clause-room
fill_at-pass-requires-clause-room g c =
    subst (λ (z : Kept g.row.M.Denot g.row.M-Key.Denot g.row.M-Value.Denot g.row.M-Tag.Denot). machine.can_fill z.entries c.entry_cost-cost.result ≡ true) c.value.ensures (sym c.can_fill.ensures ∙ c.if-can_fill.true)

pub returns-then-can_fill-clause-pass : goal.returns-then-can_fill-clause-pass
returns-then-can_fill-clause-pass g c =
    subst (λ (k : g.row.M-Key.Denot). GivesSteps g.M.Key.PartialEq.eq g.M.Made.meaning c.args.self.now c.args.pass c.fill_at-pass.result (machine.Fill k (entry_cost g.M.Made.meaning k (arc_value c.args.kept)) (arc_value c.args.kept) ∷ [])) (ap (λ (t : TicketView g.row.M-Key.Denot). t.key) c.ticket.view_is)
    (rw c.of-before.ensures at c.fill_at-pass.ensures)

pub spill_at-pass-requires-clause-cell : goal.spill_at-pass-requires-clause-cell
spill_at-pass-requires-clause-cell g c =
    rw c.of-before.ensures c.requires.cell

pub spill_at-pass-requires-clause-turn : goal.spill_at-pass-requires-clause-turn
spill_at-pass-requires-clause-turn g c =
    rw c.of-before.ensures c.take-turn.ensures.turn

pub spill_at-pass-requires-clause-legal : goal.spill_at-pass-requires-clause-legal
spill_at-pass-requires-clause-legal g c =
    rw c.of-before.ensures c.take-turn.ensures.legal

pub spill_at-pass-requires-clause-shard : goal.spill_at-pass-requires-clause-shard
spill_at-pass-requires-clause-shard g c =
    subst (λ (k : g.row.M-Key.Denot). is_in g.M.Made.meaning c.args.self.now.tag k ≡ true) (sym (ap (λ (t : TicketView g.row.M-Key.Denot). t.key) c.ticket.view_is)) c.requires.shard

pub spill_at-pass-requires-clause-open : goal.spill_at-pass-requires-clause-open
spill_at-pass-requires-clause-open g c =
    rw c.of-before.ensures (subst (λ (k : g.row.M-Key.Denot). has_open g.M.Key.PartialEq.eq (own_steps g.M.Made.meaning c.args.self.now.tag c.args.pass) k ≡ true) (sym (ap (λ (t : TicketView g.row.M-Key.Denot). t.key) c.ticket.view_is)) c.requires.open)

pub spill_at-pass-requires-clause-cost : goal.spill_at-pass-requires-clause-cost
spill_at-pass-requires-clause-cost g c =
    c.entry_cost-cost.ensures ∙ (ap (λ (v : g.row.M-Value.Denot). entry_cost g.M.Made.meaning c.ticket.inside.key v) c.deref.ensures
    ∙ ap (λ (v : g.row.M-Value.Denot). entry_cost g.M.Made.meaning c.ticket.inside.key v) (c.requires.kept ∙ ap (value_under g.M.Made.meaning c.args.self.now.tag) (sym (ap (λ (t : TicketView g.row.M-Key.Denot). t.key) c.ticket.view_is))))

pub spill_at-pass-requires-clause-full : goal.spill_at-pass-requires-clause-full
spill_at-pass-requires-clause-full g c =
    subst (λ (z : Kept g.row.M.Denot g.row.M-Key.Denot g.row.M-Value.Denot g.row.M-Tag.Denot). machine.can_fill z.entries c.entry_cost-cost.result ≡ false) c.value.ensures (sym c.can_fill.ensures ∙ c.if-can_fill.false)

pub returns-clause-spilled : goal.returns-clause-spilled
returns-clause-spilled g c =
    let gives = rw c.of-before.ensures at c.spill_at-pass.ensures in
    let cost = c.entry_cost-cost.ensures ∙ ap (λ (v : g.row.M-Value.Denot). entry_cost g.M.Made.meaning c.ticket.inside.key v) c.deref.ensures in
    subst (λ (k : g.row.M-Key.Denot). GivesSteps g.M.Key.PartialEq.eq g.M.Made.meaning c.args.self.now c.args.pass c.spill_at-pass.result (machine.Spill k (entry_cost g.M.Made.meaning k (arc_value c.args.kept)) ∷ [])) (ap (λ (t : TicketView g.row.M-Key.Denot). t.key) c.ticket.view_is)
    (subst (λ (n : ℕ). GivesSteps g.M.Key.PartialEq.eq g.M.Made.meaning c.args.self.now c.args.pass c.spill_at-pass.result (machine.Spill c.ticket.inside.key n ∷ [])) cost gives)
