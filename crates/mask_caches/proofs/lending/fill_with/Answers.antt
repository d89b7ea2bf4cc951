use Rattle.std.proofs.Common.{[], ◌∷◌, ◌∙◌, subst}
use Rattle.evict_core.specs.Machine.{Fill, Spill}
use Rattle.flight_cache.specs.Meaning.{shard_of, entry_cost}
use Rattle.flight_cache.specs.Calls.{GivesSteps}
use Rattle.flight_cache.specs.Shards.{at}
use Rattle.flight_cache.proofs.Visits.{home-by}
use Rattle.mask_caches.proofs.Adding.{adds-fill, adds-spill}
use Rattle.mask_caches.proofs.lending.fill_with.Goals as goal

pub returns-in-Ok : goal.returns-in-Ok
returns-in-Ok g c =
    let fill = rw c.in-Ok.is at c.fill-pass.ensures.fill in
    let pin = rw c.in-Ok.is at c.fill-pass.ensures.pin in
    let meaning = g.M.Made.meaning in
    let key = c.args.ticket.key in
    let n = shard_of (meaning.numbers key) in
    let value = meaning.made c.args.cache.now.tag key in
    record {
      steps = adds-fill g.M.Key.PartialEq.eq g.met.M.Made.same_key meaning c.args.cache.now key (entry_cost meaning key value) value c.args.pass c.fill-pass.result.0 (
        subst (λ (v : g.row.M-Value.Denot). GivesSteps g.M.Key.PartialEq.eq meaning (at c.args.cache.now.shards n) (at c.args.pass n) (at c.fill-pass.result.0 n) (Fill key (entry_cost meaning key v) v ∷ [])) c.requires.kept fill,
        c.fill-pass.ensures.others,
      );
      filled = (pin.0, pin.1 ∙ c.requires.pinned);
      home = home-by meaning c.args.cache.now key c.in-Ok.pin.key c.in-Ok.pin.cell pin.0 (pin.2 ∙ c.requires.own);
    }

pub returns-in-Err : goal.returns-in-Err
returns-in-Err g c =
    let spilled = rw c.in-Err.is at c.fill-pass.ensures.spilled in
    let own = rw c.in-Err.is at c.fill-pass.ensures.value in
    let meaning = g.M.Made.meaning in
    let key = c.args.ticket.key in
    let n = shard_of (meaning.numbers key) in
    let value = meaning.made c.args.cache.now.tag key in
    record {
      steps = adds-spill g.M.Key.PartialEq.eq g.met.M.Made.same_key meaning c.args.cache.now key (entry_cost meaning key value) c.args.pass c.fill-pass.result.0 (
        subst (λ (v : g.row.M-Value.Denot). GivesSteps g.M.Key.PartialEq.eq meaning (at c.args.cache.now.shards n) (at c.args.pass n) (at c.fill-pass.result.0 n) (Spill key (entry_cost meaning key v) ∷ [])) c.requires.kept spilled,
        c.fill-pass.ensures.others,
      );
      filled = own ∙ c.requires.pinned;
      home = tt;
    }
