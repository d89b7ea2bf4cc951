use Rattle.std.proofs.Common.{◌∙◌}
use Rattle.mask_caches.proofs.Adding.{adds-fail}
use Rattle.mask_caches.proofs.lending.fill.Goals as goal

pub fill_with-pass-requires-clause-pinned : goal.fill_with-pass-requires-clause-pinned
fill_with-pass-requires-clause-pinned g c = c.in-Ok.ensures ∙ c.requires.value

pub returns-in-Ok : goal.returns-in-Ok
returns-in-Ok g c = record { steps = c.fill_with-pass.ensures.steps; settled = c.fill_with-pass.ensures.filled; home = c.fill_with-pass.ensures.home }

pub returns-in-Err : goal.returns-in-Err
returns-in-Err g c = record {
  steps = adds-fail g.M.Key.PartialEq.eq g.met.M.Made.same_key g.M.Made.meaning c.args.cache.now c.args.ticket.key c.args.pass c.fail-pass.result (c.fail-pass.ensures.fail, c.fail-pass.ensures.others);
  settled = tt;
  home = tt;
}
