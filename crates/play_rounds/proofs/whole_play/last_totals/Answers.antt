use Rattle.std.proofs.Common.{List, ap, length, subst, sym, ◌∙◌}
use Rattle.std.specs.List.{All, slice_index_or}
use Rattle.cache_kinds.specs.Kinds.{composite_meaning}
use Rattle.mask_caches.specs.Asks.{HasAsks}
use Rattle.mask_caches.specs.Balance.{IsAccounted}
use Rattle.evict_core.specs.declared.counts.Totals.{Totals}
use Rattle.mask_caches.specs.Caches.{shown_totals}
use Rattle.mask_keys.specs.Equality.{equal_composites}
use Rattle.track_history.specs.Calls.{TrackView}
use Rattle.play_rounds.proofs.Turns.{known, totals_balance, totals_count_asks}
use Rattle.play_workers.specs.Asks.{masks_seen}
use Rattle.play_rounds.proofs.Whole.{fewer_asks}
use Rattle.play_rounds.proofs.whole_play.last_totals.Goals as goal

pub returns-clause-first : goal.returns-clause-first
returns-clause-first g c = ap (λ (p : TrackView). p.number) c.totals.ensures.track ∙ c.requires.number

pub returns-clause-totals : goal.returns-clause-totals
returns-clause-totals g c budget asks opening opened few =
    let told = c.totals.ensures in record {
      caches = c.args.renderer.now.caches;
      first = opening.caches;
      opened = opened.caches;
      last = c.totals.result.0.caches;
      legal = known c.args.renderer.now c.args.first c.totals.result.0 c.requires told.pass told.track told.regions told.masks told.composites;
      are = told.totals;
      three = ap length told.totals;
      budgets = told.budgets;
      accounted = subst (λ (totals : List Totals). All IsAccounted totals) (sym told.totals)
          (totals_balance c.args.renderer.now c.args.first c.totals.result.0 c.requires told.pass told.track told.regions told.masks told.composites);
      asked = λ d. subst (λ (totals : List Totals). HasAsks asks (slice_index_or totals 2 d)) (sym told.totals)
          (fewer_asks asks (masks_seen c.args.renderer.now c.args.first) (shown_totals equal_composites composite_meaning c.args.renderer.now.caches.composites c.totals.result.0.caches.composites) few
          (totals_count_asks c.args.renderer.now c.args.first c.totals.result.0 c.requires told.pass told.track told.regions told.masks told.composites));
    }
