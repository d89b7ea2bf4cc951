use Rattle.std.proofs.Common.{List, All, map, inl, refl, sym, ap, ◌∙◌, subst, arith}
use Rattle.turn_cell.proofs.Passes.{Follows_same}
use Rattle.flight_cache.specs.Pinning.{GivesNothing}
use Rattle.flight_cache.proofs.Claiming.{on-ok}
use Rattle.flight_cache.proofs.Rows.{stays_of_cache}
use Rattle.cache_kinds.specs.Kinds.{composite_meaning, mask_meaning, region_meaning}
use Rattle.mask_keys.specs.Equality.{equal_composites, equal_masks, equal_regions}
use Rattle.mask_keys.proofs.Equal.{composite_same}
use Rattle.mask_keys.specs.contracts.composite_key.CompositeKeyEq.TheImpl.Laws as composite_laws
use Rattle.mask_caches.proofs.Adding.{later-itself}
use Rattle.mask_caches.proofs.Pinned.{nothing-much, pin-each, pinned-more, tried-later}
use Rattle.mask_caches.proofs.Staying.{together-later}
use Rattle.std.specs.declared.alloc.Global.{Global}
use Rattle.std.specs.declared.sync.Arc.{Arc}
use Rattle.ass_num.specs.Masks.{MaskValue}
use Rattle.bdf_font.specs.declared.sets.FontSet.{FontSet}
use Rattle.cache_kinds.specs.declared.kinds.CompositeMade.{CompositeMade}
use Rattle.flight_cache.specs.Meaning.{shard_of}
use Rattle.flight_cache.specs.Shards.{at}
use Rattle.mask_keys.specs.declared.composite_key.CompositeKey.{CompositeKey}
use Rattle.mask_caches.specs.Leases.{IsHomeLease}
use Rattle.mask_caches.specs.declared.lease.Lease.{Lease}
use Rattle.mask_caches.proofs.Homes.{pinned-home}
use Rattle.mask_caches.proofs.caches.Caches.try_composites.Goals as goal
use Rattle.mask_caches.proofs.Holding.{much-itself}

pub returns-then-is_err : goal.returns-then-is_err
returns-then-is_err c =
    let p = c.args.pass.composites in
    let same : GivesNothing p p = record { first = Follows_same p.first; second = Follows_same p.second; third = Follows_same p.third; fourth = Follows_same p.fourth } in
    record {
      pinned = tt;
      homes = tt;
      refused = inl refl;
      nothing = same;
      holds = much-itself equal_composites composite_meaning c.args.self.now.composites p;
      masks = refl;
      regions = refl;
      pass = c.requires;
    }

pub invariant_of-pass : goal.invariant_of-pass
invariant_of-pass c =
    let cache = c.args.self.now.composites in
    record {
      together = together-later c.args.pass.regions c.args.pass.regions c.args.pass.masks c.args.pass.masks c.args.pass.composites c.try_pin_all-composites.result.0
          c.args.pass.together (later-itself equal_regions region_meaning c.args.self.now.regions c.args.pass.regions) (later-itself equal_masks mask_meaning c.args.self.now.masks c.args.pass.masks)
          (tried-later equal_composites composite_meaning cache c.args.pass.composites c.try_pin_all-composites.result.0 composite_laws.laws-law composite_same c.proof_numbered.ensures c.args.keys.items
          (λ pins. pins.items) c.try_pin_all-composites.result.1 c.try_pin_all-composites.ensures.pinned c.try_pin_all-composites.ensures.nothing);
    }

pub leases_of-requires-clause-room : goal.leases_of-requires-clause-room
leases_of-requires-clause-room c =
    let pinned = rw c.in-Ok.is at c.try_pin_all-composites.ensures.pinned in
    let room = on-ok c.reserve.result _ (sym c.is_err.ensures.value ∙ c.if-is_err.false) c.reserve.ensures.ok in
    omega (arith, room, c.len.ensures, c.new-leases.ensures.len, pin-each c.args.keys.items c.in-Ok.pins.items pinned.keys_are)

pub returns-in-Ok : goal.returns-in-Ok
returns-in-Ok c =
    let pinned = rw c.in-Ok.is at c.try_pin_all-composites.ensures.pinned in
    let more = pinned-more equal_composites composite_meaning c.args.self.now.composites c.args.pass.composites c.try_pin_all-composites.result.0 composite_laws.laws-law composite_same c.proof_numbered.ensures c.args.keys.items c.in-Ok.pins.items pinned in
    record {
      pinned = record {
        pins = c.in-Ok.pins.items;
        are = c.leases_of.ensures;
        pinned = pinned;
        holds = more;
      };
      homes = subst (λ (l : List (Lease CompositeMade CompositeKey MaskValue (Arc FontSet Global))). All (IsHomeLease composite_meaning c.args.self.now.composites) l) (sym c.leases_of.ensures)
          (pinned-home composite_meaning c.args.self.now.composites c.in-Ok.pins.items (pinned.cells_are ∙ ap (map (λ k. (at c.args.self.now.composites.shards (shard_of ((composite_meaning {Z = Global}).numbers k))).id)) (sym pinned.keys_are)));
      refused = tt;
      nothing = tt;
      holds = tt;
      masks = refl;
      regions = refl;
      pass = record {
        regions = c.requires.regions;
        masks = c.requires.masks;
        composites = stays_of_cache c.args.self.now.composites c.args.pass.composites c.try_pin_all-composites.result.0 c.requires.composites
            (tried-later equal_composites composite_meaning c.args.self.now.composites c.args.pass.composites c.try_pin_all-composites.result.0 composite_laws.laws-law composite_same c.proof_numbered.ensures c.args.keys.items
            (λ pins. pins.items) c.try_pin_all-composites.result.1 c.try_pin_all-composites.ensures.pinned c.try_pin_all-composites.ensures.nothing);
        free = record { regions = c.requires.free.regions; masks = c.requires.free.masks; composites = λ k. more.claims k ∙ c.requires.free.composites k };
      };
    }

pub returns-in-Err : goal.returns-in-Err
returns-in-Err c =
    let refused = rw c.in-Err.is at c.try_pin_all-composites.ensures.refused in
    let nothing = rw c.in-Err.is at c.try_pin_all-composites.ensures.nothing in
    let much = nothing-much equal_composites composite_meaning c.args.self.now.composites c.args.pass.composites c.try_pin_all-composites.result.0 nothing in
    record {
      pinned = tt;
      homes = tt;
      refused = refused;
      nothing = nothing;
      holds = much;
      masks = refl;
      regions = refl;
      pass = record {
        regions = c.requires.regions;
        masks = c.requires.masks;
        composites = stays_of_cache c.args.self.now.composites c.args.pass.composites c.try_pin_all-composites.result.0 c.requires.composites
            (tried-later equal_composites composite_meaning c.args.self.now.composites c.args.pass.composites c.try_pin_all-composites.result.0 composite_laws.laws-law composite_same c.proof_numbered.ensures c.args.keys.items
            (λ pins. pins.items) c.try_pin_all-composites.result.1 c.try_pin_all-composites.ensures.pinned c.try_pin_all-composites.ensures.nothing);
        free = record { regions = c.requires.free.regions; masks = c.requires.free.masks; composites = λ k. much.claims k ∙ c.requires.free.composites k };
      };
    }
