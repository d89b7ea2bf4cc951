-- The three passes go together after calls that neither split nor join.
use Rattle.std.proofs.Common.{sym, ◌∙◌}
use Rattle.flight_cache.specs.Shards.{CachePassView}
use Rattle.flight_cache.specs.Laws.{IsLater}
use Rattle.mask_caches.specs.Together.{AreTogether}

module _ {J K L T : Type 0} where
  pub together-later : (o p : CachePassView J T) (m n : CachePassView K T) (c d : CachePassView L T) → AreTogether o m c → IsLater o p → IsLater m n → IsLater c d → AreTogether p n d
  together-later o p m n c d t regions masks composites =
      let of = regions.first.1 in
      let on = masks.first.1 in
      let oc = composites.first.1 in
      record {
        masks_number = on.number ∙ (t.masks_number ∙ sym of.number);
        composites_number = oc.number ∙ (t.composites_number ∙ sym of.number);
        masks_next = on.next ∙ (t.masks_next ∙ sym of.next);
        composites_next = oc.next ∙ (t.composites_next ∙ sym of.next);
      }
