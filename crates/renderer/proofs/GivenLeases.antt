-- Images that are given back one after another, the last one first.
use Rattle.std.proofs.Common.{◌≡◌, List, [], ◌∷◌, ◌++◌, refl, sym, ap, ◌∙◌, subst, append_assoc, append-nil}
use Rattle.std.proofs.lemmas.Grind.{flat_map-append}
use Rattle.ass_num.specs.Masks.{MaskValue}
use Rattle.evict_core.specs.Machine.{Step}
use Rattle.cache_kinds.specs.Kinds.{composite_meaning, mask_meaning, region_meaning}
use Rattle.flight_cache.specs.Shards.{HoldsEach}
use Rattle.mask_keys.specs.Equality.{equal_composites, equal_masks, equal_regions}
use Rattle.mask_keys.specs.declared.composite_key.CompositeKey.{CompositeKey}
use Rattle.mask_keys.specs.contracts.composite_key.CompositeKeyEq.TheImpl.Laws as composite_laws
use Rattle.mask_caches.specs.Adding.{Adds, HoldsFewer}
use Rattle.mask_caches.specs.Holding.{all_given_steps, pinned_key, pinned_keys}
use Rattle.mask_caches.specs.Leases.{HoldsLease, given_steps}
use Rattle.mask_caches.specs.declared.caches.Caches.{Caches}
use Rattle.mask_caches.specs.declared.passes.CachesPass.{CachesPass}
use Rattle.mask_caches.proofs.Adding.{adds-none, adds-then}
use Rattle.mask_caches.proofs.Holding.{fewer-none, fewer-then, given-append, given-fewer, held-first, held-last, held-lease, much-itself, pinned-append}
use Rattle.renderer.specs.ShownFrames.{FrameImage, MaskLease, leases_of, leases_of_image}
use Rattle.renderer.specs.Holding.{HoldsLeases, HoldsLeasesFewer}

-- what giving leases back makes of a pass
pub record GivesLeases (caches : Caches) (p q : CachesPass) (leases : List MaskLease) : Type 0 where
  pub composites : Adds equal_composites composite_meaning caches.composites p.composites q.composites (all_given_steps leases)
  pub fewer : HoldsFewer equal_composites composite_meaning caches.composites p.composites q.composites (pinned_keys leases)
  pub masks : q.masks ≡ p.masks
  pub regions : q.regions ≡ p.regions

module _ (caches : Caches) where
  pub gives-none : (p : CachesPass) → GivesLeases caches p p []
  gives-none p = record {
    composites = adds-none equal_composites composite_meaning caches.composites p.composites;
    fewer = fewer-none equal_composites composite_meaning caches.composites p.composites;
    masks = refl;
    regions = refl;
  }

  given-one : (lease : MaskLease) → all_given_steps (lease ∷ []) ≡ given_steps lease
  given-one lease = append-nil (given_steps lease)

  pub gives-one : (p q : CachesPass) (lease : MaskLease) → Adds equal_composites composite_meaning caches.composites p.composites q.composites (given_steps lease) → q.masks ≡ p.masks → q.regions ≡ p.regions
      → GivesLeases caches p q (lease ∷ [])
  gives-one p q lease gives masks regions = record {
    composites = subst (λ (l : List (Step CompositeKey MaskValue)). Adds equal_composites composite_meaning caches.composites p.composites q.composites l) (sym (given-one lease)) gives;
    fewer = subst (λ (l : List CompositeKey). HoldsFewer equal_composites composite_meaning caches.composites p.composites q.composites l) (sym (append-nil (pinned_key lease)))
        (given-fewer equal_composites composite_meaning caches.composites p.composites q.composites lease gives);
    masks = masks;
    regions = regions;
  }

  -- the later ones first
  pub gives-then : (p q r : CachesPass) (front back : List MaskLease) → GivesLeases caches p q back → GivesLeases caches q r front → GivesLeases caches p r (front ++ back)
  gives-then p q r front back f g = record {
    composites = subst (λ (l : List (Step CompositeKey MaskValue)). Adds equal_composites composite_meaning caches.composites p.composites r.composites l) (sym (given-append front back))
        (adds-then equal_composites composite_meaning caches.composites p.composites q.composites r.composites (all_given_steps back) (all_given_steps front) f.composites g.composites);
    fewer = subst (λ (l : List CompositeKey). HoldsFewer equal_composites composite_meaning caches.composites p.composites r.composites l) (sym (pinned-append front back))
        (fewer-then equal_composites composite_meaning caches.composites p.composites q.composites r.composites (pinned_keys front) (pinned_keys back) f.fewer g.fewer);
    masks = g.masks ∙ f.masks;
    regions = g.regions ∙ f.regions;
  }

  pub gives-fewer : (p q : CachesPass) (leases : List MaskLease) → GivesLeases caches p q leases → HoldsLeasesFewer caches p q leases
  gives-fewer p q leases f = record {
    composites = f.fewer;
    masks = rw f.masks (much-itself equal_masks mask_meaning caches.masks p.masks);
    regions = rw f.regions (much-itself equal_regions region_meaning caches.regions p.regions);
  }

  -- of leases that are held the last ones are, and once they are given back the first ones still are
  pub leases-last : (p : CachesPass) (front back : List MaskLease) → HoldsLeases caches p (front ++ back) → HoldsLeases caches p back
  leases-last p front back held =
      held-last equal_composites composite_meaning caches.composites p.composites (pinned_keys front) (pinned_keys back)
      (subst (λ (l : List CompositeKey). HoldsEach equal_composites composite_meaning caches.composites p.composites l) (pinned-append front back) held)

  pub leases-first : (p q : CachesPass) (front back : List MaskLease) → HoldsLeases caches p (front ++ back) → GivesLeases caches p q back → HoldsLeases caches q front
  leases-first p q front back held f =
      held-first equal_composites composite_meaning caches.composites p.composites q.composites (pinned_keys front) (pinned_keys back)
      (subst (λ (l : List CompositeKey). HoldsEach equal_composites composite_meaning caches.composites p.composites l) (pinned-append front back) held) f.fewer

  pub lease-held : (p : CachesPass) (lease : MaskLease) → HoldsLeases caches p (lease ∷ []) → HoldsLease equal_composites composite_meaning caches.composites p.composites lease
  lease-held p lease held =
      held-lease equal_composites composite_meaning caches.composites composite_laws.laws-law p.composites lease
      (subst (λ (l : List CompositeKey). HoldsEach equal_composites composite_meaning caches.composites p.composites l) (append-nil (pinned_key lease)) held)

-- ---- images

pub images-leases : (left : List FrameImage) (image : FrameImage) → leases_of (left ++ image ∷ []) ≡ leases_of left ++ leases_of_image image
images-leases left image = flat_map-append leases_of_image left (image ∷ []) ∙ ap (λ (l : List MaskLease). leases_of left ++ l) (append-nil (leases_of_image image))

-- the last images were given back, and these are left
pub record AreReleased (caches : Caches) (p q : CachesPass) (all left : List FrameImage) : Type 0 where
  pub given : List FrameImage
  pub are : all ≡ left ++ given
  pub gives : GivesLeases caches p q (leases_of given)

module _ (caches : Caches) (p : CachesPass) (all : List FrameImage) where
  pub released-none : AreReleased caches p p all all
  released-none = record { given = []; are = sym (append-nil all); gives = gives-none caches p }

  pub released-more : (q r : CachesPass) (before left : List FrameImage) (image : FrameImage) → before ≡ left ++ image ∷ [] → AreReleased caches p q all before → GivesLeases caches q r (leases_of_image image) → AreReleased caches p r all left
  released-more q r before left image popped f g = record {
    given = image ∷ f.given;
    are = f.are ∙ (ap (λ (l : List FrameImage). l ++ f.given) popped ∙ append_assoc left (image ∷ []) f.given);
    gives = gives-then caches p q r (leases_of_image image) (leases_of f.given) f.gives g;
  }

  pub released-all : (q : CachesPass) (left : List FrameImage) → left ≡ [] → AreReleased caches p q all left → GivesLeases caches p q (leases_of all)
  released-all q left none f = subst (λ (l : List FrameImage). GivesLeases caches p q (leases_of l)) (sym (f.are ∙ ap (λ (l : List FrameImage). l ++ f.given) none)) f.gives
