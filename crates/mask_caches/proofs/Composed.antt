-- A composed mask from the leases of its parts' masks, and what a pass holds once they are given back.
use Rattle.std.proofs.Common.{◌≡◌, ℕ, Bool, true, List, [], ◌++◌, length, map, Result, Ok, Err, All, refl, sym, ap, ◌∙◌, subst, arith}
use Rattle.std.specs.Result.{IfOk, OnOk}
use Rattle.std.specs.Arc.{arc_value}
use Rattle.std.specs.declared.sync.Arc.{Arc}
use Rattle.std.proofs.lemmas.List.{length-map}
use Rattle.std.proofs.lemmas.List.Elements.{All-nil}
use Rattle.ass_num.specs.Masks.{MaskValue}
use Rattle.bdf_font.specs.Fonts.{FontValue}
use Rattle.bdf_font.specs.declared.sets.FontSet.{FontSet}
use Rattle.evict_core.specs.Machine.{Step}
use Rattle.flight_cache.specs.Meaning.{Meaning}
use Rattle.flight_cache.specs.Shards.{CacheView, CachePassView, HoldsEach}
use Rattle.made_values.specs.Parts.{masks_of, placed_masks}
use Rattle.made_values.proofs.KeyLemmas.{parts_placeable, placed_are}
use Rattle.mask_cover.specs.Sums.{IsPlaceableMask}
use Rattle.mask_keys.specs.Keys.{IsValidPart}
use Rattle.mask_keys.specs.declared.composite_key.Part.{Part}
use Rattle.mask_keys.specs.declared.mask_key.MaskKey.{MaskKey}
use Rattle.mask_keys.specs.Masks.{summed_mask}
use Rattle.mask_keys.specs.Values.{mask_value, placed_part}
use Rattle.mask_caches.specs.Adding.{Adds, HoldsAsMuch, HoldsFewer, HoldsMore}
use Rattle.mask_caches.specs.Courses.{has_value}
use Rattle.mask_caches.specs.Leases.{lease_value}
use Rattle.mask_caches.specs.Visits.{AreMaskVisits, IsMaskVisit}
use Rattle.mask_caches.specs.declared.lease.Lease.{Lease}
use Rattle.mask_caches.proofs.Adding.{adds-then}

pub on-ok-then : {A E P Q : Type 0} (r : Result A E) → OnOk r P → (P → Q) → OnOk r Q
on-ok-then (Ok a) p f = f p
on-ok-then (Err e) p f = tt

pub none-visited : (parts : List Part) → AreMaskVisits parts []
none-visited parts = record { keys = refl; each = All-nil IsMaskVisit; had = All-nil (λ v. has_value v.course ≡ true) }

module _ {M Z : Type 0} (fonts : List FontValue) (parts : List Part) (leases : List (Lease M MaskKey MaskValue (Arc FontSet Z))) (are_all : Bool) (values : are_all ≡ true → map lease_value leases ≡ masks_of fonts parts) where
  pub as-many : are_all ≡ true → length leases ≡ length parts
  as-many all = sym (length-map leases lease_value) ∙ (ap length (values all) ∙ length-map parts (λ (part : Part). mask_value fonts part.mask))

  pub placeable : (glyphs : List ℕ) → All (IsValidPart glyphs) parts → are_all ≡ true → All IsPlaceableMask (placed_masks parts (map lease_value leases))
  placeable glyphs valid all = subst (λ (l : List MaskValue). All IsPlaceableMask (placed_masks parts l)) (sym (values all)) (parts_placeable fonts glyphs parts valid)

  pub composed-value : {E : Type 0} (made : Result (Arc MaskValue Z) E) → OnOk made (are_all ≡ true) → IfOk made (λ a. arc_value a ≡ summed_mask (placed_masks parts (map lease_value leases)))
      → IfOk made (λ a. arc_value a ≡ summed_mask (map (placed_part fonts) parts))
  composed-value (Ok a) all value = value ∙ (ap (λ (l : List MaskValue). summed_mask (placed_masks parts l)) (values all) ∙ ap summed_mask (placed_are fonts parts))
  composed-value (Err e) all value = tt

module _ {K V T : Type 0} (eq : K → K → Bool) (meaning : Meaning K V T) (cache : CacheView T) (p q r : CachePassView K T) (keys : List K) where
  pub more-held : HoldsMore eq meaning cache p q keys → HoldsEach eq meaning cache q keys
  more-held more k = let had = more.pins k in omega arith

  pub given-back : HoldsMore eq meaning cache p q keys → HoldsFewer eq meaning cache q r keys → HoldsAsMuch eq meaning cache p r
  given-back more fewer = record {
    pins = λ k. let had = more.pins k in let less = fewer.pins k in omega arith;
    claims = λ k. fewer.claims k ∙ more.claims k;
  }

module _ {K V T : Type 0} (eq : K → K → Bool) (meaning : Meaning K V T) (cache : CacheView T) (p q r : CachePassView K T) where
  pub given-then : (xs ys zs : List (Step K V)) → ys ≡ zs → Adds eq meaning cache p q xs → Adds eq meaning cache q r ys → Adds eq meaning cache p r (xs ++ zs)
  given-then xs ys zs same f g = adds-then eq meaning cache p q r xs zs f (subst (λ (l : List (Step K V)). Adds eq meaning cache q r l) same g)
