-- What each step leaves of the caches: their shards, their fonts and tickets of valid keys.
use Rattle.std.proofs.Common.{◌≡◌, ℕ, suc, ◌<◌, List, length, take, drop, get_or, Option, Some, None, sym, ap, ◌∙◌, subst}
use Rattle.std.specs.List.{All, remove, slice_get}
use Rattle.std.specs.Arc.{arc_value}
use Rattle.std.proofs.lemmas.List.{length-set}
use Rattle.std.proofs.lemmas.List.Elements.{All-append, All-drop, All-get_or, All-push, All-take}
use Rattle.std.proofs.lemmas.Option.{get_or_from_slice_get}
use Rattle.evict_core.specs.Machine.{Answer, Hit, Claim, Crowded}
use Rattle.mask_keys.specs.Outlines.{glyph_counts}
use Rattle.world_core.specs.Caches.{ActorCachesView, answer_in, after_answer, asked, failed, filled, unpinned_at, with_limits}
use Rattle.world_core.specs.declared.holding.Holding.{Holding}
use Rattle.world_core.specs.Keys.{IsValidWorldKey, equal_world_keys, world_meaning, world_value}
use Rattle.world_core.specs.Tellings.{AreWorldCaches, WorldTag}
use Rattle.world_core.specs.declared.world_keys.WorldKey.{WorldKey}
use Rattle.world_core.specs.declared.world_keys.WorldValue.{WorldValue}

-- what holds of each element holds of each that is left
all-remove : {X : Type 0} (P : X → Type 0) (xs : List X) (i : ℕ) → All P xs → All P (remove xs i)
all-remove P xs i all = All-append P (take i xs) (drop (suc i) xs) (All-take P i xs all) (All-drop P (suc i) xs all)

module _ (fonts : WorldTag) (s : ActorCachesView WorldKey WorldValue WorldTag) (are : AreWorldCaches fonts s) where
  -- the key of a ticket
  pub valid-at : (place : ℕ) (h : Holding WorldKey) → place < length s.tickets → h ≡ get_or s.tickets place h → IsValidWorldKey (glyph_counts (arc_value fonts).fonts) h.key
  valid-at place h below is =
      subst (λ (x : Holding WorldKey). IsValidWorldKey (glyph_counts (arc_value fonts).fonts) x.key) (sym is)
      (All-get_or (λ (x : Holding WorldKey). IsValidWorldKey (glyph_counts (arc_value fonts).fonts) x.key) s.tickets place h below are.keys)

  -- its value, as a fill wants it
  pub value-at : (place : ℕ) (h : Holding WorldKey) (value : WorldValue) → place < length s.tickets → h ≡ get_or s.tickets place h → value ≡ world_value (arc_value fonts).fonts h.key
      → (other : Holding WorldKey) → slice_get s.tickets place ≡ Some other → value ≡ world_meaning.made s.tag other.key
  value-at place h value below is made other there =
      let same : h ≡ other = is ∙ get_or_from_slice_get s.tickets place other h there in
      made ∙ (ap (λ (x : Holding WorldKey). world_value (arc_value fonts).fonts x.key) same ∙ ap (λ (tag : WorldTag). world_value (arc_value tag).fonts other.key) (sym are.tag))

  pub caches-answered : (h : Holding WorldKey) → IsValidWorldKey (glyph_counts (arc_value fonts).fonts) h.key → (o : Option Answer) → AreWorldCaches fonts (after_answer equal_world_keys h o s)
  caches-answered h valid None = are
  caches-answered h valid (Some Hit) = record { tag = are.tag; shards = length-set _ _ _ ∙ are.shards; keys = are.keys }
  caches-answered h valid (Some Claim) = record { tag = are.tag; shards = length-set _ _ _ ∙ are.shards; keys = All-push (λ (h : Holding WorldKey). IsValidWorldKey (glyph_counts (arc_value fonts).fonts) h.key) s.tickets h are.keys valid }
  caches-answered h valid (Some Crowded) = record { tag = are.tag; shards = length-set _ _ _ ∙ are.shards; keys = are.keys }

  pub caches-asked : (h : Holding WorldKey) → IsValidWorldKey (glyph_counts (arc_value fonts).fonts) h.key → AreWorldCaches fonts (asked equal_world_keys h s)
  caches-asked h valid = caches-answered h valid (answer_in equal_world_keys h s)

  pub caches-filled : (place : ℕ) (h : Holding WorldKey) → AreWorldCaches fonts (filled equal_world_keys world_meaning place h s)
  caches-filled place h = record { tag = are.tag; shards = length-set _ _ _ ∙ are.shards; keys = all-remove (λ (h : Holding WorldKey). IsValidWorldKey (glyph_counts (arc_value fonts).fonts) h.key) s.tickets place are.keys }

  pub caches-failed : (place : ℕ) (h : Holding WorldKey) → AreWorldCaches fonts (failed equal_world_keys place h s)
  caches-failed place h = record { tag = are.tag; shards = length-set _ _ _ ∙ are.shards; keys = all-remove (λ (h : Holding WorldKey). IsValidWorldKey (glyph_counts (arc_value fonts).fonts) h.key) s.tickets place are.keys }

  pub caches-unpinned : (place : ℕ) (h : Holding WorldKey) → AreWorldCaches fonts (unpinned_at equal_world_keys place h s)
  caches-unpinned place h = record { tag = are.tag; shards = length-set _ _ _ ∙ are.shards; keys = are.keys }

  pub caches-limited : (n entries budget : ℕ) → AreWorldCaches fonts (with_limits equal_world_keys n entries budget s)
  caches-limited n entries budget = record { tag = are.tag; shards = length-set _ _ _ ∙ are.shards; keys = are.keys }

-- the same caches under another name
pub caches-same : (fonts : WorldTag) (old new : ActorCachesView WorldKey WorldValue WorldTag) → new ≡ old → AreWorldCaches fonts old → AreWorldCaches fonts new
caches-same fonts old new same are = subst (AreWorldCaches fonts) (sym same) are
