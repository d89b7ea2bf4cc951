-- Public: what the tags of a text say of the whole event: which of several counts (docs/TAGS.md).
use Rattle.std.specs.Prelude.{◌≡◌, ℕ, ◌*◌, ℤ, pos, Bool, true, false, List, [], ◌∷◌, Option, Some, None, slice_get}
use Rattle.std.specs.Int.RustNames.{unsigned_abs}
use Rattle.std.specs.List.{filter_map, list_any}
use Rattle.std.specs.Option.{option_map}
use Rattle.ass_script.specs.declared.script.Header.{Header}
use Rattle.event_instants.specs.Instants.{moved, move_at, fade_at, fad_at, nth}
use Rattle.override_tags.specs.Singles.{whole}
use Rattle.override_tags.specs.declared.item.Item.{Item}
use Rattle.override_tags.specs.declared.item.ItemKind.{ItemKind}
use Rattle.override_tags.specs.declared.item.ItemKind.TheVariants as item
use Rattle.override_tags.specs.declared.tag.ClipTag.{ClipTag}
use Rattle.override_tags.specs.declared.tag.ClipTag.TheVariants.{Rect}
use Rattle.override_tags.specs.declared.tag.GradualTag.TheVariants as gradual
use Rattle.override_tags.specs.declared.tag.Tag.{Tag}
use Rattle.override_tags.specs.declared.tag.Tag.TheVariants.{Number, Align, Pos, Move, Org, Fad, Fade, Clip}
use Rattle.tag_arguments.specs.declared.kinds.Num.TheVariants as num
use Rattle.tag_state.specs.Setters.{Effect, Plain, Gradual, Setter, Sets, Moves, by_setters, past_all, replaced}
use Rattle.tag_state.specs.declared.choices.Said.{Said}

-- ---- the first one counts

-- what the first tag says that says something
abbrev pub first_in : {V : Type 0} → (Tag → Option V) → ItemKind → Option V
first_in says (item.Tag tag) = says tag
first_in says _ = None

abbrev pub first_of : {V : Type 0} → (Tag → Option V) → List Item → Option V
first_of says items = slice_get (filter_map (λ i. first_in says i.kind) items) 0

abbrev pub align_said : Tag → Option ℕ
align_said (Align key) = Some key
align_said _ = None

-- the point of a `\pos`, or where a `\move` has come to in an event of a duration
abbrev pub point_said : ℤ → ℤ → Tag → Option (ℤ × ℤ)
point_said duration elapsed (Pos x y) = Some (x, y)
point_said duration elapsed (Move path t1 t2) = Some (move_at path t1 t2 duration elapsed)
point_said duration elapsed _ = None

-- whether an item is a `\pos` or a `\move`
abbrev pub is_point : ItemKind → Bool
is_point (item.Tag (Pos _ _)) = true
is_point (item.Tag (Move _ _ _)) = true
is_point _ = false

-- whether the items of a text say a point
abbrev pub has_point : List Item → Bool
has_point items = list_any (λ (i : Item). is_point i.kind) items

abbrev pub origin_said : Tag → Option (ℤ × ℤ)
origin_said (Org x y) = Some (x, y)
origin_said _ = None

abbrev pub fade_said : ℤ → ℤ → Tag → Option ℤ
fade_said duration elapsed (Fad fade_in fade_out) = Some (fad_at fade_in fade_out duration elapsed)
fade_said duration elapsed (Fade numbers) = Some (fade_at numbers elapsed)
fade_said duration elapsed _ = None

-- ---- the last one counts

abbrev pub wrap_setter : Effect → Option (Setter ℕ)
wrap_setter (Plain (Number num.Wrap value)) = Some (Sets (option_map (λ v. unsigned_abs (whole v)) value))
wrap_setter _ = None

-- the wrap style behind these effects, the last of which stands first, where the script has one
abbrev pub wrap_at : ℕ → List Effect → ℕ
wrap_at wrap before = by_setters replaced wrap (filter_map wrap_setter before)

abbrev pub clip_setter : Effect → Option (Setter (Option ClipTag))
clip_setter (Plain (Clip clip)) = Some (Sets (Some (Some clip)))
clip_setter (Gradual weight (gradual.Clip corners inverse)) = Some (Moves weight (Some (Some (Rect corners inverse))))
clip_setter _ = None

-- the whole canvas in thousandths
abbrev pub canvas_corners : Header → List ℤ
canvas_corners header = pos 0 ∷ (pos 0 ∷ (pos (1000 * header.res_x) ∷ (pos (1000 * header.res_y) ∷ [])))

-- the rectangle from which a clip moves: the one in force, or else the whole canvas
abbrev pub corners_from : Header → Option ClipTag → List ℤ
corners_from header (Some (Rect corners _)) = corners
corners_from header _ = canvas_corners header

abbrev pub corners_moved : List ℤ → List ℤ → ℕ → List ℤ
corners_moved old new weight =
    moved (nth old 0) (nth new 0) weight ∷ (moved (nth old 1) (nth new 1) weight ∷ (moved (nth old 2) (nth new 2) weight ∷ (moved (nth old 3) (nth new 3) weight ∷ [])))

-- A rectangle moves to its place; whether it hides its inside holds at every weight.
abbrev pub clip_moved : Header → Option ClipTag → Option ClipTag → ℕ → Option ClipTag
clip_moved header old (Some (Rect corners inverse)) weight = Some (Rect (corners_moved (corners_from header old) corners weight) inverse)
clip_moved header old new weight = new

-- the clip behind these effects, the last of which stands first
abbrev pub clip_at : Header → List Effect → Option ClipTag
clip_at header before = by_setters (clip_moved header) None (filter_map clip_setter before)

-- What the items of a text say of an event of a duration.
pub record IsSaid (header : Header) (duration elapsed : ℤ) (items : List Item) (said : Said) : Type 0 where
  pub align : said.align ≡ first_of align_said items
  pub position : said.pos ≡ first_of (point_said duration elapsed) items
  pub origin : said.org ≡ first_of origin_said items
  pub fade : option_map (λ fade. pos fade) said.fade ≡ first_of (fade_said duration elapsed) items
  pub wrap : said.wrap ≡ wrap_at header.wrap (past_all duration elapsed [] items)
  pub clip : said.clip ≡ clip_at header (past_all duration elapsed [] items)
