-- The parts of a draw are the masks of the items that may reach the frame.
use Rattle.std.proofs.Common.{◌≡◌, refl, sym, ap, ◌∙◌, ℕ, ◌+◌, ◌*◌, ◌<◌, Bool, true, false, cond, inl, inr, Option, Some, None, option_map, List, [], ◌∷◌, map, get_or, ℤ, pos, neg_ℤ, ◌+ℤ◌, ◌-ℤ◌, ◌*ℤ◌, ◌≤ℤ◌, ◌<ℤ◌, int_le, int_lt, subst, arith}
use Rattle.std.specs.List.{All, AllZip, cons_option, filter_map, slice_get}
use Rattle.std.specs.Option.{IfSome}
use Rattle.std.proofs.lemmas.Bool.{and_parts, false≢true}
use Rattle.std.proofs.lemmas.Int.{ints}
use Rattle.std.proofs.lemmas.Option.{none-some}
use Rattle.std.proofs.lemmas.List.Elements.{All-cons, All-map, All-nil}
use Rattle.ass_num.proofs.Floor.{floor_div-above, floor_div-below}
use Rattle.ass_num.proofs.OrderLemmas.{le_is, le_true, lt_is, lt_true}
use Rattle.ass_num.specs.declared.geometry.Point.{Point}
use Rattle.ass_num.specs.declared.size.Size.{Size}
use Rattle.draw_numbers.specs.Limits.{max_reach}
use Rattle.draw_numbers.specs.Pens.{is_near_frame, pen_of, phase_of, pixel_of, reaches, spot_of, turned_about}
use Rattle.draw_numbers.specs.declared.colours.Paint.{Paint}
use Rattle.draw_numbers.specs.declared.pens.Spot.{Spot}
use Rattle.event_draws.specs.Draws.{draw_of, is_near_stamp, part_from, stamp_of, stamps_of}
use Rattle.event_draws.specs.declared.stage.Stage.{Stage}
use Rattle.mask_keys.specs.Keys.{samples_across}
use Rattle.mask_keys.specs.declared.outline_key.OutlineKey.{OutlineKey}
use Rattle.mask_keys.specs.declared.plans.Clip.{Clip}
use Rattle.mask_keys.specs.declared.plans.Draw.{Draw}
use Rattle.text_layout.specs.declared.laid.Placed.{Placed}
use Rattle.draw_laws.specs.Parts.{AreDrawn, AreMadeBy, AreParts, LieTogether, HaveOnePlace, IsLeftOut, IsMaskMadeBy, IsItemMask, IsSampleNear, MayReach}
use Rattle.draw_laws.proofs.ListPairs.{both_pass}
use Rattle.draw_laws.proofs.MovedNumbers.{phase_is}
use Rattle.draw_laws.proofs.Types.{Making, Mark, Stamp}

-- where a pen stands, in samples
abbrev pub making_pen : Stage → Making → Point → Point
making_pen stage making pen = pen_of (turned_about stage.origin making.angle pen) making.offsets

-- the outline and the pen of a mark
abbrev pub bare_mark : Mark → OutlineKey × Point
bare_mark mark = (mark.outline, mark.pen)

-- Of each item the outline and the pen of its mark are left.
abbrev pub LeaveMarks : (Placed → Option (OutlineKey × Point)) → (Placed → Option Mark) → Type 0
LeaveMarks leaves gives = (item : Placed) → leaves item ≡ option_map bare_mark (gives item)

-- ---- numbers

sample_of_pixel : (side : ℕ) (pen pixel : ℤ) → (pixel *ℤ pos 16) ≤ℤ pen → pen <ℤ ((pixel *ℤ pos 16) +ℤ pos 16) → neg_ℤ (pos 8192) ≤ℤ pixel → pixel <ℤ (pos side +ℤ pos 8192)
    → (neg_ℤ (pos 131072) ≤ℤ pen) × (pen <ℤ pos (16 * (side + 8192)))
sample_of_pixel side pen pixel below above low high = (omega (arith, ints), omega (arith, ints))

pixel_of_sample : (side : ℕ) (pen pixel : ℤ) → (pixel *ℤ pos 16) ≤ℤ pen → pen <ℤ ((pixel *ℤ pos 16) +ℤ pos 16) → neg_ℤ (pos 131072) ≤ℤ pen → pen <ℤ pos (16 * (side + 8192))
    → (neg_ℤ (pos 8192) ≤ℤ pixel) × (pixel <ℤ (pos side +ℤ pos 8192))
pixel_of_sample side pen pixel below above low high = (omega (arith, ints), omega (arith, ints))

sample_near : (side : ℕ) (pen : ℤ) → reaches side (pixel_of pen) ≡ true → IsSampleNear side pen
sample_near side pen h =
    let p = and_parts (int_le (neg_ℤ (pos max_reach)) (pixel_of pen)) (int_lt (pixel_of pen) (pos side +ℤ pos max_reach)) h in
    sample_of_pixel side pen (pixel_of pen) (floor_div-below pen 16 (omega arith)) (floor_div-above pen 16 (omega arith)) (le_is _ _ p.0) (lt_is _ _ p.1)

pixel_near : (side : ℕ) (pen : ℤ) → IsSampleNear side pen → reaches side (pixel_of pen) ≡ true
pixel_near side pen h =
    let p = pixel_of_sample side pen (pixel_of pen) (floor_div-below pen 16 (omega arith)) (floor_div-above pen 16 (omega arith)) h.0 h.1 in
    both_pass (int_le (neg_ℤ (pos max_reach)) (pixel_of pen)) (int_lt (pixel_of pen) (pos side +ℤ pos max_reach)) (le_true _ _ p.0) (lt_true _ _ p.1)

near_reach : (size : Size) (pen : Point) → is_near_frame size (spot_of pen) ≡ true → MayReach size pen
near_reach size pen h =
    let p = and_parts (reaches size.w (pixel_of pen.x)) (reaches size.h (pixel_of pen.y)) h in
    record { across = sample_near size.w pen.x p.0; down = sample_near size.h pen.y p.1 }

reach_near : (size : Size) (pen : Point) → MayReach size pen → is_near_frame size (spot_of pen) ≡ true
reach_near size pen h = both_pass (reaches size.w (pixel_of pen.x)) (reaches size.h (pixel_of pen.y)) (pixel_near size.w pen.x h.across) (pixel_near size.h pen.y h.down)

small_by : (pen pixel : ℤ) (phase : ℕ) → pos phase ≡ pen -ℤ (pos 16 *ℤ pixel) → pen <ℤ ((pixel *ℤ pos 16) +ℤ pos 16) → phase < 16
small_by pen pixel phase e above = omega (arith, ints, e, above)

pub phase_small : (pen : ℤ) → phase_of pen < samples_across
phase_small pen = small_by pen (pixel_of pen) (phase_of pen) (phase_is pen) (floor_div-above pen 16 (omega arith))

sample_at : (x place pen pixel : ℤ) (phase : ℕ) → x ≡ place → pos phase ≡ pen -ℤ (pos 16 *ℤ pixel) → (pos 16 *ℤ (x +ℤ (pixel -ℤ place))) +ℤ pos phase ≡ pen
sample_at x place pen pixel phase e h = omega (arith, ints, e, h)

-- ---- parts

abbrev stamps_by : Stage → Making → (Placed → Option Mark) → List Placed → List Stamp
stamps_by stage making gives items = stamps_of stage making (filter_map gives items)

part_is : (stage : Stage) (making : Making) (leaves : Placed → Option (OutlineKey × Point)) (place : Spot) (draw : Draw) (item : Placed) (mark : Mark)
    → draw.x ≡ place.x → draw.y ≡ place.y → leaves item ≡ Some (bare_mark mark) → is_near_stamp stage (stamp_of stage making mark) ≡ true
    → IsItemMask leaves (making_pen stage making) stage.size draw item (part_from making place (stamp_of stage making mark))
part_is stage making leaves place draw item mark ex ey e near =
    let pen = making_pen stage making mark.pen in
    record {
      pen = mark.pen;
      left = e;
      near = near_reach stage.size pen near;
      stands =
          record {
            across = sample_at draw.x place.x pen.x (pixel_of pen.x) (phase_of pen.x) ex (phase_is pen.x);
            down = sample_at draw.y place.y pen.y (pixel_of pen.y) (phase_of pen.y) ey (phase_is pen.y);
            px = phase_small pen.x;
            py = phase_small pen.y;
          };
    }

left_out_by : (stage : Stage) (making : Making) (leaves : Placed → Option (OutlineKey × Point)) (item : Placed) (o : Option (OutlineKey × Point)) → leaves item ≡ o
    → IfSome o (λ (mark : OutlineKey × Point). MayReach stage.size (making_pen stage making mark.1) → ⊥) → IsLeftOut leaves (making_pen stage making) stage.size item
left_out_by stage making leaves item o e h =
    subst (λ (z : Option (OutlineKey × Point)). IfSome z (λ (mark : OutlineKey × Point). MayReach stage.size (making_pen stage making mark.1) → ⊥)) (sym e) h

kept_by : (stage : Stage) (making : Making) (leaves : Placed → Option (OutlineKey × Point)) (place : Spot) (draw : Draw) (item : Placed) (items : List Placed) (mark : Mark) (b : Bool)
    (stamps : List Stamp) → draw.x ≡ place.x → draw.y ≡ place.y → leaves item ≡ Some (bare_mark mark) → is_near_stamp stage (stamp_of stage making mark) ≡ b
    → AreParts leaves (making_pen stage making) stage.size draw items (map (part_from making place) stamps)
    → AreParts leaves (making_pen stage making) stage.size draw (item ∷ items) (map (part_from making place) (cond b (stamp_of stage making mark ∷ stamps) stamps))
kept_by stage making leaves place draw item items mark true stamps ex ey e near rest =
    inr (part_from making place (stamp_of stage making mark), map (part_from making place) stamps, refl, part_is stage making leaves place draw item mark ex ey e near, rest)
kept_by stage making leaves place draw item items mark false stamps ex ey e far rest =
    inl (left_out_by stage making leaves item (Some (bare_mark mark)) e (λ reach. false≢true (sym far ∙ reach_near stage.size (making_pen stage making mark.pen) reach)), rest)

given_by : (stage : Stage) (making : Making) (leaves : Placed → Option (OutlineKey × Point)) (gives : Placed → Option Mark) (place : Spot) (draw : Draw) (item : Placed) (items : List Placed)
    (o : Option Mark) → draw.x ≡ place.x → draw.y ≡ place.y → leaves item ≡ option_map bare_mark o
    → AreParts leaves (making_pen stage making) stage.size draw items (map (part_from making place) (stamps_by stage making gives items))
    → AreParts leaves (making_pen stage making) stage.size draw (item ∷ items) (map (part_from making place) (stamps_of stage making (cons_option o (filter_map gives items))))
given_by stage making leaves gives place draw item items None ex ey e rest = inl (left_out_by stage making leaves item None e tt, rest)
given_by stage making leaves gives place draw item items (Some mark) ex ey e rest =
    kept_by stage making leaves place draw item items mark (is_near_stamp stage (stamp_of stage making mark)) (stamps_by stage making gives items) ex ey e refl rest

parts_are : (stage : Stage) (making : Making) (leaves : Placed → Option (OutlineKey × Point)) (gives : Placed → Option Mark) (place : Spot) (draw : Draw) (items : List Placed)
    → LeaveMarks leaves gives → draw.x ≡ place.x → draw.y ≡ place.y
    → AreParts leaves (making_pen stage making) stage.size draw items (map (part_from making place) (stamps_by stage making gives items))
parts_are stage making leaves gives place draw [] same ex ey = refl
parts_are stage making leaves gives place draw (item ∷ items) same ex ey =
    given_by stage making leaves gives place draw item items (gives item) ex ey (same item) (parts_are stage making leaves gives place draw items same ex ey)

-- ---- draws

pub no_cons : {X : Type 0} (x : X) (xs : List X) → [] ≡ x ∷ xs → ⊥
no_cons x xs e = none-some x (ap (λ ys. slice_get ys 0) e)

all_left_out : (leaves : Placed → Option (OutlineKey × Point)) (pen : Point → Point) (size : Size) (draw : Draw) (items : List Placed) → AreParts leaves pen size draw items [] → All (IsLeftOut leaves pen size) items
all_left_out leaves pen size draw [] h = All-nil (IsLeftOut leaves pen size)
all_left_out leaves pen size draw (item ∷ items) (inl h) = All-cons (IsLeftOut leaves pen size) item items h.0 (all_left_out leaves pen size draw items h.1)
all_left_out leaves pen size draw (item ∷ items) (inr h) = absurd (no_cons h.0 h.1 h.2)

abbrev pub draw_made : Making → Paint → Clip → Stamp → List Stamp → Draw
draw_made making paint clip first rest = record {
  key = record { parts = map (part_from making first.spot) (first ∷ rest) };
  x = first.spot.x;
  y = first.spot.y;
  left = paint.left;
  right = paint.right;
  edge = paint.edge;
  clip = clip;
}

abbrev empty_draw : Paint → Clip → Spot → Draw
empty_draw paint clip place = record { key = record { parts = [] }; x = place.x; y = place.y; left = paint.left; right = paint.right; edge = paint.edge; clip = clip }

no_gap : (x : ℤ) → x -ℤ x ≡ pos 0
no_gap x = omega (arith, ints)

abbrev no_spot : Spot
no_spot = record { x = pos 0; y = pos 0; px = 0; py = 0 }

drawn_by : (stage : Stage) (making : Making) (paint : Paint) (clip : Clip) (leaves : Placed → Option (OutlineKey × Point)) (gives : Placed → Option Mark) (items : List Placed) (stamps : List Stamp)
    → LeaveMarks leaves gives → stamps_by stage making gives items ≡ stamps → AreDrawn leaves (making_pen stage making) stage.size items (draw_of making paint clip stamps)
drawn_by stage making paint clip leaves gives items [] same e =
    let draw = empty_draw paint clip no_spot in
    all_left_out leaves (making_pen stage making) stage.size draw items
    (subst (λ (ss : List Stamp). AreParts leaves (making_pen stage making) stage.size draw items (map (part_from making no_spot) ss)) e
    (parts_are stage making leaves gives no_spot draw items same refl refl))
drawn_by stage making paint clip leaves gives items (first ∷ rest) same e =
    let draw = draw_made making paint clip first rest in (
      subst (λ (ss : List Stamp). AreParts leaves (making_pen stage making) stage.size draw items (map (part_from making first.spot) ss)) e
          (parts_are stage making leaves gives first.spot draw items same refl refl),
      record {
        first = part_from making first.spot first;
        rest = map (part_from making first.spot) rest;
        parts = refl;
        column = no_gap first.spot.x;
        row = no_gap first.spot.y;
      },
    )

pub masks_drawn : (stage : Stage) (making : Making) (paint : Paint) (clip : Clip) (leaves : Placed → Option (OutlineKey × Point)) (gives : Placed → Option Mark) (items : List Placed) → LeaveMarks leaves gives
    → AreDrawn leaves (making_pen stage making) stage.size items (draw_of making paint clip (stamps_by stage making gives items))
masks_drawn stage making paint clip leaves gives items same = drawn_by stage making paint clip leaves gives items (stamps_by stage making gives items) same refl

-- What holds of the draw of any masks.
pub each_made : (P : Draw → Type 0) (making : Making) (paint : Paint) (clip : Clip) (stamps : List Stamp)
    → ((first : Stamp) (rest : List Stamp) → P (draw_made making paint clip first rest)) → All P (draw_of making paint clip stamps)
each_made P making paint clip [] h = All-nil P
each_made P making paint clip (first ∷ rest) h = All-cons P (draw_made making paint clip first rest) [] (h first rest) (All-nil P)

pub parts_made : (making : Making) (paint : Paint) (clip : Clip) (first : Stamp) (rest : List Stamp) → AreMadeBy making.radii making.softness (draw_made making paint clip first rest)
parts_made making paint clip first rest =
    All-map (IsMaskMadeBy making.radii making.softness) (part_from making first.spot) (first ∷ rest) (λ k d within. record { rx = refl; ry = refl; edges = refl; blur = refl })

-- ---- two draws of the same masks

zip_images : {X A B : Type 0} (R : A → B → Type 0) (f : X → A) (g : X → B) (xs : List X) → ((x : X) → R (f x) (g x)) → AllZip R (map f xs) (map g xs)
zip_images R f g [] h = tt
zip_images R f g (x ∷ xs) h = (h x, zip_images R f g xs h)

pub drawn_together : (a b : Making) (p q : Paint) (clip : Clip) (stamps : List Stamp) (under : Draw) → draw_of a p clip stamps ≡ under ∷ []
    → (over : Draw) × (draw_of b q clip stamps ≡ over ∷ []) × LieTogether under over × AreMadeBy b.radii b.softness over
drawn_together a b p q clip [] under e = absurd (no_cons under [] e)
drawn_together a b p q clip (first ∷ rest) under e =
    let over = draw_made b q clip first rest in
    let together : LieTogether (draw_made a p clip first rest) over = record {
      x = refl;
      y = refl;
      parts =
          zip_images HaveOnePlace (part_from a first.spot) (part_from b first.spot) (first ∷ rest)
          (λ stamp. record { outline = refl; px = refl; py = refl; dx = refl; dy = refl });
    } in
    (over, refl, subst (λ (d : Draw). LieTogether d over) (ap (λ (ds : List Draw). get_or ds 0 under) e) together, parts_made b q clip first rest)
