-- Whole pixels move all draws of an event.
use Rattle.std.proofs.Common.{◌≡◌, sym, ap, ◌∙◌, Option, option_map, List, ◌++◌, flat_map, ℤ, subst}
use Rattle.std.specs.List.{All, AllZip}
use Rattle.std.specs.Prelude.{slice_index_or}
use Rattle.ass_events.specs.declared.event.Event.{Event}
use Rattle.ass_num.specs.Limits.{IsFrameSize}
use Rattle.ass_script.specs.Scripts.{ScriptValue}
use Rattle.bdf_font.specs.Fonts.{FontValue}
use Rattle.event_draws.specs.Clips.{clip_by}
use Rattle.event_draws.specs.EventDraws.{draw_rows, event_draws, row_borders, row_fills, row_on, row_shadows}
use Rattle.event_draws.specs.Items.{items_of}
use Rattle.event_draws.specs.Stages.{stage_at}
use Rattle.event_draws.specs.declared.stage.Stage.{Stage}
use Rattle.frame_view.specs.FrameScales.{IsScales}
use Rattle.frame_view.specs.declared.view.FrameView.{FrameView}
use Rattle.mask_keys.specs.declared.plans.Clip.{Clip}
use Rattle.mask_keys.specs.declared.plans.Draw.{Draw}
use Rattle.override_tags.specs.declared.view.EventView.{EventView}
use Rattle.text_layout.specs.LineScales.{line_scales}
use Rattle.text_layout.specs.declared.laid.Laid.{Laid}
use Rattle.text_layout.specs.declared.laid.Line.{Line}
use Rattle.draw_laws.specs.Moves.{IsMovedDraw, IsNearFrame, IsWholeMove, WholePixelsMoveDraws, place_farther, view_at}
use Rattle.draw_laws.proofs.ListPairs.{zip_append, zip_flat}
use Rattle.draw_laws.proofs.MovedRuns.{AreRowDrawsMoved, later, row_moved}
use Rattle.draw_laws.proofs.MovedStages.{stage_moved}
use Rattle.draw_laws.proofs.MovedViews.{same_draws, same_near}

each_line : (stage : Stage) (fonts : List FontValue) (view : EventView) (laid : Laid) (columns rows : ℤ) (clip : Clip) → IsFrameSize stage.size
    → IsNearFrame stage fonts view laid → IsNearFrame (later stage columns rows) fonts view laid
    → All (λ (line : Line). AreRowDrawsMoved stage columns rows clip (row_on stage fonts view laid line) (row_on (later stage columns rows) fonts view laid line)) laid.lines
each_line stage fonts view laid columns rows clip framed near far = λ k d within.
    row_moved stage fonts view (slice_index_or laid.lines k d) (items_of laid (slice_index_or laid.lines k d)) columns rows clip framed (near k d within) (far k d within)

-- The draws of an event on a stage that is moved by whole pixels.
stage_draws_moved : (stage : Stage) (fonts : List FontValue) (view : EventView) (laid : Laid) (columns rows : ℤ) → IsFrameSize stage.size
    → IsNearFrame stage fonts view laid → IsNearFrame (later stage columns rows) fonts view laid
    → AllZip (IsMovedDraw stage.size columns rows) (event_draws stage fonts view laid) (event_draws (later stage columns rows) fonts view laid)
stage_draws_moved stage fonts view laid columns rows framed near far =
    let R = IsMovedDraw stage.size columns rows in
    let clip = clip_by stage.scales view.clip in
    let moved = later stage columns rows in
    let here = draw_rows stage fonts view laid in
    let there = draw_rows moved fonts view laid in
    let each = each_line stage fonts view laid columns rows clip framed near far in
    zip_append R (flat_map (row_shadows stage clip) here ++ flat_map (row_borders stage clip) here) (flat_map (row_shadows moved clip) there ++ flat_map (row_borders moved clip) there)
    (flat_map (row_fills stage clip) here) (flat_map (row_fills moved clip) there)
    (zip_append R (flat_map (row_shadows stage clip) here) (flat_map (row_shadows moved clip) there) (flat_map (row_borders stage clip) here) (flat_map (row_borders moved clip) there)
    (zip_flat R (row_shadows stage clip) (row_shadows moved clip) (row_on stage fonts view laid) (row_on moved fonts view laid) laid.lines (λ k d within. (each k d within).shadows))
    (zip_flat R (row_borders stage clip) (row_borders moved clip) (row_on stage fonts view laid) (row_on moved fonts view laid) laid.lines (λ k d within. (each k d within).borders)))
    (zip_flat R (row_fills stage clip) (row_fills moved clip) (row_on stage fonts view laid) (row_on moved fonts view laid) laid.lines (λ k d within. (each k d within).fills))

event_moved : (script : ScriptValue) (fonts : List FontValue) (event : Event) (t : ℤ) (frame : FrameView) (view : EventView) (place by : ℤ × ℤ) (origin : Option (ℤ × ℤ))
    (columns rows : ℤ) (laid : Laid) (shift : ℤ) → IsFrameSize frame.size → IsScales (line_scales script.header frame (view_at view place origin))
    → IsWholeMove (line_scales script.header frame (view_at view place origin)) by columns rows
    → IsNearFrame (stage_at script event t frame (view_at view place origin) laid shift) fonts (view_at view place origin) laid
    → IsNearFrame (stage_at script event t frame (view_at view (place_farther by place) (option_map (place_farther by) origin)) laid shift) fonts
    (view_at view (place_farther by place) (option_map (place_farther by) origin)) laid
    → AllZip (IsMovedDraw frame.size columns rows) (event_draws (stage_at script event t frame (view_at view place origin) laid shift) fonts (view_at view place origin) laid)
    (event_draws (stage_at script event t frame (view_at view (place_farther by place) (option_map (place_farther by) origin)) laid shift) fonts
    (view_at view (place_farther by place) (option_map (place_farther by) origin)) laid)
event_moved script fonts event t frame view place by origin columns rows laid shift framed scaled whole near far =
    let old = view_at view place origin in
    let new = view_at view (place_farther by place) (option_map (place_farther by) origin) in
    let stage = stage_at script event t frame old laid shift in
    let moved = later stage columns rows in
    let e : stage_at script event t frame new laid shift ≡ moved = stage_moved script event t frame view laid shift place by origin columns rows scaled whole in
    let there : IsNearFrame moved fonts old laid =
    same_near moved fonts old (place_farther by place) (option_map (place_farther by) origin) laid (subst (λ (s : Stage). IsNearFrame s fonts new laid) e far) in
    let draws : event_draws (stage_at script event t frame new laid shift) fonts new laid ≡ event_draws moved fonts old laid =
    ap (λ (s : Stage). event_draws s fonts new laid) e ∙ same_draws moved fonts old (place_farther by place) (option_map (place_farther by) origin) laid in
    subst (λ (ds : List Draw). AllZip (IsMovedDraw frame.size columns rows) (event_draws stage fonts old laid) ds) (sym draws)
    (stage_draws_moved stage fonts old laid columns rows framed near there)

pub whole_pixels_move : WholePixelsMoveDraws
whole_pixels_move script fonts event t frame view place by origin columns rows framed scaled whole = record {
  layouts = λ laid h. h;
  draws = λ laid shift near far. event_moved script fonts event t frame view place by origin columns rows laid shift framed scaled whole near far;
}
