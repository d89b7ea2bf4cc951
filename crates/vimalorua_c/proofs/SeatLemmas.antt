-- What a call of a seat shows, by each status that it may tell.
use Rattle.std.proofs.Common.{◌≡◌, inl, inr, ℕ, ◌*◌, ◌<◌, true, List, [], ◌∷◌, length, ℤ, pos, Some, None, refl, sym, ap, ◌∙◌, arith}
use Rattle.std.proofs.lemmas.Bool.{false≢true}
use Rattle.std.proofs.lemmas.Int.{ints}
use Rattle.ass_num.specs.Limits.{IsWithin, max_instant}
use Rattle.bdf_font.specs.Fonts.{FontValue}
use Rattle.frame_view.specs.declared.view.FrameView.{FrameView}
use Rattle.player.specs.Players.{PlayerView, mask_bytes}
use Rattle.shared_player.specs.Seats.{IsShareRefused, IsSplitRefused, SharedSeatView}
use Rattle.shared_player.specs.Shown.{ListsHistory, ShowsHistory}
use Rattle.shared_player.specs.Tries.{IsLookRefused}
use Rattle.shared_player.specs.declared.answers.Drawn.{Drawn}
use Rattle.shared_player.specs.declared.answers.ListChange.{ListChange}
use Rattle.shared_player.specs.declared.refusals.ShareRefusal.{ShareRefusal}
use Rattle.shared_player.specs.declared.refusals.ShareRefusal.TheVariants as share
use Rattle.shared_player.specs.declared.refusals.SplitRefusal.{SplitRefusal}
use Rattle.shared_player.specs.declared.refusals.SplitRefusal.TheVariants as split
use Rattle.track_history.specs.LocalTracks.{new_track}
use Rattle.track_history.specs.declared.answers.LookRefusal.{LookRefusal}
use Rattle.track_history.specs.declared.answers.LookRefusal.TheVariants as look
use Rattle.turn_cell.specs.Passes.{split_pass}
use Rattle.vimalorua_c.specs.Calls.{IsBadDrawIn}
use Rattle.vimalorua_c.specs.SeatCalls.{IsDrawTried, IsListTried, IsPlayerShared, IsSeatSplit}
use Rattle.vimalorua_c.specs.Statuses.{change_number, look_status, share_status, split_status}
use Rattle.vimalorua_c.specs.Views.{AreViewNumbers}
use Rattle.vimalorua_c.specs.declared.views.ViewNumbers.{ViewNumbers}

pub empty : (fonts : List FontValue) → length fonts ≡ 0 → fonts ≡ []
empty [] none = refl
empty (font ∷ fonts) none = absurd (omega (arith, none))

pub not_empty : (fonts : List FontValue) → 0 < length fonts → fonts ≡ [] → ⊥
not_empty [] some none = absurd (omega (arith, some))
not_empty (font ∷ fonts) some none = absurd (omega (arith, ap length none))

-- ---- making seats

pub shared_told : (player : PlayerView) → player.track ≡ new_track → IsPlayerShared (pos 0) (Some player) None
shared_told player unfed = record {
  shared = λ e. (player, refl, unfed, refl);
  fed = λ e. absurd (omega (arith, ints, e));
  closed = λ e. absurd (omega (arith, ints, e));
  else_same = λ other. absurd (other refl);
  others = λ not_done not_fed not_closed. absurd (not_done refl);
}

pub unshared_told : (player : PlayerView) (refusal : ShareRefusal) → IsShareRefused player refusal → IsPlayerShared (share_status refusal) (Some player) (Some player)
unshared_told player share.WasFed refused = record {
  shared = λ e. absurd (omega (arith, ints, e));
  fed = λ e. (player, refl, refused);
  closed = λ e. absurd (omega (arith, ints, e));
  else_same = λ other. refl;
  others = λ not_done not_fed not_closed. absurd (not_fed refl);
}
unshared_told player share.OutOfMemory refused = record {
  shared = λ e. absurd (omega (arith, ints, e));
  fed = λ e. absurd (omega (arith, ints, e));
  closed = λ e. absurd (omega (arith, ints, e));
  else_same = λ other. refl;
  others = λ not_done not_fed not_closed. refl;
}

pub split_told : (old new : SharedSeatView) → old.first ≡ true → new ≡ record old { track = split_pass old.track } → IsSeatSplit (pos 0) old new
split_told old new first is = record {
  split = λ e. (first, is);
  not_first = ((λ e. absurd (omega (arith, ints, e))), (λ other. absurd (false≢true (sym other ∙ first))));
  many = λ e. absurd (omega (arith, ints, e));
  else_same = λ other. absurd (other refl);
  others = λ not_done is_first not_many. absurd (not_done refl);
}

pub unsplit_told : (old : SharedSeatView) (refusal : SplitRefusal) → IsSplitRefused old refusal → IsSeatSplit (split_status refusal) old old
unsplit_told old split.NotFirst refused = record {
  split = λ e. absurd (omega (arith, ints, e));
  not_first = ((λ e. refused), (λ other. refl));
  many = λ e. absurd (omega (arith, ints, e));
  else_same = λ other. refl;
  others = λ not_done is_first not_many. absurd (is_first refl);
}
unsplit_told old split.TooMany refused = record {
  split = λ e. absurd (omega (arith, ints, e));
  not_first = ((λ e. absurd (omega (arith, ints, e))), (λ other. absurd (false≢true (sym other ∙ refused.0))));
  many = λ e. refused.1;
  else_same = λ other. refl;
  others = λ not_done is_first not_many. absurd (not_many refl);
}
unsplit_told old split.OutOfMemory refused = record {
  split = λ e. absurd (omega (arith, ints, e));
  not_first = ((λ e. absurd (omega (arith, ints, e))), (λ other. absurd (false≢true (sym other ∙ refused))));
  many = λ e. absurd (omega (arith, ints, e));
  else_same = λ other. refl;
  others = λ not_done is_first not_many. refl;
}

-- ---- pictures

pub good_draw : (at : ℤ) (numbers : ViewNumbers) (out : List ℕ) → AreViewNumbers numbers × IsWithin max_instant at → length out ≡ 3 * (numbers.w * numbers.h) → IsBadDrawIn at numbers out → ⊥
good_draw at numbers out seen fits (inl bad) = bad seen
good_draw at numbers out seen fits (inr other) = other fits

module _ (at : ℤ) (frame : FrameView) (before : List ℕ) where
  pub nothing_drawn : (entries : ℕ) (seat : SharedSeatView) → entries ≡ 0 → length seat.fonts ≡ 0 → IsDrawTried at frame before before entries (pos 9) seat seat
  nothing_drawn entries seat untold none = record {
    fonts = ((λ e. empty seat.fonts none), (λ e. refl));
    shown = λ e. absurd (omega (arith, ints, e));
    unshown = λ e. refl;
    busy = λ e. absurd (omega (arith, ints, e));
    wanting = λ e. absurd (omega (arith, ints, e));
    else_same = λ other. (refl, untold);
    same = refl;
    others = λ not_done has_font not_busy. absurd (has_font refl);
  }

  pub picture_drawn : (after : List ℕ) (drawn : Drawn) (old new : SharedSeatView) → 0 < length old.fonts → ShowsHistory old new at frame drawn → after ≡ drawn.canvas.bytes
      → new ≡ record old { track = new.track } → IsDrawTried at frame before after drawn.entries (pos 0) old new
  picture_drawn after drawn old new some shows is track = record {
    fonts = ((λ e. absurd (omega (arith, ints, e))), (λ none. absurd (not_empty old.fonts some none)));
    shown = λ e. (drawn.canvas, shows, is);
    unshown = λ e. absurd (omega (arith, ints, e));
    busy = λ e. absurd (omega (arith, ints, e));
    wanting = λ e. absurd (omega (arith, ints, e));
    else_same = λ other. absurd (other refl);
    same = track;
    others = λ not_done has_font not_busy. absurd (not_done refl);
  }

  pub refused_draw : (entries : ℕ) (refusal : LookRefusal) (old new : SharedSeatView) → entries ≡ 0 → 0 < length old.fonts → IsLookRefused old.track new.track refusal
      → new ≡ record old { track = new.track } → IsDrawTried at frame before before entries (look_status refusal) old new
  refused_draw entries look.TurnOut old new untold some refused track = record {
    fonts = ((λ e. absurd (omega (arith, ints, e))), (λ none. absurd (not_empty old.fonts some none)));
    shown = λ e. absurd (omega (arith, ints, e));
    unshown = λ e. absurd (omega (arith, ints, e));
    busy = λ e. refused;
    wanting = λ e. absurd (omega (arith, ints, e));
    else_same = λ other. (refl, untold);
    same = track;
    others = λ not_done has_font not_busy. absurd (not_busy refl);
  }
  refused_draw entries look.OutOfMemory old new untold some refused track = record {
    fonts = ((λ e. absurd (omega (arith, ints, e))), (λ none. absurd (not_empty old.fonts some none)));
    shown = λ e. absurd (omega (arith, ints, e));
    unshown = λ e. absurd (omega (arith, ints, e));
    busy = λ e. absurd (omega (arith, ints, e));
    wanting = λ e. refused;
    else_same = λ other. (refl, untold);
    same = track;
    others = λ not_done has_font not_busy. refl;
  }

module _ (at : ℤ) (frame : FrameView) (before : ℤ) where
  pub nothing_listed : (entries : ℕ) (seat : SharedSeatView) → entries ≡ 0 → length seat.fonts ≡ 0
      → IsListTried at frame (pos 9) before before (length seat.images) (mask_bytes seat.images) entries seat seat
  nothing_listed entries seat untold none = record {
    fonts = ((λ e. empty seat.fonts none), (λ e. refl));
    listed = λ e. absurd (omega (arith, ints, e));
    unlisted = λ e. refl;
    busy = λ e. absurd (omega (arith, ints, e));
    wanting = λ e. absurd (omega (arith, ints, e));
    else_same = λ other. (refl, refl, untold);
    only_images = refl;
    count_is = refl;
    bytes_is = refl;
    others = λ not_done has_font not_busy. absurd (has_font refl);
  }

  pub images_listed : (listed : ListChange) (old new : SharedSeatView) → 0 < length old.fonts → ListsHistory old new at frame listed
      → new ≡ record old { track = new.track; images = new.images }
      → IsListTried at frame (pos 0) before (change_number listed.change) (length new.images) (mask_bytes new.images) listed.entries old new
  images_listed listed old new some lists only = record {
    fonts = ((λ e. absurd (omega (arith, ints, e))), (λ none. absurd (not_empty old.fonts some none)));
    listed = λ e. (listed.change, lists, refl);
    unlisted = λ e. absurd (omega (arith, ints, e));
    busy = λ e. absurd (omega (arith, ints, e));
    wanting = λ e. absurd (omega (arith, ints, e));
    else_same = λ other. absurd (other refl);
    only_images = only;
    count_is = refl;
    bytes_is = refl;
    others = λ not_done has_font not_busy. absurd (not_done refl);
  }

  pub refused_list : (entries : ℕ) (refusal : LookRefusal) (old new : SharedSeatView) → entries ≡ 0 → 0 < length old.fonts → IsLookRefused old.track new.track refusal
      → new ≡ record old { track = new.track; images = new.images } → new.images ≡ old.images
      → IsListTried at frame (look_status refusal) before before (length new.images) (mask_bytes new.images) entries old new
  refused_list entries look.TurnOut old new untold some refused only images = record {
    fonts = ((λ e. absurd (omega (arith, ints, e))), (λ none. absurd (not_empty old.fonts some none)));
    listed = λ e. absurd (omega (arith, ints, e));
    unlisted = λ e. absurd (omega (arith, ints, e));
    busy = λ e. refused;
    wanting = λ e. absurd (omega (arith, ints, e));
    else_same = λ other. (images, refl, untold);
    only_images = only;
    count_is = refl;
    bytes_is = refl;
    others = λ not_done has_font not_busy. absurd (not_busy refl);
  }
  refused_list entries look.OutOfMemory old new untold some refused only images = record {
    fonts = ((λ e. absurd (omega (arith, ints, e))), (λ none. absurd (not_empty old.fonts some none)));
    listed = λ e. absurd (omega (arith, ints, e));
    unlisted = λ e. absurd (omega (arith, ints, e));
    busy = λ e. absurd (omega (arith, ints, e));
    wanting = λ e. refused;
    else_same = λ other. (images, refl, untold);
    only_images = only;
    count_is = refl;
    bytes_is = refl;
    others = λ not_done has_font not_busy. refl;
  }
