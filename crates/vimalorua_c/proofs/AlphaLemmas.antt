-- What a call of a seat that draws with alpha shows, by each status that it may tell.
use Rattle.std.proofs.Common.{◌≡◌, inl, inr, ℕ, ◌*◌, ◌<◌, ◌≤◌, List, length, ℤ, pos, refl, arith}
use Rattle.std.proofs.lemmas.Int.{ints}
use Rattle.alpha_canvas.specs.declared.pixel.AlphaForm.{AlphaForm}
use Rattle.ass_num.specs.Limits.{IsWithin, max_instant}
use Rattle.frame_view.specs.declared.view.FrameView.{FrameView}
use Rattle.shared_player.specs.Seats.{SharedSeatView}
use Rattle.shared_player.specs.Shown.{ShowsAlphaHistory}
use Rattle.shared_player.specs.Tries.{IsLookRefused}
use Rattle.track_history.specs.declared.answers.LookRefusal.{LookRefusal}
use Rattle.track_history.specs.declared.answers.LookRefusal.TheVariants as look
use Rattle.vimalorua_c.specs.Alpha.{IsAlphaTried, IsBadAlphaDraw}
use Rattle.vimalorua_c.specs.Statuses.{look_status}
use Rattle.vimalorua_c.specs.Views.{AreViewNumbers}
use Rattle.vimalorua_c.specs.declared.views.ViewNumbers.{ViewNumbers}
use Rattle.vimalorua_c.proofs.SeatLemmas.{empty, not_empty}

pub good_alpha_draw : (at : ℤ) (numbers : ViewNumbers) (form : ℕ) (out : List ℕ) → AreViewNumbers numbers × IsWithin max_instant at → form ≤ 1 → length out ≡ 4 * (numbers.h * numbers.w) → IsBadAlphaDraw at numbers form out → ⊥
good_alpha_draw at numbers form out seen small fits (inl bad) = bad seen
good_alpha_draw at numbers form out seen small fits (inr (inl large)) = absurd (omega (arith, small, large))
good_alpha_draw at numbers form out seen small fits (inr (inr other)) = other fits

module _ (at : ℤ) (frame : FrameView) (form : AlphaForm) (before : List ℕ) where
  pub nothing_drawn : (entries : ℕ) (seat : SharedSeatView) → entries ≡ 0 → length seat.fonts ≡ 0 → IsAlphaTried at frame form before before entries (pos 9) seat seat
  nothing_drawn entries seat untold none = record {
    fonts = ((λ e. empty seat.fonts none), (λ e. refl));
    shown = λ e. absurd (omega (arith, ints, e));
    unshown = λ e. refl;
    busy = λ e. absurd (omega (arith, ints, e));
    wanting = λ e. absurd (omega (arith, ints, e));
    else_same = λ other. (refl, untold);
    same = refl;
    others = λ not_done has_font not_busy. absurd (has_font refl);
  }

  pub alpha_drawn : (after : List ℕ) (entries : ℕ) (old new : SharedSeatView) → 0 < length old.fonts → ShowsAlphaHistory old new at frame form after entries → new ≡ record old { track = new.track }
      → IsAlphaTried at frame form before after entries (pos 0) old new
  alpha_drawn after entries old new some shows track = record {
    fonts = ((λ e. absurd (omega (arith, ints, e))), (λ none. absurd (not_empty old.fonts some none)));
    shown = λ e. shows;
    unshown = λ e. absurd (omega (arith, ints, e));
    busy = λ e. absurd (omega (arith, ints, e));
    wanting = λ e. absurd (omega (arith, ints, e));
    else_same = λ other. absurd (other refl);
    same = track;
    others = λ not_done has_font not_busy. absurd (not_done refl);
  }

  pub refused_draw : (after : List ℕ) (entries : ℕ) (refusal : LookRefusal) (old new : SharedSeatView) → after ≡ before → entries ≡ 0 → 0 < length old.fonts → IsLookRefused old.track new.track refusal
      → new ≡ record old { track = new.track } → IsAlphaTried at frame form before after entries (look_status refusal) old new
  refused_draw after entries look.TurnOut old new stays untold some refused track = record {
    fonts = ((λ e. absurd (omega (arith, ints, e))), (λ none. absurd (not_empty old.fonts some none)));
    shown = λ e. absurd (omega (arith, ints, e));
    unshown = λ e. absurd (omega (arith, ints, e));
    busy = λ e. refused;
    wanting = λ e. absurd (omega (arith, ints, e));
    else_same = λ other. (stays, untold);
    same = track;
    others = λ not_done has_font not_busy. absurd (not_busy refl);
  }
  refused_draw after entries look.OutOfMemory old new stays untold some refused track = record {
    fonts = ((λ e. absurd (omega (arith, ints, e))), (λ none. absurd (not_empty old.fonts some none)));
    shown = λ e. absurd (omega (arith, ints, e));
    unshown = λ e. absurd (omega (arith, ints, e));
    busy = λ e. absurd (omega (arith, ints, e));
    wanting = λ e. refused;
    else_same = λ other. (stays, untold);
    same = track;
    others = λ not_done has_font not_busy. refl;
  }
