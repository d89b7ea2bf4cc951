-- What a fade leaves of colours, and the colours of fills.
use Rattle.std.proofs.Common.{◌≡◌, refl, sym, ap, ◌∙◌, ℕ, ◌+◌, ◌-◌, ◌*◌, ◌/◌, ◌<◌, ◌≤◌, Bool, true, false, ◌&&◌, cond, Option, Some, None, ℤ, ◌≤ℤ◌, ◌<ℤ◌, int_le, int_lt, subst, arith}
use Rattle.std.proofs.lemmas.Nat.{mul-le}
use Rattle.ass_num.proofs.OrderLemmas.{le_true, lt_false, lt_true}
use Rattle.ass_num.specs.declared.colour.Rgba.{Rgba}
use Rattle.draw_numbers.specs.Colours.{faded_colour, fill_paint, is_awaited, is_sweep, is_swept, plain_paint, primary, secondary, sung_paint, swept_paint}
use Rattle.draw_numbers.specs.declared.colours.Paint.{Paint}
use Rattle.mask_keys.specs.declared.plans.Draw.{Draw}
use Rattle.override_tags.specs.declared.view.State.{State}
use Rattle.override_tags.specs.declared.view.Syllable.{Syllable}
use Rattle.tag_arguments.specs.declared.kinds.Sung.{Sung}
use Rattle.tag_arguments.specs.declared.kinds.Sung.TheVariants.{Jump, Outline, Sweep}
use Rattle.draw_laws.proofs.ListPairs.{both_pass}
use Rattle.draw_laws.specs.Shades.{HasOneColour, HasFillColours, IsLeftOf, HasBothColours, primary_of, secondary_of}

-- ---- colours

least_left : (n : ℕ) → n ≤ 65025 → 255 * (255 - (255 - (n + 127) / 255)) ≤ n + 127
least_left n small = omega arith

most_left : (n : ℕ) → n ≤ 65025 → n < 255 * (255 - (255 - (n + 127) / 255)) + 128
most_left n small = omega arith

pub colour_left : (fade : ℕ) (colour : Rgba) → IsLeftOf fade colour (faded_colour fade colour)
colour_left fade colour =
    let small : (255 - colour.a) * (255 - fade) ≤ 65025 = mul-le (255 - colour.a) (255 - fade) 255 255 (omega arith) (omega arith) in
    record {
      red = refl;
      green = refl;
      blue = refl;
      least = least_left ((255 - colour.a) * (255 - fade)) small;
      most = most_left ((255 - colour.a) * (255 - fade)) small;
    }

-- a draw whose colours are those of a paint
pub record HasPaint (paint : Paint) (draw : Draw) : Type 0 where
  pub left : draw.left ≡ paint.left
  pub right : draw.right ≡ paint.right

painted_as : (p q : Paint) (draw : Draw) → p ≡ q → HasPaint p draw → HasPaint q draw
painted_as p q draw e h = subst (λ (z : Paint). HasPaint z draw) e h

pub one_colour_left : (fade : ℕ) (colour : Rgba) (draw : Draw) → HasPaint (plain_paint (faded_colour fade colour)) draw → HasOneColour fade colour draw
one_colour_left fade colour draw h = record {
  left = subst (λ (c : Rgba). IsLeftOf fade colour c) (sym h.left) (colour_left fade colour);
  same = h.right ∙ sym h.left;
}

both_left : (fade : ℕ) (elapsed : ℤ) (state : State) (l r : ℤ) (s : Syllable) (draw : Draw) → HasPaint (swept_paint fade elapsed state l r s) draw → HasBothColours fade state draw
both_left fade elapsed state l r s draw h = record {
  left = subst (λ (c : Rgba). IsLeftOf fade (primary_of state) c) (sym h.left) (colour_left fade (primary_of state));
  right = subst (λ (c : Rgba). IsLeftOf fade (secondary_of state) c) (sym h.right) (colour_left fade (secondary_of state));
}

-- ---- fills

-- the paint of a state with this syllable
abbrev paint_with : ℕ → ℤ → State → ℤ → ℤ → Option Syllable → Paint
paint_with fade elapsed state l r sung = cond (is_awaited elapsed sung) (plain_paint (secondary fade state)) (sung_paint fade elapsed state l r sung)

not_swept : (kind : Sung) (b c : Bool) → (kind ≡ Sweep → c ≡ false) → (is_sweep kind && (b && c)) ≡ false
not_swept Jump b c h = refl
not_swept Outline b c h = refl
not_swept Sweep true c h = h refl
not_swept Sweep false c h = refl

before_begin : (fade : ℕ) (elapsed : ℤ) (state : State) (l r : ℤ) (s : Syllable) → elapsed <ℤ s.begin → paint_with fade elapsed state l r (Some s) ≡ plain_paint (secondary fade state)
before_begin fade elapsed state l r s early =
    ap (λ (b : Bool). cond b (plain_paint (secondary fade state)) (sung_paint fade elapsed state l r (Some s))) (lt_true elapsed s.begin early)

since_begin : (fade : ℕ) (elapsed : ℤ) (state : State) (l r : ℤ) (s : Syllable) → s.begin ≤ℤ elapsed
    → paint_with fade elapsed state l r (Some s) ≡ cond (is_swept elapsed s) (swept_paint fade elapsed state l r s) (plain_paint (primary fade state))
since_begin fade elapsed state l r s begun =
    ap (λ (b : Bool). cond b (plain_paint (secondary fade state)) (sung_paint fade elapsed state l r (Some s))) (lt_false elapsed s.begin begun)

in_sweep : (fade : ℕ) (elapsed : ℤ) (state : State) (l r : ℤ) (s : Syllable) → s.kind ≡ Sweep → s.begin ≤ℤ elapsed → elapsed <ℤ s.end
    → paint_with fade elapsed state l r (Some s) ≡ swept_paint fade elapsed state l r s
in_sweep fade elapsed state l r s sweep begun early =
    let now : is_swept elapsed s ≡ true =
    both_pass (is_sweep s.kind) _ (ap is_sweep sweep) (both_pass (int_le s.begin elapsed) (int_lt elapsed s.end) (le_true s.begin elapsed begun) (lt_true elapsed s.end early)) in
    since_begin fade elapsed state l r s begun ∙ ap (λ (b : Bool). cond b (swept_paint fade elapsed state l r s) (plain_paint (primary fade state))) now

once_sung : (fade : ℕ) (elapsed : ℤ) (state : State) (l r : ℤ) (s : Syllable) → s.begin ≤ℤ elapsed → (s.kind ≡ Sweep → s.end ≤ℤ elapsed)
    → paint_with fade elapsed state l r (Some s) ≡ plain_paint (primary fade state)
once_sung fade elapsed state l r s begun over =
    let never : is_swept elapsed s ≡ false = not_swept s.kind (int_le s.begin elapsed) (int_lt elapsed s.end) (λ h. lt_false elapsed s.end (over h)) in
    since_begin fade elapsed state l r s begun ∙ ap (λ (b : Bool). cond b (swept_paint fade elapsed state l r s) (plain_paint (primary fade state))) never

pub filled_left : (fade : ℕ) (elapsed : ℤ) (state : State) (l r : ℤ) (draw : Draw) → HasPaint (fill_paint fade elapsed state l r) draw → HasFillColours fade elapsed state draw
filled_left fade elapsed state l r draw h =
    let painted = λ (o : Option Syllable) (q : Paint) (e : state.sung ≡ o) (k : paint_with fade elapsed state l r o ≡ q).
    painted_as (fill_paint fade elapsed state l r) q draw (ap (paint_with fade elapsed state l r) e ∙ k) h in
    record {
      unsung = λ e. one_colour_left fade (primary_of state) draw (painted None (plain_paint (primary fade state)) e refl);
      awaited = λ s e early. one_colour_left fade (secondary_of state) draw (painted (Some s) (plain_paint (secondary fade state)) e (before_begin fade elapsed state l r s early));
      swept = λ s e sweep begun early. both_left fade elapsed state l r s draw (painted (Some s) (swept_paint fade elapsed state l r s) e (in_sweep fade elapsed state l r s sweep begun early));
      sung = λ s e begun over. one_colour_left fade (primary_of state) draw (painted (Some s) (plain_paint (primary fade state)) e (once_sung fade elapsed state l r s begun over));
    }
