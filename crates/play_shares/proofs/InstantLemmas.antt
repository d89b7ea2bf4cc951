-- Instants.
use Rattle.std.proofs.Common.{◌≡◌, ℕ, ◌+◌, ◌-◌, ◌*◌, ◌/◌, ◌%◌, ◌^◌, ◌<◌, ◌≤◌, pos, List, [], ◌∷◌, ◌++◌, take, drop, Some, None, sym, ap, subst, ◌∙◌, arith, FitsSigned, to_z, w64}
use Rattle.std.specs.Int.{div_ceil}
use Rattle.std.specs.List.{slice_get}
use Rattle.std.proofs.lemmas.Grind.{div_ceil_times}
use Rattle.std.proofs.lemmas.Int.{ints, to_z_pos}
use Rattle.std.proofs.lemmas.List.FromFn.{get_or-map-range_with_len, length-map-range_with_len}
use Rattle.std.proofs.lemmas.Nat.{div-add-mod', mul-le}
use Rattle.std.proofs.lemmas.Option.{slice_get-get_or, slice_get_past}
use Rattle.ass_num.specs.Limits.{max_instant}
use Rattle.frame_rate.specs.Instants.{rated_instant}
use Rattle.frame_rate.proofs.InstantLemmas.{instant_within, instants_few}
use Rattle.run_words.specs.Jobs.{IsPlay}
use Rattle.run_words.specs.declared.job.PlayJob.{PlayJob}
use Rattle.play_shares.specs.Instants.{instant_count, play_instant, instants}
use Rattle.play_shares.proofs.Parts.{part_ends, part_more}

pub ceil_enough : (d s : ℕ) → 0 < s → d ≤ div_ceil d s * s
ceil_enough d s some = (div_ceil_times d s some).0

pub ceil_few : (d s : ℕ) → 0 < s → div_ceil d s ≤ d
ceil_few d s some =
    let split : d / s * s + d % s ≡ d = div-add-mod' d s in
    let least : d / s * 1 ≤ d / s * s = mul-le (d / s) 1 (d / s) s (omega arith) (omega (arith, some)) in
    omega (arith, split, least)

-- so that all times of a play have fewer than can't be counted
pub few_instants : (play : PlayJob) → IsPlay play → instant_count play ≤ 1000 * max_instant
few_instants play is = instants_few play.instants is.instants

module _ (play : PlayJob) (place : ℕ) where
  pub instant_there : place < instant_count play → slice_get (instants play) place ≡ Some (play_instant play place)
  instant_there lt =
      let long = length-map-range_with_len (play_instant play) 0 (instant_count play) in
      slice_get-get_or (instants play) place (pos 0) (subst (λ (n : ℕ). place < n) (sym long) lt)
      ∙ ap Some (get_or-map-range_with_len (play_instant play) 0 (instant_count play) place place (pos 0) lt (omega arith))

  pub instant_gone : instant_count play ≤ place → slice_get (instants play) place ≡ None
  instant_gone le =
      let long = length-map-range_with_len (play_instant play) 0 (instant_count play) in
      slice_get_past (instants play) place (subst (λ (n : ℕ). n ≤ place) (sym long) le)

-- an instant is before the end, and so within the limit
module _ (play : PlayJob) (place t : ℕ) (is : IsPlay play) (there : place < instant_count play) (at : t ≡ rated_instant play.instants place) where
  instant_fits : t ≤ max_instant
  instant_fits = (let within = instant_within play.instants place is.instants there in omega (arith, at, within))

  pub instant_signed : FitsSigned w64 (pos t)
  instant_signed = let most = instant_fits in omega (arith, ints, most)

  pub instant_here : Some (to_z w64 t) ≡ slice_get (instants play) place
  instant_here =
      let low : t < 2 ^ 63 = let most = instant_fits in omega (arith, most) in
      ap Some (to_z_pos w64 t low ∙ ap (λ n. pos n) at) ∙ sym (instant_there play place there)

module _ {X : Type 0} (xs : List X) (first place : ℕ) (from : first ≤ place) where
  here_is : first + (place - first) ≡ place
  here_is = omega (arith, from)

  pub ahead_more : (list next : List X) (x : X) → list ≡ take (place - first) (drop first xs) → slice_get xs place ≡ Some x → next ≡ list ++ x ∷ []
      → next ≡ take (place + 1 - first) (drop first xs)
  ahead_more list next x was here is =
      let more : place + 1 - first ≡ place - first + 1 = omega (arith, from) in
      is ∙ ap (λ z. z ++ x ∷ []) was ∙ sym (part_more xs first (place - first) x (ap (slice_get xs) here_is ∙ here)) ∙ ap (λ n. take n (drop first xs)) (sym more)

  pub ahead_ends : (list : List X) (n : ℕ) (d : X) → list ≡ take (place - first) (drop first xs) → slice_get xs place ≡ None → place ≤ first + n → list ≡ take n (drop first xs)
  ahead_ends list n d was here le =
      was ∙ sym (part_ends xs first (place - first) n d (ap (slice_get xs) here_is ∙ here) (omega (arith, from, le)))
