-- Puts, one after another.
use Rattle.std.proofs.Common.{◌≡◌, ℕ, ◌+◌, ◌<◌, ◌≤◌, List, [], ◌∷◌, ◌++◌, length, take, drop, min, Option, None, Some, refl, sym, ap, subst, ◌∙◌, arith, append-nil, append_assoc}
use Rattle.std.specs.Io.KnownBytes.{Appends, Keeps}
use Rattle.std.specs.Global.{Vec}
use Rattle.std.specs.List.{flat_map, slice_index_or}
use Rattle.std.proofs.KnownBytes.{Appends-nil, Appends-trans}
use Rattle.std.proofs.Math.Seq.{take-append-add}
use Rattle.std.proofs.lemmas.Grind.{flat_map-append}
use Rattle.std.proofs.lemmas.List.{length-map, map-append, take-append-drop, take-append-le, take_min, take_more}
use Rattle.std.proofs.lemmas.List.Sums.{sum_by-append}
use Rattle.ass_io.specs.Sinks.{IsPutAnswered, SinkState}
use Rattle.ass_io.specs.Written.{AppendsFront}
use Rattle.ass_io.specs.declared.sink.Put.{Put}
use Rattle.ass_io.specs.declared.sink.Put.TheVariants as put
use Rattle.play_model.specs.Images.{ShownImage, shown_pieces}
use Rattle.play_workers.specs.Parts.{painted_bytes}
use Rattle.play_rounds.specs.Outputs.{AreCutOff, ArePut, AreImagesWritten, AreWritten, IsCutOff, IsStopCounted}
use Rattle.play_rounds.specs.declared.ends.Stop.{Stop}
use Rattle.play_rounds.specs.declared.ends.Stop.TheVariants as stop

abbrev pub joined : List (List ℕ) → List ℕ
joined pieces = flat_map (λ (piece : List ℕ). piece) pieces

pub joined-append : (xs ys : List (List ℕ)) → joined (xs ++ ys) ≡ joined xs ++ joined ys
joined-append xs ys = flat_map-append (λ (piece : List ℕ). piece) xs ys

-- ---- images

abbrev pub shown : List ShownImage → List ℕ
shown images = joined (shown_pieces images)

pub pieces-append : (xs ys : List ShownImage) → shown_pieces (xs ++ ys) ≡ shown_pieces xs ++ shown_pieces ys
pieces-append xs ys = map-append (λ (image : ShownImage). image.bytes) xs ys

pub length-pieces : (images : List ShownImage) → length (shown_pieces images) ≡ length images
length-pieces images = length-map images (λ (image : ShownImage). image.bytes)

-- ---- bytes

front_behind : (xs ys : List ℕ) (h h' h'' : Option (List ℕ)) → Appends h h' xs → AppendsFront h' h'' ys → AppendsFront h h'' (xs ++ ys)
front_behind xs ys h h' h'' one two = (xs ++ two.0, two.1, ap (λ z. xs ++ z) two.2 ∙ sym (append_assoc xs two.0 two.1), Appends-trans h h' h'' xs two.0 one two.3)

module _ (s s' s'' : SinkState) where
  pub nothing_written : AreWritten [] s s
  nothing_written = record { held = Appends-nil s.held; faults = refl; asked = sym (append-nil s.asked) }

  pub written_then : (xs ys : List (List ℕ)) → AreWritten xs s s' → AreWritten ys s' s'' → AreWritten (xs ++ ys) s s''
  written_then xs ys one two = record {
    held = subst (Appends s.held s''.held) (sym (joined-append xs ys)) (Appends-trans s.held s'.held s''.held (joined xs) (joined ys) one.held two.held);
    faults = two.faults ∙ one.faults;
    asked = two.asked ∙ (ap (λ z. z ++ ys) one.asked ∙ append_assoc s.asked xs ys);
  }

  pub cut_then : (e : Stop) (xs ys : List (List ℕ)) → AreWritten xs s s' → IsCutOff e ys s' s'' → IsCutOff e (xs ++ ys) s s''
  cut_then e xs ys one two = record {
    held = subst (AppendsFront s.held s''.held) (sym (joined-append xs ys)) (front_behind (joined xs) (joined ys) s.held s'.held s''.held one.held two.held);
    counted = subst (λ (n : ℕ). IsStopCounted e n s''.faults) one.faults two.counted;
    asked = two.asked ∙ (ap (λ z. z ++ ys) one.asked ∙ append_assoc s.asked xs ys);
  }

  module _ (a a' a'' : ℕ) where
    pub nothing_shown : AreImagesWritten [] s s a a
    nothing_shown = (nothing_written, omega arith)

    pub shown_then : (xs ys : List ShownImage) → AreImagesWritten xs s s' a a' → AreImagesWritten ys s' s'' a' a'' → AreImagesWritten (xs ++ ys) s s'' a a''
    shown_then xs ys one two = (
      subst (λ (z : List (List ℕ)). AreWritten z s s'') (sym (pieces-append xs ys)) (written_then (shown_pieces xs) (shown_pieces ys) one.0 two.0),
      (let first = one.1 in let then = two.1 in let sum = sum_by-append (λ (image : ShownImage). image.masks) xs ys in omega (arith, first, then, sum)),
    )

    pub shown_cut : (e : Stop) (xs ys : List ShownImage) → AreImagesWritten xs s s' a a' → IsCutOff e (shown_pieces ys) s' s'' → IsCutOff e (shown_pieces (xs ++ ys)) s s''
    shown_cut e xs ys one two = subst (λ (z : List (List ℕ)). IsCutOff e z s s'') (sym (pieces-append xs ys)) (cut_then e (shown_pieces xs) (shown_pieces ys) one.0 two)

  -- all of some pieces were written before memory ran out
  pub all_cut : (xs : List (List ℕ)) → AreWritten xs s s' → IsCutOff stop.OutOfMemory xs s s'
  all_cut xs one = record { held = (joined xs, [], sym (append-nil (joined xs)), one.held); counted = one.faults; asked = one.asked }

  pub nothing_cut : IsCutOff stop.OutOfMemory [] s s
  nothing_cut = record { held = ([], [], refl, Appends-nil s.held); counted = refl; asked = sym (append-nil s.asked) }

  pub cut_behind : (e : Stop) (xs ys : List (List ℕ)) → AreWritten xs s s' → AreCutOff e ys s' s'' → AreCutOff e (xs ++ ys) s s''
  cut_behind e xs ys one two = (
    length xs + two.0,
    subst (λ (z : List (List ℕ)). IsCutOff e z s s'') (sym (take-append-add xs ys two.0)) (cut_then e xs (take two.0 ys) one two.1),
  )

pub kept_nothing : (h h' : Option (List ℕ)) → Keeps h h' → Appends h h' []
kept_nothing None h' kept = tt
kept_nothing (Some xs) None kept = absurd kept
kept_nothing (Some xs) (Some ys) kept = kept ∙ sym (append-nil xs)

-- one piece
pub one_put : (result : Put) (piece : List ℕ) (s s' : SinkState) → IsPutAnswered piece result s s' → ArePut (piece ∷ []) result s s'
one_put put.Done piece s s' is = record { held = subst (Appends s.held s'.held) (sym (append-nil piece)) is.put; faults = is.counted; asked = is.asked }
one_put put.Failed piece s s' is = (1, record { held = (is.put.0, is.put.1, append-nil piece ∙ is.put.2, is.put.3); counted = is.counted; asked = is.asked })
one_put put.OutOfMemory piece s s' is = (1, record { held = ([], piece ++ [], refl, kept_nothing s.held s'.held is.put); counted = is.counted; asked = is.asked })

-- ---- the images of workers, put one after another

module _ (s s' s'' : SinkState) where
  cut_among : (e : Stop) (before piece rest : List (List ℕ)) → AreWritten before s s' → AreCutOff e piece s' s'' → AreCutOff e ((before ++ piece) ++ rest) s s''
  cut_among e before piece rest written cut =
      let both = cut_behind s s' s'' e before piece written cut in
      let n : ℕ = min both.0 (length (before ++ piece)) in
      let same : take n ((before ++ piece) ++ rest) ≡ take both.0 (before ++ piece) = take-append-le n (before ++ piece) rest (omega arith) ∙ take_min both.0 (before ++ piece) in
      (n, subst (λ (z : List (List ℕ)). IsCutOff e z s s'') (sym same) both.1)

  -- the put that isn't done ends them
  put_ends : (result : Put) (before piece rest : List (List ℕ)) → (result ≡ put.Done → ⊥) → AreWritten before s s' → ArePut piece result s' s'' → ArePut ((before ++ piece) ++ rest) result s s''
  put_ends put.Done before piece rest unlike written is = absurd (unlike refl)
  put_ends put.Failed before piece rest unlike written is = cut_among stop.WriteFault before piece rest written is
  put_ends put.OutOfMemory before piece rest unlike written is = cut_among stop.OutOfMemory before piece rest written is

module _ {X : Type 0} (g : X → List (List ℕ)) (xs : List X) (i : ℕ) (x : X) (lt : i < length xs) (is : x ≡ slice_index_or xs i x) where
  pub flat_more : flat_map g (take (i + 1) xs) ≡ flat_map g (take i xs) ++ g x
  flat_more = ap (flat_map g) (take_more xs i x lt ∙ ap (λ y. take i xs ++ y ∷ []) (sym is)) ∙ (flat_map-append g (take i xs) (x ∷ []) ∙ ap (λ z. flat_map g (take i xs) ++ z) (append-nil (g x)))

  flat_whole : flat_map g xs ≡ (flat_map g (take i xs) ++ g x) ++ flat_map g (drop (i + 1) xs)
  flat_whole = ap (flat_map g) (sym (take-append-drop (i + 1) xs)) ∙ (flat_map-append g (take (i + 1) xs) (drop (i + 1) xs) ∙ ap (λ z. z ++ flat_map g (drop (i + 1) xs)) flat_more)

  module _ (s s' s'' : SinkState) (written : AreWritten (flat_map g (take i xs)) s s') where
    pub flat_written : ArePut (g x) put.Done s' s'' → AreWritten (flat_map g (take (i + 1) xs)) s s''
    flat_written one = subst (λ (z : List (List ℕ)). AreWritten z s s'') (sym flat_more) (written_then s s' s'' (flat_map g (take i xs)) (g x) written one)

    pub flat_ended : (result : Put) → (result ≡ put.Done → ⊥) → ArePut (g x) result s' s'' → ArePut (flat_map g xs) result s s''
    flat_ended result unlike one = subst (λ (z : List (List ℕ)). ArePut z result s s'') (sym flat_whole) (put_ends s s' s'' result (flat_map g (take i xs)) (g x) (flat_map g (drop (i + 1) xs)) unlike written one)

-- ---- the images of one worker

abbrev pub one_piece : Vec ℕ → List (List ℕ)
one_piece image = image.items ∷ []

pub pieces_each : (images : List (Vec ℕ)) → flat_map one_piece images ≡ painted_bytes images
pieces_each [] = refl
pieces_each (image ∷ images) = ap (λ z. image.items ∷ z) (pieces_each images)
