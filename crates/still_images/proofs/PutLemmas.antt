-- Puts, one after another.
use Rattle.std.proofs.Common.{◌≡◌, ℕ, List, [], ◌∷◌, ◌++◌, Option, refl, sym, ap, subst, ◌∙◌, append-nil, append_assoc}
use Rattle.std.specs.Io.KnownBytes.{Appends}
use Rattle.std.specs.List.{flat_map}
use Rattle.std.proofs.KnownBytes.{Appends-kept, Appends-nil, Appends-trans}
use Rattle.std.proofs.lemmas.Grind.{flat_map-append}
use Rattle.ass_io.specs.Sinks.{IsPutAnswered, SinkState}
use Rattle.ass_io.specs.Written.{AppendsFront}
use Rattle.ass_io.specs.declared.sink.Put.TheVariants as put
use Rattle.still_images.specs.Puts.{GotPrefix, GotWhole, IsFaultCounted}
use Rattle.still_images.specs.declared.fault.StillsFault.{StillsFault}
use Rattle.still_images.specs.declared.fault.StillsFault.TheVariants.{WriteFault, OutOfMemory}

abbrev pub joined : List (List ℕ) → List ℕ
joined pieces = flat_map (λ (piece : List ℕ). piece) pieces

joined_append : (xs ys : List (List ℕ)) → joined (xs ++ ys) ≡ joined xs ++ joined ys
joined_append xs ys = flat_map-append (λ (piece : List ℕ). piece) xs ys

front_behind : (xs ys : List ℕ) (h h' h'' : Option (List ℕ)) → Appends h h' xs → AppendsFront h' h'' ys → AppendsFront h h'' (xs ++ ys)
front_behind xs ys h h' h'' one two = (xs ++ two.0, two.1, ap (λ z. xs ++ z) two.2 ∙ sym (append_assoc xs two.0 two.1), Appends-trans h h' h'' xs two.0 one two.3)

module _ (s s' : SinkState) where
  pub nothing_got : GotWhole [] s s
  nothing_got = record { held = Appends-nil s.held; faults = refl; asked = sym (append-nil s.asked) }

  pub nothing_begun : GotPrefix OutOfMemory [] s s
  nothing_begun = record { held = ([], [], refl, Appends-nil s.held); counted = refl; asked = sym (append-nil s.asked) }

  one_piece : (piece : List ℕ) → joined (piece ∷ []) ≡ piece
  one_piece piece = append-nil piece

  pub put_whole : (piece : List ℕ) → IsPutAnswered piece put.Done s s' → GotWhole (piece ∷ []) s s'
  put_whole piece h = record { held = subst (Appends s.held s'.held) (sym (one_piece piece)) h.put; faults = h.counted; asked = h.asked }

  pub put_failed : (piece : List ℕ) → IsPutAnswered piece put.Failed s s' → GotPrefix WriteFault (piece ∷ []) s s'
  put_failed piece h = record { held = subst (AppendsFront s.held s'.held) (sym (one_piece piece)) h.put; counted = h.counted; asked = h.asked }

  pub put_wanting : (piece : List ℕ) → IsPutAnswered piece put.OutOfMemory s s' → GotPrefix OutOfMemory (piece ∷ []) s s'
  put_wanting piece h = record {
    held = subst (AppendsFront s.held s'.held) (sym (one_piece piece)) ([], piece, refl, Appends-kept s.held s.held s'.held [] (Appends-nil s.held) h.put);
    counted = h.counted;
    asked = h.asked;
  }

  pub whole_begun : (xs : List (List ℕ)) → GotWhole xs s s' → GotPrefix OutOfMemory xs s s'
  whole_begun xs one = record { held = (joined xs, [], sym (append-nil (joined xs)), one.held); counted = one.faults; asked = one.asked }

  module _ (s'' : SinkState) where
    pub got_then : (xs ys : List (List ℕ)) → GotWhole xs s s' → GotWhole ys s' s'' → GotWhole (xs ++ ys) s s''
    got_then xs ys one two = record {
      held = subst (Appends s.held s''.held) (sym (joined_append xs ys)) (Appends-trans s.held s'.held s''.held (joined xs) (joined ys) one.held two.held);
      faults = two.faults ∙ one.faults;
      asked = two.asked ∙ (ap (λ z. z ++ ys) one.asked ∙ append_assoc s.asked xs ys);
    }

    pub begun_then : (fault : StillsFault) (xs ys : List (List ℕ)) → GotWhole xs s s' → GotPrefix fault ys s' s'' → GotPrefix fault (xs ++ ys) s s''
    begun_then fault xs ys one two = record {
      held = subst (AppendsFront s.held s''.held) (sym (joined_append xs ys)) (front_behind (joined xs) (joined ys) s.held s'.held s''.held one.held two.held);
      counted = subst (λ (n : ℕ). IsFaultCounted fault n s''.faults) one.faults two.counted;
      asked = two.asked ∙ (ap (λ z. z ++ ys) one.asked ∙ append_assoc s.asked xs ys);
    }
