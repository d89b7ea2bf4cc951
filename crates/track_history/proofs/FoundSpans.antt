-- What was found, in order of time.
use Rattle.std.proofs.Common.{◌≡◌, ℤ, List, [], ◌∷◌, get_or, sym, subst, ⊎_elim, IsPermutation}
use Rattle.std.proofs.lemmas.List.Elements.{All-contains, Contains-get_or}
use Rattle.std.proofs.lemmas.List.Sorted.{Contains-permutation, IsPermutation-sym}
use Rattle.ass_events.specs.Histories.{Pairwise}
use Rattle.ass_events.specs.NearEvents.{IsEarlier, AreNear}
use Rattle.near_events.specs.declared.spans.EventSpan.{EventSpan}
use Rattle.near_events.specs.Spans.{span_at, AreInTime}
use Rattle.near_events.specs.Walks.{WalkValue, all_walked, first_walk, walked_spans}
use Rattle.near_events.proofs.Pairs.{Pairwise-push}
use Rattle.near_events.proofs.Orders.{earlier_cases}
use Rattle.near_events.proofs.Nears.{found_there, step_cases, near_found, found_near}
use Rattle.near_events.proofs.Sorts.{Differ, differ_moved}
use Rattle.track_history.specs.Blocks.{IsNearIndex, spans_of}
use Rattle.track_history.specs.declared.blocks.Block.{Block}

found_differ : (t : ℤ) (xs : List EventSpan) → Pairwise Differ xs → Pairwise Differ (all_walked t xs).found
found_differ t [] h = tt
found_differ t (x ∷ xs) h =
    let w = all_walked t xs in
    step_cases (λ v. Pairwise Differ v.found) t w x
    (λ e. Pairwise-push Differ w.found x (found_differ t xs h.1)
    (λ k d lt same. let a = get_or w.found k d in
    All-contains (λ b. Differ x b) xs a h.0 (found_there t xs a (Contains-get_or w.found k d lt)).0 (sym same)))
    (λ e. found_differ t xs h.1)

-- in order of time and different: strictly in order
strictly_earlier : (xs : List EventSpan) → AreInTime xs → Pairwise Differ xs → Pairwise (λ a b. IsEarlier (span_at a) (span_at b)) xs
strictly_earlier [] timed differ = tt
strictly_earlier (x ∷ xs) timed differ =
    (λ k d lt. ⊎_elim (λ p. p) (λ q. absurd (timed.0 k d lt q)) (earlier_cases (span_at x) (span_at (get_or xs k d)) (differ.0 k d lt)), strictly_earlier xs timed.1 differ.1)

module _ (t : ℤ) (blocks : List Block) (w : WalkValue) (sorted : List EventSpan) (index : IsNearIndex blocks) (is : w ≡ walked_spans t (first_walk t) (spans_of blocks))
    (moved : IsPermutation w.found sorted) where
  moves : IsPermutation (all_walked t (spans_of blocks)).found sorted
  moves = subst (λ (v : WalkValue). IsPermutation v.found sorted) is moved

  pub near_differ : Pairwise Differ sorted
  near_differ = differ_moved (all_walked t (spans_of blocks)).found sorted moves (found_differ t (spans_of blocks) index.orders)

  pub near_sorted : AreInTime sorted → AreNear span_at (spans_of blocks) t sorted
  near_sorted timed =
      let xs = spans_of blocks in record {
        members = λ s. (
          (λ c. near_found t xs xs index.sorted (λ y h. h) s (Contains-permutation sorted (all_walked t xs).found s (IsPermutation-sym (all_walked t xs).found sorted moves) c)),
          (λ near. Contains-permutation (all_walked t xs).found sorted s moves (found_near t xs index.sorted s near)),
        );
        sorted = strictly_earlier sorted timed near_differ;
      }
