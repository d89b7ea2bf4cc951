-- One worker, and those behind it.
use Rattle.std.proofs.Common.{◌≡◌, ℕ, zero, suc, ◌<◌, List, ◌∷◌, length, sym, subst, arith}
use Rattle.std.specs.List.{slice_index_or}
use Rattle.play_workers.specs.Parts.{HasWorked}
use Rattle.play_workers.specs.declared.stage.PlayStage.{PlayStage}
use Rattle.play_workers.specs.declared.worker.Worker.{Worker}

module _ (stage : PlayStage) (round : ℕ) where
  each_worked : (w w' : Worker) (rest rest' : List Worker) → HasWorked stage round w w' → ((i : ℕ) (d : Worker) → i < length rest → HasWorked stage round (slice_index_or rest i d) (slice_index_or rest' i d))
      → (i : ℕ) (d : Worker) → i < length (w ∷ rest) → HasWorked stage round (slice_index_or (w ∷ rest) i d) (slice_index_or (w' ∷ rest') i d)
  each_worked w w' rest rest' one others zero d lt = one
  each_worked w w' rest rest' one others (suc i) d lt = others i d (omega (arith, lt))

  pub all_worked : (workers : List Worker) (w w' : Worker) (rest rest' : List Worker) → workers ≡ w ∷ rest → HasWorked stage round w w'
      → ((i : ℕ) (d : Worker) → i < length rest → HasWorked stage round (slice_index_or rest i d) (slice_index_or rest' i d))
      → (i : ℕ) (d : Worker) → i < length workers → HasWorked stage round (slice_index_or workers i d) (slice_index_or (w' ∷ rest') i d)
  all_worked workers w w' rest rest' is one others =
      subst (λ (ws : List Worker). (i : ℕ) (d : Worker) → i < length ws → HasWorked stage round (slice_index_or ws i d) (slice_index_or (w' ∷ rest') i d)) (sym is)
      (each_worked w w' rest rest' one others)
