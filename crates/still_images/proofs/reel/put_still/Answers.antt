use Rattle.std.proofs.Common.{List, ℕ, [], ◌∷◌, inl, inr, subst, ◌∙◌}
use Rattle.still_images.specs.Puts.{GotPrefix, GotWhole}
use Rattle.still_images.proofs.PutLemmas.{nothing_begun}
use Rattle.still_images.proofs.ReelLemmas.{on_err, on_ok}
use Rattle.still_images.proofs.reel.put_still.Goals as goal

pub returns-in-Ok-clause-whole : goal.returns-in-Ok-clause-whole
returns-in-Ok-clause-whole g c =
    on_ok c.put.result _ _ (subst (λ (image : List ℕ). GotWhole (image ∷ []) (g.F.Sink.state c.args.frames.now) (g.F.Sink.state c.put.new.frames)) (c.as_slice.ensures.value ∙ c.in-Ok.ensures.image)) c.put.ensures.whole

pub returns-in-Ok-clause-part : goal.returns-in-Ok-clause-part
returns-in-Ok-clause-part g c =
    on_err c.put.result _ _ (λ fault h. inr (subst (λ (image : List ℕ). GotPrefix fault (image ∷ []) (g.F.Sink.state c.args.frames.now) (g.F.Sink.state c.put.new.frames)) (c.as_slice.ensures.value ∙ c.in-Ok.ensures.image) h)) c.put.ensures.part

pub returns-in-Err-clause-part : goal.returns-in-Err-clause-part
returns-in-Err-clause-part g c = inl (nothing_begun (g.F.Sink.state c.args.frames.now) (g.F.Sink.state c.args.frames.now))
