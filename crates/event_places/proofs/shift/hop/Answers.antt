use Rattle.std.proofs.Common.{◌∙◌, rules, refl, sym, SFits, to_z, w64}
use Rattle.std.proofs.lemmas.Bool.{false≢true}
use Rattle.std.proofs.lemmas.Int.{to_z-of_z}
use Rattle.event_places.proofs.ShiftLemmas.{Hops-met, Hops-clear, Meet-along}
use Rattle.event_places.proofs.shift.hop.Goals as goal
use Rattle.event_places.proofs.shift.hop.Goals.{then-meet, else-meet}

pub loop-other-preserved : goal.loop-other-preserved
loop-other-preserved c =
    let b = c.args.b.now in
    let others = c.args.others.now in
    let shift = to_z w64 c.loop-other.shift-bits in
    elim c.if-meet.branch [
      | then-meet w ↦
          let f : SFits w64 w.shift_past-shift.result = search rules in
          let e = w.shift-is ∙ to_z-of_z w64 w.shift_past-shift.result f ∙ w.shift_past-shift.ensures in
          rw e (Hops-met b others c.args.down _ shift c.loop-other.other-index _ c.requires.within c.requires.others_within c.loop-other-test.true
          (Meet-along _ _ _ c.moved.ensures (w.if-meet.ensures.0 refl)) c.loop-other.invariant)
      | else-meet w ↦
          rw w.shift-is (Hops-clear b others c.args.down _ shift c.loop-other.other-index _ c.loop-other-test.true
          (λ m. false≢true (w.if-meet.ensures.1 (Meet-along _ _ _ (sym c.moved.ensures) m))) c.loop-other.invariant)
    ]
