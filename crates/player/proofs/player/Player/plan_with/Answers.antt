use Rattle.player.proofs.player.Player.plan_with.Goals as goal

pub plan_of_spans-requires-clause-setting : goal.plan_of_spans-requires-clause-setting
plan_of_spans-requires-clause-setting c =
    record {
      script = rw c.deref.ensures c.self.invariant.is_script;
      fonts = rw c.deref-2.ensures (record { some = rw (← c.self.view_is) at c.requires.fonts; few = c.self.invariant.font_set.few; each = c.self.invariant.font_set.whole });
      frame = c.requires.frame;
    }
