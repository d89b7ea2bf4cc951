use Rattle.std.proofs.Common.{ap, subst, sym}
use Rattle.single_run.proofs.Runs.{keeps}
use Rattle.std.specs.Io.KnownBytes.{Keeps}
use Rattle.play_command.proofs.word_runs.run_of_words.Goals as goal

pub returns : goal.returns
returns g c =
    let run = c.top.ensures in record {
      refused = λ why asked. record {
        answered = run.other_words why asked;
        fetched = ap (λ shelf. g.S.Shelf.log shelf) (run.other_shelf why asked);
        shown = subst (λ frames. Keeps (g.F.Sink.state c.args.frames.now).held (g.F.Sink.state frames).held) (sym (run.other_frames why asked)) (keeps (g.F.Sink.state c.args.frames.now).held);
        reported = run.other_report why asked;
        pieces_shown = ap (λ frames. (g.F.Sink.state frames).asked) (run.other_frames why asked);
        pieces_told = run.other_pieces why asked;
      };
      work = run.run;
      play = run.play;
      selftest = run.selftest;
      text = run.text;
      text_fetched = λ job text asked told. ap (λ shelf. g.S.Shelf.log shelf) (run.text_shelf job text asked told);
      selftest_fetched = λ seed events workers asked. ap (λ shelf. g.S.Shelf.log shelf) (run.selftest_shelf seed events workers asked);
    }
