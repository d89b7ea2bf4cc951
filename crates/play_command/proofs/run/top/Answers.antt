use Rattle.std.proofs.Common.{◌≡◌, ◌∙◌, Ok, None, inr, refl, rules}
use Rattle.single_run.proofs.Runs.{read_after, written_after}
use Rattle.single_run.specs.Runs.{sink_change}
use Rattle.single_run.specs.Works.{work_asked}
use Rattle.run_words.specs.Words.{texts}
use Rattle.play_command.proofs.TextLemmas.{text_run, text_run_wanting, text_worked, words_left}
use Rattle.play_command.proofs.RunLemmas.{left_no_work, left_not_refused, play_decides, play_left, play_run, play_wanting, refused_no_work, selftest_decides, selftest_left, selftest_run, selftest_wanting}
use Rattle.run_words.specs.declared.job.Job.TheVariants.{Play, Selftest}
use Rattle.play_command.proofs.run.top.Goals as goal

-- ---- what waits for nobody

pub returns-in-Some-clause-other_shelf : goal.returns-in-Some-clause-other_shelf
returns-in-Some-clause-other_shelf g c = λ why refused. c.in-Some.ensures.other_shelf (refused_no_work _ why refused)

pub returns-in-Some-clause-other_frames : goal.returns-in-Some-clause-other_frames
returns-in-Some-clause-other_frames g c = λ why refused. c.in-Some.ensures.other_frames (refused_no_work _ why refused)

pub returns-in-Some-clause-other_report : goal.returns-in-Some-clause-other_report
returns-in-Some-clause-other_report g c = λ why refused. c.in-Some.ensures.other_report (refused_no_work _ why refused)

-- ---- a play or a selftest, where memory runs out for its words

pub returns-in-Some-clause-play : goal.returns-in-Some-clause-play
returns-in-Some-clause-play g c = λ job script fonts asked.
    let left = play_left (texts c.args.words.now) job script fonts asked in
    let none = left_no_work _ left in
    let frames = c.in-Some.ensures.other_frames none in
    let shelf = c.in-Some.ensures.other_shelf none in
    rw (frames, shelf) (play_wanting _ _ job script fonts _ _ c.in-Some.status (c.in-Some.ensures.left left) (c.in-Some.ensures.other_report none) (c.in-Some.ensures.left_pieces left))

pub returns-in-Some-clause-play_decided : goal.returns-in-Some-clause-play_decided
returns-in-Some-clause-play_decided g c = λ job script fonts asked stays shows reports reading known read decided.
    inr (c.in-Some.ensures.left (play_left (texts c.args.words.now) job script fonts asked))

pub returns-in-Some-clause-selftest : goal.returns-in-Some-clause-selftest
returns-in-Some-clause-selftest g c = λ seed events workers asked.
    let left = selftest_left (texts c.args.words.now) seed events workers asked in
    selftest_wanting seed events _ c.in-Some.status (c.in-Some.ensures.left left) (c.in-Some.ensures.other_report (left_no_work _ left)) (c.in-Some.ensures.left_pieces left)

pub returns-in-Some-clause-selftest_decided : goal.returns-in-Some-clause-selftest_decided
returns-in-Some-clause-selftest_decided g c = λ seed events workers asked reports reading read decided.
    inr (c.in-Some.ensures.left (selftest_left (texts c.args.words.now) seed events workers asked))

pub returns-in-Some-clause-selftest_shelf : goal.returns-in-Some-clause-selftest_shelf
returns-in-Some-clause-selftest_shelf g c = λ seed events workers asked. c.in-Some.ensures.other_shelf (left_no_work _ (selftest_left (texts c.args.words.now) seed events workers asked))

pub returns-in-Some-clause-selftest_frames : goal.returns-in-Some-clause-selftest_frames
returns-in-Some-clause-selftest_frames g c = λ seed events workers asked. c.in-Some.ensures.other_frames (left_no_work _ (selftest_left (texts c.args.words.now) seed events workers asked))

-- ---- what the program tells of itself, where memory runs out for the words

pub returns-in-Some-clause-text : goal.returns-in-Some-clause-text
returns-in-Some-clause-text g c = λ job text asked told.
    let left = words_left (texts c.args.words.now) job text asked told in
    let none = left_no_work _ left in
    let frames = c.in-Some.ensures.other_frames none in
    rw frames (text_run_wanting text _ _ c.in-Some.status (c.in-Some.ensures.left left) (c.in-Some.ensures.other_report none) (c.in-Some.ensures.left_pieces left))

pub returns-in-Some-clause-text_shelf : goal.returns-in-Some-clause-text_shelf
returns-in-Some-clause-text_shelf g c = λ job text asked told. c.in-Some.ensures.other_shelf (left_no_work _ (words_left (texts c.args.words.now) job text asked told))

-- ---- what the program tells of itself

pub returns-in-None-clause-text : goal.returns-in-None-clause-text
returns-in-None-clause-text g c = λ job text asked told.
    let same = c.in-None.ensures.untouched refl in
    rw (← same.1, ← same.2)
    (text_run text _ _ c.do_left-outcome.result c.finish.result (text_worked _ _ job text _ c.do_left-outcome.result told (c.do_left-outcome.ensures.worked job asked)) c.finish.ensures.answer c.finish.ensures.report c.finish.ensures.pieces)

pub returns-in-None-clause-text_shelf : goal.returns-in-None-clause-text_shelf
returns-in-None-clause-text_shelf g c = λ job text asked told. c.do_left-outcome.ensures.text_shelf job text asked told ∙ (c.in-None.ensures.untouched refl).0

-- ---- a play or a selftest

pub do_left-outcome-requires : goal.do_left-outcome-requires
do_left-outcome-requires g c =
    let left : work_asked (texts c.args.words.now) ≡ Ok None = c.in-None.ensures.none refl in
    search (rules, left)

pub returns-in-None-clause-other_words : goal.returns-in-None-clause-other_words
returns-in-None-clause-other_words g c = λ why asked. absurd (left_not_refused _ why (c.in-None.ensures.none refl) asked)

pub returns-in-None-clause-other_shelf : goal.returns-in-None-clause-other_shelf
returns-in-None-clause-other_shelf g c = λ why asked. absurd (left_not_refused _ why (c.in-None.ensures.none refl) asked)

pub returns-in-None-clause-other_frames : goal.returns-in-None-clause-other_frames
returns-in-None-clause-other_frames g c = λ why asked. absurd (left_not_refused _ why (c.in-None.ensures.none refl) asked)

pub returns-in-None-clause-other_report : goal.returns-in-None-clause-other_report
returns-in-None-clause-other_report g c = λ why asked. absurd (left_not_refused _ why (c.in-None.ensures.none refl) asked)

pub returns-in-None-clause-other_pieces : goal.returns-in-None-clause-other_pieces
returns-in-None-clause-other_pieces g c = λ why asked. absurd (left_not_refused _ why (c.in-None.ensures.none refl) asked)

pub returns-in-None-clause-run : goal.returns-in-None-clause-run
returns-in-None-clause-run g c = λ work asked. absurd (left_no_work _ (c.in-None.ensures.none refl) work asked)

pub returns-in-None-clause-decided : goal.returns-in-None-clause-decided
returns-in-None-clause-decided g c = λ work asked stays shows reports. absurd (left_no_work _ (c.in-None.ensures.none refl) work asked)

pub returns-in-None-clause-play : goal.returns-in-None-clause-play
returns-in-None-clause-play g c = λ job script fonts asked.
    let same = c.in-None.ensures.untouched refl in
    rw (← same.0, ← same.1, ← same.2) (play_run _ _ job script fonts _ _ c.do_left-outcome.result c.finish.result (c.do_left-outcome.ensures.worked (Play job script fonts) asked) c.do_left-outcome.ensures.reportable (c.do_left-outcome.ensures.spoken (Play job script fonts) asked refl) c.finish.ensures.answer c.finish.ensures.report c.finish.ensures.pieces)

pub returns-in-None-clause-play_decided : goal.returns-in-None-clause-play_decided
returns-in-None-clause-play_decided g c = λ job script fonts asked stays shows reports.
    let same = c.in-None.ensures.untouched refl in
    let report = sink_change (g.R.Sink.state c.calm.new.report) (g.R.Sink.state c.finish.new.report) in
    let run = play_run _ _ job script fonts _ report c.do_left-outcome.result c.finish.result (c.do_left-outcome.ensures.worked (Play job script fonts) asked) c.do_left-outcome.ensures.reportable (c.do_left-outcome.ensures.spoken (Play job script fonts) asked refl) c.finish.ensures.answer c.finish.ensures.report c.finish.ensures.pieces in
    rw (← same.0) (play_decides c.files_decide.ensures.one _ _ job script fonts _ _ _ _ c.finish.result run
    (read_after c.do_left-outcome.result c.finish.result _ _ c.finish.ensures.answer c.do_left-outcome.ensures.read)
    (written_after c.do_left-outcome.result c.finish.result _ _ c.finish.ensures.answer c.do_left-outcome.ensures.write)
    (rw same.0 stays) (rw same.1 shows) (rw same.2 reports))

pub returns-in-None-clause-selftest : goal.returns-in-None-clause-selftest
returns-in-None-clause-selftest g c = λ seed events workers asked.
    let same = c.in-None.ensures.untouched refl in
    rw (← same.2) (selftest_run seed events _ c.do_left-outcome.result c.finish.result (c.do_left-outcome.ensures.worked (Selftest seed events workers) asked) c.finish.ensures.answer c.finish.ensures.report c.finish.ensures.pieces)

pub returns-in-None-clause-selftest_decided : goal.returns-in-None-clause-selftest_decided
returns-in-None-clause-selftest_decided g c = λ seed events workers asked reports.
    selftest_decides seed events _ c.finish.result (returns-in-None-clause-selftest g c seed events workers asked) reports

pub returns-in-None-clause-selftest_shelf : goal.returns-in-None-clause-selftest_shelf
returns-in-None-clause-selftest_shelf g c = λ seed events workers asked. c.do_left-outcome.ensures.selftest_shelf seed events workers asked ∙ (c.in-None.ensures.untouched refl).0

pub returns-in-None-clause-selftest_frames : goal.returns-in-None-clause-selftest_frames
returns-in-None-clause-selftest_frames g c = λ seed events workers asked. c.do_left-outcome.ensures.selftest_frames seed events workers asked ∙ (c.in-None.ensures.untouched refl).1
