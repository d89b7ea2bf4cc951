use Rattle.std.proofs.Common.{◌∙◌, fold, length, ◌≤◌, ◌<◌, ap, arith, rules}
use Rattle.std.proofs.lemmas.List.{take_all}
use Rattle.clap.specs.Simple.{App, app_of, new_app}
use Rattle.clap.specs.Walk.{rule_of}
use Rattle.run_words.specs.Commands.{command_name}
use Rattle.run_words.specs.declared.argument.Argument.TheVariants.{At}
use Rattle.run_words.proofs.GrammarLemmas.{argument_more, built_command, with_argument}
use Rattle.run_words.proofs.grammar.subcommand.Goals as goal

pub loop-taken-preserved : goal.loop-taken-preserved
loop-taken-preserved c =
    let inv = c.loop-taken.invariant in
    let items = c.arguments-taken-items.result.now in
    let start = new_app (command_name c.args.command) in
    let within : c.loop-taken.taken-index < length items = omega arith in (
      inv.0,
      argument_more items c.loop-taken.taken-index At start (app_of c.loop-taken.built) (app_of c.in_ok-built.built) (rule_of c.argument.result) within c.argument.ensures.rule
          inv.1 (c.in_ok-built.ensures.shape c.argument.ensures.local),
      search rules,
    )

pub returns-clause-shape : goal.returns-clause-shape
returns-clause-shape c =
    let inv = c.loop-taken.invariant in
    let items = c.arguments-taken-items.result.now in
    let past : length items ≤ c.loop-taken.taken-index = omega arith in
    ap (λ (a : App). a.top)
    (inv.1 ∙ ap (fold with_argument (new_app (command_name c.args.command))) (take_all c.loop-taken.taken-index items past ∙ inv.0))
    ∙ built_command c.args.command
