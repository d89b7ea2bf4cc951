-- The grammar as it is built, argument by argument and command by command.
use Rattle.std.proofs.Common.{◌≡◌, ℕ, ◌+◌, ◌<◌, true, List, [], length, take, fold, None, refl, sym, ap₂, ◌∙◌}
use Rattle.std.specs.List.{slice_index_or}
use Rattle.std.proofs.lemmas.List.Sums.{fold_more}
use Rattle.clap.specs.Faults.{is_simple_and_free}
use Rattle.clap.specs.Simple.{App, Shape, is_simple, new_app, with_rule, with_subcommand}
use Rattle.clap.specs.Walk.{Rule}
use Rattle.clap.proofs.OnLiterals.{clap_on_literals}
use Rattle.run_words.specs.Arguments.{is_positional}
use Rattle.run_words.specs.Commands.{arguments_of, command_name, commands}
use Rattle.run_words.specs.Grammar.{argument_rule, command_shape, range_of, words_app}
use Rattle.run_words.specs.declared.argument.Argument.{Argument}
use Rattle.run_words.specs.declared.argument.Argument.TheVariants.{Events, Fonts, Script, Seed}
use Rattle.run_words.specs.declared.command.Command.{Command}
use Rattle.run_words.specs.declared.command.Command.TheVariants.{Check, Frame, Play, Selftest, Changes, Write}

-- a positional but the fonts takes one word
pub one_word : (argument : Argument) → is_positional argument ≡ true → (argument ≡ Fonts → ⊥) → range_of argument ≡ None
one_word Fonts at many = absurd (many refl)
one_word Script at many = refl
one_word Seed at many = refl
one_word Events at many = refl
one_word _ at many = cc

-- one more argument
abbrev pub with_argument : App → Argument → App
with_argument app argument = with_rule app (argument_rule argument)

-- one more command
abbrev pub with_command : App → Command → App
with_command app command = with_subcommand app (command_shape command)

-- no command so far
abbrev pub bare : App
bare = record { top = record words_app.top { is_leaf = true }; subs = [] }

-- one more argument of a list
pub argument_more : (items : List Argument) (i : ℕ) (d : Argument) (start old new : App) (rule : Rule) → i < length items → rule ≡ argument_rule (slice_index_or items i d) →
    old ≡ fold with_argument start (take i items) → new ≡ with_rule old rule → new ≡ fold with_argument start (take (i + 1) items)
argument_more items i d start old new rule lt is so_far more = more ∙ ap₂ with_rule so_far is ∙ sym (fold_more with_argument start items i d lt)

-- one more command of a list
pub command_more : (items : List Command) (i : ℕ) (d : Command) (start old new : App) (shape : Shape) → i < length items → shape ≡ command_shape (slice_index_or items i d) →
    old ≡ fold with_command start (take i items) → new ≡ with_subcommand old shape → new ≡ fold with_command start (take (i + 1) items)
command_more items i d start old new shape lt is so_far more = more ∙ ap₂ with_subcommand so_far is ∙ sym (fold_more with_command start items i d lt)

-- a command with all its arguments
pub built_command : (command : Command) → (fold with_argument (new_app (command_name command)) (arguments_of command)).top ≡ command_shape command
built_command Check = refl
built_command Frame = refl
built_command Play = refl
built_command Selftest = refl
built_command Changes = refl
built_command Write = refl

-- all commands
pub built_whole : fold with_command bare commands ≡ words_app
built_whole = refl

-- The grammar is one of which `clap` says what comes of each list of words.
pub simple : is_simple words_app ≡ true
unfolding clap_on_literals
simple = refl

pub simple_and_free : is_simple_and_free words_app ≡ true
unfolding clap_on_literals
simple_and_free = refl
