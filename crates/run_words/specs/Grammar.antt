-- Public: the grammar of the words, as `clap` reads it.
use Rattle.std.specs.Prelude.{ℕ, Bool, true, false, List, map, Option, Some, None, if◌then◌else◌, codes}
use Rattle.clap.specs.Lexer.{usize_max}
use Rattle.clap.specs.Simple.{App, Shape, new_rule, new_shape, subcommand_of}
use Rattle.clap.specs.Walk.{Row, Rule, is_empty}
use Rattle.clap.specs.Faults.{fault_of}
use Rattle.clap.specs.declared.builder.range.ValueRange.{ValueRange}
use Rattle.run_words.specs.Arguments.{argument_name, is_positional, is_required, stands_alone}
use Rattle.run_words.specs.Commands.{arguments_of, command_name, commands}
use Rattle.run_words.specs.declared.argument.Argument.{Argument}
use Rattle.run_words.specs.declared.argument.Argument.TheVariants.{Fonts}
use Rattle.run_words.specs.declared.command.Command.{Command}

-- how many words the argument takes: the fonts one or more, an option that stands alone none, all others the usual one
abbrev pub range_of : Argument → Option ValueRange
range_of Fonts = Some (record { start_inclusive = 1; end_inclusive = usize_max })
range_of argument = if stands_alone argument then Some (record { start_inclusive = 0; end_inclusive = 0 }) else None

-- an option by its name, or a positional
abbrev pub argument_rule : Argument → Rule
argument_rule argument = record (new_rule (argument_name argument)) {
  long = if is_positional argument then None else Some (argument_name argument);
  range = range_of argument;
  required = is_required argument;
}

abbrev pub command_shape : Command → Shape
command_shape command = record (new_shape (command_name command)) { rules = map argument_rule (arguments_of command) }

-- One command is wanted. There is neither help nor a version, and the first word isn't the program's name.
abbrev pub words_app : App
words_app = record {
  top = record (new_shape (codes "vimalorua")) {
    is_leaf = false;
    no_binary_name = true;
    disable_help_flag = true;
    disable_help_subcommand = true;
    disable_version_flag = true;
    subcommand_required = true;
  };
  subs = map command_shape commands;
}

-- The words are of the grammar.
abbrev pub is_taken : List (List ℕ) → Bool
is_taken words = is_empty (fault_of words_app words)

-- what words of the grammar have: the command that they name, with what was found for its arguments
abbrev pub taken_in : List (List ℕ) → Option (Option (List ℕ × List Row))
taken_in words = if is_taken words then Some (subcommand_of words_app words) else None
