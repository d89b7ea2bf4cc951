-- What holds of the job that is read.
use Rattle.std.proofs.Common.{ℕ, Bool, true, false, cond, List, [], ◌∷◌, Option, Some, None, Result, IfOk}
use Rattle.std.specs.Prelude.{IfSome, codes}
use Rattle.std.specs.Str.{bytes_eq}
use Rattle.run_words.specs.Asked.{unless_bad}
use Rattle.run_words.specs.Words.{alone_or, asked_alone, is_help}
use Rattle.run_words.specs.declared.argument.Argument.{Argument}
use Rattle.run_words.specs.declared.job.Job.{Job}
use Rattle.run_words.specs.declared.job.Job.TheVariants.{Help, Version}
use Rattle.run_words.specs.declared.job.WordsFault.{WordsFault}

module _ (P : Job → Type 0) where
  -- the job of a command, where no argument is bad
  pub unless_holds : (bad : Option Argument) (job : Job) → P job → IfOk (unless_bad bad job) P
  unless_holds None job h = h
  unless_holds (Some argument) job h = tt

  -- a word that stands alone
  by_holds : P Help → P Version → (help version : Bool) → IfSome (cond help (Some Help) (cond version (Some Version) None)) P
  by_holds help_holds version_holds true version = help_holds
  by_holds help_holds version_holds false true = version_holds
  by_holds help_holds version_holds false false = tt

  pub alone_holds : P Help → P Version → (words : List (List ℕ)) → IfSome (asked_alone words) P
  alone_holds help_holds version_holds [] = tt
  alone_holds help_holds version_holds (word ∷ []) = by_holds help_holds version_holds (is_help word) (bytes_eq word (codes "--version"))
  alone_holds help_holds version_holds (word ∷ more ∷ rest) = tt

  pub or_holds : (alone : Option Job) (reading : Result Job WordsFault) → IfSome alone P → IfOk reading P → IfOk (alone_or alone reading) P
  or_holds None reading h k = k
  or_holds (Some job) reading h k = h
