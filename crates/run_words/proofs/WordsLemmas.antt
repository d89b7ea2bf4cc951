-- From the matches that `clap` gives to the reading of the words.
use Rattle.std.proofs.Common.{◌≡◌, ◌↔◌, ℕ, ◌∙◌, Bool, true, false, cond, ◌&&◌, ◌||◌, List, [], ◌∷◌, Option, Some, None, is_some, Result, Err, ap, refl, sym, inl, inr, subst, arith, ne_eqb, eqb-true}
use Rattle.std.specs.Prelude.{IfSome, Box, find, option_map}
use Rattle.std.specs.Box.{box_value}
use Rattle.std.specs.List.{list_all}
use Rattle.clap.specs.Faults.{check_fault, entered_fault, defaults_fault, fault_of, is_simple_and_free, settle_fault, walk_fault}
use Rattle.clap.specs.Kinds.{HasKind, Kinds, or_else}
use Rattle.clap.specs.Matches.{found_of, subcommand_name_of}
use Rattle.clap.specs.Simple.{App, HasMatchesOf, Shape, is_simple, argument_words, built, entered, label_of, names_of, rows_at, subcommand_of, subcommand_rows, subcommand_rows_of}
use Rattle.clap.specs.Values.{kind_of}
use Rattle.clap.specs.Walk.{Row, answers_to, finished, is_empty, nothing_held, rows_of, settled, stop_after, walk, walk_from}
use Rattle.clap.specs.declared.error.Error.{Error}
use Rattle.clap.specs.declared.error.kind.ErrorKind.TheVariants as kind
use Rattle.clap.specs.declared.parser.matches.ArgMatches.{ArgMatches}
use Rattle.clap.specs.declared.parser.matches.ArgMatches.TheViews.{out-ArgMatches, out-SubCommand}
use Rattle.clap.specs.declared.parser.matches.SubCommand.{SubCommand}
use Rattle.run_words.specs.Asked.{first_bad, job_for, unless_bad}
use Rattle.run_words.specs.Grammar.{is_taken, taken_in, words_app}
use Rattle.run_words.specs.Words.{UsageIsOfGrammar, alone_or, asked_alone, command_job, command_named, job_in, met_goes_together, named_goes_together, reading_in}
use Rattle.run_words.specs.declared.argument.Argument.{Argument}
use Rattle.run_words.specs.declared.command.Command.{Command}
use Rattle.run_words.specs.declared.job.Job.{Job}
use Rattle.run_words.specs.declared.job.WordsFault.{WordsFault}
use Rattle.run_words.specs.declared.job.WordsFault.TheVariants.{Usage}
use Rattle.run_words.proofs.GrammarLemmas.{simple, simple_and_free}
use Rattle.value_texts.proofs.TextLemmas.{both}

-- Kinds of an error that isn't out of memory are some.
some_kind : (kinds : Kinds) (e : Error) → (kind_of e ≡ kind.OutOfMemory → ⊥) → HasKind kinds e → is_empty kinds ≡ false
some_kind kinds e other (inl memory) = absurd (other memory)
some_kind [] e other (inr among) = absurd among
some_kind (k ∷ ks) e other (inr among) = ne_eqb _ _ (λ none. omega (arith, none))

module _ {Z : Type 0} where
  named : (box : Option (Box SubCommand Z)) (name : List ℕ) (rows : List Row) →
      Some name ≡ option_map (λ b. (out-SubCommand (box_value b)).name.now) box → Some rows ≡ option_map (λ p. p.1) (subcommand_rows box) → subcommand_rows box ≡ Some (name, rows)
  named None name rows e f = cc
  named (Some b) name rows e f =
      let same_name : name ≡ (out-SubCommand (box_value b)).name.now = cc in
      let same_rows : rows ≡ rows_of (found_of (out-SubCommand (box_value b)).matches) = cc in
      rw (same_name, same_rows) refl

-- the name and the rows of the subcommand that was met
pub met : (m : ArgMatches) (name : List ℕ) (rows : List Row) → Some name ≡ subcommand_name_of m → Some rows ≡ option_map (λ p. p.1) (subcommand_rows (out-ArgMatches m).subcommand) →
    subcommand_rows_of m ≡ Some (name, rows)
met m name rows e f = named (out-ArgMatches m).subcommand name rows e f

-- no subcommand was met
pub none_met : (m : ArgMatches) → None ≡ subcommand_name_of m → subcommand_rows_of m ≡ None
none_met m e = cases (out-ArgMatches m).subcommand e
  where
    cases : {Z : Type 0} (box : Option (Box SubCommand Z)) → None ≡ option_map (λ b. (out-SubCommand (box_value b)).name.now) box → subcommand_rows box ≡ None
    cases None h = refl
    cases (Some b) h = cc

-- ---- where words are refused as `Usage`

last_of : (first next : Kinds) → or_else first next ≡ [] → next ≡ []
last_of [] next e = e
last_of (k ∷ ks) next e = cc

found_passes : {A : Type 0} (p q : A → Bool) (xs : List A) → list_all q xs ≡ true → IfSome (find p xs) (λ x. q x ≡ true)
found_passes p q [] all = tt
found_passes p q (x ∷ xs) all = let parts = both _ _ all in cases (p x) parts.0 (found_passes p q xs parts.1)
  where
    cases : (b : Bool) → q x ≡ true → IfSome (find p xs) (λ y. q y ≡ true) → IfSome (cond b (Some x) (find p xs)) (λ y. q y ≡ true)
    cases true here rest = here
    cases false here rest = rest

-- a shape has a command's name
abbrev names_command : Shape → Bool
names_command s = is_some (command_named s.name)

all_named : list_all names_command (built words_app).subs ≡ true
all_named = refl

-- the reading isn't `Usage`
abbrev IsKnown : Result Job WordsFault → Type 0
IsKnown reading = reading ≡ Err Usage → ⊥

unless_known : (bad : Option Argument) (job : Job) → IsKnown (unless_bad bad job)
unless_known None job e = cc
unless_known (Some argument) job e = cc

command_known : (rows : List Row) (command : Option Command) → is_some command ≡ true → named_goes_together rows command ≡ true → IsKnown (reading_in rows command)
command_known rows None some together e = cc
command_known rows (Some command) some together e =
    unless_known (first_bad rows command) (job_for rows command)
    (ap (λ b. cond b (unless_bad (first_bad rows command) (job_for rows command)) (Err Usage)) (sym together) ∙ e)

shape_known : (rest : List (List ℕ)) (s : Option Shape) → IfSome s (λ x. names_command x ≡ true) → is_some (option_map (λ x. rows_at x rest) s) ≡ true
    → met_goes_together (option_map (λ x. rows_at x rest) s) ≡ true → IsKnown (job_in (option_map (λ x. rows_at x rest) s))
shape_known rest None named some together e = cc
shape_known rest (Some s) named some together e = command_known (rows_at s rest).1 (command_named s.name) named together e

entered_known : (stop : Option (List ℕ × List (List ℕ))) → is_some (entered (built words_app) stop) ≡ true → met_goes_together (entered (built words_app) stop) ≡ true
    → IsKnown (job_in (entered (built words_app) stop))
entered_known None some together e = cc
entered_known (Some p) some together e =
    shape_known p.1 (find (λ s. answers_to p.0 (label_of s)) (built words_app).subs) (found_passes (λ s. answers_to p.0 (label_of s)) names_command (built words_app).subs all_named) some together e

-- Where what is told doesn't go together, the words are refused.
named_apart : (rows : List Row) (command : Option Command) → named_goes_together rows command ≡ false → reading_in rows command ≡ Err Usage
named_apart rows None e = cc
named_apart rows (Some command) e = ap (λ b. cond b (unless_bad (first_bad rows command) (job_for rows command)) (Err Usage)) e

met_apart : (met : Option (List ℕ × List Row)) → met_goes_together met ≡ false → job_in met ≡ Err Usage
met_apart None e = cc
met_apart (Some met) e = named_apart met.1 (command_named met.0) e

-- Without a subcommand there is a fault.
wanted : (rows : List Row) (has : Bool) → check_fault (built words_app).top rows has ≡ [] → has ≡ true
wanted rows true e = refl
wanted rows false e = cc

taken_enters : (words : List (List ℕ)) → fault_of words_app words ≡ [] → is_some (subcommand_of words_app words) ≡ true
taken_enters words e =
    let a = built words_app in
    let rest = argument_words words_app words in
    let w = walk a.top.rules (names_of a) nothing_held rest in
    let stop = w.stopped in
    let one = last_of (walk_fault a.top (names_of a) (walk_from nothing_held) rest) _ e in
    let two = last_of (entered_fault a stop) _ one in
    let three = last_of (settle_fault a.top.rules a.top.args_override_self w.held) _ two in
    let four = last_of (defaults_fault (settled a.top.rules w.held).rows a.top.rules) _ three in
    wanted (finished a.top.rules w.held) (is_some (entered a stop)) four

pub none_is_empty : (kinds : Kinds) → is_empty kinds ≡ true → kinds ≡ []
none_is_empty [] e = refl
none_is_empty (k ∷ ks) e = absurd (omega (arith, eqb-true _ _ e))

command_usage : (words : List (List ℕ)) → (command_job words ≡ Err Usage) ↔ ((is_taken words && met_goes_together (subcommand_of words_app words)) ≡ false)
command_usage words = cases (is_taken words) (met_goes_together (subcommand_of words_app words)) refl refl
  where
    cases : (b together : Bool) → is_taken words ≡ b → met_goes_together (subcommand_of words_app words) ≡ together
        → (cond b (job_in (subcommand_of words_app words)) (Err Usage) ≡ Err Usage) ↔ ((b && together) ≡ false)
    cases true true taken together =
        (λ e. absurd (entered_known (stop_after (built words_app).top.rules (names_of (built words_app)) (argument_words words_app words)) (taken_enters words (none_is_empty _ taken)) together e), λ e. cc)
    cases true false taken apart = (λ e. refl, λ e. met_apart (subcommand_of words_app words) apart)
    cases false together taken is = (λ e. refl, λ e. refl)

alone_usage : (alone : Option Job) (reading : Result Job WordsFault) (b : Bool) → (reading ≡ Err Usage) ↔ (b ≡ false) → (alone_or alone reading ≡ Err Usage) ↔ ((is_some alone || b) ≡ false)
alone_usage None reading b h = h
alone_usage (Some job) reading b h = (λ e. cc, λ e. cc)

pub usage : UsageIsOfGrammar
usage words = alone_usage (asked_alone words) (command_job words) (is_taken words && met_goes_together (subcommand_of words_app words)) (command_usage words)

-- ---- what is read

-- what was found is that of the words
pub found_ok : (app : App) (words : List (List ℕ)) (m : ArgMatches) → app ≡ words_app → (is_simple_and_free app ≡ true → fault_of app words ≡ []) → HasMatchesOf app words m →
    Some (subcommand_rows_of m) ≡ taken_in words
found_ok app words m same faultless matches =
    let none : fault_of words_app words ≡ [] = subst (λ a. fault_of a words ≡ []) same (faultless (ap is_simple_and_free same ∙ simple_and_free)) in
    let taken : is_taken words ≡ true = ap is_empty none in
    let sub : subcommand_rows_of m ≡ subcommand_of words_app words = (matches (ap is_simple same ∙ simple)).1 ∙ ap (λ a. subcommand_of a words) same in
    ap (λ x. Some x) sub ∙ ap (λ b. cond b (Some (subcommand_of words_app words)) None) (sym taken)

-- words that are refused aren't of the grammar
pub found_err : (app : App) (words : List (List ℕ)) (e : Error) → app ≡ words_app → (is_simple_and_free app ≡ true → HasKind (fault_of app words) e) → (kind_of e ≡ kind.OutOfMemory → ⊥) →
    None ≡ taken_in words
found_err app words e same fails other =
    let fault : HasKind (fault_of words_app words) e = subst (λ a. HasKind (fault_of a words) e) same (fails (ap is_simple_and_free same ∙ simple_and_free)) in
    ap (λ b. cond b (Some (subcommand_of words_app words)) None) (sym (some_kind (fault_of words_app words) e other fault))

same_met : (x y : Option (List ℕ × List Row)) → Some x ≡ Some y → x ≡ y
same_met x y e = cc

module _ {A : Type 0} (f : Option (List ℕ × List Row) → A) (absent : A) where
  -- what comes of words of the grammar, by what was found in them
  pub read_taken : (words : List (List ℕ)) (met : Option (List ℕ × List Row)) → Some met ≡ taken_in words → cond (is_taken words) (f (subcommand_of words_app words)) absent ≡ f met
  read_taken words met is = cases (is_taken words) is
    where
      cases : (b : Bool) → Some met ≡ cond b (Some (subcommand_of words_app words)) None → cond b (f (subcommand_of words_app words)) absent ≡ f met
      cases true e = ap f (same_met (subcommand_of words_app words) met (sym e))
      cases false e = cc

  -- and of other words
  pub read_refused : (words : List (List ℕ)) → None ≡ taken_in words → cond (is_taken words) (f (subcommand_of words_app words)) absent ≡ absent
  read_refused words is = cases (is_taken words) is
    where
      cases : (b : Bool) → None ≡ cond b (Some (subcommand_of words_app words)) None → cond b (f (subcommand_of words_app words)) absent ≡ absent
      cases true e = cc
      cases false e = refl
