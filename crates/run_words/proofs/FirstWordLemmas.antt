-- Words that ask for the job of a command begin with the word that names it.
use Rattle.std.proofs.Common.{◌≡◌, ℕ, zero, suc, ◌∙◌, Bool, true, false, cond, ◌||◌, List, [], ◌∷◌, Option, Some, None, Result, Ok, Err, IfSome, IfOk, ap, refl, sym, subst, arith, bytes_eq, chars, eqb-true, find, fold, length, slice_get}
use Rattle.std.specs.Prelude.{option_map}
use Rattle.std.specs.List.{list_all, list_any}
use Rattle.std.specs.Option.{option_map_or}
use Rattle.std.proofs.lemmas.Slice.Eq.{bytes_eq-Decides}
use Rattle.clap.specs.Faults.{bundle_fault, bundle_step_fault, fault_of, flag_word_fault, flags_fault, other_fault, step_fault, walk_fault}
use Rattle.clap.specs.Kinds.{Kinds, or_else}
use Rattle.clap.specs.Lexer.{long_of, short_of}
use Rattle.clap.specs.Simple.{App, Shape, built, entered, label_of, names_of, rows_at, subcommand_of}
use Rattle.clap.specs.Walk.{Held, Names, Row, Step, Text, Waiting, Walk, after_flag, after_step, answers_to, bundle_met, bundle_step, idle, is_empty, long_or_other, nothing_held, plain, short_or_plain, stop_after, subcommand_met, subcommand_or_other, trailing, walk_from, walked}
use Rattle.clap.proofs.WalkLemmas.{walk_stopped}
use Rattle.run_words.specs.Asked.{first_bad, fonts_at, goes_together, is_told, job_for, play_of, source_at, stills_of, unless_bad}
use Rattle.run_words.specs.Commands.{command_name, commands}
use Rattle.run_words.specs.Grammar.{is_taken, words_app}
use Rattle.run_words.specs.Words.{FirstWordIsCommand, asked_alone, command_asked, command_job, command_named, job_in, reading_in}
use Rattle.run_words.specs.declared.argument.Argument.{Argument}
use Rattle.run_words.specs.declared.argument.Argument.TheVariants as argument
use Rattle.run_words.specs.declared.command.Command.{Command}
use Rattle.run_words.specs.declared.command.Command.TheVariants as command
use Rattle.run_words.specs.declared.job.Job.{Job}
use Rattle.run_words.specs.declared.job.Job.TheVariants as job
use Rattle.run_words.specs.declared.job.WordsFault.{WordsFault}
use Rattle.run_words.specs.declared.job.WordsFault.TheVariants.{Usage}
use Rattle.value_texts.proofs.TextLemmas.{both}
use Rattle.run_words.proofs.ReadingLemmas.{alone_holds, or_holds}
use Rattle.run_words.proofs.WordsLemmas.{none_is_empty}

-- ---- the command of a reading

-- a job that is read is of the command with this name
abbrev IsOf : List ℕ → Result Job WordsFault → Type 0
IsOf name reading = IfOk reading (λ job. option_map command_name (command_asked job) ≡ Some name)

of_play : (rows : List Row) → command_asked (job_for rows command.Play) ≡ Some command.Play
of_play rows = cases (is_told rows argument.Changed)
  where
    cases : (b : Bool) → command_asked (cond b (job.Stills (stills_of rows) (source_at rows) (fonts_at rows)) (job.Play (play_of rows) (source_at rows) (fonts_at rows))) ≡ Some command.Play
    cases true = refl
    cases false = refl

of_command : (rows : List Row) (c : Command) → command_asked (job_for rows c) ≡ Some c
of_command rows command.Check = refl
of_command rows command.Frame = refl
of_command rows command.Play = of_play rows
of_command rows command.Selftest = refl
of_command rows command.Changes = refl
of_command rows command.Write = refl

found_is : {A : Type 0} (p : A → Bool) (xs : List A) → IfSome (find p xs) (λ x. p x ≡ true)
found_is p [] = tt
found_is p (x ∷ xs) = cases (p x) refl (found_is p xs)
  where
    cases : (b : Bool) → p x ≡ b → IfSome (find p xs) (λ y. p y ≡ true) → IfSome (cond b (Some x) (find p xs)) (λ y. p y ≡ true)
    cases true e rest = e
    cases false e rest = rest

unless_of : (name : List ℕ) (bad : Option Argument) (job : Job) → option_map command_name (command_asked job) ≡ Some name → IsOf name (unless_bad bad job)
unless_of name None job h = h
unless_of name (Some argument) job h = tt

reading_of : (rows : List Row) (name : List ℕ) (c : Option Command) → IfSome c (λ x. bytes_eq (command_name x) name ≡ true) → IsOf name (reading_in rows c)
reading_of rows name None h = tt
reading_of rows name (Some c) h = cases (goes_together rows c)
  where
    cases : (b : Bool) → IsOf name (cond b (unless_bad (first_bad rows c) (job_for rows c)) (Err Usage))
    cases true = unless_of name (first_bad rows c) (job_for rows c) (ap (option_map command_name) (of_command rows c) ∙ ap (λ n. Some n) ((bytes_eq-Decides (command_name c) name).0 h))
    cases false = tt

shape_of_name : (rest : List Text) (name : List ℕ) (s : Option Shape) → IfSome s (λ x. bytes_eq x.name name ≡ true) → IsOf name (job_in (option_map (λ x. rows_at x rest) s))
shape_of_name rest name None h = tt
shape_of_name rest name (Some s) h =
    subst (λ n. IsOf n (job_in (Some (rows_at s rest)))) ((bytes_eq-Decides s.name name).0 h)
    (reading_of (rows_at s rest).1 s.name (command_named s.name) (found_is (λ c. bytes_eq (command_name c) s.name) commands))

-- ---- names without aliases

by_name : (b : Bool) (word : Text) (aliases : List Text) → is_empty aliases ≡ true → (b || list_any (λ alias. bytes_eq alias word) aliases) ≡ true → b ≡ true
by_name true word aliases none e = refl
by_name false word [] none e = cc
by_name false word (a ∷ rest) none e = absurd (omega (arith, eqb-true _ _ none))

-- The label has no alias.
abbrev is_alone : Text × List Text → Bool
is_alone s = is_empty s.1

named : (word : Text) (xs : Names) → list_all is_alone xs ≡ true → IfSome (find (answers_to word) xs) (λ s. s.0 ≡ word)
named word [] all = tt
named word (s ∷ xs) all = let parts = both _ _ all in cases (answers_to word s) refl parts.0 (named word xs parts.1)
  where
    cases : (b : Bool) → answers_to word s ≡ b → is_alone s ≡ true → IfSome (find (answers_to word) xs) (λ t. t.0 ≡ word) → IfSome (cond b (Some s) (find (answers_to word) xs)) (λ t. t.0 ≡ word)
    cases true e none rest = (bytes_eq-Decides s.0 word).0 (by_name (bytes_eq s.0 word) word s.1 none e)
    cases false e none rest = rest

shaped : (word : Text) (xs : List Shape) → list_all (λ s. is_alone (label_of s)) xs ≡ true → IfSome (find (λ s. answers_to word (label_of s)) xs) (λ s. bytes_eq s.name word ≡ true)
shaped word [] all = tt
shaped word (s ∷ xs) all = let parts = both _ _ all in cases (answers_to word (label_of s)) refl parts.0 (shaped word xs parts.1)
  where
    cases : (b : Bool) → answers_to word (label_of s) ≡ b → is_alone (label_of s) ≡ true → IfSome (find (λ t. answers_to word (label_of t)) xs) (λ t. bytes_eq t.name word ≡ true) →
        IfSome (cond b (Some s) (find (λ t. answers_to word (label_of t)) xs)) (λ t. bytes_eq t.name word ≡ true)
    cases true e none rest = by_name (bytes_eq s.name word) word s.aliases none e
    cases false e none rest = rest

-- the grammar as `clap` builds it
abbrev whole : App
whole = built words_app

abbrev names : Names
names = names_of whole

shapes_alone : list_all (λ s. is_alone (label_of s)) whole.subs ≡ true
shapes_alone = refl

names_alone : list_all is_alone names ≡ true
names_alone = refl

entered_of : (name : Text) (stop : Option (Text × List Text)) → IfSome stop (λ p. p.0 ≡ name) → IsOf name (job_in (entered whole stop))
entered_of name None h = tt
entered_of name (Some p) h =
    subst (λ n. IsOf n (job_in (entered whole (Some p)))) h
    (shape_of_name p.1 p.0 (find (λ s. answers_to p.0 (label_of s)) whole.subs) (shaped p.0 whole.subs shapes_alone))

-- ---- the first word

abbrev start : Walk
start = walk_from nothing_held

-- what the walk meets in a first word that names this command, or none
abbrev met_by : Option Text → Text → Held × Step
met_by m word = subcommand_or_other [] m idle 1 word nothing_held

abbrev met_fault : Option Text → Text → Kinds
met_fault m word = or_else (other_fault whole.top m word nothing_held) (step_fault whole.top 1 (met_by m word).0 (met_by m word).1)

abbrev walk_of : Held × Step → Text → List Text → Walk
walk_of met word rest = fold (walked [] names) (after_step [] word start met.0 met.1) rest

-- Where all words are names of files, no command is met.
trailing_stays : (held : Held) (waiting : Waiting) (position : ℕ) (rest : List Text) →
    (fold (walked [] names) (record { held = held; waiting = waiting; position = position; is_trailing = true; stopped = None }) rest).stopped ≡ None
unfolding walked
trailing_stays held waiting position [] = refl
trailing_stays held waiting position (x ∷ xs) = trailing_stays held waiting position xs

first_letter : (x : Option ℕ) (k : ℕ) (flags word : Text) →
    or_else (bundle_step_fault [] false x flags 0 nothing_held (flags_fault [] false k))
    (step_fault whole.top 1 (after_flag [] idle word (bundle_step [] x flags 0 plain nothing_held (bundle_met [] k)).0 (bundle_step [] x flags 0 plain nothing_held (bundle_met [] k)).1).0
    (after_flag [] idle word (bundle_step [] x flags 0 plain nothing_held (bundle_met [] k)).0 (bundle_step [] x flags 0 plain nothing_held (bundle_met [] k)).1).1) ≡ [] → ⊥
first_letter None k flags word e = cc
first_letter (Some x) k flags word e = cc

letters : (k : ℕ) (flags word : Text) →
    or_else (flags_fault [] false k flags 0 nothing_held)
    (step_fault whole.top 1 (after_flag [] idle word (bundle_met [] k flags 0 plain nothing_held).0 (bundle_met [] k flags 0 plain nothing_held).1).0
    (after_flag [] idle word (bundle_met [] k flags 0 plain nothing_held).0 (bundle_met [] k flags 0 plain nothing_held).1).1) ≡ [] → ⊥
unfolding flags_fault bundle_met
letters zero flags word e = cc
letters (suc k) flags word e = first_letter (slice_get (chars flags) 0) k flags word e

short_words : (s : Option Text) (word : Text) →
    or_else (option_map_or (λ flags. bundle_fault [] false flags nothing_held) s [])
    (step_fault whole.top 1 (short_or_plain [] idle word s nothing_held).0 (short_or_plain [] idle word s nothing_held).1) ≡ [] → ⊥
short_words None word e = cc
short_words (Some flags) word e = letters (length flags) flags word e

long_words : (l : Option (Text × Option Text)) (word : Text) →
    or_else (flag_word_fault [] false l word nothing_held)
    (step_fault whole.top 1 (long_or_other [] idle word l nothing_held).0 (long_or_other [] idle word l nothing_held).1) ≡ [] → ⊥
long_words None word e = short_words (short_of word) word e
long_words (Some p) word e = cc

-- What isn't `--` is refused where it names no command.
no_command : (dashes : Bool) (word : Text) (rest : List Text) →
    or_else (cond dashes [] (flag_word_fault [] false (long_of word) word nothing_held))
    (step_fault whole.top 1 (cond dashes (nothing_held, trailing 1) (long_or_other [] idle word (long_of word) nothing_held)).0
    (cond dashes (nothing_held, trailing 1) (long_or_other [] idle word (long_of word) nothing_held)).1) ≡ [] →
    IfSome (walk_of (cond dashes (nothing_held, trailing 1) (long_or_other [] idle word (long_of word) nothing_held)) word rest).stopped (λ p. p.0 ≡ word)
no_command true word rest e = subst (λ stop. IfSome stop (λ p. p.0 ≡ word)) (sym (trailing_stays nothing_held idle 1 rest)) tt
no_command false word rest e = absurd (long_words (long_of word) word e)

met_stop : (m : Option Text) (word : Text) (rest : List Text) → IfSome m (λ n. n ≡ word) → met_fault m word ≡ [] → IfSome (walk_of (met_by m word) word rest).stopped (λ p. p.0 ≡ word)
met_stop None word rest h e = no_command (bytes_eq word (45 ∷ 45 ∷ [])) word rest e
met_stop (Some n) word rest h e = subst (λ (w : Walk). IfSome w.stopped (λ p. p.0 ≡ word)) (walk_stopped [] names start n [] rest) h

name_met : (word : Text) (found : Option (Text × List Text)) → IfSome found (λ s. s.0 ≡ word) → IfSome (option_map (λ s. s.0) found) (λ n. n ≡ word)
name_met word None h = tt
name_met word (Some s) h = h

first_of_two : (first next : Kinds) → or_else first next ≡ [] → first ≡ []
first_of_two [] next e = refl
first_of_two (k ∷ ks) next e = e

first_turn : (word : Text) (rest : List Text) → walk_fault whole.top names start (word ∷ rest) ≡ [] → met_fault (subcommand_met names idle word) word ≡ []
unfolding walk_fault
first_turn word rest e = first_of_two (met_fault (subcommand_met names idle word) word) (walk_fault whole.top names (walked [] names start word) rest) e

first_walk : (word : Text) (rest : List Text) → IfSome (walk_of (met_by (subcommand_met names idle word) word) word rest).stopped (λ p. p.0 ≡ word) → IfSome (stop_after [] names (word ∷ rest)) (λ p. p.0 ≡ word)
unfolding walked
first_walk word rest h = h

stop : (word : Text) (rest : List Text) → fault_of words_app (word ∷ rest) ≡ [] → IfSome (stop_after [] names (word ∷ rest)) (λ p. p.0 ≡ word)
stop word rest e =
    first_walk word rest
    (met_stop (subcommand_met names idle word) word rest (name_met word (find (answers_to word) names) (named word names names_alone)) (first_turn word rest (first_of_two (walk_fault whole.top names start (word ∷ rest)) _ e)))

-- the word that names the command, where one asks for the job
abbrev BeginsWith : List Text → Job → Type 0
BeginsWith words job = IfSome (command_asked job) (λ command. slice_get words 0 ≡ Some (command_name command))

begins : (word : Text) (rest : List Text) (c : Option Command) → option_map command_name c ≡ Some word → IfSome c (λ command. slice_get (word ∷ rest) 0 ≡ Some (command_name command))
begins word rest None h = cc
begins word rest (Some c) h = sym h

at_first : (word : Text) (rest : List Text) (reading : Result Job WordsFault) → IsOf word reading → IfOk reading (BeginsWith (word ∷ rest))
at_first word rest (Ok job) h = begins word rest (command_asked job) h
at_first word rest (Err fault) h = tt

taken : (words : List Text) → is_taken words ≡ true → IfOk (job_in (subcommand_of words_app words)) (BeginsWith words)
taken [] e = tt
taken (word ∷ rest) e =
    at_first word rest (job_in (subcommand_of words_app (word ∷ rest))) (entered_of word (stop_after [] names (word ∷ rest)) (stop word rest (none_is_empty _ e)))

of_commands : (words : List Text) → IfOk (command_job words) (BeginsWith words)
of_commands words = cases (is_taken words) refl
  where
    cases : (b : Bool) → is_taken words ≡ b → IfOk (cond b (job_in (subcommand_of words_app words)) (Err Usage)) (BeginsWith words)
    cases true e = taken words e
    cases false e = tt

pub first_word : FirstWordIsCommand
first_word words = or_holds (BeginsWith words) (asked_alone words) (command_job words) (alone_holds (BeginsWith words) tt tt words) (of_commands words)
