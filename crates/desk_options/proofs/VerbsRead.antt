-- What is read of words, or told of them, by what the option parser found.
use Rattle.std.proofs.Common.{◌≡◌, ◌∙◌, ◌⊎◌, true, List, [], ◌∷◌, Option, Some, None, Result, Ok, Err, IfOk, IsSomeAnd, refl, ap, sym, subst, inl, inr}
use Rattle.std.specs.Borrow.{Bor}
use Rattle.std.specs.Option.{option_map_or}
use Rattle.std.specs.Prelude.{MatchOption, unwrap_or}
use Rattle.clap.specs.Built.{IsParsedFrom}
use Rattle.clap.specs.Faults.{fault_of, is_simple_and_free}
use Rattle.clap.specs.Kinds.{FailsBy, HasKind, IsAmong, Kinds, or_else}
use Rattle.clap.specs.Matches.{first_value, found_of}
use Rattle.clap.specs.Simple.{App, HasMatchesOf, app_of, is_simple, matches_of}
use Rattle.clap.specs.Values.{kind_of}
use Rattle.clap.specs.Walk.{Text, all_of, first_of}
use Rattle.clap.specs.declared.builder.command.Command.{Command}
use Rattle.clap.specs.declared.error.Error.{Error}
use Rattle.clap.specs.declared.error.kind.ErrorKind.{ErrorKind}
use Rattle.clap.specs.declared.error.kind.ErrorKind.TheVariants.{MissingSubcommand, OutOfMemory}
use Rattle.clap.specs.declared.parser.matches.ArgMatches.{ArgMatches}
use Rattle.clap.specs.declared.parser.matches.Found.{Found}
use Rattle.clap.proofs.WalkLemmas.{first_value-rows, raw_values-rows}
use Rattle.ispc_options.specs.Asked.{AreWidths}
use Rattle.desk_options.specs.Asked.{AsksBehind, AsksFor, FailsNameless, HaveFault, HaveFaults, IsAskedBy, Parses, nameless_faults, raw_of, value_of, values_of}
use Rattle.desk_options.specs.Commands.{all_verbs, verb_command}
use Rattle.desk_options.specs.Names.{named_words}
use Rattle.desk_options.specs.Passed.{HavePassed}
use Rattle.desk_options.specs.declared.names.VerbName.{VerbName}
use Rattle.desk_options.specs.declared.names.VerbName.TheVariants.{Debug, Picture, Page, Profile, Adapter, Explain, Port}
use Rattle.desk_options.specs.declared.verbs.Verb.{Verb}
use Rattle.desk_options.proofs.Building.{some_are, some_widths}
use Rattle.desk_options.proofs.Parses.{parse_passed}

first_among : (k : ErrorKind) (a b : Kinds) → IsAmong k a → IsAmong k (or_else a b)
first_among k [] b among = absurd among
first_among k (x ∷ xs) b among = among

-- a fault that the list of the verbs tells of
pub nameless_told : (words : List Text) (app : App) (e : Error) → app ≡ all_verbs → HasKind (fault_of app words) e → FailsNameless words e
nameless_told words app e is (inl memory) = inl memory
nameless_told words app e is (inr among) = inr (first_among _ _ _ (subst (λ a. IsAmong (kind_of e) (fault_of a words)) is among))

-- and where it finds none, that no verb is there
pub nameless_missing : (words : List Text) (app : App) (e : Error) → app ≡ all_verbs → fault_of app words ≡ [] → kind_of e ≡ MissingSubcommand
    → FailsNameless words e
nameless_missing words app e is none kind =
    let faults : fault_of all_verbs words ≡ [] = ap (λ a. fault_of a words) (sym is) ∙ none in
    inr (subst (λ kinds. IsAmong (kind_of e) (or_else kinds (MissingSubcommand ∷ []))) (sym faults) (inl kind))

-- what is told of words whose first names no verb is a fault that they have
pub nameless_fault : (words : List Text) (e : Error) → named_words words ≡ None → FailsNameless words e
    → (kind_of e ≡ OutOfMemory) ⊎ HaveFault words (kind_of e)
nameless_fault words e none (inl memory) = inl memory
nameless_fault words e none (inr among) = inr (
  nameless_faults words,
  (some_widths, some_are, ap (λ o. option_map_or (λ behind. fault_of (verb_command some_widths behind.0) behind.1) o (nameless_faults words)) none),
  among,
)

all_simple_and_free : (widths : Bor (List (Bor Text))) (verb : VerbName) → is_simple_and_free (verb_command widths verb) ≡ true
all_simple_and_free widths Debug = refl
all_simple_and_free widths Picture = refl
all_simple_and_free widths Page = refl
all_simple_and_free widths Profile = refl
all_simple_and_free widths Adapter = refl
all_simple_and_free widths Explain = refl
all_simple_and_free widths Port = refl

each_simple : (widths : Bor (List (Bor Text))) (verb : VerbName) → is_simple (verb_command widths verb) ≡ true
each_simple widths Debug = refl
each_simple widths Picture = refl
each_simple widths Page = refl
each_simple widths Profile = refl
each_simple widths Adapter = refl
each_simple widths Explain = refl
each_simple widths Port = refl

-- what a parse by a verb's command comes to
pub parsed_as : (verb : VerbName) (words : List Text) (widths : Bor (List (Bor Text))) → AreWidths widths → (command : Command)
    → app_of command ≡ verb_command widths verb → (read : Result ArgMatches Error) → IfOk read (IsParsedFrom command)
    → IfOk read (HasMatchesOf (app_of command) words)
    → (is_simple_and_free (app_of command) ≡ true → FailsBy (fault_of (app_of command) words) read) → Parses verb words read
parsed_as verb words widths are command app (Ok m) parsed matches kinds = (
  widths,
  are,
  (command, app, parsed),
  (matches (ap is_simple app ∙ each_simple widths verb)).0 ∙ ap (λ a. matches_of a words) app,
  ap (λ a. fault_of a words) (sym app) ∙ kinds (ap is_simple_and_free app ∙ all_simple_and_free widths verb),
)
parsed_as verb words widths are command app (Err e) parsed matches kinds =
    told (kinds (ap is_simple_and_free app ∙ all_simple_and_free widths verb))
  where
    told : HasKind (fault_of (app_of command) words) e
        → (kind_of e ≡ OutOfMemory) ⊎ ((w : Bor (List (Bor Text))) × AreWidths w × IsAmong (kind_of e) (fault_of (verb_command w verb) words))
    told (inl memory) = inl memory
    told (inr among) = inr (widths, are, subst (λ a. IsAmong (kind_of e) (fault_of a words)) app among)

module _ (words : List Text) (verb : VerbName) (rest : List Text) (named : named_words words ≡ Some (verb, rest)) where
  faults_behind : (widths : Bor (List (Bor Text))) (kinds : Kinds) → AreWidths widths → fault_of (verb_command widths verb) rest ≡ kinds
      → HaveFaults words kinds
  faults_behind widths kinds are is = (
    widths,
    are,
    ap (λ o. option_map_or (λ behind. fault_of (verb_command widths behind.0) behind.1) o (nameless_faults words)) named ∙ is,
  )

  -- a fault behind a verb is one of the words, and where there is none there, they have none
  pub behind_told : (e : Error)
      → (kind_of e ≡ OutOfMemory) ⊎ ((widths : Bor (List (Bor Text))) × AreWidths widths × IsAmong (kind_of e) (fault_of (verb_command widths verb) rest))
      → (kind_of e ≡ OutOfMemory) ⊎ HaveFault words (kind_of e)
  behind_told e (inl memory) = inl memory
  behind_told e (inr fault) = inr (fault_of (verb_command fault.0 verb) rest, faults_behind fault.0 _ fault.1 refl, fault.2)

  module _ (matches : ArgMatches) (parsed : Parses verb rest (Ok matches)) where
    pub behind_clean : HaveFaults words []
    behind_clean = faults_behind parsed.0 [] parsed.1 parsed.4

    abbrev found : Found
    found = found_of matches

    passed : HavePassed verb found
    passed = parse_passed parsed.0 parsed.1 parsed.2.0 matches parsed.2.2 verb parsed.2.1

    module _ (read : Option Verb)
        (reads : HavePassed verb found → IsSomeAnd read (IsAskedBy verb (first_value found) (raw_of found))) where
      -- values that passed are read
      pub never_unread : read ≡ None → ⊥
      never_unread none = subst (λ o. IsSomeAnd o (IsAskedBy verb (first_value found) (raw_of found))) none (reads passed)

      -- as what the words ask for
      pub asks_for : (answer : Verb) → read ≡ Some answer → AsksFor words answer
      asks_for answer is =
          let app = verb_command parsed.0 verb in
          let here : IsAskedBy verb (first_value found) (raw_of found) answer =
          subst (λ o. IsSomeAnd o (IsAskedBy verb (first_value found) (raw_of found))) is (reads passed) in
          let value : first_value found ≡ value_of app rest = λ i id. (first_value-rows found id ∙ ap (first_of id) parsed.3) i in
          let values : raw_of found ≡ values_of app rest =
          λ i id. (ap (λ (o : Option (List Text)). unwrap_or o []) (raw_values-rows found id ∙ ap (all_of id) parsed.3)) i in
          let behind : AsksBehind parsed.0 (verb, rest) answer =
          subst (λ v. IsAskedBy verb (value_of app rest) v answer) values (subst (λ v. IsAskedBy verb v (raw_of found) answer) value here) in
          (parsed.0, parsed.1, subst (λ o. MatchOption o ⊥ (λ b. AsksBehind parsed.0 b answer)) (sym named) behind)
