-- What the words of a command line ask for. Which words go to which option is the option parser's definition of its matches.
use Rattle.std.specs.Prelude.{◌≡◌, ◌↔◌, ◌⊎◌, ⊤, IsTrue, List, [], ◌∷◌, Option, Some, Result, MatchOption, MatchResult, codes, false, option_map, unwrap_or}
use Rattle.std.specs.Borrow.{Bor}
use Rattle.std.specs.Option.{option_map_or}
use Rattle.clap.specs.Walk.{Text, all_of, first_of, rows_of, texts}
use Rattle.clap.specs.Faults.{fault_of}
use Rattle.clap.specs.Kinds.{IsAmong, Kinds, or_else}
use Rattle.clap.specs.Values.{kind_of}
use Rattle.clap.specs.Built.{IsParsedFrom}
use Rattle.clap.specs.Matches.{found_of, matched_of, raw_values}
use Rattle.clap.specs.Simple.{App, app_of, matches_of}
use Rattle.clap.specs.declared.builder.command.Command.{Command}
use Rattle.clap.specs.declared.parser.matches.ArgMatches.{ArgMatches}
use Rattle.clap.specs.declared.parser.matches.Found.{Found}
use Rattle.clap.specs.declared.error.Error.{Error}
use Rattle.clap.specs.declared.error.kind.ErrorKind.{ErrorKind}
use Rattle.clap.specs.declared.error.kind.ErrorKind.TheVariants.{MissingSubcommand, OutOfMemory}
use Rattle.ispc_options.specs.Asked.{AreWidths, number_of, text_of, width_text}
use Rattle.ispc_options.specs.declared.options.Options.{Options}
use Rattle.desk_options.specs.declared.names.VerbName.{VerbName}
use Rattle.desk_options.specs.declared.names.VerbName.TheVariants as name
use Rattle.desk_options.specs.declared.verbs.Debugged.{Debugged}
use Rattle.desk_options.specs.declared.verbs.Picture.{Picture}
use Rattle.desk_options.specs.declared.verbs.Ported.{Ported}
use Rattle.desk_options.specs.declared.verbs.Profile.{Profile}
use Rattle.desk_options.specs.declared.verbs.Program.{Program}
use Rattle.desk_options.specs.declared.verbs.RunPage.{RunPage}
use Rattle.desk_options.specs.declared.verbs.Verb.{Verb}
use Rattle.desk_options.specs.declared.verbs.Verb.TheVariants as verb
use Rattle.desk_options.specs.Commands.{all_verbs, verb_command}
use Rattle.desk_options.specs.Names.{named_words}

-- the options are those of the values that the options' names have, and nothing is reported in place of a run
pub record HasRun (value : Text → Option Text) (options : Options) : Type 0 where
  pub width : value (codes "width") ≡ Some (width_text options.width)
  pub history : option_map number_of (value (codes "history")) ≡ Some options.history
  pub steps : option_map number_of (value (codes "steps")) ≡ Some options.steps
  pub entry : value (codes "entry") ≡ text_of options.entry
  pub pure : options.lane_pure ≡ false

pub record HasProgram (value : Text → Option Text) (program : Program) : Type 0 where
  pub source : value (codes "source") ≡ Some program.source.now
  pub input : value (codes "input") ≡ text_of program.input
  pub run : HasRun value program.options

pub record HasDebugged (value : Text → Option Text) (debugged : Debugged) : Type 0 where
  pub program : HasProgram value debugged.program
  pub color : value (codes "color") ≡ text_of debugged.color

pub record HasPicture (value : Text → Option Text) (picture : Picture) : Type 0 where
  pub program : HasProgram value picture.program
  pub commands : value (codes "commands") ≡ text_of picture.commands
  pub watch : value (codes "watch") ≡ text_of picture.watch
  pub from : option_map number_of (value (codes "from")) ≡ Some picture.from
  pub most : option_map number_of (value (codes "most")) ≡ Some picture.most
  pub row : option_map number_of (value (codes "row")) ≡ Some picture.row
  pub to : value (codes "to") ≡ text_of picture.to
  pub force : IsTrue picture.force ↔ (value (codes "force") ≡ Some (codes "true"))

pub record HasPage (value : Text → Option Text) (page : RunPage) : Type 0 where
  pub program : HasProgram value page.program
  pub commands : value (codes "commands") ≡ text_of page.commands
  pub from : option_map number_of (value (codes "from")) ≡ Some page.from
  pub most : option_map number_of (value (codes "most")) ≡ Some page.most
  pub each : option_map number_of (value (codes "each")) ≡ Some page.each
  pub around : value (codes "around") ≡ text_of page.around
  pub elements : option_map number_of (value (codes "elements")) ≡ Some page.elements
  pub to : value (codes "to") ≡ text_of page.to
  pub force : IsTrue page.force ↔ (value (codes "force") ≡ Some (codes "true"))

pub record HasProfile (value : Text → Option Text) (profile : Profile) : Type 0 where
  pub program : HasProgram value profile.program
  pub from : option_map number_of (value (codes "from")) ≡ Some profile.from
  pub most : option_map number_of (value (codes "most")) ≡ Some profile.most
  pub top : option_map number_of (value (codes "top")) ≡ Some profile.top
  pub by : value (codes "by") ≡ text_of profile.by
  pub color : value (codes "color") ≡ text_of profile.color
  pub annotate : IsTrue profile.annotate ↔ (value (codes "annotate") ≡ Some (codes "true"))
  pub json : IsTrue profile.json ↔ (value (codes "json") ≡ Some (codes "true"))
  pub compare : IsTrue profile.compare ↔ (value (codes "compare") ≡ Some (codes "true"))
  pub to : value (codes "to") ≡ text_of profile.to
  pub force : IsTrue profile.force ↔ (value (codes "force") ≡ Some (codes "true"))

pub record HasPorted (value : Text → Option Text) (ported : Ported) : Type 0 where
  pub source : value (codes "source") ≡ Some ported.source.now
  pub to : value (codes "to") ≡ text_of ported.to
  pub force : IsTrue ported.force ↔ (value (codes "force") ≡ Some (codes "true"))

-- the first value that the words give to a name, or else its default
abbrev pub value_of : App → List Text → Text → Option Text
value_of app words name = first_of name (matches_of app words)

-- all values that the words give to a name
abbrev pub values_of : App → List Text → Text → List Text
values_of app words name = unwrap_or (all_of name (matches_of app words)) []

-- all values that a parse found of a name
abbrev pub raw_of : Found → Text → List Text
raw_of found name = unwrap_or (option_map raw_values (matched_of found name)) []

-- what values ask for, the first of each name and all of it
abbrev pub IsAskedBy : VerbName → (Text → Option Text) → (Text → List Text) → Verb → Type 0
IsAskedBy name.Debug value values (verb.Debug debugged) = HasDebugged value debugged
IsAskedBy name.Picture value values (verb.Picture picture) = HasPicture value picture
IsAskedBy name.Page value values (verb.Page page) = HasPage value page
IsAskedBy name.Profile value values (verb.Profile profile) = HasProfile value profile
IsAskedBy name.Adapter value values verb.Adapter = ⊤
IsAskedBy name.Explain value values (verb.Explain explained) = texts explained.words.items ≡ values (codes "name")
IsAskedBy name.Port value values (verb.Port ported) = HasPorted value ported
IsAskedBy _ _ _ _ = ⊥

-- what the words behind a verb's name ask for
abbrev pub AsksBehind : Bor (List (Bor Text)) → VerbName × List Text → Verb → Type 0
AsksBehind widths behind = IsAskedBy behind.0 (value_of (verb_command widths behind.0) behind.1) (values_of (verb_command widths behind.0) behind.1)

-- what the words ask for: the first is a verb's name, and the others are read as its options
abbrev pub AsksFor : List Text → Verb → Type 0
AsksFor words verb = (widths : Bor (List (Bor Text))) × AreWidths widths
    × MatchOption (named_words words) ⊥ (λ behind. AsksBehind widths behind verb)

-- the kinds of fault of words whose first names no verb: those that the list of the verbs has for them, and that no verb is there
abbrev pub nameless_faults : List Text → Kinds
nameless_faults words = or_else (fault_of all_verbs words) (MissingSubcommand ∷ [])

-- the kinds of fault that the words may have: those of the first word, value or default that is none of the verb's options', and none where
-- there is no such word. A call for help is a fault, and so is an option that stands twice
abbrev pub faults_of : Bor (List (Bor Text)) → List Text → Kinds
faults_of widths words = option_map_or (λ behind. fault_of (verb_command widths behind.0) behind.1) (named_words words) (nameless_faults words)

abbrev pub HaveFaults : List Text → Kinds → Type 0
HaveFaults words kinds = (widths : Bor (List (Bor Text))) × AreWidths widths × (faults_of widths words ≡ kinds)

abbrev pub HaveFault : List Text → ErrorKind → Type 0
HaveFault words kind = (kinds : Kinds) × HaveFaults words kinds × IsAmong kind kinds

-- words are read only where they have no fault, and refused only with the kind of a fault that they have, or out of memory
abbrev pub FailsFor : List Text → Result Verb Error → Type 0
FailsFor words read = MatchResult read (λ _. HaveFaults words [])
    (λ e. (kind_of e ≡ OutOfMemory) ⊎ HaveFault words (kind_of e))

-- a parse of the words behind a verb: it found what the definition of its matches says and they have no fault, or they have one
abbrev pub Parses : VerbName → List Text → Result ArgMatches Error → Type 0
Parses verb words read = MatchResult read
    (λ matches. (widths : Bor (List (Bor Text))) × AreWidths widths
    × ((command : Command) × (app_of command ≡ verb_command widths verb) × IsParsedFrom command matches)
    × (rows_of (found_of matches) ≡ matches_of (verb_command widths verb) words)
    × (fault_of (verb_command widths verb) words ≡ []))
    (λ e. (kind_of e ≡ OutOfMemory) ⊎ ((widths : Bor (List (Bor Text))) × AreWidths widths
    × IsAmong (kind_of e) (fault_of (verb_command widths verb) words)))

-- what is told of words whose first names no verb
abbrev pub FailsNameless : List Text → Error → Type 0
FailsNameless words e = (kind_of e ≡ OutOfMemory) ⊎ IsAmong (kind_of e) (nameless_faults words)
