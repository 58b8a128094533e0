-- The options that there are, and what the words of a command line ask for by them. Which words go to which option is the option parser's
-- definition of its matches.
use Rattle.std.specs.Prelude.{◌≡◌, ◌↔◌, ◌⊎◌, ℕ, IsTrue, true, List, [], ◌∷◌, Option, Some, Result, MatchResult, codes, option_map, pos}
use Rattle.std.specs.Borrow.{Bor}
use Rattle.std.specs.Str.Parse.{digits_value, without_leading_plus}
use Rattle.clap.specs.Walk.{Rule, Text, first_of, texts}
use Rattle.clap.specs.Faults.{fault_of}
use Rattle.clap.specs.Kinds.{IsAmong, Kinds}
use Rattle.clap.specs.Values.{kind_of}
use Rattle.clap.specs.Simple.{App, matches_of, new_rule, new_shape}
use Rattle.clap.specs.declared.builder.action.ArgAction.TheVariants.{Set, SetTrue}
use Rattle.clap.specs.declared.builder.value_parser.ValueParser.{ValueParser}
use Rattle.clap.specs.declared.builder.value_parser.ValueParser.TheVariants as parser
use Rattle.clap.specs.declared.error.Error.{Error}
use Rattle.clap.specs.declared.error.kind.ErrorKind.{ErrorKind}
use Rattle.clap.specs.declared.error.kind.ErrorKind.TheVariants.{OutOfMemory}
use Rattle.ispc_options.specs.declared.options.Options.{Options}
use Rattle.ispc_options.specs.declared.options.Paths.{Paths}
use Rattle.ispc_options.specs.declared.options.Width.{Width}
use Rattle.ispc_options.specs.declared.options.Width.TheVariants.{Four, Eight, Sixteen}

-- an argument whose value has one name in the help
abbrev pub valued : Text → Rule
valued name = record (new_rule name) { value_names = 1 }

-- `--name VALUE`
abbrev pub option : Text → Rule
option name = record (valued name) { long = Some name }

-- the same, of the values that a parser takes, and with the value where the words give none
abbrev pub option_or : Text → ValueParser → Text → Rule
option_or name parser default =
    record (option name) { action = Some Set; parser = Some parser; defaults = default ∷ [] }

-- `--name`, which is true where the words have it
abbrev pub flag : Text → Rule
flag name = record (new_rule name) { long = Some name; action = Some SetTrue; parser = Some parser.Bool }

-- whole numbers from 1 to `most`
abbrev pub up_to : ℕ → ValueParser
up_to most = parser.Signed (pos 1) (pos most)

-- the texts of a list in memory are the widths
abbrev pub AreWidths : Bor (List (Bor Text)) → Type 0
AreWidths names = texts names.now ≡ codes "4" ∷ codes "8" ∷ codes "16" ∷ []

-- a source, and the options; the widths lie somewhere in memory
abbrev pub rules : Bor (List (Bor Text)) → List Rule
rules widths = valued (codes "source")
    ∷ option (codes "input")
    ∷ option (codes "entry")
    ∷ option_or (codes "width") (parser.Names widths) (codes "4")
    ∷ option_or (codes "history") (up_to 65536) (codes "64")
    ∷ option_or (codes "steps") (up_to 10000000) (codes "1000000")
    ∷ flag (codes "lane-pure")
    ∷ []

-- a command of a name with these options, and no commands of its own
abbrev pub command_of : Text → List Rule → App
command_of name rules = record { top = record (new_shape name) { rules = rules; no_binary_name = true }; subs = [] }

abbrev pub command : Bor (List (Bor Text)) → App
command widths = command_of (codes "ispc_cli") (rules widths)

abbrev pub width_text : Width → Text
width_text Four = codes "4"
width_text Eight = codes "8"
width_text Sixteen = codes "16"

-- the number that decimal digits spell, after a plus if there is one
abbrev pub number_of : Text → ℕ
number_of text = digits_value 10 (without_leading_plus text)

abbrev pub text_of : Option (Bor Text) → Option Text
text_of = option_map (λ s. s.now)

-- the options are those of the values that the options' names have
pub record HasOptions (value : Text → Option Text) (options : Options) : Type 0 where
  pub width : value (codes "width") ≡ Some (width_text options.width)
  pub history : option_map number_of (value (codes "history")) ≡ Some options.history
  pub steps : option_map number_of (value (codes "steps")) ≡ Some options.steps
  pub entry : value (codes "entry") ≡ text_of options.entry
  pub lane_pure : IsTrue options.lane_pure ↔ (value (codes "lane-pure") ≡ Some (codes "true"))

pub record HasPaths (value : Text → Option Text) (paths : Paths) : Type 0 where
  pub source : value (codes "source") ≡ text_of paths.source
  pub input : value (codes "input") ≡ text_of paths.input

-- the first value that the words give to a name, or else its default
abbrev pub value_of : Bor (List (Bor Text)) → List Text → Text → Option Text
value_of widths words name = first_of name (matches_of (command widths) words)

-- what the words ask for
abbrev pub AsksFor : List Text → Options × Paths → Type 0
AsksFor words read = (widths : Bor (List (Bor Text))) × AreWidths widths
    × HasOptions (value_of widths words) read.0 × HasPaths (value_of widths words) read.1

-- the kinds of fault that the words may have: those of the first word, value or default that is none of the options', and none where there is
-- no such word. A call for help is a fault, and so is an option that stands twice
abbrev pub HaveFaults : List Text → Kinds → Type 0
HaveFaults words kinds = (widths : Bor (List (Bor Text))) × AreWidths widths × (fault_of (command widths) words ≡ kinds)

abbrev pub HaveFault : List Text → ErrorKind → Type 0
HaveFault words kind = (kinds : Kinds) × HaveFaults words kinds × IsAmong kind kinds

-- words are read only where they have no fault, and refused only with the kind of a fault that they have, or out of memory
abbrev pub FailsFor : List Text → Result (Options × Paths) Error → Type 0
FailsFor words read = MatchResult read (λ _. HaveFaults words [])
    (λ e. (kind_of e ≡ OutOfMemory) ⊎ HaveFault words (kind_of e))
