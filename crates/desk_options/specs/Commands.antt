-- The options that each verb has, as the option parser reads them.
use Rattle.std.specs.Prelude.{false, true, List, [], ◌∷◌, ◌++◌, Some, codes}
use Rattle.std.specs.Borrow.{Bor}
use Rattle.clap.specs.Lexer.{usize_max}
use Rattle.clap.specs.Walk.{Rule, Text}
use Rattle.clap.specs.Simple.{App, new_shape, with_rule}
use Rattle.clap.specs.declared.builder.action.ArgAction.TheVariants.{Set}
use Rattle.clap.specs.declared.builder.value_parser.ValueParser.TheVariants as parser
use Rattle.ispc_options.specs.Asked.{command_of, flag, option, option_or, up_to, valued}
use Rattle.desk_options.specs.declared.names.VerbName.{VerbName}
use Rattle.desk_options.specs.declared.names.VerbName.TheVariants.{Debug, Picture, Page, Profile, Adapter, Explain, Port}
use Rattle.desk_options.specs.Names.{name_of}

-- a word that stands for itself and has to be there
abbrev pub wanted : Text → Rule
wanted name = record (valued name) { required = true; action = Some Set }

-- words of which one at least has to be there
abbrev pub several : Text → Rule
several name = record (valued name) { required = true; range = Some (record { start_inclusive = 1; end_inclusive = usize_max }) }

-- a program and how it is run; the widths lie somewhere in memory
abbrev pub program_rules : Bor (List (Bor Text)) → List Rule
program_rules widths = wanted (codes "source")
    ∷ option (codes "input")
    ∷ option (codes "entry")
    ∷ option_or (codes "width") (parser.Names widths) (codes "4")
    ∷ option_or (codes "history") (up_to 65536) (codes "65536")
    ∷ option_or (codes "steps") (up_to 10000000) (codes "1000000")
    ∷ []

-- what only a debugger has
abbrev pub debug_rules : List Rule
debug_rules = option (codes "color") ∷ []

-- what only a picture has
abbrev pub picture_rules : List Rule
picture_rules = option (codes "commands")
    ∷ option (codes "watch")
    ∷ option_or (codes "from") (up_to 10000000) (codes "1")
    ∷ option_or (codes "most") (up_to 10000000) (codes "400")
    ∷ option_or (codes "row") (up_to 10000000) (codes "60")
    ∷ option (codes "to")
    ∷ flag (codes "force")
    ∷ []

-- what only a page has: first what bounds it
abbrev pub bound_rules : List Rule
bound_rules = option_or (codes "most") (up_to 1000000) (codes "100000") ∷ []

-- and the others
abbrev pub page_rules : List Rule
page_rules = option (codes "commands")
    ∷ option_or (codes "from") (up_to 10000000) (codes "1")
    ∷ option_or (codes "each") (up_to 1000000) (codes "1")
    ∷ option (codes "around")
    ∷ option_or (codes "elements") (up_to 65536) (codes "1024")
    ∷ option (codes "to")
    ∷ flag (codes "force")
    ∷ []

-- what only a profile has
abbrev pub profile_rules : List Rule
profile_rules = option_or (codes "from") (up_to 10000000) (codes "1")
    ∷ option_or (codes "most") (up_to 10000000) (codes "10000000")
    ∷ option_or (codes "top") (up_to 65536) (codes "20")
    ∷ option (codes "by")
    ∷ option (codes "color")
    ∷ flag (codes "annotate")
    ∷ flag (codes "json")
    ∷ flag (codes "compare")
    ∷ option (codes "to")
    ∷ flag (codes "force")
    ∷ []

-- a source, and what is written
abbrev pub port_rules : List Rule
port_rules = wanted (codes "source") ∷ option (codes "to") ∷ flag (codes "force") ∷ []

abbrev pub rules_of : Bor (List (Bor Text)) → VerbName → List Rule
rules_of widths Debug = program_rules widths ++ debug_rules
rules_of widths Picture = program_rules widths ++ picture_rules
rules_of widths Page = bound_rules ++ (program_rules widths ++ page_rules)
rules_of widths Profile = program_rules widths ++ profile_rules
rules_of widths Adapter = []
rules_of widths Explain = several (codes "name") ∷ []
rules_of widths Port = port_rules

-- the command that reads the words behind a verb
abbrev pub verb_command : Bor (List (Bor Text)) → VerbName → App
verb_command widths verb = command_of (codes "rinddecade " ++ name_of verb) (rules_of widths verb)

-- the command that reads words whose first names no verb: it lists the verbs, and tells the version
abbrev pub all_verbs : App
all_verbs = record {
  top = record (new_shape (codes "rinddecade")) { is_leaf = false; no_binary_name = true; has_version = true; subcommand_required = true };
  subs = new_shape (codes "debug") ∷ new_shape (codes "picture") ∷ new_shape (codes "page") ∷ new_shape (codes "profile") ∷ new_shape (codes "adapter") ∷ new_shape (codes "explain")
      ∷ new_shape (codes "port") ∷ [];
}

-- a command with more rules, the last ones
abbrev pub with_rules : App → List Rule → App
with_rules app [] = app
with_rules app (rule ∷ rest) = with_rules (with_rule app rule) rest
