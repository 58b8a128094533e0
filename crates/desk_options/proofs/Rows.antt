-- Words, and the kinds of fault that the definition gives them.
use Rattle.std.specs.Prelude.{◌≡◌, refl, List, [], ◌∷◌, codes}
use Rattle.clap.specs.Kinds.{Kinds}
use Rattle.clap.specs.Walk.{Text}
use Rattle.clap.specs.declared.error.kind.ErrorKind.TheVariants.{ArgumentConflict, DisplayHelp, DisplayVersion, InvalidSubcommand, InvalidValue, MissingRequiredArgument, MissingSubcommand, UnknownArgument, ValueValidation}
use Rattle.clap.proofs.OnLiterals.{clap_on_literals}
use Rattle.desk_options.specs.Asked.{faults_of}
use Rattle.desk_options.proofs.Building.{some_widths}

abbrev faults : List Text → Kinds
faults words = faults_of some_widths words

each_option_of_debug : faults
    (codes "debug" ∷ codes "a.ispc" ∷ codes "--input" ∷ codes "a.txt" ∷ codes "--entry=go" ∷ codes "--width" ∷ codes "16" ∷ codes "--history" ∷ codes "1"
    ∷ codes "--steps" ∷ codes "1" ∷ []) ≡ []
unfolding clap_on_literals
each_option_of_debug = refl

each_option_of_picture : faults
    (codes "picture" ∷ codes "--watch" ∷ codes "x[2]" ∷ codes "--from" ∷ codes "2" ∷ codes "--most=1" ∷ codes "--row" ∷ codes "9" ∷ codes "--to" ∷ codes "a.svg"
    ∷ codes "--force" ∷ codes "--commands" ∷ codes "a.txt" ∷ codes "a.ispc" ∷ []) ≡ []
unfolding clap_on_literals
each_option_of_picture = refl

each_option_of_page : faults
    (codes "page" ∷ codes "--from" ∷ codes "2" ∷ codes "--most=1" ∷ codes "--elements" ∷ codes "7" ∷ codes "--each=9" ∷ codes "--around" ∷ codes "3,4" ∷ codes "--to" ∷ codes "a.html" ∷ codes "--force" ∷ codes "--commands"
    ∷ codes "a.txt" ∷ codes "a.ispc" ∷ []) ≡ []
unfolding clap_on_literals
each_option_of_page = refl

each_option_of_profile : faults
    (codes "profile" ∷ codes "--from=2" ∷ codes "--most=5" ∷ codes "--top" ∷ codes "3" ∷ codes "--by" ∷ codes "form" ∷ codes "--color" ∷ codes "never"
    ∷ codes "--annotate" ∷ codes "--json" ∷ codes "--compare" ∷ codes "--to" ∷ codes "a.txt" ∷ codes "--force" ∷ codes "a.ispc" ∷ []) ≡ []
unfolding clap_on_literals
each_option_of_profile = refl

no_first_step_of_a_profile : faults (codes "profile" ∷ codes "a.ispc" ∷ codes "--from" ∷ codes "0" ∷ []) ≡ ValueValidation ∷ []
unfolding clap_on_literals
no_first_step_of_a_profile = refl

no_rows_of_a_profile : faults (codes "profile" ∷ codes "a.ispc" ∷ codes "--top" ∷ codes "0" ∷ []) ≡ ValueValidation ∷ []
unfolding clap_on_literals
no_rows_of_a_profile = refl

adapter : faults (codes "adapter" ∷ []) ≡ []
unfolding clap_on_literals
adapter = refl

explained_line : faults (codes "explain" ∷ codes "3:5:" ∷ codes "S7" ∷ codes "Rate" ∷ []) ≡ []
unfolding clap_on_literals
explained_line = refl

each_option_of_port : faults (codes "port" ∷ codes "a.ispc" ∷ codes "--to" ∷ codes "b.ispc" ∷ codes "--force" ∷ []) ≡ []
unfolding clap_on_literals
each_option_of_port = refl

no_source_to_port : faults (codes "port" ∷ []) ≡ MissingRequiredArgument ∷ []
unfolding clap_on_literals
no_source_to_port = refl

no_words : faults [] ≡ MissingSubcommand ∷ []
unfolding clap_on_literals
no_words = refl

no_verb : faults (codes "step" ∷ []) ≡ UnknownArgument ∷ InvalidSubcommand ∷ []
unfolding clap_on_literals
no_verb = refl

version : faults (codes "--version" ∷ []) ≡ DisplayVersion ∷ []
unfolding clap_on_literals
version = refl

help : faults (codes "--help" ∷ []) ≡ DisplayHelp ∷ []
unfolding clap_on_literals
help = refl

help_of_a_verb : faults (codes "help" ∷ codes "picture" ∷ []) ≡ DisplayHelp ∷ []
unfolding clap_on_literals
help_of_a_verb = refl

no_source : faults (codes "debug" ∷ []) ≡ MissingRequiredArgument ∷ []
unfolding clap_on_literals
no_source = refl

to_twice : faults (codes "picture" ∷ codes "a.ispc" ∷ codes "--to" ∷ codes "a.svg" ∷ codes "--to" ∷ codes "b.svg" ∷ []) ≡ ArgumentConflict ∷ []
unfolding clap_on_literals
to_twice = refl

to_without_a_file : faults (codes "picture" ∷ codes "a.ispc" ∷ codes "--to" ∷ []) ≡ InvalidValue ∷ []
unfolding clap_on_literals
to_without_a_file = refl

no_steps : faults (codes "picture" ∷ codes "a.ispc" ∷ codes "--most" ∷ codes "0" ∷ []) ≡ ValueValidation ∷ []
unfolding clap_on_literals
no_steps = refl

no_steps_of_a_row : faults (codes "picture" ∷ codes "a.ispc" ∷ codes "--row" ∷ codes "0" ∷ []) ≡ ValueValidation ∷ []
unfolding clap_on_literals
no_steps_of_a_row = refl

an_empty_number : faults (codes "picture" ∷ codes "a.ispc" ∷ codes "--most" ∷ codes "" ∷ []) ≡ ValueValidation ∷ []
unfolding clap_on_literals
an_empty_number = refl

watch_of_debug : faults (codes "debug" ∷ codes "a.ispc" ∷ codes "--watch" ∷ codes "x" ∷ []) ≡ UnknownArgument ∷ []
unfolding clap_on_literals
watch_of_debug = refl

adapter_with_a_source : faults (codes "adapter" ∷ codes "a.ispc" ∷ []) ≡ UnknownArgument ∷ []
unfolding clap_on_literals
adapter_with_a_source = refl

nothing_explained : faults (codes "explain" ∷ []) ≡ MissingRequiredArgument ∷ []
unfolding clap_on_literals
nothing_explained = refl
