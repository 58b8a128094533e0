-- What a command is that gets one argument more, or one subcommand.
use Rattle.std.proofs.Common.{◌≡◌, ◌∙◌, false, List, [], ◌∷◌, Option, Bor, codes, refl, ap, ap₂}
use Rattle.clap.specs.Built.{AddsArg, AddsSubcommand}
use Rattle.clap.specs.Walk.{Rule, Text, rule_of}
use Rattle.clap.specs.Simple.{App, app_of, new_app, with_rule, with_subcommand}
use Rattle.clap.specs.declared.builder.arg.Arg.{Arg}
use Rattle.clap.specs.declared.builder.command.Command.{Command}
use Rattle.clap.specs.declared.builder.command.Command.TheViews.{out-Command}
use Rattle.ispc_options.specs.Asked.{AreWidths}

abbrev at : Text → Bor Text
at text = record { ref_ptr = (0, 0); now = text }

-- the widths, laid somewhere
abbrev pub some_widths : Bor (List (Bor Text))
some_widths = record { ref_ptr = (0, 0); now = at (codes "4") ∷ at (codes "8") ∷ at (codes "16") ∷ [] }

pub some_are : AreWidths some_widths
some_are = refl

-- a command with one more argument
pub with_shown : (old : Command) (shown : Arg) (new : Command) (x : App) (r : Rule) → AddsArg old shown new
    → app_of old ≡ x → (rule_of shown ≡ r) × (shown.global ≡ false) → app_of new ≡ with_rule x r
with_shown old shown new x r added is rule = added.shape rule.1 ∙ ap₂ with_rule is rule.0

-- the same, where the argument has a text for the help too
pub with_one : (old : Command) (made shown : Arg) (new : Command) (x : App) (r : Rule) (h : Option (Bor Text)) → AddsArg old shown new
    → app_of old ≡ x → shown ≡ record made { help = h } → (rule_of made ≡ r) × (made.global ≡ false) → app_of new ≡ with_rule x r
with_one old made shown new x r h added is same rule =
    with_shown old shown new x r added is (ap rule_of same ∙ rule.0, ap (λ (a : Arg). a.global) same ∙ rule.1)

-- a command with one more subcommand, which has nothing but its name
pub with_verb : (old sub new : Command) (x : App) (name : Text) → AddsSubcommand old sub new → app_of old ≡ x → app_of sub ≡ new_app name
    → (out-Command sub).has_globals ≡ false → app_of new ≡ with_subcommand x (new_app name).top
with_verb old sub new x name added is same local = added.shape local ∙ ap₂ with_subcommand is (ap (λ (a : App). a.top) same)
