use Rattle.std.proofs.Common.{◌≡◌, ◌∙◌, ap, ap₂, true, false, codes, subst, Bor, Option}
use Rattle.std.proofs.lemmas.Result.{IfOk-weaker}
use Rattle.clap.specs.Built.{AddsArg}
use Rattle.clap.specs.Walk.{Rule, Text, rule_of}
use Rattle.clap.specs.Simple.{App, app_of, app_of_fields, new_app, on_top, with_rule}
use Rattle.clap.specs.declared.builder.arg.Arg.{Arg}
use Rattle.clap.specs.declared.builder.command.Command.{Command}
use Rattle.ispc_options.specs.Asked.{option_or}
use Rattle.ispc_options.proofs.reading.command.Goals as goal

-- a command with one more argument, which has a text for the help too
with_one : (old : Command) (made shown : Arg) (new : Command) (x : App) (r : Rule) (h : Option (Bor Text)) → AddsArg old shown new
    → app_of old ≡ x → shown ≡ record made { help = h } → (rule_of made ≡ r) × (made.global ≡ false) → app_of new ≡ with_rule x r
with_one old made shown new x r h added is same rule =
    added.shape (ap (λ (a : Arg). a.global) same ∙ rule.1) ∙ ap₂ with_rule is (ap rule_of same ∙ rule.0)

abbrev without_name : App → App
without_name = on_top (λ s. record s { no_binary_name = true })

pub returns : goal.returns
returns c =
    let widths = c.widths.ensures.0 in
    let start : app_of c.about.result ≡ without_name (new_app (codes "ispc_cli")) =
    ap app_of_fields c.about.ensures ∙ (ap app_of_fields c.no_binary_name.ensures ∙ ap without_name c.new.ensures.app) in
    let source = with_one _ c.valued.result _ _ _ _ _ c.in_ok-arg.ensures start c.help.ensures c.valued.ensures in
    let input = with_one _ c.option.result _ _ _ _ _ c.in_ok-arg-2.ensures source c.help-2.ensures c.option.ensures in
    let entry = with_one _ c.option-2.result _ _ _ _ _ c.in_ok-arg-3.ensures input c.help-3.ensures c.option-2.ensures in
    let width = with_one _ c.option_or.result _ _ _ _ _ c.in_ok-arg-4.ensures entry c.help-4.ensures (subst (λ p. (rule_of c.option_or.result ≡ option_or (codes "width") p (codes "4")) × (c.option_or.result.global ≡ false)) c.widths.ensures.2 c.option_or.ensures) in
    let history = with_one _ c.option_or-2.result _ _ _ _ _ c.in_ok-arg-5.ensures width c.help-5.ensures (subst (λ p. (rule_of c.option_or-2.result ≡ option_or (codes "history") p (codes "64")) × (c.option_or-2.result.global ≡ false)) c.up_to.ensures c.option_or-2.ensures) in
    let steps = with_one _ c.option_or-3.result _ _ _ _ _ c.in_ok-arg-6.ensures history c.help-6.ensures (subst (λ p. (rule_of c.option_or-3.result ≡ option_or (codes "steps") p (codes "1000000")) × (c.option_or-3.result.global ≡ false)) c.up_to-2.ensures c.option_or-3.ensures) in
    IfOk-weaker c.arg-7.result _ _ (λ parser added. (widths, c.widths.ensures.1, with_one _ c.flag.result _ _ _ _ _ added steps c.help-7.ensures c.flag.ensures)) c.arg-7.ensures
