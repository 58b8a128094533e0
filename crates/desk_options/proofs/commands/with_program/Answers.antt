use Rattle.std.proofs.Common.{◌≡◌, false, codes, refl, subst}
use Rattle.std.proofs.lemmas.Result.{IfOk-weaker}
use Rattle.clap.specs.Walk.{rule_of}
use Rattle.ispc_options.specs.Asked.{option_or}
use Rattle.desk_options.proofs.Building.{with_one}
use Rattle.desk_options.proofs.commands.with_program.Goals as goal

pub returns : goal.returns
returns c =
    let widths = c.widths.ensures.0 in
    let source = with_one _ c.wanted.result _ _ _ _ _ c.in_ok-arg.ensures refl c.help.ensures c.wanted.ensures in
    let input = with_one _ c.option.result _ _ _ _ _ c.in_ok-arg-2.ensures source c.help-2.ensures c.option.ensures in
    let entry = with_one _ c.option-2.result _ _ _ _ _ c.in_ok-arg-3.ensures input c.help-3.ensures c.option-2.ensures in
    let width = with_one _ c.option_or.result _ _ _ _ _ c.in_ok-arg-4.ensures entry c.help-4.ensures (subst (λ p. (rule_of c.option_or.result ≡ option_or (codes "width") p (codes "4")) × (c.option_or.result.global ≡ false)) c.widths.ensures.2 c.option_or.ensures) in
    let history = with_one _ c.option_or-2.result _ _ _ _ _ c.in_ok-arg-5.ensures width c.help-5.ensures (subst (λ p. (rule_of c.option_or-2.result ≡ option_or (codes "history") p (codes "65536")) × (c.option_or-2.result.global ≡ false)) c.up_to.ensures c.option_or-2.ensures) in
    let steps = subst (λ p. (rule_of c.option_or-3.result ≡ option_or (codes "steps") p (codes "1000000")) × (c.option_or-3.result.global ≡ false)) c.up_to-2.ensures c.option_or-3.ensures in
    IfOk-weaker c.arg-6.result _ _ (λ parser added. (widths, c.widths.ensures.1, with_one _ c.option_or-3.result _ _ _ _ _ added history c.help-6.ensures steps)) c.arg-6.ensures
