use Rattle.std.proofs.Common.{◌≡◌, false, codes, refl, subst}
use Rattle.std.proofs.lemmas.Result.{IfOk-weaker}
use Rattle.clap.specs.Walk.{rule_of}
use Rattle.ispc_options.specs.Asked.{option_or}
use Rattle.desk_options.proofs.Building.{with_one}
use Rattle.desk_options.proofs.commands.with_page.Goals as goal

pub returns : goal.returns
returns c =
    let commands = with_one _ c.option.result _ _ _ _ _ c.in_ok-arg.ensures refl c.help.ensures c.option.ensures in
    let from = with_one _ c.option_or.result _ _ _ _ _ c.in_ok-arg-2.ensures commands c.help-2.ensures (subst (λ p. (rule_of c.option_or.result ≡ option_or (codes "from") p (codes "1")) × (c.option_or.result.global ≡ false)) c.up_to.ensures c.option_or.ensures) in
    let each = with_one _ c.option_or-2.result _ _ _ _ _ c.in_ok-arg-3.ensures from c.help-3.ensures (subst (λ p. (rule_of c.option_or-2.result ≡ option_or (codes "each") p (codes "1")) × (c.option_or-2.result.global ≡ false)) c.up_to-2.ensures c.option_or-2.ensures) in
    let around = with_one _ c.option-2.result _ _ _ _ _ c.in_ok-arg-4.ensures each c.help-4.ensures c.option-2.ensures in
    let elements = with_one _ c.option_or-3.result _ _ _ _ _ c.in_ok-arg-5.ensures around c.help-5.ensures (subst (λ p. (rule_of c.option_or-3.result ≡ option_or (codes "elements") p (codes "1024")) × (c.option_or-3.result.global ≡ false)) c.up_to-3.ensures c.option_or-3.ensures) in
    let to = with_one _ c.option-3.result _ _ _ _ _ c.in_ok-arg-6.ensures elements c.help-6.ensures c.option-3.ensures in
    IfOk-weaker c.arg-7.result _ _ (λ parser added. with_one _ c.flag.result _ _ _ _ _ added to c.help-7.ensures c.flag.ensures) c.arg-7.ensures
