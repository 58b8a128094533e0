use Rattle.std.proofs.Common.{◌≡◌, false, codes, refl, subst}
use Rattle.std.proofs.lemmas.Result.{IfOk-weaker}
use Rattle.clap.specs.Walk.{rule_of}
use Rattle.ispc_options.specs.Asked.{option_or}
use Rattle.desk_options.proofs.Building.{with_one, with_shown}
use Rattle.desk_options.proofs.commands.with_profile.Goals as goal

pub returns : goal.returns
returns c =
    let from = with_one _ c.option_or.result _ _ _ _ _ c.in_ok-arg.ensures refl c.help.ensures (subst (λ p. (rule_of c.option_or.result ≡ option_or (codes "from") p (codes "1")) × (c.option_or.result.global ≡ false)) c.up_to.ensures c.option_or.ensures) in
    let most = with_one _ c.option_or-2.result _ _ _ _ _ c.in_ok-arg-2.ensures from c.help-2.ensures (subst (λ p. (rule_of c.option_or-2.result ≡ option_or (codes "most") p (codes "10000000")) × (c.option_or-2.result.global ≡ false)) c.up_to-2.ensures c.option_or-2.ensures) in
    let top = with_one _ c.option_or-3.result _ _ _ _ _ c.in_ok-arg-3.ensures most c.help-3.ensures (subst (λ p. (rule_of c.option_or-3.result ≡ option_or (codes "top") p (codes "20")) × (c.option_or-3.result.global ≡ false)) c.up_to-3.ensures c.option_or-3.ensures) in
    let by = with_one _ c.option.result _ _ _ _ _ c.in_ok-arg-4.ensures top c.help-4.ensures c.option.ensures in
    let color = with_shown _ c.when_colored.result _ _ _ c.in_ok-arg-5.ensures by c.when_colored.ensures in
    let annotate = with_one _ c.flag.result _ _ _ _ _ c.in_ok-arg-6.ensures color c.help-5.ensures c.flag.ensures in
    let json = with_one _ c.flag-2.result _ _ _ _ _ c.in_ok-arg-7.ensures annotate c.help-6.ensures c.flag-2.ensures in
    let compare = with_one _ c.flag-3.result _ _ _ _ _ c.in_ok-arg-8.ensures json c.help-7.ensures c.flag-3.ensures in
    let to = with_one _ c.option-2.result _ _ _ _ _ c.in_ok-arg-9.ensures compare c.help-8.ensures c.option-2.ensures in
    IfOk-weaker c.arg-10.result _ _ (λ parser added. with_one _ c.flag-4.result _ _ _ _ _ added to c.help-9.ensures c.flag-4.ensures) c.arg-10.ensures
