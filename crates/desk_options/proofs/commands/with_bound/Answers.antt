use Rattle.std.proofs.Common.{◌≡◌, false, codes, refl, subst}
use Rattle.std.proofs.lemmas.Result.{IfOk-weaker}
use Rattle.clap.specs.Walk.{rule_of}
use Rattle.ispc_options.specs.Asked.{option_or}
use Rattle.desk_options.proofs.Building.{with_one}
use Rattle.desk_options.proofs.commands.with_bound.Goals as goal

pub returns : goal.returns
returns c =
    let most = subst (λ p. (rule_of c.option_or.result ≡ option_or (codes "most") p (codes "100000")) × (c.option_or.result.global ≡ false)) c.up_to.ensures c.option_or.ensures in
    IfOk-weaker c.arg.result _ _ (λ parser added. with_one _ c.option_or.result _ _ _ _ _ added refl c.help.ensures most) c.arg.ensures
