use Rattle.std.proofs.Common.{refl}
use Rattle.std.proofs.lemmas.Result.{IfOk-weaker}
use Rattle.desk_options.proofs.Building.{with_shown}
use Rattle.desk_options.proofs.commands.with_color.Goals as goal

pub returns : goal.returns
returns c = IfOk-weaker c.arg.result _ _ (λ parser added. with_shown _ c.when_colored.result _ _ _ added refl c.when_colored.ensures) c.arg.ensures
