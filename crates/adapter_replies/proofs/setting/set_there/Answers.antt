use Rattle.std.proofs.Common.{subst}
use Rattle.adapter_replies.specs.Asking.{Asking}
use Rattle.adapter_replies.specs.Targets.{target_in}
use Rattle.adapter_replies.specs.Told.{IsTargetTold}
use Rattle.adapter_replies.proofs.setting.set_there.Goals as goal

pub returns : goal.returns
returns g c s d st =
    let shown = c.in_ok-shown.shown in
    record {
      shown = shown;
      is = subst (λ (asking : Asking). IsTargetTold s d c.args.depth asking (target_in asking.text) shown) c.asking_of-asking.ensures (c.in_ok-shown.ensures s d st);
      told_is = c.as_set.ensures;
    }
