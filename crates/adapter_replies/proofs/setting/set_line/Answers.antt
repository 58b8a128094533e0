use Rattle.std.proofs.Common.{Some, subst}
use Rattle.debug_commands.specs.Views.{target_view}
use Rattle.adapter_replies.specs.Asking.{Asking}
use Rattle.adapter_replies.specs.Told.{IsTargetTold}
use Rattle.adapter_replies.proofs.setting.set_line.Goals as goal

pub returns : goal.returns
returns g c s d st =
    let shown = c.in_ok-shown.shown in
    record {
      shown = shown;
      is = subst (λ (asking : Asking). IsTargetTold s d c.args.depth asking (Some (target_view c.args.target)) shown) c.asking_of-asking.ensures (c.in_ok-shown.ensures s d st);
      told_is = c.in_ok-told.ensures;
    }
