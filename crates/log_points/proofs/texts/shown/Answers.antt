use Rattle.std.proofs.Common.{subst, false}
use Rattle.gang_model.specs.Debugger.Debugger.{depth, now}
use Rattle.debug_session.specs.Sessions.{bare}
use Rattle.adapter_requests.specs.declared.request.Context.TheVariants.{Watch}
use Rattle.adapter_replies.specs.Asking.{asking_of}
use Rattle.adapter_replies.specs.References.{is_frame}
use Rattle.adapter_replies.specs.Told.{IsNameToldIn}
use Rattle.log_points.proofs.texts.shown.Goals as goal

pub returns : goal.returns
returns g c s d st = record {
  told = c.in_ok-told.told;
  is_told = subst (λ k. IsNameToldIn (is_frame (depth (now s d)) k) s (bare d) k (asking_of Watch c.args.expression.now false) c.in_ok-told.told) (c.depth_of.ensures s (bare d) st) (c.in_ok-told.ensures.stands s (bare d) st);
  text_is = c.in_ok-text.ensures;
}
