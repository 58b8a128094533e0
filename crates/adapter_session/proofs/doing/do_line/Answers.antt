use Rattle.std.proofs.Common.{refl, subst}
use Rattle.gang_model.specs.Debugger.Debugger.{BadCommand, refused}
use Rattle.adapter_session.specs.Doing.{MayReplyTo}
use Rattle.adapter_session.proofs.doing.do_line.Goals as goal

pub returns-in-None : goal.returns-in-None
returns-in-None g c s d there = record {
  reply = refused BadCommand d;
  is_reply = subst (λ command. MayReplyTo s command d (refused BadCommand d)) c.in-None.ensures refl;
  replied = record { there = there; means = refl };
}
