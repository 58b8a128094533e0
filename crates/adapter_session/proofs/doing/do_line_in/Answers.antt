use Rattle.std.proofs.Common.{refl, subst, sym}
use Rattle.gang_model.specs.Debugger.Debugger.{BadCommand, refused}
use Rattle.debug_commands.specs.Views.{command_view}
use Rattle.command_lists.proofs.DoneLists.{may_reply}
use Rattle.adapter_session.specs.Doing.{MayReplyTo}
use Rattle.adapter_session.specs.Requested.{in_frame, set_there}
use Rattle.adapter_session.proofs.DoneLines.{none_there, one_there}
use Rattle.adapter_session.proofs.doing.do_line_in.Goals as goal

pub returns-in-Some : goal.returns-in-Some
returns-in-Some g c s d there =
    let replies = c.do_in.ensures s d there in
    let frame = c.args.frame in
    let command = command_view c.in-Some.command in
    let replied = may_reply g.M.RecordedMachine.may_want s (set_there frame command) d replies.reply replies.is_reply in
    record {
      reply = replies.reply;
      is_reply = subst (λ spelt. MayReplyTo s (in_frame frame spelt) d replies.reply) c.in-Some.ensures (subst (λ one. MayReplyTo s one d replies.reply) (sym (one_there frame command)) replied);
      replied = replies.replied;
    }

pub returns-in-None : goal.returns-in-None
returns-in-None g c s d there = record {
  reply = refused BadCommand d;
  is_reply = subst (λ command. MayReplyTo s (in_frame c.args.frame command) d (refused BadCommand d)) c.in-None.ensures (none_there s c.args.frame d);
  replied = record { there = there; means = refl };
}
