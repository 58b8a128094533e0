use Rattle.std.proofs.Common.{Some, [], ◌∷◌, sym, subst}
use Rattle.gang_model.specs.Debugger.Debugger.{DoDelete, Reply}
use Rattle.debug_session.specs.Sessions.{RepliesTo}
use Rattle.command_lists.proofs.DoneLists.{done_one, done_then}
use Rattle.adapter_replies.specs.Told.{MeansLast}
use Rattle.adapter_session.specs.Answered.{IsToldAt, MayTell}
use Rattle.adapter_session.specs.Going.{is_at, move_of}
use Rattle.adapter_session.proofs.GoingTo.{move_reply, reached_means}
use Rattle.adapter_session.proofs.going.go_to_stop.Goals as goal

pub returns-clause-done : goal.returns-clause-done
returns-clause-done g c s d there =
    let stands = g.M.RecordedMachine.stands in
    let may_want = g.M.RecordedMachine.may_want in
    let move = move_of c.args.way in
    let middle = c.do_command-answer.new.self in
    let new = c.delete.new.session in
    let moved = subst (λ command. RepliesTo may_want stands s command d c.do_command-answer.result middle) c.move_of.ensures (c.do_command-answer.ensures.replied s d there) in
    let first = done_one stands s may_want move d c.do_command-answer.result middle moved in
    done_then stands s (move ∷ []) (DoDelete (Some c.args.number) ∷ []) d middle new first (c.delete.ensures s first.after first.there)

pub returns-clause-told : goal.returns-clause-told
returns-clause-told g c s d there =
    let stands = g.M.RecordedMachine.stands in
    let may_want = g.M.RecordedMachine.may_want in
    let program = c.args.program.now in
    let request = c.args.request.now in
    let number = Some c.args.number in
    let given = c.do_command-answer.result in
    let moved = subst (λ command. RepliesTo may_want stands s command d given c.do_command-answer.new.self) c.move_of.ensures (c.do_command-answer.ensures.replied s d there) in
    let r = moved.reply in
    let (meant, means) = reached_means s r.next (is_at number given) given r.answer moved.replied.means in
    let tells = c.told-reply.ensures s r.next meant moved.replied.there (subst (λ last. MeansLast s r.next (Some last) meant) (sym c.reached.ensures) means) in
    subst (λ (at : Reply). IsToldAt s program request c.told-reply.result number at) (move_reply may_want s c.args.way d r moved.is_reply) (record {
      given = given;
      answers = moved.replied.means;
      meant = meant;
      means = means;
      tells = subst (λ last. MayTell s program r.next (Some last) meant request c.told-reply.result) c.reached.ensures tells;
    })
