use Rattle.std.proofs.Common.{ap, sym, subst, ◌∙◌, Option, map}
use Rattle.gang_model.specs.Debugger.Debugger.{Command, Reply}
use Rattle.gang_model.specs.Types.Tree.{Program}
use Rattle.debug_session.specs.Sessions.{StandsFor, bare}
use Rattle.adapter_session.specs.Restored.{command_in, is_made, reply_to}
use Rattle.adapter_session.specs.Terms.{function_of}
use Rattle.adapter_session.proofs.MadeAnew.{made_is, reply_is}
use Rattle.adapter_session.proofs.restoring.make.Goals as goal

pub returns-in-Some-clause-there : goal.returns-in-Some-clause-there
returns-in-Some-clause-there g c s t d e meant stands number is there =
    let functions = map function_of c.args.functions.now in
    let machine = subst (λ machine. g.M.RecordedMachine.stands machine t (bare e)) (sym c.machine.ensures) there.there in
    let command = c.in-Some.ensures s d meant stands number is ∙ ap (λ (p : Program). command_in p functions meant) (sym (c.program-program.ensures t (bare e) machine)) in
    let replies = c.do_command.ensures.replied t e there in
    subst (λ (r : Reply). StandsFor g.M.RecordedMachine.stands c.do_command.new.self t r.next) (reply_is g.M.RecordedMachine.may_want t functions meant e _ replies.reply command replies.is_reply) replies.replied.there

pub returns-in-Some-clause-made : goal.returns-in-Some-clause-made
returns-in-Some-clause-made g c s t d e meant stands number is there =
    let functions = map function_of c.args.functions.now in
    let machine = subst (λ machine. g.M.RecordedMachine.stands machine t (bare e)) (sym c.machine.ensures) there.there in
    let command = c.in-Some.ensures s d meant stands number is ∙ ap (λ (p : Program). command_in p functions meant) (sym (c.program-program.ensures t (bare e) machine)) in
    let replies = c.do_command.ensures.replied t e there in
    c.is_made.ensures
    ∙ made_is t replies.reply.next _ replies.reply.answer replies.replied.means
    ∙ ap (λ (r : Reply). is_made r.answer) (reply_is g.M.RecordedMachine.may_want t functions meant e _ replies.reply command replies.is_reply)

pub returns-in-None-clause-there : goal.returns-in-None-clause-there
returns-in-None-clause-there g c s t d e meant stands number is there =
    let functions = map function_of c.args.functions.now in
    let machine = subst (λ machine. g.M.RecordedMachine.stands machine t (bare e)) (sym c.machine.ensures) there.there in
    let command = c.in-None.ensures s d meant stands number is ∙ ap (λ (p : Program). command_in p functions meant) (sym (c.program-program.ensures t (bare e) machine)) in
    subst (λ (o : Option Command). StandsFor g.M.RecordedMachine.stands c.args.session.now t (reply_to t o e).next) command there

pub returns-in-None-clause-made : goal.returns-in-None-clause-made
returns-in-None-clause-made g c s t d e meant stands number is there =
    let functions = map function_of c.args.functions.now in
    let machine = subst (λ machine. g.M.RecordedMachine.stands machine t (bare e)) (sym c.machine.ensures) there.there in
    let command = c.in-None.ensures s d meant stands number is ∙ ap (λ (p : Program). command_in p functions meant) (sym (c.program-program.ensures t (bare e) machine)) in
    ap (λ (o : Option Command). is_made (reply_to t o e).answer) command
