use Rattle.std.proofs.Common.{ℕ, Option, IfOk, ◌∙◌, subst, sym}
use Rattle.gang_model.specs.Debugger.Debugger.{depth, now}
use Rattle.command_lists.specs.Lists.{HasDone}
use Rattle.adapter_requests.specs.declared.request.Way.{Way}
use Rattle.adapter_session.specs.Answered.{IsToldBy}
use Rattle.adapter_session.specs.Requested.{commands_by, commands_there}
use Rattle.adapter_session.specs.Terms.{function_numbers, terms_of}
use Rattle.adapter_session.proofs.answering.answer_commands.Goals as goal

pub returns-in-Some-clause-done : goal.returns-in-Some-clause-done
returns-in-Some-clause-done g c s d there =
    let others = commands_there s.program c.args.program.now (function_numbers (terms_of c.args.terms.now)) (depth (now s d)) d.stops c.args.request.now in
    subst (λ (time : Option (ℕ × Way)). HasDone g.M.RecordedMachine.stands s (commands_by time s d others) d c.go_to.new.session) (sym (sym c.goto_of.ensures ∙ c.in-Some.is)) (c.go_to.ensures.done s d there)

pub returns-in-Some-clause-told : goal.returns-in-Some-clause-told
returns-in-Some-clause-told g c s d there =
    subst (λ (time : Option (ℕ × Way)). IsToldBy g.M.RecordedMachine.stands time s c.args.program.now (function_numbers (terms_of c.args.terms.now)) c.args.request.now d c.go_to.result c.go_to.new.session) (sym (sym c.goto_of.ensures ∙ c.in-Some.is))
    (c.go_to.ensures.told s d there)

pub returns-in-None-clause-done : goal.returns-in-None-clause-done
returns-in-None-clause-done g c s d there =
    let others = commands_there s.program c.args.program.now (function_numbers (terms_of c.args.terms.now)) (depth (now s d)) d.stops c.args.request.now in
    subst (λ (time : Option (ℕ × Way)). IfOk c.answer_lines.result (λ _. HasDone g.M.RecordedMachine.stands s (commands_by time s d others) d c.answer_lines.new.session)) (sym (sym c.goto_of.ensures ∙ c.in-None.is))
    (c.answer_lines.ensures.done s d there)

pub returns-in-None-clause-told : goal.returns-in-None-clause-told
returns-in-None-clause-told g c s d there =
    subst (λ (time : Option (ℕ × Way)). IfOk c.answer_lines.result (λ told. IsToldBy g.M.RecordedMachine.stands time s c.args.program.now (function_numbers (terms_of c.args.terms.now)) c.args.request.now d told c.answer_lines.new.session)) (sym (sym c.goto_of.ensures ∙ c.in-None.is))
    (c.answer_lines.ensures.told s d there)
