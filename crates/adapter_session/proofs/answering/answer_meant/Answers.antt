use Rattle.std.proofs.Common.{IfOk, ◌∙◌, subst, sym}
use Rattle.adapter_session.specs.Done.{DoesBy}
use Rattle.adapter_session.specs.Terms.{terms_of}
use Rattle.adapter_session.proofs.answering.answer_meant.Goals as goal

pub returns-in-Some-clause-done : goal.returns-in-Some-clause-done
returns-in-Some-clause-done g c s d there =
    subst (λ way. DoesBy g.M.RecordedMachine.stands way s c.args.program.now c.args.request.now d (terms_of c.args.terms.now) c.go_to_counted.result c.go_to_counted.new.session (terms_of c.go_to_counted.new.terms))
    (sym c.in-Some.is ∙ c.way_by.ensures) (c.go_to_counted.ensures s d there)

pub returns-in-None-clause-done : goal.returns-in-None-clause-done
returns-in-None-clause-done g c s d there =
    subst (λ way. IfOk c.answer_plainly.result (λ answered. DoesBy g.M.RecordedMachine.stands way s c.args.program.now c.args.request.now d (terms_of c.args.terms.now) answered c.answer_plainly.new.session (terms_of c.answer_plainly.new.terms)))
    (sym c.in-None.is ∙ c.way_by.ensures) (c.answer_plainly.ensures.done s d there)
