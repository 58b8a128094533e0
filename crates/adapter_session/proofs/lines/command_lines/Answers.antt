use Rattle.std.proofs.Common.{ℕ, List, ap, sym, subst, ◌∙◌}
use Rattle.gang_model.specs.Types.Tree.{Program}
use Rattle.debug_answers.specs.Meanings.{AreStops}
use Rattle.debug_session.specs.Sessions.{bare}
use Rattle.adapter_session.specs.Requested.{lines_of}
use Rattle.adapter_session.specs.Terms.{function_numbers, terms_of}
use Rattle.adapter_session.proofs.lines.command_lines.Goals as goal

pub returns : goal.returns
returns g c s d there =
    let path = c.args.path.now in
    let request = c.args.request.now in
    let machine = subst (λ machine. g.M.RecordedMachine.stands machine s (bare d)) (sym c.machine-machine.ensures) there.there in
    let are = subst (λ stops. AreStops s stops d.stops) (sym c.stops.ensures) there.stops in
    c.in_ok-lines.ensures s d.stops are
    ∙ ap (λ (p : Program). lines_of p path c.as_slice.result.now c.depth_of.result d.stops request) (sym (c.program.ensures s (bare d) machine))
    ∙ ap (λ (functions : List ℕ). lines_of s.program path functions c.depth_of.result d.stops request) (c.as_slice.ensures.value ∙ c.function_numbers-functions.ensures)
    ∙ ap (λ (top : ℕ). lines_of s.program path (function_numbers (terms_of c.args.terms.now)) top d.stops request) (c.depth_of.ensures s (bare d) machine)
