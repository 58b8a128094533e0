use Rattle.std.proofs.Common.{ℕ, ap, subst, sym, ◌∙◌, map, string_bytes}
use Rattle.debug_session.specs.Sessions.{bare}
use Rattle.adapter_session.specs.Requested.{frame_of}
use Rattle.adapter_session.specs.Terms.{function_numbers, terms_of}
use Rattle.adapter_session.proofs.DoneLines.{lines_there, request_done, request_told}
use Rattle.adapter_session.proofs.answering.answer_lines.Goals as goal

pub returns-clause-done : goal.returns-clause-done
returns-clause-done g c s d there =
    let stands = g.M.RecordedMachine.stands in
    let functions = function_numbers (terms_of c.args.terms.now) in
    let last = c.do_lines_in-last.result in
    let new = c.do_lines_in-last.new.session in
    let machine = subst (λ machine. stands machine s (bare d)) (sym c.machine.ensures) there.there in
    let frame = c.frame_of-frame.ensures ∙ ap (λ (top : ℕ). frame_of top c.args.request.now) (c.depth_of.ensures s (bare d) machine) in
    let lines = ap (map string_bytes) c.as_slice.ensures.value ∙ c.in_ok-lines.ensures s d there in
    let does = lines_there stands s c.args.program.now functions c.args.request.now d c.frame_of-frame.result (map string_bytes c.as_slice.result.now) last new frame lines (c.do_lines_in-last.ensures s d there) in
    request_done stands s c.args.program.now functions c.args.request.now d last new does

pub returns-clause-told : goal.returns-clause-told
returns-clause-told g c s d there =
    let stands = g.M.RecordedMachine.stands in
    let functions = function_numbers (terms_of c.args.terms.now) in
    let last = c.do_lines_in-last.result in
    let new = c.do_lines_in-last.new.session in
    let machine = subst (λ machine. stands machine s (bare d)) (sym c.machine.ensures) there.there in
    let frame = c.frame_of-frame.ensures ∙ ap (λ (top : ℕ). frame_of top c.args.request.now) (c.depth_of.ensures s (bare d) machine) in
    let lines = ap (map string_bytes) c.as_slice.ensures.value ∙ c.in_ok-lines.ensures s d there in
    let does = lines_there stands s c.args.program.now functions c.args.request.now d c.frame_of-frame.result (map string_bytes c.as_slice.result.now) last new frame lines (c.do_lines_in-last.ensures s d there) in
    request_told stands s c.args.program.now functions c.args.request.now d c.told.result last new does (λ after meant stood means. c.told.ensures s after meant stood means)
