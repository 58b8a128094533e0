use Rattle.std.proofs.Common.{◌+◌, ◌++◌, ap, sym, ◌∙◌, map, string_bytes, take, None}
use Rattle.std.proofs.lemmas.List.{map_more}
use Rattle.adapter_session.specs.Requested.{only}
use Rattle.adapter_session.proofs.DoneLines.{does_more}
use Rattle.adapter_session.proofs.doing.do_lines.Goals as goal

pub loop-line-preserved : goal.loop-line-preserved
loop-line-preserved g c s d there =
    let lines = c.args.lines.now in
    let i = c.loop-line.line-index in
    let front = map string_bytes (take i lines) in
    let line = c.line-item.result in
    does_more g.M.RecordedMachine.stands s None front (map string_bytes (take (i + 1) lines)) c.as_bytes.result.now d c.loop-line.last c.do_line.result c.loop-line.session c.do_line.new.session
    (c.loop-line.invariant s d there) (λ e. c.do_line.ensures s e)
    (map_more string_bytes lines i line c.loop-line-test.true
    ∙ ap (λ it. front ++ only (string_bytes it)) (sym c.line-item.is)
    ∙ ap (λ bytes. front ++ only bytes) (sym c.as_bytes.ensures.value))
