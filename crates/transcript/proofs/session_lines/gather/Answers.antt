use Rattle.std.proofs.Common.{◌≡◌, take, ap, subst, ◌∙◌}
use Rattle.std.specs.Io.KnownBytes.{Appends}
use Rattle.gang_model.specs.Texts.Text.{text}
use Rattle.transcript.specs.Gathering.{gathered}
use Rattle.transcript.proofs.Gathering.{gathered_before, tells_behind}
use Rattle.transcript.proofs.session_lines.gather.Goals as goal

pub returns-in-Ok-clause-said : goal.returns-in-Ok-clause-said
returns-in-Ok-clause-said g c s d meant st means =
    let written = g.O.AnswerWriter.written in
    let before = gathered c.args.room.now in
    let after = gathered c.write_answer.new.writer in
    let kept : gathered c.shorten.new.self ≡ before =
    c.shorten.ensures.front ∙ ap (λ n. take n after) c.length-length.ensures ∙ gathered_before (text s meant d) before after _ c.write_answer.result (c.write_answer.ensures.said s d meant st means) in
    tells_behind (text s meant d) c.tell.result _ _ _ before _ (subst (Appends (written c.args.writer.now) (written c.give_out.new.writer)) kept c.in-Ok.ensures.given) c.in-Ok.ensures.none
    (c.tell.ensures.said s d meant st means)
