use Rattle.std.proofs.Common.{subst, sym}
use Rattle.debug_session.specs.Sessions.{bare}
use Rattle.prompt_texts.specs.Shown.{Puts}
use Rattle.prompt_walks.specs.LanesTold.{so_far_text}
use Rattle.prompt_walks.proofs.lanes_told.tell_counted.Goals as goal

pub returns-clause-told : goal.returns-clause-told
returns-clause-told g c s d st limit small known =
    let written = g.O.AnswerWriter.written in
    let old = c.args.page.now in
    let new = c.show_so_far.new.page in
    let chosen = c.chosen_here-chosen.result in
    let (is, few) = c.count_so_far-so_far.ensures.counted s d st limit small in
    let done = c.count_so_far-so_far.ensures.done s d st in
    let machine = subst (λ m. g.M.RecordedMachine.stands m s (bare done.after)) (sym c.machine.ensures) done.there.there in
    let text = c.show_so_far.ensures s (bare done.after) machine few in (
      chosen,
      c.chosen_here-chosen.ensures s d st,
      subst (λ n. Puts (so_far_text s.program chosen n) old.has_failed new.has_failed (written old.writer) (written new.writer)) is text,
    )
