use Rattle.std.proofs.Common.{[], Some, ap, sym, subst, ◌∙◌}
use Rattle.prompt_texts.specs.LaneShares.{table_text}
use Rattle.prompt_texts.specs.Shown.{Puts}
use Rattle.prompt_walks.specs.LanesTold.{rows_of, so_far_text}
use Rattle.prompt_walks.proofs.lanes_told.show_so_far.Goals as goal

pub returns-in-Some : goal.returns-in-Some
returns-in-Some g c s d there few =
    let written = g.O.AnswerWriter.written in
    let so_far = c.args.so_far in
    let old = c.args.page.now in
    let new = c.show_lanes.new.page in
    let text =
    ap (λ rows. table_text so_far.width rows c.share_told-run.result) (c.shares_here-here.ensures s d there few)
    ∙ ap (table_text so_far.width (rows_of s.program (Some c.in-Some.chosen) so_far)) (c.share_told-run.ensures few.all few.width)
    ∙ ap (λ chosen. so_far_text s.program chosen so_far) (sym c.in-Some.is) in
    subst (λ t. Puts t old.has_failed new.has_failed (written old.writer) (written new.writer)) text c.show_lanes.ensures

pub returns-in-None : goal.returns-in-None
returns-in-None g c s d there few =
    let written = g.O.AnswerWriter.written in
    let so_far = c.args.so_far in
    let old = c.args.page.now in
    let new = c.show_lanes-in-None.new.page in
    let text = ap (table_text so_far.width []) (c.share_told-run.ensures few.all few.width) ∙ ap (λ chosen. so_far_text s.program chosen so_far) (sym c.in-None.is) in
    subst (λ t. Puts t old.has_failed new.has_failed (written old.writer) (written new.writer)) text c.show_lanes-in-None.ensures
