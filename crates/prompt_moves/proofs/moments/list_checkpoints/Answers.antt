use Rattle.std.proofs.Common.{◌<◌, length, map, sym, subst, ap, ◌∙◌, arith, rules}
use Rattle.std.specs.Prelude.{flat_map}
use Rattle.std.proofs.lemmas.List.{take_all}
use Rattle.prompt_texts.specs.Shown.{Puts}
use Rattle.prompt_texts.proofs.Putting.{puts_both}
use Rattle.prompt_scenes.specs.Holding.{noted_of}
use Rattle.prompt_moves.specs.Noted.{line_text}
use Rattle.prompt_moves.proofs.ListedMoments.{lines_more}
use Rattle.prompt_moves.proofs.moments.list_checkpoints.Goals as goal

pub loop-checkpoint-preserved : goal.loop-checkpoint-preserved
loop-checkpoint-preserved g c =
    let xs = c.args.checkpoints.now in
    let k = c.loop-checkpoint.checkpoint-index in
    let inside : k < length xs = search rules in
    let written = g.O.AnswerWriter.written in
    let old = c.args.page.now in
    let new = c.show_checkpoint.new.page in
    subst (λ t. Puts t old.has_failed new.has_failed (written old.writer) (written new.writer)) (sym (lines_more xs k _ inside))
    (puts_both _ _ _ _ _ _ _ _ c.loop-checkpoint.invariant c.show_checkpoint.ensures)

pub returns : goal.returns
returns g c =
    let xs = c.args.checkpoints.now in
    let written = g.O.AnswerWriter.written in
    let old = c.args.page.now in
    let new = c.loop-checkpoint.page in
    subst (λ l. Puts (flat_map line_text (map noted_of l)) old.has_failed new.has_failed (written old.writer) (written new.writer))
    (take_all c.loop-checkpoint.checkpoint-index xs (omega (arith, c.loop-checkpoint-test.false))) c.loop-checkpoint.invariant
