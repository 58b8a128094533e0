use Rattle.std.proofs.Common.{◌≡◌, ◌++◌, false, sym, subst, arith}
use Rattle.std.specs.Prelude.{◌==◌, codes, if◌then◌else◌}
use Rattle.std.proofs.lemmas.Bool.Decides.{nat_tests}
use Rattle.prompt_texts.specs.LaneShares.{head_text, here_text, run_text}
use Rattle.prompt_texts.specs.Shown.{Puts}
use Rattle.prompt_texts.proofs.Putting.{puts_both}
use Rattle.prompt_texts.proofs.lanes.show_lanes.Goals as goal

pub returns-else-run-eq0 : goal.returns-else-run-eq0
returns-else-run-eq0 g c =
    let written = g.O.AnswerWriter.written in
    let old = c.args.page.now in
    let new = c.put_run.new.page in
    let some : (c.args.run.steps == 0) ≡ false = grind (arith, nat_tests) in
    subst (λ b. Puts (if b then codes "no step has been made yet\n" else head_text c.args.width ++ here_text c.args.here ++ run_text c.args.run) old.has_failed new.has_failed (written old.writer) (written new.writer)) (sym some)
    (puts_both _ _ _ _ _ _ _ _ (puts_both _ _ _ _ _ _ _ _ c.put_head.ensures c.put_here.ensures) c.put_run.ensures)
