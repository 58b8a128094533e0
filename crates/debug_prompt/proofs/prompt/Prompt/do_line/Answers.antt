use Rattle.std.proofs.Common.{◌≡◌, subst, ap, ◌∙◌}
use Rattle.gang_model.specs.Texts.CommandText.{command_of}
use Rattle.prompt_lines.specs.Readings.{spelled}
use Rattle.prompt_lines.specs.Words.{Spelled}
use Rattle.prompt_scenes.specs.FrameWatches.{ended}
use Rattle.prompt_scenes.specs.Holding.{held, sheet}
use Rattle.prompt_scenes.specs.Readings.{watch_of}
use Rattle.debug_prompt.specs.Doing.{meant, meant_by}
use Rattle.debug_prompt.specs.Lines.{DoesKind, depth_within, known_by, known_now}
use Rattle.debug_prompt.proofs.prompt.Prompt.do_line.Goals as goal

pub returns-clause-done : goal.returns-clause-done
returns-clause-done g c s d st limit =
    let stands = g.M.RecordedMachine.stands in
    let kept = spelled c.args.self.now.kept in
    let line = c.args.line.now in
    let h = held c.args.self.now.holding in
    let middle = held c.do_meant-printed.new.holding in
    let new = c.do_meant-printed.new.session in
    let is : spelled c.meant-meant.result ≡ meant kept line = c.meant-meant.ensures ∙ ap (λ (x : Spelled). meant_by x.kind kept x) c.read_line-read.ensures in
    record {
      middle = middle;
      does = subst (λ (x : Spelled). DoesKind stands x.kind (sheet c.args.source) s d h x.text new middle) is (c.do_meant-printed.ensures s d st limit);
      ends = λ e at.
          c.end_frames.ensures ∙ ap (λ n. ended n middle) (c.known_now-deepest.ensures s e at
          ∙ ap (λ within. known_now s within c.kept_steps-steps.result c.meant-meant.result.kind c.meant-meant.result.text.items e) (c.depth_within-within.ensures s d st)
          ∙ ap (λ steps. known_now s (depth_within s d h c.meant-meant.result.kind (watch_of (command_of c.meant-meant.result.text.items))) steps c.meant-meant.result.kind c.meant-meant.result.text.items e) (c.kept_steps-steps.ensures s d st)
          ∙ ap (λ (x : Spelled). known_by s d h x e) is);
    }
