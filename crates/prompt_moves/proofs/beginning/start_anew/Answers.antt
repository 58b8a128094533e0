use Rattle.std.proofs.Common.{map, subst, ap}
use Rattle.command_lists.specs.Lists.{HasDone}
use Rattle.prompt_scenes.specs.Holding.{entry_of, held}
use Rattle.prompt_moves.specs.Following.{shown}
use Rattle.prompt_moves.specs.Moments.{at_first}
use Rattle.prompt_moves.proofs.MomentLaws.{back_then}
use Rattle.prompt_moves.proofs.beginning.start_anew.Goals as goal

pub returns : goal.returns
returns g c = record {
  done = λ s d st.
      let stands = g.M.RecordedMachine.stands in
      let e = at_first d in
      let new = c.show_displays.new.session in
      let displays = ap (λ xs. shown (map entry_of xs)) c.displays.ensures in
      back_then stands s (shown (held c.args.holding.now).displays) d new
      (subst (λ cs. HasDone stands s cs e new) displays (c.show_displays.ensures s e (c.take_all_back.ensures s d st)));
  held = c.forget_start.ensures;
}
