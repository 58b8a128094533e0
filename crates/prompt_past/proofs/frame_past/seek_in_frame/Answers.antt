use Rattle.std.proofs.Common.{map, subst, ap}
use Rattle.command_lists.specs.Lists.{HasDone}
use Rattle.prompt_scenes.specs.Holding.{entry_of, held}
use Rattle.prompt_moves.specs.Following.{shown}
use Rattle.prompt_moves.specs.Moments.{led}
use Rattle.prompt_moves.proofs.MomentLaws.{led_then}
use Rattle.prompt_past.specs.FramePast.{back_in_frame}
use Rattle.prompt_past.proofs.frame_past.seek_in_frame.Goals as goal

pub returns : goal.returns
returns g c s d st =
    let stands = g.M.RecordedMachine.stands in
    let way = back_in_frame s c.args.watch.now d in
    let e = led s way d in
    let new = c.show_displays.new.session in
    let displays = ap (λ xs. shown (map entry_of xs)) c.displays.ensures in (
      led_then stands s way (shown (held c.args.holding.now).displays) d new
          (subst (λ cs. HasDone stands s cs e new) displays (c.show_displays.ensures s e (c.go_and_tell.ensures s d st))),
      c.start.ensures,
    )
