use Rattle.std.proofs.Common.{◌∙◌, ap, sym}
use Rattle.std.specs.Prelude.{slice_get}
use Rattle.gang_model.specs.Types.Tree.{Program}
use Rattle.gang_model.specs.Debugger.Debugger.{now}
use Rattle.lane_profile.specs.Stands.{name_of}
use Rattle.lane_profile.proofs.Frames.{are_made, enters, some_calls}
use Rattle.lane_profile.proofs.run.enter_frame.Goals as goal

pub returns-clause-frames : goal.returns-clause-frames
returns-clause-frames g c s d there alone one few has =
    let spot = c.in-Some.spot in
    let made = are_made s.program s.first d.events alone in
    let named = c.name_of.ensures ∙ ap (λ (p : Program). name_of (slice_get p.functions spot.function.0)) (sym (c.program.ensures s d there)) in
    enters s.program (now s d) c.args.depth made one few c.args.tally.now c.enter.new.self spot c.name_of.result.now (c.in-Some.ensures s d there) named
    c.in_ok-enter.ensures.frames has

pub returns-in_default-clause-frames : goal.returns-in_default-clause-frames
returns-in_default-clause-frames g c s d there alone one few has =
    absurd (some_calls s.program (now s d) c.args.depth (are_made s.program s.first d.events alone) one few (c.in_default.ensures s d there))
