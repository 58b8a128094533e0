use Rattle.std.proofs.Common.{◌+◌, ◌∙◌, ap, arith}
use Rattle.gang_model.specs.Debugger.Debugger.{now}
use Rattle.lane_profile.specs.Stands.{stand_of}
use Rattle.prompt_walks.specs.LanesTold.{next_stand, with_later}
use Rattle.prompt_walks.proofs.LanesSoFar.{fewer}
use Rattle.prompt_walks.proofs.lanes_told.note.Goals as goal

pub returns-in-Some-clause-counted : goal.returns-in-Some-clause-counted
returns-in-Some-clause-counted g c few s d there later =
    let stand = stand_of s.program (now s d) in
    let placed = c.in-Some.ensures s d there in
    ap (λ b. with_later s.program c.args.chosen c.args.so_far (next_stand b stand later)) placed.0
    ∙ c.and_step.ensures.counted few s.program c.args.chosen stand later placed.1 (c.is_of_line.ensures stand placed.1) (c.is_of_function.ensures s d stand there placed.1)

pub returns-in-None-clause-counted : goal.returns-in-None-clause-counted
returns-in-None-clause-counted g c few s d there later =
    ap (λ b. with_later s.program c.args.chosen c.args.so_far (next_stand b (stand_of s.program (now s d)) later)) (c.in-None.ensures s d there)

pub returns-in-None-clause-few : goal.returns-in-None-clause-few
returns-in-None-clause-few g c n few small = fewer n (n + 16) c.args.so_far (omega arith) few
