use Rattle.std.proofs.Common.{arith, subst}
use Rattle.gang_types.specs.MaskLaws.{gang_width-le}
use Rattle.machine_words.specs.Words.{regions_in}
use Rattle.frame_steps.specs.Standing.{DoesNext}
use Rattle.machine_steps.proofs.StepKinds.{packed_else}
use Rattle.machine_steps.proofs.stepping.write.Goals as goal

pub declare-requires : goal.declare-requires
declare-requires g c =
    let small = gang_width-le g.row.W c.requires.sound.lie.gang in
    (omega (arith, small), (c.requires.sound, subst (λ code. DoesNext g.row.W c.args.compiled.now (regions_in g.T.Timeline.history g.row.W c.args.words.now) c.args.active code) c.in-Declare.is c.requires.does))

pub returns-in-Declare : goal.returns-in-Declare
returns-in-Declare g c = c.declare.ensures

pub assign-requires : goal.assign-requires
assign-requires g c =
    let small = gang_width-le g.row.W c.requires.sound.lie.gang in
    (omega (arith, small), (c.requires.sound, subst (λ code. DoesNext g.row.W c.args.compiled.now (regions_in g.T.Timeline.history g.row.W c.args.words.now) c.args.active code) c.in-Assign.is c.requires.does))

pub returns-in-Assign : goal.returns-in-Assign
returns-in-Assign g c = c.assign.ensures

pub change-requires : goal.change-requires
change-requires g c =
    let small = gang_width-le g.row.W c.requires.sound.lie.gang in
    (omega (arith, small), (c.requires.sound, subst (λ code. DoesNext g.row.W c.args.compiled.now (regions_in g.T.Timeline.history g.row.W c.args.words.now) c.args.active code) c.in-Change.is c.requires.does))

pub returns-in-Change : goal.returns-in-Change
returns-in-Change g c = c.change.ensures

pub assign_element-requires : goal.assign_element-requires
assign_element-requires g c =
    let small = gang_width-le g.row.W c.requires.sound.lie.gang in
    (omega (arith, small), (c.requires.sound, subst (λ code. DoesNext g.row.W c.args.compiled.now (regions_in g.T.Timeline.history g.row.W c.args.words.now) c.args.active code) c.in-AssignElement.is c.requires.does))

pub returns-in-AssignElement : goal.returns-in-AssignElement
returns-in-AssignElement g c = c.assign_element.ensures

pub change_element-requires : goal.change_element-requires
change_element-requires g c =
    let small = gang_width-le g.row.W c.requires.sound.lie.gang in
    (omega (arith, small), (c.requires.sound, subst (λ code. DoesNext g.row.W c.args.compiled.now (regions_in g.T.Timeline.history g.row.W c.args.words.now) c.args.active code) c.in-ChangeElement.is c.requires.does))

pub returns-in-ChangeElement : goal.returns-in-ChangeElement
returns-in-ChangeElement g c = c.change_element.ensures

pub move_packed-requires : goal.move_packed-requires
move_packed-requires g c =
    let small = gang_width-le g.row.W c.requires.sound.lie.gang in
    let d = c.in_default in (
      omega (arith, small),
      (
        c.requires.sound,
        (c.requires.does, packed_else c.args.code.now c.requires.writes d.not-Declare d.not-Assign d.not-Change d.not-AssignElement d.not-ChangeElement),
      ),
    )
