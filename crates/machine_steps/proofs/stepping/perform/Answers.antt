use Rattle.std.proofs.Common.{arith, subst}
use Rattle.gang_types.specs.MaskLaws.{gang_width-le}
use Rattle.machine_words.specs.Words.{regions_in}
use Rattle.frame_steps.specs.Standing.{DoesNext}
use Rattle.machine_steps.proofs.StepKinds.{writes_else}
use Rattle.machine_steps.proofs.stepping.perform.Goals as goal

pub check-requires : goal.check-requires
check-requires g c =
    let small = gang_width-le g.row.W c.requires.sound.lie.gang in
    (omega (arith, small), (c.requires.sound, subst (λ code. DoesNext g.row.W c.args.compiled.now (regions_in g.T.Timeline.history g.row.W c.args.words.now) c.args.active code) c.in-Check.is c.requires.does))

pub returns-in-Check : goal.returns-in-Check
returns-in-Check g c = c.check.ensures

pub finish-requires : goal.finish-requires
finish-requires g c =
    let small = gang_width-le g.row.W c.requires.sound.lie.gang in
    (omega (arith, small), (c.requires.sound, subst (λ code. DoesNext g.row.W c.args.compiled.now (regions_in g.T.Timeline.history g.row.W c.args.words.now) c.args.active code) c.in-Return.is c.requires.does))

pub returns-in-Return : goal.returns-in-Return
returns-in-Return g c = c.finish.ensures

pub go-requires : goal.go-requires
go-requires g c = record {
  sound = c.requires.sound;
  does = subst (λ code. DoesNext g.row.W c.args.compiled.now (regions_in g.T.Timeline.history g.row.W c.args.words.now) c.args.active code) c.in-Go.is c.requires.does;
}

pub returns-in-Go : goal.returns-in-Go
returns-in-Go g c = c.go.ensures

pub branch-compiled-requires : goal.branch-compiled-requires
branch-compiled-requires g c =
    let small = gang_width-le g.row.W c.requires.sound.lie.gang in
    (omega (arith, small), (c.requires.sound, subst (λ code. DoesNext g.row.W c.args.compiled.now (regions_in g.T.Timeline.history g.row.W c.args.words.now) c.args.active code) c.in-Branch.is c.requires.does))

pub returns-in-Branch : goal.returns-in-Branch
returns-in-Branch g c = c.branch-compiled.ensures

pub choose-requires : goal.choose-requires
choose-requires g c =
    let small = gang_width-le g.row.W c.requires.sound.lie.gang in
    (omega (arith, small), (c.requires.sound, subst (λ code. DoesNext g.row.W c.args.compiled.now (regions_in g.T.Timeline.history g.row.W c.args.words.now) c.args.active code) c.in-Choose.is c.requires.does))

pub returns-in-Choose : goal.returns-in-Choose
returns-in-Choose g c = c.choose.ensures

pub begin_form-requires : goal.begin_form-requires
begin_form-requires g c =
    let small = gang_width-le g.row.W c.requires.sound.lie.gang in
    (omega (arith, small), (c.requires.sound, subst (λ code. DoesNext g.row.W c.args.compiled.now (regions_in g.T.Timeline.history g.row.W c.args.words.now) c.args.active code) c.in-Begin.is c.requires.does))

pub returns-in-Begin : goal.returns-in-Begin
returns-in-Begin g c = c.begin_form.ensures

pub take_round-requires : goal.take_round-requires
take_round-requires g c = record {
  sound = c.requires.sound;
  does = (c.in-Round.form, subst (λ code. DoesNext g.row.W c.args.compiled.now (regions_in g.T.Timeline.history g.row.W c.args.words.now) c.args.active code) c.in-Round.is c.requires.does);
}

pub returns-in-Round : goal.returns-in-Round
returns-in-Round g c = c.take_round.ensures

pub enter-requires : goal.enter-requires
enter-requires g c =
    let small = gang_width-le g.row.W c.requires.sound.lie.gang in
    (omega (arith, small), (c.requires.sound, (c.in-Enter.result_for, c.in-Enter.next, subst (λ code. DoesNext g.row.W c.args.compiled.now (regions_in g.T.Timeline.history g.row.W c.args.words.now) c.args.active code) c.in-Enter.is c.requires.does)))

pub returns-in-Enter : goal.returns-in-Enter
returns-in-Enter g c = c.enter.ensures

pub write-requires : goal.write-requires
write-requires g c =
    let small = gang_width-le g.row.W c.requires.sound.lie.gang in
    let d = c.in_default in (
      omega (arith, small),
      (
        c.requires.sound,
        (c.requires.does, writes_else c.args.code.now d.not-Check d.not-Return d.not-Go d.not-Branch d.not-Choose d.not-Begin d.not-Round d.not-Enter),
      ),
    )
