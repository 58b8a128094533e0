use Rattle.std.proofs.Common.{arith, subst}
use Rattle.gang_types.specs.MaskLaws.{gang_width-le}
use Rattle.machine_words.specs.Words.{regions_in}
use Rattle.frame_steps.specs.Standing.{DoesNext}
use Rattle.machine_steps.proofs.StepKinds.{no_other}
use Rattle.machine_steps.proofs.stepping.move_packed.Goals as goal

pub store_packed-requires : goal.store_packed-requires
store_packed-requires g c =
    let small = gang_width-le g.row.W c.requires.sound.lie.gang in
    (omega (arith, small), (c.requires.sound, subst (λ code. DoesNext g.row.W c.args.compiled.now (regions_in g.T.Timeline.history g.row.W c.args.words.now) c.args.active code) c.in-PackedStore.is c.requires.does))

pub returns-in-PackedStore : goal.returns-in-PackedStore
returns-in-PackedStore g c = c.store_packed.ensures

pub load_packed-requires : goal.load_packed-requires
load_packed-requires g c =
    let small = gang_width-le g.row.W c.requires.sound.lie.gang in
    (omega (arith, small), (c.requires.sound, subst (λ code. DoesNext g.row.W c.args.compiled.now (regions_in g.T.Timeline.history g.row.W c.args.words.now) c.args.active code) c.in-PackedLoad.is c.requires.does))

pub returns-in-PackedLoad : goal.returns-in-PackedLoad
returns-in-PackedLoad g c = c.load_packed.ensures

pub unreachable-requires : goal.unreachable-requires
unreachable-requires g c = no_other c.args.code.now c.requires.packed c.in_default.not-PackedStore c.in_default.not-PackedLoad
