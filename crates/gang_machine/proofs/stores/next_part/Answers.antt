use Rattle.std.proofs.Common.{◌+◌, ◌<◌, ◌^◌, sym, ◌∙◌, ap, subst, arith}
use Rattle.std.specs.Prelude.{Some}
use Rattle.gang_types.specs.Masks.{lanes_of}
use Rattle.gang_types.specs.MaskLaws.{gang_width-le}
use Rattle.gang_model.specs.Running.Step.{part}
use Rattle.machine_states.specs.ArrayParts.{IsInside, view_at}
use Rattle.machine_states.proofs.ArrayViews.{view_inside}
use Rattle.machine_words.specs.Arrays.{view_answer}
use Rattle.machine_words.specs.Views.{view_view}
use Rattle.machine_words.specs.Words.{regions_in, words_of}
use Rattle.machine_words.proofs.ArrayWords.{part_inside}
use Rattle.frame_steps.proofs.NamedParts.{index_there}
use Rattle.gang_machine.proofs.stores.next_part.Goals as goal

pub part_from-requires : goal.part_from-requires
part_from-requires g c =
    let history = g.T.Timeline.history in
    let w = g.row.W in
    let words = c.args.words.now in
    let sound = c.requires.sound in
    let laid = sound.lie.laid in
    let regions = regions_in history w words in
    let point = c.requires.point in
    let view = view_view c.view-whole.result in
    let whole : IsInside regions view = subst (λ v. IsInside regions v) (sym c.view-whole.ensures) (view_inside regions c.args.active.frame c.args.array) in
    let among = part_inside w words.layout (words_of history words) laid view whole in
    let small : view.first + view.len < 2 ^ 64 = omega (arith, among, laid.long, laid.small) in
    (omega (arith, gang_width-le w sound.lie.gang), (sound.lie.gang, (point.3, small)))

pub returns-in-Ok : goal.returns-in-Ok
returns-in-Ok g c = λ masked index shown at.
    let w = g.row.W in
    let regions = regions_in g.T.Timeline.history w c.args.words.now in
    let lanes = lanes_of w c.args.active.lanes in
    let there = index_there w c.args.compiled.now regions c.args.active index c.args.from.now c.in-Some.index c.in-Some.is at c.deref.result.now c.deref.ensures.value in
    ap (λ i. part i (view_at regions c.args.active.frame c.args.array) lanes masked.state) there.1
    ∙ ap (λ v. part (Some there.0) v lanes masked.state) (sym c.view-whole.ensures)
    ∙ sym (c.part_from.ensures.part there.0 masked.state (c.in_ok-indices.ensures masked there.0 shown there.2))
    ∙ ap view_answer c.in-Ok.is

pub returns-in-Err : goal.returns-in-Err
returns-in-Err g c = λ masked index shown at.
    let w = g.row.W in
    let regions = regions_in g.T.Timeline.history w c.args.words.now in
    let lanes = lanes_of w c.args.active.lanes in
    let there = index_there w c.args.compiled.now regions c.args.active index c.args.from.now c.in-Some.index c.in-Some.is at c.deref.result.now c.deref.ensures.value in
    ap (λ i. part i (view_at regions c.args.active.frame c.args.array) lanes masked.state) there.1
    ∙ ap (λ v. part (Some there.0) v lanes masked.state) (sym c.view-whole.ensures)
    ∙ sym (c.part_from.ensures.part there.0 masked.state (c.in_ok-indices.ensures masked there.0 shown there.2))
    ∙ ap view_answer c.in-Err.is
