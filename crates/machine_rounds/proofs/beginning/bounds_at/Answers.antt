use Rattle.std.proofs.Common.{◌∙◌, ap, sym, rules}
use Rattle.std.specs.Prelude.{Ok, Err}
use Rattle.std.proofs.lemmas.Result.{err_from_is_err_and}
use Rattle.gang_types.specs.Masks.{lanes_of}
use Rattle.gang_model.specs.Running.Lanes.{at}
use Rattle.debug_traits.specs.Machines.{fault_view}
use Rattle.machine_words.specs.Words.{regions_in}
use Rattle.frame_steps.proofs.GangLanes.{stacks_small}
use Rattle.machine_rounds.proofs.BeginValues.{answers_fault, bounds_are, high_at, high_faults, high_of, low_at, low_faults, low_of, past_bounds}
use Rattle.machine_rounds.proofs.beginning.bounds_at.Goals as goal

pub returns-then-number-dimensions : goal.returns-then-number-dimensions
returns-then-number-dimensions g c = λ masked ds shown are.
    past_bounds g.row.W c.args.compiled.now (regions_in g.T.Timeline.history g.row.W c.args.words.now) c.args.active c.args.dimensions.now ds are c.args.number c.if-number-dimensions.true
    (lanes_of g.row.W c.args.active.lanes) masked.state

pub value_of-requires : goal.value_of-requires
value_of-requires g c =
    let regions = regions_in g.T.Timeline.history g.row.W c.args.words.now in
    let ds = c.requires.are.0 in
    let are = c.requires.are.1 in (
      stacks_small g.row.W c.requires.sound.lie.gang,
      (
        search rules,
        (
          c.requires.sound,
          (
            low_of g.row.W c.args.compiled.now regions c.args.active c.args.dimensions.now ds are c.args.number c.index-dimensions-number.result c.if-number-dimensions.false c.index-dimensions-number.is,
            low_at g.row.W c.args.compiled.now regions c.args.active c.args.dimensions.now ds are c.args.number c.index-dimensions-number.result c.if-number-dimensions.false c.index-dimensions-number.is
                c.deref.result.now c.deref.ensures.value,
          ),
        ),
      ),
    )

pub returns-in_err-low : goal.returns-in_err-low
returns-in_err-low g c = λ masked ds shown are.
    let regions = regions_in g.T.Timeline.history g.row.W c.args.words.now in
    let lanes = lanes_of g.row.W c.args.active.lanes in
    let p = err_from_is_err_and c.from_residual.result c.from_residual.ensures.1 in
    let fault = c.in_err-low.field-0.0 in
    let dimension = c.index-dimensions-number.result in
    let low = low_of g.row.W c.args.compiled.now regions c.args.active c.args.dimensions.now ds are c.args.number dimension c.if-number-dimensions.false c.index-dimensions-number.is in
    answers_fault c.from_residual.result fault _ (p.1 ∙ ap Err p.2)
    (low_faults g.row.W c.args.compiled.now regions c.args.active c.args.dimensions.now ds are c.args.number dimension c.if-number-dimensions.false c.index-dimensions-number.is lanes masked.state (fault_view fault)
    (c.in_err-low.ensures masked low shown
    (low_at g.row.W c.args.compiled.now regions c.args.active c.args.dimensions.now ds are c.args.number dimension c.if-number-dimensions.false c.index-dimensions-number.is c.deref.result.now c.deref.ensures.value)))

pub value_of-requires-2 : goal.value_of-requires-2
value_of-requires-2 g c =
    let regions = regions_in g.T.Timeline.history g.row.W c.args.words.now in
    let ds = c.requires.are.0 in
    let are = c.requires.are.1 in (
      stacks_small g.row.W c.requires.sound.lie.gang,
      (
        search rules,
        (
          c.requires.sound,
          (
            high_of g.row.W c.args.compiled.now regions c.args.active c.args.dimensions.now ds are c.args.number c.index-dimensions-number.result c.if-number-dimensions.false c.index-dimensions-number.is,
            high_at g.row.W c.args.compiled.now regions c.args.active c.args.dimensions.now ds are c.args.number c.index-dimensions-number.result c.if-number-dimensions.false c.index-dimensions-number.is
                c.deref-2.result.now c.deref-2.ensures.value,
          ),
        ),
      ),
    )

pub returns-in_err-high : goal.returns-in_err-high
returns-in_err-high g c = λ masked ds shown are.
    let regions = regions_in g.T.Timeline.history g.row.W c.args.words.now in
    let lanes = lanes_of g.row.W c.args.active.lanes in
    let p = err_from_is_err_and c.from_residual-in_err-high.result c.from_residual-in_err-high.ensures.1 in
    let fault = c.in_err-high.field-0.0 in
    let dimension = c.index-dimensions-number.result in
    let low = low_of g.row.W c.args.compiled.now regions c.args.active c.args.dimensions.now ds are c.args.number dimension c.if-number-dimensions.false c.index-dimensions-number.is in
    let high = high_of g.row.W c.args.compiled.now regions c.args.active c.args.dimensions.now ds are c.args.number dimension c.if-number-dimensions.false c.index-dimensions-number.is in
    answers_fault c.from_residual-in_err-high.result fault _ (p.1 ∙ ap Err p.2)
    (high_faults g.row.W c.args.compiled.now regions c.args.active c.args.dimensions.now ds are c.args.number dimension c.if-number-dimensions.false c.index-dimensions-number.is lanes masked.state
    c.in_ok-low.low
    (c.in_ok-low.ensures masked low shown
    (low_at g.row.W c.args.compiled.now regions c.args.active c.args.dimensions.now ds are c.args.number dimension c.if-number-dimensions.false c.index-dimensions-number.is c.deref.result.now c.deref.ensures.value))
    (fault_view fault)
    (c.in_err-high.ensures masked high shown
    (high_at g.row.W c.args.compiled.now regions c.args.active c.args.dimensions.now ds are c.args.number dimension c.if-number-dimensions.false c.index-dimensions-number.is c.deref-2.result.now c.deref-2.ensures.value)))

pub returns : goal.returns
returns g c = λ masked ds shown are.
    let regions = regions_in g.T.Timeline.history g.row.W c.args.words.now in
    let lanes = lanes_of g.row.W c.args.active.lanes in
    let dimension = c.index-dimensions-number.result in
    let low = low_of g.row.W c.args.compiled.now regions c.args.active c.args.dimensions.now ds are c.args.number dimension c.if-number-dimensions.false c.index-dimensions-number.is in
    let high = high_of g.row.W c.args.compiled.now regions c.args.active c.args.dimensions.now ds are c.args.number dimension c.if-number-dimensions.false c.index-dimensions-number.is in
    bounds_are g.row.W c.args.compiled.now regions c.args.active c.args.dimensions.now ds are c.args.number dimension c.if-number-dimensions.false c.index-dimensions-number.is lanes masked.state
    c.in_ok-low.low
    (c.in_ok-low.ensures masked low shown
    (low_at g.row.W c.args.compiled.now regions c.args.active c.args.dimensions.now ds are c.args.number dimension c.if-number-dimensions.false c.index-dimensions-number.is c.deref.result.now c.deref.ensures.value))
    c.in_ok-high.high
    (c.in_ok-high.ensures masked high shown
    (high_at g.row.W c.args.compiled.now regions c.args.active c.args.dimensions.now ds are c.args.number dimension c.if-number-dimensions.false c.index-dimensions-number.is c.deref-2.result.now c.deref-2.ensures.value))
    ∙ ap (λ k. Ok (at c.in_ok-low.low k, at c.in_ok-high.high k)) (sym c.lowest-lane.ensures.value)
