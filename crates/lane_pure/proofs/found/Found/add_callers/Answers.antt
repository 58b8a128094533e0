use Rattle.std.proofs.Common.{◌≡◌, ◌<◌, ◌∙◌, length, Some, arith}
use Rattle.std.specs.Prelude.{slice_get}
use Rattle.std.proofs.lemmas.Option.{slice_get_read}
use Rattle.lane_pure.specs.Callers.{lists}
use Rattle.lane_pure.proofs.Calling.{list_at}
use Rattle.lane_pure.proofs.Spreading.{listed_below, listed_few, spreading_begins, spreading_ends, spreading_more}
use Rattle.lane_pure.proofs.found.Found.add_callers.Goals as goal

pub loop-turn-init : goal.loop-turn-init
loop-turn-init c = (spreading_begins (lists c.args.callers.now) c.args.self.now.marks.items c.args.self.now.order.items, c.requires.listed)

pub bounds-callers-number : goal.bounds-callers-number
bounds-callers-number c =
    let order = c.loop-turn.self.order in
    let n = c.index-number.result.now in
    let at : slice_get order.items c.loop-turn.turn ≡ Some n = slice_get_read order.items c.len.result c.loop-turn.turn n (c.len.ensures ∙ order.ok.0) c.loop-turn-test.true c.index-number.ensures in
    let below = listed_below c.loop-turn.self.marks.items order.items c.loop-turn.turn n c.loop-turn.invariant.1 at in
    omega (arith, below, c.loop-turn.invariant.0.all, c.args.self.now.marks.ok.0, c.requires.many)

pub offset_bounds-callers-number : goal.offset_bounds-callers-number
offset_bounds-callers-number c = omega (arith, bounds-callers-number c, c.well_formed)

pub loop-turn-smaller : goal.loop-turn-smaller
loop-turn-smaller c =
    let order = c.loop-turn.self.order in
    let few = listed_few c.loop-turn.self.marks.items order.items c.loop-turn.invariant.1 in
    omega (arith, few, c.loop-turn-test.true, c.len.ensures, order.ok.0, c.loop-turn.invariant.0.all, c.args.self.now.marks.ok.0, c.requires.many)

pub loop-turn-preserved : goal.loop-turn-preserved
loop-turn-preserved c =
    let order = c.loop-turn.self.order in
    let n = c.index-number.result.now in
    let at : slice_get order.items c.loop-turn.turn ≡ Some n = slice_get_read order.items c.len.result c.loop-turn.turn n (c.len.ensures ∙ order.ok.0) c.loop-turn-test.true c.index-number.ensures in
    let marked = listed_below c.loop-turn.self.marks.items order.items c.loop-turn.turn n c.loop-turn.invariant.1 at in
    let below : n < length c.args.callers.now = omega (arith, marked, c.loop-turn.invariant.0.all, c.args.self.now.marks.ok.0, c.requires.many) in
    let numbers = c.deref.ensures.value ∙ list_at c.args.callers.now n c.index-callers-number.result below c.index-callers-number.is in (
      spreading_more (lists c.args.callers.now) c.args.self.now.marks.items c.loop-turn.self.marks.items order.items c.loop-turn.turn c.loop-turn.invariant.0 c.loop-turn.invariant.1
          n c.deref.result.now c.add_all.new.self.marks.items c.add_all.new.self.order.items at numbers c.in_ok-add_all.ensures.marks c.in_ok-add_all.ensures.order,
      c.in_ok-add_all.ensures.listed,
    )

pub returns : goal.returns
returns c =
    let order = c.loop-turn.self.order in
    spreading_ends (lists c.args.callers.now) c.args.self.now.marks.items c.loop-turn.self.marks.items order.items c.loop-turn.turn c.loop-turn.invariant.0 c.loop-turn.invariant.1
    (λ less. omega (arith, less, c.loop-turn-test.false, c.len.ensures, order.ok.0))
