use Rattle.std.proofs.Common.{◌≡◌, ◌∙◌, sym, ap, subst, length, arith}
use Rattle.std.proofs.lemmas.Iterator.{YieldsList-from_slice, YieldsList-from_zip}
use Rattle.std.proofs.lemmas.Iterator.Consumers.{YieldsList-from_enumerate, YieldsList-turn, YieldsList-end}
use Rattle.std.proofs.lemmas.List.{length_push}
use Rattle.gang_types.specs.Masks.{lanes_of}
use Rattle.gang_types.specs.MaskLaws.{gang_width-le}
use Rattle.machine_states.specs.Regions.{OfLocal}
use Rattle.machine_words.specs.Words.{Writes, regions_in}
use Rattle.machine_steps.specs.Calls.{AreParametersDeclared, parameter_region}
use Rattle.machine_steps.proofs.Parameters.{none_declared, one_declared, numbered_pair, pairs_long, next_left, next_region}
use Rattle.machine_steps.proofs.calls.declare_parameters.Goals as goal

pub loop-number-init : goal.loop-number-init
loop-number-init g c =
    none_declared g.T.Timeline.history g.T.Timeline.left g.row.W c.args.frame c.args.args.now c.args.given.now (lanes_of g.row.W c.args.lanes) c.args.words.now c.requires.laid

pub declare_parameter-requires : goal.declare_parameter-requires
declare_parameter-requires g c =
    let w = g.row.W in
    let args = c.args.args.now in
    let given = c.args.given.now in
    let i = length c.loop-number.yielded in
    let history = g.T.Timeline.history in
    let left = g.T.Timeline.left in
    let words = c.loop-number.words in
    let lanes = lanes_of w c.args.lanes in
    let road =
    YieldsList-from_enumerate {s = c.into_iter-number-iterator.result} (YieldsList-from_zip (YieldsList-from_slice args (cc)) (YieldsList-from_slice given (cc))) (cc) in
    let turn =
    YieldsList-turn road c.loop-number.yielded c.loop-number.number-iterator c.loop-number.yielded_by c.next.result c.next.new.self
    (c.in-Some.number, (c.in-Some.arg, c.in-Some.values)) c.in-Some.is c.next.ensures.steps in
    let pair = numbered_pair args given i c.in-Some.number c.in-Some.arg.now c.in-Some.values.now turn.0 turn.1 in
    let long : length (regions_in history w words (OfLocal c.args.frame c.in-Some.number)) ≡ w =
    ap (λ k. length (regions_in history w words (OfLocal c.args.frame k))) pair.0
    ∙ ap length (next_region history left w c.args.frame args given lanes c.args.words.now i words c.loop-number.invariant)
    ∙ c.requires.sized i pair.3 in
    let small = gang_width-le w c.requires.width in (
      omega (arith, small),
      (
        c.requires.width,
        (
          c.loop-number.invariant.laid,
          (long, (c.requires.lane, next_left history left w c.args.frame args given lanes c.args.words.now i words c.loop-number.invariant pair.3 c.requires.left)),
        ),
      ),
    )

pub loop-number-preserved : goal.loop-number-preserved
loop-number-preserved g c =
    let w = g.row.W in
    let args = c.args.args.now in
    let given = c.args.given.now in
    let i = length c.loop-number.yielded in
    let history = g.T.Timeline.history in
    let left = g.T.Timeline.left in
    let words = c.loop-number.words in
    let lanes = lanes_of w c.args.lanes in
    let road =
    YieldsList-from_enumerate {s = c.into_iter-number-iterator.result} (YieldsList-from_zip (YieldsList-from_slice args (cc)) (YieldsList-from_slice given (cc))) (cc) in
    let turn =
    YieldsList-turn road c.loop-number.yielded c.loop-number.number-iterator c.loop-number.yielded_by c.next.result c.next.new.self
    (c.in-Some.number, (c.in-Some.arg, c.in-Some.values)) c.in-Some.is c.next.ensures.steps in
    let pair = numbered_pair args given i c.in-Some.number c.in-Some.arg.now c.in-Some.values.now turn.0 turn.1 in
    let made =
    subst (λ k. Writes history left w (OfLocal c.args.frame k) (parameter_region c.in-Some.arg.now lanes c.in-Some.values.now (regions_in history w words (OfLocal c.args.frame k))) w words c.declare_parameter.new.words)
    pair.0 c.declare_parameter.ensures in
    subst (λ count. AreParametersDeclared history left w c.args.frame count args given lanes c.args.words.now c.declare_parameter.new.words)
    (sym (length_push c.loop-number.yielded (c.in-Some.number, (c.in-Some.arg, c.in-Some.values))))
    (one_declared history left w c.args.frame args given lanes c.args.words.now i words c.loop-number.invariant c.in-Some.arg.now c.in-Some.values.now c.declare_parameter.new.words pair.1 pair.2 made)

pub returns : goal.returns
returns g c =
    let args = c.args.args.now in
    let given = c.args.given.now in
    let road =
    YieldsList-from_enumerate {s = c.into_iter-number-iterator.result} (YieldsList-from_zip (YieldsList-from_slice args (cc)) (YieldsList-from_slice given (cc))) (cc) in
    let end = YieldsList-end road c.loop-number.yielded c.loop-number.number-iterator c.loop-number.yielded_by c.next.result c.next.new.self c.in-None.is c.next.ensures.steps in
    subst (λ count. AreParametersDeclared g.T.Timeline.history g.T.Timeline.left g.row.W c.args.frame count args given (lanes_of g.row.W c.args.lanes) c.args.words.now c.loop-number.words)
    (end.1 ∙ pairs_long args given c.requires.each) c.loop-number.invariant
