use Rattle.std.proofs.Common.{◌≡◌, sym, ◌∙◌, ap, arith, length}
use Rattle.std.specs.Prelude.{◌-◌}
use Rattle.gang_types.specs.Masks.{lanes_of}
use Rattle.machine_states.specs.Effects.{sent_on}
use Rattle.machine_states.specs.Regions.{NumbersOf, LevelOf, OfLevel}
use Rattle.typed_tree.specs.Views.{result_view}
use Rattle.machine_words.specs.Ranges.{head_size, levels_of}
use Rattle.machine_words.specs.Words.{regions_in}
use Rattle.frame_steps.proofs.Heads.{head_long}
use Rattle.frame_steps.proofs.SentSteps.{sent_same}
use Rattle.machine_steps.proofs.PassedCalls.{closing_there, takes_result, regions_sized, some_lanes_called}
use Rattle.machine_steps.proofs.leaving.go_past_call.Goals as goal

pub deliver-requires-clause-sized : goal.deliver-requires-clause-sized
deliver-requires-clause-sized g c =
    regions_sized g.T.Timeline.history g.T.Timeline.left g.row.W c.args.compiled.now c.args.words.now c.requires.sound c.args.active c.requires.closing

pub deliver-requires-clause-lane : goal.deliver-requires-clause-lane
deliver-requires-clause-lane g c =
    some_lanes_called g.T.Timeline.history g.T.Timeline.left g.row.W c.args.compiled.now c.args.words.now c.requires.sound c.args.active c.requires.closing

pub deliver-requires-clause-callee : goal.deliver-requires-clause-callee
deliver-requires-clause-callee g c = (c.requires.closing.0, c.requires.closing.1.next.is_function)

pub deliver-requires-clause-takes : goal.deliver-requires-clause-takes
deliver-requires-clause-takes g c =
    let w = g.row.W in
    let compiled = c.args.compiled.now in
    let regions = regions_in g.T.Timeline.history w c.args.words.now in
    let call = c.awaited_call-call.result in
    let waits = c.awaited_call-call.ensures in
    (waits.g, takes_result compiled c.requires.sound.lie.compiled_is w regions (c.args.active.frame - 1) call.level waits.n waits.g (result_view call.result_for) call.next waits.is_call)

pub send_on-requires : goal.send_on-requires
send_on-requires g c =
    let history = g.T.Timeline.history in
    let left = g.T.Timeline.left in
    let w = g.row.W in
    let compiled = c.args.compiled.now in
    let active = c.args.active in
    let sound = c.requires.sound in
    let closing = c.requires.closing in
    let old = c.args.words.now in
    let mid = c.deliver.new.words in
    let regions = regions_in history w old in
    let below = active.frame - 1 in
    let call = c.awaited_call-call.result in
    let waits = c.awaited_call-call.ensures in
    let gave = c.deliver.ensures closing.0 waits.g closing.1.next.is_function
    (takes_result compiled sound.lie.compiled_is w regions below call.level waits.n waits.g (result_view call.result_for) call.next waits.is_call) in
    let there = closing_there history left w compiled old sound active closing in
    let long : length (regions_in history w mid (OfLevel below call.level NumbersOf)) ≡ w =
    head_long history left w mid gave.laid below (LevelOf call.level NumbersOf) (omega (arith, there))
    ∙ ap (λ layout. head_size w (levels_of layout) (LevelOf call.level NumbersOf)) gave.layout
    ∙ sym (head_long history left w old sound.lie.laid below (LevelOf call.level NumbersOf) (omega (arith, there)))
    ∙ waits.sized in
    record { gang = sound.lie.gang; laid = gave.laid; numbered = long; some = waits.some; room = omega (arith, c.requires.left, gave.few) }

pub returns : goal.returns
returns g c = λ f is_active.
    let history = g.T.Timeline.history in
    let w = g.row.W in
    let compiled = c.args.compiled.now in
    let active = c.args.active in
    let sound = c.requires.sound in
    let mid = c.deliver.new.words in
    let regions = regions_in history w c.args.words.now in
    let below = active.frame - 1 in
    let call = c.awaited_call-call.result in
    let waits = c.awaited_call-call.ensures in
    let gave = c.deliver.ensures f waits.g is_active.next.is_function
    (takes_result compiled sound.lie.compiled_is w regions below call.level waits.n waits.g (result_view call.result_for) call.next waits.is_call) in
    record {
      level = call.level;
      n = waits.n;
      g = waits.g;
      for = result_view call.result_for;
      next = call.next;
      call = waits.is_call;
      delivered = gave.delivered;
      delivers = gave.delivers;
      regions = λ r. c.send_on.ensures.regions_are r
          ∙ sent_same below call.level (lanes_of w call.lanes) (λ k. call.next) (regions_in history w mid) gave.delivered gave.regions r
          ∙ ap (λ ls. sent_on below call.level ls (λ k. call.next) gave.delivered r) waits.lanes_are;
      layout = c.send_on.ensures.layout ∙ gave.layout;
      laid = c.send_on.ensures.laid;
      rest = c.send_on.ensures.rest ∙ gave.rest;
      few = omega (arith, c.send_on.ensures.few, gave.few);
    }
