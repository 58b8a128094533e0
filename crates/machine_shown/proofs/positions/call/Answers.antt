use Rattle.std.proofs.Common.{◌≡◌, ◌<◌, ◌∙◌, refl, ap, suc, ◌-◌, length, arith}
use Rattle.std.specs.Prelude.{slice_index}
use Rattle.machine_states.specs.Regions.{FunctionOf}
use Rattle.machine_words.specs.Words.{regions_in}
use Rattle.frame_steps.specs.Compiled.{program_of, variables_of}
use Rattle.frame_steps.proofs.Standings.{head_sized}
use Rattle.machine_shown.proofs.CallPlaces.{call_shown, caller_below, function_at, is_below, no_call, no_call_at_0, running_at, standing_width}
use Rattle.machine_shown.proofs.positions.call.Goals as goal
use Rattle.machine_shown.proofs.positions.call.Goals.{then-depth-eq0-via-then-depth-eq0, then-depth-eq0-via-else-depth-eq0+then-word-depth}

pub returns-then-depth-eq0-clause-place : goal.returns-then-depth-eq0-clause-place
returns-then-depth-eq0-clause-place g c masked shown =
    let p = program_of c.args.compiled.now in
    let frames = masked.state.frames in
    elim c.then-depth-eq0.branch [
      | then-depth-eq0-via-then-depth-eq0 w ↦ no_call_at_0 p c.args.depth frames w.if-depth-eq0.true
      | then-depth-eq0-via-else-depth-eq0+then-word-depth w ↦
          let height : w.word.result ≡ length frames = w.word.ensures ∙ ap (λ ws. slice_index ws 0) shown.shows.depth in
          no_call p c.args.depth frames (omega (arith, height, w.if-word-depth.true))
    ]

pub word-function-requires-clause-within : goal.word-function-requires-clause-within
word-function-requires-clause-within g c =
    let compiled = c.args.compiled.now in
    let machine = c.args.words.now in
    let lie = c.requires.sound.lie in
    let masked = c.requires.sound.masked in
    let shows = c.requires.sound.shown.shows in
    let regions = regions_in g.T.Timeline.history g.row.W machine in
    let within = is_below (program_of compiled) (variables_of compiled) g.row.W regions masked shows c.args.depth c.word.result c.word.ensures c.if-word-depth.false in
    let below : c.args.depth - 1 < 64 = omega (arith, within, shows.few) in
    let long = head_sized g.T.Timeline.history g.row.W c.args.compiled.now machine machine lie refl lie.laid (c.args.depth - 1) FunctionOf below in
    omega (arith, long)

pub frame_step-call-requires-clause-runs : goal.frame_step-call-requires-clause-runs
frame_step-call-requires-clause-runs g c =
    let compiled = c.args.compiled.now in
    let regions = regions_in g.T.Timeline.history g.row.W c.args.words.now in
    let masked = c.requires.sound.masked in
    let shows = c.requires.sound.shown.shows in
    let below = caller_below (program_of compiled) (variables_of compiled) g.row.W regions masked shows c.args.depth c.word.result c.word.ensures c.if-word-depth.false in
    running_at (program_of compiled) (variables_of compiled) g.row.W regions masked shows (c.args.depth - 1) c.word-function.result below c.word-function.ensures

pub stands_at-requires : goal.stands_at-requires
stands_at-requires g c =
    let compiled = c.args.compiled.now in
    let regions = regions_in g.T.Timeline.history g.row.W c.args.words.now in
    let masked = c.requires.sound.masked in
    let shows = c.requires.sound.shown.shows in
    let below = caller_below (program_of compiled) (variables_of compiled) g.row.W regions masked shows c.args.depth c.word.result c.word.ensures c.if-word-depth.false in
    let there = function_at (program_of compiled) (variables_of compiled) g.row.W regions masked shows (c.args.depth - 1) c.word-function.result below c.word-function.ensures in
    (there.0, there.1)

pub returns-clause-place : goal.returns-clause-place
returns-clause-place g c masked shown =
    let compiled = c.args.compiled.now in
    let regions = regions_in g.T.Timeline.history g.row.W c.args.words.now in
    let shows = shown.shows in
    let deep = c.args.depth in
    let below = is_below (program_of compiled) (variables_of compiled) g.row.W regions masked shows deep c.word.result c.word.ensures c.if-word-depth.false in
    let one_more : deep ≡ suc (deep - 1) = omega (arith, c.if-depth-eq0.false) in
    let caller = caller_below (program_of compiled) (variables_of compiled) g.row.W regions masked shows deep c.word.result c.word.ensures c.if-word-depth.false in
    let there = function_at (program_of compiled) (variables_of compiled) g.row.W regions masked shows (deep - 1) c.word-function.result caller c.word-function.ensures in
    let f = there.0 in
    let found = c.frame_step-call.ensures f there.1 in
    call_shown (program_of compiled) (variables_of compiled) g.row.W regions masked shows deep (deep - 1) c.frame_step-call.result.level c.word-function.result c.frame_step-call.result.step f
    c.call_lanes-lanes.result c.stands_at.result one_more below there.2 there.1 found.innermost found.least_number
    c.call_lanes-lanes.ensures
    (c.requires.sound.lie.compiled_is.runnable.lowerable.functions c.word-function.result f there.1).standings
    (c.stands_at.ensures f there.1)

pub returns-clause-width : goal.returns-clause-width
returns-clause-width g c =
    let compiled = c.args.compiled.now in
    let regions = regions_in g.T.Timeline.history g.row.W c.args.words.now in
    let masked = c.requires.sound.masked in
    let shows = c.requires.sound.shown.shows in
    let below = caller_below (program_of compiled) (variables_of compiled) g.row.W regions masked shows c.args.depth c.word.result c.word.ensures c.if-word-depth.false in
    let there = function_at (program_of compiled) (variables_of compiled) g.row.W regions masked shows (c.args.depth - 1) c.word-function.result below c.word-function.ensures in
    standing_width g.row.W there.0 c.frame_step-call.result.step c.args.depth c.call_lanes-lanes.result c.stands_at.result c.requires.sound.lie.gang (c.stands_at.ensures there.0 there.1)
