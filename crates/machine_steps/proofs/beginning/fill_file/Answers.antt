use Rattle.std.proofs.Common.{◌≤◌, ◌<◌, ◌∙◌, refl, ap, length, get_or, arith}
use Rattle.std.proofs.lemmas.Option.{slice_get_read}
use Rattle.machine_steps.proofs.FirstWords.{file_filled, next_file, none_filled, one_filled, still_fresh}
use Rattle.machine_steps.proofs.beginning.fill_file.Goals as goal

pub loop-number-init : goal.loop-number-init
loop-number-init g c = none_filled g.T.Timeline.history g.T.Timeline.left g.row.W c.args.compiled.now c.args.words.now c.requires.lie

pub fill-requires : goal.fill-requires
fill-requires g c =
    let history = g.T.Timeline.history in
    let left = g.T.Timeline.left in
    let w = g.row.W in
    let compiled = c.args.compiled.now in
    let globals = compiled.program.globals.items in
    let lie = c.requires.lie in
    let i = c.loop-number.number in
    let mid = c.loop-number.words in
    let global = c.global-item.result in
    let within : i < length globals = omega (arith, c.loop-number-test.true, ap length c.deref-global-items.ensures.value) in
    let is = slice_get_read globals (length globals) i global refl within (c.global-item.is ∙ ap (λ gs. get_or gs i global) c.deref-global-items.ensures.value) in
    record {
      width = lie.gang;
      laid = c.loop-number.invariant.laid;
      fresh = still_fresh history left w compiled c.args.words.now lie c.requires.fresh mid c.loop-number.invariant.rest;
      long = next_file history left w compiled c.args.words.now lie i mid c.loop-number.invariant global is;
    }

pub loop-number-preserved : goal.loop-number-preserved
loop-number-preserved g c =
    let history = g.T.Timeline.history in
    let left = g.T.Timeline.left in
    let w = g.row.W in
    let compiled = c.args.compiled.now in
    let globals = compiled.program.globals.items in
    let i = c.loop-number.number in
    let global = c.global-item.result in
    let within : i < length globals = omega (arith, c.loop-number-test.true, ap length c.deref-global-items.ensures.value) in
    let is = slice_get_read globals (length globals) i global refl within (c.global-item.is ∙ ap (λ gs. get_or gs i global) c.deref-global-items.ensures.value) in
    one_filled history left w compiled c.args.words.now c.requires.lie i c.loop-number.words c.loop-number.invariant global is
    c.fill.new.words c.fill.ensures

pub returns : goal.returns
returns g c =
    let compiled = c.args.compiled.now in
    let over : length compiled.program.globals.items ≤ c.loop-number.number = omega (arith, c.loop-number-test.false, ap length c.deref-global-items.ensures.value) in
    file_filled g.T.Timeline.history g.T.Timeline.left g.row.W compiled c.args.words.now c.requires.lie c.loop-number.number c.loop-number.words c.loop-number.invariant over
