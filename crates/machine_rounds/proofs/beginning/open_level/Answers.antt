use Rattle.std.proofs.Common.{◌≡◌, ◌+◌, ◌∙◌, suc, length, arith}
use Rattle.std.proofs.lemmas.List.{length-replicate}
use Rattle.machine_states.specs.Regions.{CountersOf, EndOf, NumbersOf, ValuesOf}
use Rattle.machine_rounds.proofs.Opening.{inner_long, open_long, opened, outer_long}
use Rattle.machine_rounds.proofs.beginning.open_level.Goals as goal

pub send_on-requires : goal.send_on-requires
send_on-requires g c = record {
  gang = c.requires.width;
  laid = c.requires.laid;
  numbered = outer_long g.T.Timeline.history g.T.Timeline.left g.row.W c.args.active c.args.words.now c.requires.laid c.requires.frame c.requires.level;
  some = c.requires.lane;
  room = omega (arith, c.requires.left);
}

pub set-requires-clause-within : goal.set-requires-clause-within
set-requires-clause-within g c =
    let up : c.args.active.level + 1 ≡ suc c.args.active.level = omega arith in
    let long = inner_long g.T.Timeline.history g.T.Timeline.left g.row.W c.args.active c.args.words.now c.requires.laid c.requires.frame c.requires.level (c.args.active.level + 1) up c.send_on.new.words c.send_on.ensures.layout c.send_on.ensures.laid EndOf in
    omega (arith, long)

pub fill-requires-clause-fits : goal.fill-requires-clause-fits
fill-requires-clause-fits g c =
    let up : c.args.active.level + 1 ≡ suc c.args.active.level = omega arith in
    let long = inner_long g.T.Timeline.history g.T.Timeline.left g.row.W c.args.active c.args.words.now c.requires.laid c.requires.frame c.requires.level (c.args.active.level + 1) up c.set.new.self (c.set.ensures.layout ∙ c.send_on.ensures.layout) c.set.ensures.laid NumbersOf in
    omega (arith, long, length-replicate g.row.W c.args.rounds)

pub fill-requires-2-clause-fits : goal.fill-requires-2-clause-fits
fill-requires-2-clause-fits g c =
    let up : c.args.active.level + 1 ≡ suc c.args.active.level = omega arith in
    let long = inner_long g.T.Timeline.history g.T.Timeline.left g.row.W c.args.active c.args.words.now c.requires.laid c.requires.frame c.requires.level (c.args.active.level + 1) up c.fill.new.self (c.fill.ensures.layout ∙ c.set.ensures.layout ∙ c.send_on.ensures.layout) c.fill.ensures.laid CountersOf in
    let counted : length c.args.first.counters ≡ 9 = omega arith in
    omega (arith, long, counted)

pub fill-requires-3-clause-fits : goal.fill-requires-3-clause-fits
fill-requires-3-clause-fits g c =
    let up : c.args.active.level + 1 ≡ suc c.args.active.level = omega arith in
    let long = inner_long g.T.Timeline.history g.T.Timeline.left g.row.W c.args.active c.args.words.now c.requires.laid c.requires.frame c.requires.level (c.args.active.level + 1) up c.fill-2.new.self (c.fill-2.ensures.layout ∙ c.fill.ensures.layout ∙ c.set.ensures.layout ∙ c.send_on.ensures.layout) c.fill-2.ensures.laid ValuesOf in
    let valued : length c.args.first.values ≡ g.row.W = omega arith in
    omega (arith, long, valued)

pub set-requires-2-clause-within : goal.set-requires-2-clause-within
set-requires-2-clause-within g c =
    let long = open_long g.T.Timeline.history g.T.Timeline.left g.row.W c.fill-3.new.self c.fill-3.ensures.laid c.args.active.frame c.args.active.level c.requires.frame in
    omega (arith, long)

pub returns : goal.returns
returns g c =
    let up : c.args.active.level + 1 ≡ suc c.args.active.level = omega arith in
    let counted : length c.args.first.counters ≡ 9 = omega arith in
    let valued : length c.args.first.values ≡ g.row.W = omega arith in
    opened g.T.Timeline.history g.T.Timeline.left g.row.W c.args.active c.args.words.now c.requires.laid c.requires.frame c.requires.level (c.args.active.level + 1) up c.args.rounds c.args.next c.args.first counted valued
    c.send_on.new.words c.set.new.self c.fill.new.self c.fill-2.new.self c.fill-3.new.self c.set-2.new.self
    c.send_on.ensures c.set.ensures c.fill.ensures c.fill-2.ensures c.fill-3.ensures c.set-2.ensures
