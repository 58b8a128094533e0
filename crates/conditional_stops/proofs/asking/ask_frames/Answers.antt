use Rattle.std.proofs.Common.{◌+◌, ◌∷◌, [], sym, subst, ap, ◌∙◌, arith, rules, drop, Some}
use Rattle.debug_session.specs.Sessions.{bare}
use Rattle.conditional_stops.specs.Reasons.{Asks}
use Rattle.conditional_stops.specs.SightViews.{sights_view}
use Rattle.conditional_stops.specs.Views.{table_of}
use Rattle.conditional_stops.specs.Watches.{changed_frames, seen}
use Rattle.conditional_stops.proofs.Changed.{AskedFrames, all_asked, none_asked, noted_then, one_asked}
use Rattle.conditional_stops.proofs.asking.ask_frames.Goals as goal

pub loop-watch-init : goal.loop-watch-init
loop-watch-init g c = record {
  place = search rules;
  asked = λ s began d st words after. none_asked c.args.direction s began d c.args.watches.now (table_of c.args.conditions.now);
}

pub loop-watch-preserved : goal.loop-watch-preserved
loop-watch-preserved g c = record {
  place = omega (arith, c.loop-watch.invariant.place);
  asked = λ s began d st words after.
      let watches = c.args.watches.now in
      let k = c.loop-watch.watch-index in
      let w = c.watch-item.result in
      let table = table_of c.args.conditions.now in
      let middle = table_of c.loop-watch.conditions in
      let new = table_of c.ask_frame-counted.new.conditions in
      let counted = c.ask_frame-counted.result in
      let there = subst (λ m. g.M.RecordedMachine.stands m s (bare d)) (sym c.machine-machine.ensures) st.there in
      let inside = c.loop-watch-test.true in
      let place = c.loop-watch.invariant.place in
      let before = noted_then s began watches (sights_view c.args.before.now.items) c.loop-watch.place k w words place inside in
      let here = noted_then s d watches (sights_view c.args.here.now.items) c.loop-watch.place k w after place inside in
      let old = c.noted_sight-old.ensures _ _ before ∙ ap (λ w. Some (seen s began w)) (sym c.watch-item.is) in
      let new_one = c.noted_sight-new.ensures _ _ here ∙ ap (λ w. Some (seen s d w)) (sym c.watch-item.is) in
      let one = subst (λ x. Asks s d (changed_frames c.args.direction s began d (x ∷ [])) middle counted new) c.watch-item.is (c.ask_frame-counted.ensures s began d there old new_one) in
      subst (λ first. AskedFrames c.args.direction s began d watches (drop (k + 1) watches) table first new) (sym c.first_of-first.ensures)
      (one_asked c.args.direction s began d watches k w table middle new c.loop-watch.first counted c.loop-watch-test.true (c.loop-watch.invariant.asked s began d st words after) one);
}

pub returns : goal.returns
returns g c s began d st words after =
    all_asked c.args.direction s began d c.args.watches.now c.loop-watch.watch-index (table_of c.args.conditions.now) (table_of c.loop-watch.conditions) c.loop-watch.first c.loop-watch-test.false
    (c.loop-watch.invariant.asked s began d st words after)
