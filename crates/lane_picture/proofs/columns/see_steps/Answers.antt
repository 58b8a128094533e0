use Rattle.std.proofs.Common.{◌≡◌, refl, [], ◌∷◌, true, false, Some, None, ap, sym, subst, arith, length, length-append}
use Rattle.gang_model.specs.Debugger.Debugger.{has_ended, now}
use Rattle.debug_commands.specs.TargetViews.{target_option}
use Rattle.debug_session.proofs.Ending.{ended_by}
use Rattle.debug_session.specs.Sessions.{bare}
use Rattle.lane_picture.specs.Seen.{AreColumns}
use Rattle.lane_picture.specs.Watched.{HaveValues}
use Rattle.lane_picture.proofs.Counting.{none_tried, one_more, run_full, run_over, run_stopped}
use Rattle.lane_picture.proofs.SeenColumns.{columns_more}
use Rattle.lane_picture.proofs.Watching.{values_more}
use Rattle.lane_picture.proofs.columns.see_steps.Goals as goal

pub loop-count-init : goal.loop-count-init
loop-count-init g c = record {
  each = ap length c.new-seen.ensures.columns;
  so_far = λ s d st. none_tried g.M.RecordedMachine.stands s c.args.most_steps d c.args.session.now st;
  stand = λ s d st limit. subst (AreColumns s.program (now s d)) (sym c.new-seen.ensures.columns) tt;
  values = λ s d st limit. subst (HaveValues s.program (target_option c.args.watched) c.new-seen.result.values.items (now s d)) (sym c.new-seen.ensures.columns) tt;
}

pub returns-in_default-clause-seen : goal.returns-in_default-clause-seen
returns-in_default-clause-seen g c s d st =
    let stands = g.M.RecordedMachine.stands in
    let so = c.loop-count.invariant.so_far s d st in
    let e = so.done.after in
    let there = subst (λ m. stands m s (bare e)) (sym c.machine.ensures) so.done.there.there in
    let ended : has_ended (now s e) ≡ true = sym (ended_by s.program (now s e).frames None (c.in_default.ensures.place s (bare e) there)) in
    record {
      run = run_over stands s c.args.most_steps d c.loop-count._count c.loop-count.session so (omega arith) ended;
      each = c.loop-count.invariant.each;
      stand = c.loop-count.invariant.stand s d st;
    }

pub returns-in-Some-try_step-clause-seen : goal.returns-in-Some-try_step-clause-seen
returns-in-Some-try_step-clause-seen g c s d st =
    let stands = g.M.RecordedMachine.stands in
    let so = c.loop-count.invariant.so_far s d st in
    let e = so.done.after in
    let there = subst (λ m. stands m s (bare e)) (sym c.machine.ensures) so.done.there.there in
    let place = c.in-Some.ensures.place s (bare e) there in
    let goes : has_ended (now s e) ≡ false = sym (ended_by s.program (now s e).frames (Some c.in-Some.position) place) in
    let noted = c.in_ok-note.ensures.noted in
    let old = c.loop-count.seen.columns.items in
    let new = c.note.new.self.columns.items in
    record {
      run = run_stopped stands s c.args.most_steps d c.loop-count._count c.loop-count.session so (omega arith) c.try_step.new.session goes
          c.in-Some-try_step.end (c.in-Some-try_step.ensures s e so.done.there);
      each = omega (arith, ap length noted.1, length-append old (noted.0 ∷ []), c.loop-count.invariant.each);
      stand = λ limit.
          columns_more s.program (now s d) (now s e) c.loop-count._count c.in-Some.position _ _ noted.0 old new c.loop-count.invariant.each (so.stood limit) place noted.2 noted.1
          (c.loop-count.invariant.stand s d st limit);
    }

pub returns-in-Some-try_step-clause-values : goal.returns-in-Some-try_step-clause-values
returns-in-Some-try_step-clause-values g c s d st limit =
    let stands = g.M.RecordedMachine.stands in
    let so = c.loop-count.invariant.so_far s d st in
    let e = so.done.after in
    let there = subst (λ m. stands m s (bare e)) (sym c.machine-in-loop-count.ensures) so.done.there.there in
    let noted = c.in_ok-note.ensures.noted in
    values_more stands s c.machine-in-loop-count.result.now (target_option c.args.watched) (now s d) (bare e) there c.loop-count._count c.in-Some.position _ _ c.loop-count.seen.values.items
    c.note.new.self.values.items noted.0 c.loop-count.seen.columns.items c.note.new.self.columns.items c.loop-count.invariant.each (so.stood limit) noted.2 refl refl noted.1 c.in_ok-note.ensures.values
    (c.loop-count.invariant.values s d st limit)

pub loop-count-preserved : goal.loop-count-preserved
loop-count-preserved g c =
    let stands = g.M.RecordedMachine.stands in
    let noted = c.in_ok-note.ensures.noted in
    let old = c.loop-count.seen.columns.items in
    let new = c.note.new.self.columns.items in
    record {
      each = omega (arith, ap length noted.1, length-append old (noted.0 ∷ []), c.loop-count.invariant.each);
      so_far = λ s d st.
          let so = c.loop-count.invariant.so_far s d st in
          let e = so.done.after in
          let there = subst (λ m. stands m s (bare e)) (sym c.machine.ensures) so.done.there.there in
          let goes : has_ended (now s e) ≡ false = sym (ended_by s.program (now s e).frames (Some c.in-Some.position) (c.in-Some.ensures.place s (bare e) there)) in
          one_more stands s c.args.most_steps d c.loop-count._count c.loop-count.session so (omega arith) c.try_step.new.session goes
          (c.in_default-try_step.ensures s e so.done.there);
      stand = λ s d st limit.
          let so = c.loop-count.invariant.so_far s d st in
          let e = so.done.after in
          let there = subst (λ m. stands m s (bare e)) (sym c.machine.ensures) so.done.there.there in
          columns_more s.program (now s d) (now s e) c.loop-count._count c.in-Some.position _ _ noted.0 old new c.loop-count.invariant.each (so.stood limit)
          (c.in-Some.ensures.place s (bare e) there) noted.2 noted.1 (c.loop-count.invariant.stand s d st limit);
      values = λ s d st limit.
          let so = c.loop-count.invariant.so_far s d st in
          let e = so.done.after in
          let there = subst (λ m. stands m s (bare e)) (sym c.machine-in-loop-count.ensures) so.done.there.there in
          values_more stands s c.machine-in-loop-count.result.now (target_option c.args.watched) (now s d) (bare e) there c.loop-count._count c.in-Some.position _ _ c.loop-count.seen.values.items c.note.new.self.values.items
          noted.0 old new c.loop-count.invariant.each (so.stood limit) noted.2 refl refl noted.1 c.in_ok-note.ensures.values (c.loop-count.invariant.values s d st limit);
    }

pub returns-clause-seen : goal.returns-clause-seen
returns-clause-seen g c s d st =
    let stands = g.M.RecordedMachine.stands in
    let so = c.loop-count.invariant.so_far s d st in
    let e = so.done.after in
    let there = subst (λ m. stands m s (bare e)) (sym c.machine-2.ensures) so.done.there.there in
    record {
      run = run_full stands s c.args.most_steps d c.loop-count._count c.loop-count.session so c.end_after-end.result (omega (arith, c.loop-count-test.false)) (c.end_after-end.ensures s e there);
      each = c.loop-count.invariant.each;
      stand = c.loop-count.invariant.stand s d st;
    }
