use Rattle.std.proofs.Common.{◌≡◌, ◌∙◌, [], ◌∷◌, ◌++◌, ◌≤◌, true, false, not, ap, sym, subst, arith}
use Rattle.gang_model.specs.Debugger.Debugger.{Debugger, Setting, has_ended, now}
use Rattle.debug_session.specs.Sessions.{StandsFor, bare}
use Rattle.lane_picture.proofs.Counting.{none_tried, run_full}
use Rattle.lane_picture.specs.Seen.{state_after}
use Rattle.lane_picture.specs.Tries.{end_view}
use Rattle.run_page.proofs.Ending.{Ends, ends, goes_on}
use Rattle.run_page.proofs.MomentsNoted.{done_full, on_err, one_if, told_before, told_last, told_next}
use Rattle.run_page.proofs.NotedSoFar.{NotedSoFar, may_note, none_noted, whole_noted}
use Rattle.run_page.proofs.noting.note_run.Goals as goal

pub loop-taken-init : goal.loop-taken-init
loop-taken-init g c = record {
  so_far = λ s d st. none_tried g.M.RecordedMachine.stands s c.args.subject.now.most_steps d c.args.session.now st;
  noted = λ s d st limit. none_noted s.program c.args.subject.now.most_words (now s d) c.new-record.result c.new-told.result.rows.items c.new-told.result.calls.items
      c.new-record.ensures.moments c.new-record.ensures.variables c.new-record.ensures.width c.new-told.ensures.rows c.new-told.ensures.calls;
}

pub loop-taken-preserved : goal.loop-taken-preserved
loop-taken-preserved g c =
    let stands = g.M.RecordedMachine.stands in
    let subject = c.args.subject.now in
    let taken = c.loop-taken.taken in
    let wanted = c.is_told-is_told.result in
    let more = c.in_ok-note_if.ensures in
    record {
      so_far = λ s d st.
          let so = c.loop-taken.invariant.so_far s d st in
          goes_on stands s subject.most_steps d taken c.loop-taken.session c.try_next.new.session so c.loop-taken-test.true (c.in_default.ensures s so.done.after so.done.there);
      noted = λ s d st limit.
          let so = c.loop-taken.invariant.so_far s d st in
          let e = bare so.done.after in
          let here = subst (λ m. stands m s e) (sym c.machine.ensures) so.done.there.there in
          let old = c.loop-taken.record in
          let new = c.note_if.new.noted in
          let rows = c.note_if.new.told.rows.items in
          let calls = c.note_if.new.told.calls.items in
          let all = may_note s e subject.most_words (now s d) taken (told_before subject taken) old new c.loop-taken.told.rows.items rows c.loop-taken.told.calls.items calls (so.stood limit) wanted
          (c.loop-taken.invariant.noted s d st limit) more.distinct (λ is. more.moment is s e here) (λ is before. λ apart are. more.changes is s e before here apart are) (λ is. more.calls is s e here)
          (λ is. more.width is s e here) (λ is. let both = more.skipped is in (both.0, ap (λ told. told.rows.items) both.1, ap (λ told. told.calls.items) both.1)) in
          subst (λ steps. NotedSoFar s.program subject.most_words (now s d) steps new rows calls) (ap (λ b. told_before subject taken ++ one_if b taken) c.is_told-is_told.ensures ∙ sym (told_next subject taken)) all;
    }

pub returns-in-Some-clause-noted : goal.returns-in-Some-clause-noted
returns-in-Some-clause-noted g c s d st =
    let stands = g.M.RecordedMachine.stands in
    let subject = c.args.subject.now in
    let taken = c.loop-taken.taken in
    let wanted = c.is_told-is_told.result in
    let how = c.in-Some.end in
    let so = c.loop-taken.invariant.so_far s d st in
    let more = c.in_ok-note_if.ensures in
    let last = c.in_ok-note_if-2.ensures in
    let old = c.loop-taken.record in
    let middle = c.note_if.new.noted in
    let new = c.note_if-in-Some.new.noted in
    let rows = c.note_if.new.told.rows.items in
    let calls = c.note_if.new.told.calls.items in
    let end_rows = c.note_if-in-Some.new.told.rows.items in
    let end_calls = c.note_if-in-Some.new.told.calls.items in
    let ended : Ends stands s subject.most_steps d taken how c.try_next.new.session =
    ends stands s subject.most_steps d taken c.loop-taken.session c.try_next.new.session so c.loop-taken-test.true how (c.in-Some.ensures s so.done.after so.done.there) in
    record {
      run = ended.run;
      has = λ limit.
          let e = bare so.done.after in
          let f = bare ended.here in
          let here = subst (λ m. stands m s e) (sym c.machine.ensures) so.done.there.there in
          let there = subst (λ m. stands m s f) (sym c.machine-in-Some.ensures) ended.there.there in
          let first = may_note s e subject.most_words (now s d) taken (told_before subject taken) old middle c.loop-taken.told.rows.items rows c.loop-taken.told.calls.items calls (so.stood limit) wanted
          (c.loop-taken.invariant.noted s d st limit) more.distinct (λ is. more.moment is s e here) (λ is before. λ apart are. more.changes is s e before here apart are) (λ is. more.calls is s e here)
          (λ is. more.width is s e here) (λ is. let both = more.skipped is in (both.0, ap (λ told. told.rows.items) both.1, ap (λ told. told.calls.items) both.1)) in
          let second = may_note s f subject.most_words (now s d) taken (told_before subject taken ++ one_if wanted taken) middle new rows end_rows calls end_calls (ended.stood limit) (not wanted)
          first last.distinct (λ is. last.moment is s f there) (λ is before. λ apart are. last.changes is s f before there apart are) (λ is. last.calls is s f there)
          (λ is. last.width is s f there) (λ is. let both = last.skipped is in (both.0, ap (λ told. told.rows.items) both.1, ap (λ told. told.calls.items) both.1)) in
          whole_noted s d subject ended.run.begun.taken taken (end_view how) ((told_before subject taken ++ one_if wanted taken) ++ one_if (not wanted) taken) new end_rows end_calls second (told_last subject taken wanted) (ended.done limit);
    }

pub returns-clause-noted : goal.returns-clause-noted
returns-clause-noted g c s d st =
    let stands = g.M.RecordedMachine.stands in
    let subject = c.args.subject.now in
    let taken = c.loop-taken.taken in
    let so = c.loop-taken.invariant.so_far s d st in
    let more = c.in_ok-note_if-3.ensures in
    let e = bare so.done.after in
    let all : taken ≡ subject.most_steps = omega (arith, c.loop-taken-test.false) in
    let here = subst (λ m. stands m s e) (sym c.machine-2.ensures) so.done.there.there in
    let there = subst (λ m. stands m s e) (sym c.machine-3.ensures) so.done.there.there in
    let is = c.end_after-end.ensures s so.done.after there in
    let new = c.note_if-2.new.noted in
    let rows = c.note_if-2.new.told.rows.items in
    let calls = c.note_if-2.new.told.calls.items in
    record {
      run = run_full stands s subject.most_steps d taken c.loop-taken.session so c.end_after-end.result all is;
      has = λ limit.
          let stood : now s e ≡ state_after s.program subject.most_steps (now s d) = so.stood limit ∙ ap (λ n. state_after s.program n (now s d)) all in
          let noted = may_note s e subject.most_words (now s d) subject.most_steps (told_before subject taken) c.loop-taken.record new c.loop-taken.told.rows.items rows c.loop-taken.told.calls.items calls stood true
          (c.loop-taken.invariant.noted s d st limit) more.distinct (λ is. more.moment is s e here) (λ is before. λ apart are. more.changes is s e before here apart are) (λ is. more.calls is s e here)
          (λ is. more.width is s e here) (λ is. let both = more.skipped is in (both.0, ap (λ told. told.rows.items) both.1, ap (λ told. told.calls.items) both.1)) in
          whole_noted s d subject taken subject.most_steps (end_view c.end_after-end.result) (told_before subject taken ++ one_if true subject.most_steps) new rows calls noted
          (ap (λ n. told_before subject n ++ subject.most_steps ∷ []) all) (done_full taken (end_view c.end_after-end.result) (has_ended (now s e)) is ∙ all);
    }

pub returns-in_err-note_if-clause-memory : goal.returns-in_err-note_if-clause-memory
returns-in_err-note_if-clause-memory g c = on_err c.from_residual.result (λ s d st.
    let so = c.loop-taken.invariant.so_far s d st in
    record { taken = c.loop-taken.taken; few = omega arith; done = so.done })

pub returns-in_err-note_if-2-clause-memory : goal.returns-in_err-note_if-2-clause-memory
returns-in_err-note_if-2-clause-memory g c = on_err c.from_residual-in_err-note_if-2.result (λ s d st.
    let so = c.loop-taken.invariant.so_far s d st in
    (ends g.M.RecordedMachine.stands s c.args.subject.now.most_steps d c.loop-taken.taken c.loop-taken.session c.try_next.new.session so c.loop-taken-test.true c.in-Some.end (c.in-Some.ensures s so.done.after so.done.there)).run.begun)

pub returns-in_err-note_if-3-clause-memory : goal.returns-in_err-note_if-3-clause-memory
returns-in_err-note_if-3-clause-memory g c = on_err c.from_residual-in_err-note_if-3.result (λ s d st.
    let so = c.loop-taken.invariant.so_far s d st in
    record { taken = c.loop-taken.taken; few = omega (arith, c.loop-taken-test.false); done = so.done })
