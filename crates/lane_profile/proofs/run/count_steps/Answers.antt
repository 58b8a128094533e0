use Rattle.std.proofs.Common.{◌≡◌, ◌∙◌, ◌+◌, [], refl, ap, sym, subst, arith}
use Rattle.std.specs.List.{All}
use Rattle.std.specs.Prelude.{option_map, slice_get}
use Rattle.std.proofs.lemmas.List.Elements.{All-cons, All-nil}
use Rattle.gang_model.specs.Debugger.Debugger.{now}
use Rattle.lane_counts.specs.declared.counts.Counts.{Counts}
use Rattle.lane_counts.specs.Tallies.{Follows, all_with, calls_with, inside_with, line_with, own_with, rounds_with, whole_with}
use Rattle.lane_counts.proofs.Ends.{all_begun, all_done, calls_begun, calls_done, inside_begun, inside_done, line_begun, line_done, own_begun, own_done, rounds_begun, rounds_done, whole_begun, whole_done}
use Rattle.lane_meetings.specs.Pending.{Fits, counted_with}
use Rattle.lane_meetings.proofs.Ends.{begun_counts, begun_distinct}
use Rattle.lane_profile.specs.Counted.{IsNamed}
use Rattle.lane_profile.specs.Ran.{after_steps}
use Rattle.lane_profile.specs.Stands.{stand_of}
use Rattle.gang_model.specs.Debugger.Events.{gone}
use Rattle.lane_picture.specs.Seen.{next_state, state_after}
use Rattle.lane_picture.proofs.SeenColumns.{after_more}
use Rattle.lane_profile.proofs.Frames.{follows_first, follows_on}
use Rattle.lane_profile.proofs.Left.{all_left, ended_left, fits_run, last_left, named_by, none_left, step_left}
use Rattle.element_accesses.specs.Rows.{kept}
use Rattle.lane_profile.proofs.Running.{none_done, one_done, run_full, run_over, run_stopped, stood}
use Rattle.lane_profile.proofs.Touching.{all_touched, begun_touched, is_here, none_after_all, none_after_end, none_after_stop, noted_row, step_touched}
use Rattle.lane_profile.proofs.run.count_steps.Goals as goal

pub loop-count-init : goal.loop-count-init
loop-count-init g c =
    let tally = c.in_ok-tally.tally in
    let begun = c.in_ok-tally.ensures.begun in
    record {
      sound = begun.sound;
      steps = ap (λ (x : Counts). x.steps) begun.all;
      so_far = λ s d st. none_done g.M.RecordedMachine.stands s c.args.most_steps d c.args.machine.now st;
      forms = λ s d st. c.in_ok-tally.ensures.forms s d st;
      lines = λ s d st line. ap (line_with tally line) (all_left s.program c.args.most_steps (now s d)) ∙ line_begun tally begun line _;
      own = λ s d st final number name extends distinct is. ap (own_with tally number name) (all_left s.program c.args.most_steps (now s d)) ∙ own_begun tally begun number name _;
      calls = λ s d st final number name extends distinct is. ap (calls_with tally number name) (all_left s.program c.args.most_steps (now s d)) ∙ calls_begun tally begun number name _;
      whole = λ s d st few final number name extends distinct is. ap (whole_with tally number name) (all_left s.program c.args.most_steps (now s d)) ∙ whole_begun tally begun number name _;
      frames = λ s d st few. follows_first s.program tally (now s d) (c.in_ok-tally.ensures.frames s d st few);
      named = λ s d st final extends all. subst (λ l. All (λ stand. IsNamed final stand.functions) l) (all_left s.program c.args.most_steps (now s d)) all;
      all = λ s d st. ap (all_with tally) (all_left s.program c.args.most_steps (now s d)) ∙ all_begun tally begun _;
      rounds = λ s d st number form is. ap (rounds_with tally number form) (all_left s.program c.args.most_steps (now s d)) ∙ rounds_begun tally begun number form _;
      inside = λ s d st number form is. ap (inside_with tally number form) (all_left s.program c.args.most_steps (now s d)) ∙ inside_begun tally begun number form _;
      accesses = λ s d st k access is done tried. (access, is, begun_touched s.program c.args.most_steps (now s d) access done tried);
      meetings = λ s d st measure chosen.
          ap (counted_with measure chosen c.new-meetings.result) (all_left s.program c.args.most_steps (now s d)) ∙ begun_counts c.new-meetings.result c.new-meetings.ensures measure chosen _;
      distinct = begun_distinct c.new-meetings.result c.new-meetings.ensures;
    }

pub returns-in_default-clause-run : goal.returns-in_default-clause-run
returns-in_default-clause-run g c s d st =
    let stands = g.M.RecordedMachine.stands in
    let so = c.loop-count.invariant.so_far s d st in
    let e = after_steps c.loop-count._count d in
    run_over stands s c.args.most_steps d c.loop-count._count c.loop-count.machine so (c.in_default.ensures s e so.there)

pub returns-in_default-clause-counted : goal.returns-in_default-clause-counted
returns-in_default-clause-counted g c s d st =
    let stands = g.M.RecordedMachine.stands in
    let so = c.loop-count.invariant.so_far s d st in
    let e = after_steps c.loop-count._count d in
    let left = ended_left s.program c.args.most_steps (now s d) c.loop-count._count (now s e) (stood s c.loop-count._count d) (c.in_default.ensures s e so.there) in
    let tally = c.loop-count.tally in
    record {
      lines = λ line. sym (line_done tally line) ∙ ap (line_with tally line) (sym left) ∙ c.loop-count.invariant.lines s d st line;
      own = λ number name is. sym (own_done tally number name) ∙ ap (own_with tally number name) (sym left) ∙ c.loop-count.invariant.own s d st tally.names number name (λ k n e. e) c.loop-count.invariant.sound.names is;
      calls = λ number name is. sym (calls_done tally number name) ∙ ap (calls_with tally number name) (sym left) ∙ c.loop-count.invariant.calls s d st tally.names number name (λ k n e. e) c.loop-count.invariant.sound.names is;
      named = c.loop-count.invariant.named s d st tally.names (λ k n e. e) (subst (λ l. All (λ stand. IsNamed tally.names stand.functions) l) (sym left) (All-nil (λ stand. IsNamed tally.names stand.functions)));
      all = sym (all_done tally) ∙ ap (all_with tally) (sym left) ∙ c.loop-count.invariant.all s d st;
      forms = c.loop-count.invariant.forms s d st;
      rounds = λ number form is. sym (rounds_done tally number form) ∙ ap (rounds_with tally number form) (sym left) ∙ c.loop-count.invariant.rounds s d st number form is;
      inside = λ number form is. sym (inside_done tally number form) ∙ ap (inside_with tally number form) (sym left) ∙ c.loop-count.invariant.inside s d st number form is;
    }

pub returns-in-Some-try_step-clause-run : goal.returns-in-Some-try_step-clause-run
returns-in-Some-try_step-clause-run g c s d st =
    let stands = g.M.RecordedMachine.stands in
    let so = c.loop-count.invariant.so_far s d st in
    let e = after_steps c.loop-count._count d in
    run_stopped stands s c.args.most_steps d c.loop-count._count c.loop-count.machine so (omega arith) c.try_step.new.machine c.in-Some-try_step.end (c.in-Some-try_step.ensures s e so.there)

pub returns-in-Some-try_step-clause-counted : goal.returns-in-Some-try_step-clause-counted
returns-in-Some-try_step-clause-counted g c s d st =
    let stands = g.M.RecordedMachine.stands in
    let so = c.loop-count.invariant.so_far s d st in
    let e = after_steps c.loop-count._count d in
    let placed = c.in-Some.ensures s e so.there in
    let stand = stand_of s.program (now s e) in
    let tried = c.in-Some-try_step.ensures s e so.there in
    let left = last_left s.program c.args.most_steps (now s d) c.loop-count._count (omega arith) (now s e) c.in-Some-try_step.end (stood s c.loop-count._count d) placed.0 tried.0 in
    let old = c.loop-count.tally in
    let new = c.note.new.self in
    let forms : old.forms.forms.items ≡ _ = c.loop-count.invariant.forms s d st in
    record {
      lines = λ line. sym (line_done new line) ∙ sym (c.in_ok-note.ensures.lines line stand [] placed.1) ∙ ap (line_with old line) (sym left) ∙ c.loop-count.invariant.lines s d st line;
      own = λ number name is. sym (own_done new number name) ∙ sym (c.in_ok-note.ensures.own new.names number name (λ k n e. e) c.in_ok-note.ensures.sound.names is stand [] placed.1)
          ∙ ap (own_with old number name) (sym left) ∙ c.loop-count.invariant.own s d st new.names number name c.in_ok-note.ensures.kept c.in_ok-note.ensures.sound.names is;
      calls = λ number name is. sym (calls_done new number name) ∙ sym (c.in_ok-note.ensures.calls new.names number name (λ k n e. e) c.in_ok-note.ensures.sound.names is stand [] placed.1)
          ∙ ap (calls_with old number name) (sym left) ∙ c.loop-count.invariant.calls s d st new.names number name c.in_ok-note.ensures.kept c.in_ok-note.ensures.sound.names is;
      named = c.loop-count.invariant.named s d st new.names c.in_ok-note.ensures.kept (subst (λ l. All (λ stand. IsNamed new.names stand.functions) l) (sym left)
          (All-cons (λ stand. IsNamed new.names stand.functions) stand [] (named_by new.names new.names stand.functions placed.1.function.0 _ placed.1.function.1 c.in_ok-note.ensures.named (λ k n e. e)) (All-nil (λ stand. IsNamed new.names stand.functions))));
      all = sym (all_done new) ∙ sym (c.in_ok-note.ensures.all stand [] placed.1) ∙ ap (all_with old) (sym left) ∙ c.loop-count.invariant.all s d st;
      forms = ap (λ f. f.items) c.in_ok-note.ensures.forms ∙ forms;
      rounds = λ number form is. sym (rounds_done new number form) ∙ sym (c.in_ok-note.ensures.rounds number form (ap (λ l. slice_get l number) forms ∙ is) stand [] placed.1)
          ∙ ap (rounds_with old number form) (sym left) ∙ c.loop-count.invariant.rounds s d st number form is;
      inside = λ number form is. sym (inside_done new number form) ∙ sym (c.in_ok-note.ensures.inside number form (ap (λ l. slice_get l number) forms ∙ is) stand [] placed.1)
          ∙ ap (inside_with old number form) (sym left) ∙ c.loop-count.invariant.inside s d st number form is;
    }

pub loop-count-preserved : goal.loop-count-preserved
loop-count-preserved g c =
    let stands = g.M.RecordedMachine.stands in
    let old = c.loop-count.tally in
    let new = c.note.new.self in
    record {
      sound = c.in_ok-note.ensures.sound;
      steps = omega (arith, c.in_ok-note.ensures.steps, c.loop-count.invariant.steps);
      so_far = λ s d st.
          let so = c.loop-count.invariant.so_far s d st in
          let e = after_steps c.loop-count._count d in
          one_done stands s c.args.most_steps d c.loop-count._count c.loop-count.machine so (omega arith) c.try_step.new.machine (c.in_default-try_step.ensures s e so.there);
      forms = λ s d st. ap (λ f. f.items) c.in_ok-note.ensures.forms ∙ c.loop-count.invariant.forms s d st;
      lines = λ s d st line.
          let so = c.loop-count.invariant.so_far s d st in
          let e = after_steps c.loop-count._count d in
          let placed = c.in-Some.ensures s e so.there in
          let stand = stand_of s.program (now s e) in
          let tried = c.in_default-try_step.ensures s e so.there in
          let left = step_left s.program c.args.most_steps (now s d) c.loop-count._count (omega arith) (now s e) tried.0 (stood s c.loop-count._count d) tried.1 in
          sym (c.in_ok-note.ensures.lines line stand _ placed.1) ∙ ap (line_with old line) (sym left) ∙ c.loop-count.invariant.lines s d st line;
      own = λ s d st final number name extends distinct is.
          let so = c.loop-count.invariant.so_far s d st in
          let e = after_steps c.loop-count._count d in
          let placed = c.in-Some.ensures s e so.there in
          let stand = stand_of s.program (now s e) in
          let tried = c.in_default-try_step.ensures s e so.there in
          let left = step_left s.program c.args.most_steps (now s d) c.loop-count._count (omega arith) (now s e) tried.0 (stood s c.loop-count._count d) tried.1 in
          sym (c.in_ok-note.ensures.own final number name extends distinct is stand _ placed.1) ∙ ap (own_with old number name) (sym left)
          ∙ c.loop-count.invariant.own s d st final number name (λ k n known. extends k n (c.in_ok-note.ensures.kept k n known)) distinct is;
      calls = λ s d st final number name extends distinct is.
          let so = c.loop-count.invariant.so_far s d st in
          let e = after_steps c.loop-count._count d in
          let placed = c.in-Some.ensures s e so.there in
          let stand = stand_of s.program (now s e) in
          let tried = c.in_default-try_step.ensures s e so.there in
          let left = step_left s.program c.args.most_steps (now s d) c.loop-count._count (omega arith) (now s e) tried.0 (stood s c.loop-count._count d) tried.1 in
          sym (c.in_ok-note.ensures.calls final number name extends distinct is stand _ placed.1) ∙ ap (calls_with old number name) (sym left)
          ∙ c.loop-count.invariant.calls s d st final number name (λ k n known. extends k n (c.in_ok-note.ensures.kept k n known)) distinct is;
      whole = λ s d st few final number name extends distinct is.
          let so = c.loop-count.invariant.so_far s d st in
          let e = after_steps c.loop-count._count d in
          let placed = c.in-Some.ensures s e so.there in
          let stand = stand_of s.program (now s e) in
          let tried = c.in_default-try_step.ensures s e so.there in
          let left = step_left s.program c.args.most_steps (now s d) c.loop-count._count (omega arith) (now s e) tried.0 (stood s c.loop-count._count d) tried.1 in
          let follows = subst (λ state. Follows old (stand_of s.program state)) (sym (stood s c.loop-count._count d)) (c.loop-count.invariant.frames s d st few) in
          sym (c.in_ok-note.ensures.whole final number name extends distinct is stand _ placed.1 follows) ∙ ap (whole_with old number name) (sym left)
          ∙ c.loop-count.invariant.whole s d st few final number name (λ k n known. extends k n (c.in_ok-note.ensures.kept k n known)) distinct is;
      frames = λ s d st few.
          let so = c.loop-count.invariant.so_far s d st in
          let e = after_steps c.loop-count._count d in
          let placed = c.in-Some.ensures s e so.there in
          let tried = c.in_default-try_step.ensures s e so.there in
          let goes = tried.1 in
          let follows = subst (λ state. Follows old (stand_of s.program state)) (sym (stood s c.loop-count._count d)) (c.loop-count.invariant.frames s d st few) in
          let has = c.in_ok-note.ensures.frames (stand_of s.program (now s e)) placed.1 follows in
          let after : tried.0 ≡ state_after s.program (c.loop-count._count + 1) (now s d) =
          sym (ap (λ st. gone st (now s e)) goes) ∙ ap (next_state s.program) (stood s c.loop-count._count d) ∙ sym (after_more s.program c.loop-count._count (now s d)) in
          subst (λ state. Follows new (stand_of s.program state)) after (follows_on s.program new (now s e) tried.0 goes has);
      named = λ s d st final extends all.
          let so = c.loop-count.invariant.so_far s d st in
          let e = after_steps c.loop-count._count d in
          let placed = c.in-Some.ensures s e so.there in
          let stand = stand_of s.program (now s e) in
          let tried = c.in_default-try_step.ensures s e so.there in
          let left = step_left s.program c.args.most_steps (now s d) c.loop-count._count (omega arith) (now s e) tried.0 (stood s c.loop-count._count d) tried.1 in
          c.loop-count.invariant.named s d st final (λ k n known. extends k n (c.in_ok-note.ensures.kept k n known)) (subst (λ l. All (λ stand. IsNamed final stand.functions) l) (sym left)
          (All-cons (λ stand. IsNamed final stand.functions) stand _ (named_by new.names final stand.functions placed.1.function.0 _ placed.1.function.1 c.in_ok-note.ensures.named extends) all));
      all = λ s d st.
          let so = c.loop-count.invariant.so_far s d st in
          let e = after_steps c.loop-count._count d in
          let placed = c.in-Some.ensures s e so.there in
          let stand = stand_of s.program (now s e) in
          let tried = c.in_default-try_step.ensures s e so.there in
          let left = step_left s.program c.args.most_steps (now s d) c.loop-count._count (omega arith) (now s e) tried.0 (stood s c.loop-count._count d) tried.1 in
          sym (c.in_ok-note.ensures.all stand _ placed.1) ∙ ap (all_with old) (sym left) ∙ c.loop-count.invariant.all s d st;
      rounds = λ s d st number form is.
          let so = c.loop-count.invariant.so_far s d st in
          let e = after_steps c.loop-count._count d in
          let placed = c.in-Some.ensures s e so.there in
          let stand = stand_of s.program (now s e) in
          let tried = c.in_default-try_step.ensures s e so.there in
          let left = step_left s.program c.args.most_steps (now s d) c.loop-count._count (omega arith) (now s e) tried.0 (stood s c.loop-count._count d) tried.1 in
          sym (c.in_ok-note.ensures.rounds number form (ap (λ l. slice_get l number) (c.loop-count.invariant.forms s d st) ∙ is) stand _ placed.1)
          ∙ ap (rounds_with old number form) (sym left) ∙ c.loop-count.invariant.rounds s d st number form is;
      inside = λ s d st number form is.
          let so = c.loop-count.invariant.so_far s d st in
          let e = after_steps c.loop-count._count d in
          let placed = c.in-Some.ensures s e so.there in
          let stand = stand_of s.program (now s e) in
          let tried = c.in_default-try_step.ensures s e so.there in
          let left = step_left s.program c.args.most_steps (now s d) c.loop-count._count (omega arith) (now s e) tried.0 (stood s c.loop-count._count d) tried.1 in
          sym (c.in_ok-note.ensures.inside number form (ap (λ l. slice_get l number) (c.loop-count.invariant.forms s d st) ∙ is) stand _ placed.1)
          ∙ ap (inside_with old number form) (sym left) ∙ c.loop-count.invariant.inside s d st number form is;
      accesses = λ s d st k access is done tried.
          let so = c.loop-count.invariant.so_far s d st in
          let e = after_steps c.loop-count._count d in
          let placed = c.in-Some.ensures s e so.there in
          let came = c.in_default-try_step.ensures s e so.there in
          let has = c.loop-count.invariant.accesses s d st k access is done tried in
          let noted = noted_row stands _ _ _ _ _ has.0 has.1 (c.note-in-loop-count-2.ensures k) in (
            kept noted.0,
            c.keep.ensures k ∙ ap (option_map kept) noted.1,
            step_touched s.program c.args.most_steps (now s d) stands c.loop-count.machine s e refl so.there c.loop-count._count (omega arith) (omega arith)
                _ _ (is_here s.program (now s e) _ placed.0 placed.1) came.0 (stood s c.loop-count._count d) came.1 access has.0 noted.0 has.2 noted.2,
          );
      meetings = λ s d st measure chosen.
          let so = c.loop-count.invariant.so_far s d st in
          let e = after_steps c.loop-count._count d in
          let placed = c.in-Some.ensures s e so.there in
          let stand = stand_of s.program (now s e) in
          let tried = c.in_default-try_step.ensures s e so.there in
          let left = step_left s.program c.args.most_steps (now s d) c.loop-count._count (omega arith) (now s e) tried.0 (stood s c.loop-count._count d) tried.1 in
          let comes = ap (counted_with measure chosen c.loop-count.meetings) (sym left) ∙ c.loop-count.invariant.meetings s d st measure chosen in
          c.in_ok-note-2.ensures.counts measure chosen stand _ placed.1 (subst Fits (sym comes) (fits_run s.program c.args.most_steps (now s d) (omega arith) measure chosen)) ∙ comes;
      distinct = c.in_ok-note-2.ensures.distinct c.loop-count.invariant.distinct;
    }

pub returns-in_default-clause-whole : goal.returns-in_default-clause-whole
returns-in_default-clause-whole g c s d st few number name is =
    let stands = g.M.RecordedMachine.stands in
    let so = c.loop-count.invariant.so_far s d st in
    let e = after_steps c.loop-count._count d in
    let left = ended_left s.program c.args.most_steps (now s d) c.loop-count._count (now s e) (stood s c.loop-count._count d) (c.in_default.ensures s e so.there) in
    let tally = c.loop-count.tally in
    sym (whole_done tally number name) ∙ ap (whole_with tally number name) (sym left)
    ∙ c.loop-count.invariant.whole s d st few tally.names number name (λ k n e. e) c.loop-count.invariant.sound.names is

pub returns-in-Some-try_step-clause-whole : goal.returns-in-Some-try_step-clause-whole
returns-in-Some-try_step-clause-whole g c s d st few number name is =
    let stands = g.M.RecordedMachine.stands in
    let so = c.loop-count.invariant.so_far s d st in
    let e = after_steps c.loop-count._count d in
    let placed = c.in-Some.ensures s e so.there in
    let stand = stand_of s.program (now s e) in
    let tried = c.in-Some-try_step.ensures s e so.there in
    let left = last_left s.program c.args.most_steps (now s d) c.loop-count._count (omega arith) (now s e) c.in-Some-try_step.end (stood s c.loop-count._count d) placed.0 tried.0 in
    let old = c.loop-count.tally in
    let new = c.note.new.self in
    let follows = subst (λ state. Follows old (stand_of s.program state)) (sym (stood s c.loop-count._count d)) (c.loop-count.invariant.frames s d st few) in
    sym (whole_done new number name) ∙ sym (c.in_ok-note.ensures.whole new.names number name (λ k n e. e) c.in_ok-note.ensures.sound.names is stand [] placed.1 follows)
    ∙ ap (whole_with old number name) (sym left) ∙ c.loop-count.invariant.whole s d st few new.names number name c.in_ok-note.ensures.kept c.in_ok-note.ensures.sound.names is

pub returns-clause-whole : goal.returns-clause-whole
returns-clause-whole g c s d st few number name is =
    let left = none_left s.program c.args.most_steps (now s d) c.loop-count._count (omega (arith, c.loop-count-test.false)) in
    let tally = c.loop-count.tally in
    sym (whole_done tally number name) ∙ ap (whole_with tally number name) (sym left)
    ∙ c.loop-count.invariant.whole s d st few tally.names number name (λ k n e. e) c.loop-count.invariant.sound.names is

pub returns-clause-run : goal.returns-clause-run
returns-clause-run g c s d st =
    let stands = g.M.RecordedMachine.stands in
    let so = c.loop-count.invariant.so_far s d st in
    let e = after_steps c.loop-count._count d in
    run_full stands s c.args.most_steps d c.loop-count._count c.loop-count.machine so c.end_after-end.result (omega (arith, c.loop-count-test.false)) (c.end_after-end.ensures s e so.there)

pub returns-clause-counted : goal.returns-clause-counted
returns-clause-counted g c s d st =
    let left = none_left s.program c.args.most_steps (now s d) c.loop-count._count (omega (arith, c.loop-count-test.false)) in
    let tally = c.loop-count.tally in
    record {
      lines = λ line. sym (line_done tally line) ∙ ap (line_with tally line) (sym left) ∙ c.loop-count.invariant.lines s d st line;
      own = λ number name is. sym (own_done tally number name) ∙ ap (own_with tally number name) (sym left) ∙ c.loop-count.invariant.own s d st tally.names number name (λ k n e. e) c.loop-count.invariant.sound.names is;
      calls = λ number name is. sym (calls_done tally number name) ∙ ap (calls_with tally number name) (sym left) ∙ c.loop-count.invariant.calls s d st tally.names number name (λ k n e. e) c.loop-count.invariant.sound.names is;
      named = c.loop-count.invariant.named s d st tally.names (λ k n e. e) (subst (λ l. All (λ stand. IsNamed tally.names stand.functions) l) (sym left) (All-nil (λ stand. IsNamed tally.names stand.functions)));
      all = sym (all_done tally) ∙ ap (all_with tally) (sym left) ∙ c.loop-count.invariant.all s d st;
      forms = c.loop-count.invariant.forms s d st;
      rounds = λ number form is. sym (rounds_done tally number form) ∙ ap (rounds_with tally number form) (sym left) ∙ c.loop-count.invariant.rounds s d st number form is;
      inside = λ number form is. sym (inside_done tally number form) ∙ ap (inside_with tally number form) (sym left) ∙ c.loop-count.invariant.inside s d st number form is;
    }

pub returns-in_default-clause-accesses : goal.returns-in_default-clause-accesses
returns-in_default-clause-accesses g c s d st k access is done tried =
    let stands = g.M.RecordedMachine.stands in
    let so = c.loop-count.invariant.so_far s d st in
    let e = after_steps c.loop-count._count d in
    let left = none_after_end s.program c.args.most_steps (now s d) c.loop-count._count (now s e) (stood s c.loop-count._count d) (c.in_default.ensures s e so.there) in
    let has = c.loop-count.invariant.accesses s d st k access is done tried in
    (has.0, has.1, all_touched s.program c.args.most_steps (now s d) c.loop-count._count access has.0 has.0 has.2 left refl)

pub returns-in-Some-try_step-clause-accesses : goal.returns-in-Some-try_step-clause-accesses
returns-in-Some-try_step-clause-accesses g c s d st k access is done tried =
    let stands = g.M.RecordedMachine.stands in
    let so = c.loop-count.invariant.so_far s d st in
    let e = after_steps c.loop-count._count d in
    let came = c.in-Some-try_step.ensures s e so.there in
    let left = none_after_stop s.program c.args.most_steps (now s d) c.loop-count._count (omega arith) (now s e) c.in-Some-try_step.end (stood s c.loop-count._count d) came.0 in
    let has = c.loop-count.invariant.accesses s d st k access is done tried in
    let noted = noted_row stands _ _ _ _ _ has.0 has.1 (c.note-in-loop-count-2.ensures k) in
    (noted.0, noted.1, all_touched s.program c.args.most_steps (now s d) c.loop-count._count access has.0 noted.0 has.2 left noted.2.others)

pub returns-clause-accesses : goal.returns-clause-accesses
returns-clause-accesses g c s d st k access is done tried =
    let left = none_after_all s.program c.args.most_steps (now s d) c.loop-count._count (omega (arith, c.loop-count-test.false)) in
    let has = c.loop-count.invariant.accesses s d st k access is done tried in
    (has.0, has.1, all_touched s.program c.args.most_steps (now s d) c.loop-count._count access has.0 has.0 has.2 left refl)

pub returns-in_default-clause-meetings : goal.returns-in_default-clause-meetings
returns-in_default-clause-meetings g c s d st measure chosen =
    let stands = g.M.RecordedMachine.stands in
    let so = c.loop-count.invariant.so_far s d st in
    let e = after_steps c.loop-count._count d in
    let left = ended_left s.program c.args.most_steps (now s d) c.loop-count._count (now s e) (stood s c.loop-count._count d) (c.in_default.ensures s e so.there) in
    ap (counted_with measure chosen c.loop-count.meetings) (sym left) ∙ c.loop-count.invariant.meetings s d st measure chosen

pub returns-in-Some-try_step-clause-meetings : goal.returns-in-Some-try_step-clause-meetings
returns-in-Some-try_step-clause-meetings g c s d st measure chosen =
    let stands = g.M.RecordedMachine.stands in
    let so = c.loop-count.invariant.so_far s d st in
    let e = after_steps c.loop-count._count d in
    let placed = c.in-Some.ensures s e so.there in
    let stand = stand_of s.program (now s e) in
    let tried = c.in-Some-try_step.ensures s e so.there in
    let left = last_left s.program c.args.most_steps (now s d) c.loop-count._count (omega arith) (now s e) c.in-Some-try_step.end (stood s c.loop-count._count d) placed.0 tried.0 in
    let comes = ap (counted_with measure chosen c.loop-count.meetings) (sym left) ∙ c.loop-count.invariant.meetings s d st measure chosen in
    c.in_ok-note-2.ensures.counts measure chosen stand [] placed.1 (subst Fits (sym comes) (fits_run s.program c.args.most_steps (now s d) (omega arith) measure chosen)) ∙ comes

pub returns-clause-meetings : goal.returns-clause-meetings
returns-clause-meetings g c s d st measure chosen =
    let left = none_left s.program c.args.most_steps (now s d) c.loop-count._count (omega (arith, c.loop-count-test.false)) in
    ap (counted_with measure chosen c.loop-count.meetings) (sym left) ∙ c.loop-count.invariant.meetings s d st measure chosen
