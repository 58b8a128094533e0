use Rattle.std.proofs.Common.{[], ◌≡◌, ◌+◌, ◌++◌, ◌∙◌, ap, sym, subst, append-nil, add-one, map}
use Rattle.gang_model.specs.Debugger.Debugger.{now}
use Rattle.debug_traits.specs.Frames.{listed_at, listed_parameters_at}
use Rattle.debug_traits.specs.Machines.{file_variables}
use Rattle.run_page.specs.Rows.{AreRows, at_depth, seen_at, seen_to, sight_view}
use Rattle.run_page.proofs.Numbers.{grows_on}
use Rattle.run_page.proofs.RowsRead.{frame_more}
use Rattle.run_page.proofs.reading.read_rows.Goals as goal

pub loop-below-init : goal.loop-below-init
loop-below-init g c = record {
  grows = c.in_ok-read_file.ensures.grows;
  distinct = c.in_ok-read_file.ensures.distinct;
  rows = λ s d st.
      let new = map sight_view c.read_file.new.variables.items in
      subst (AreRows new c.args.most_words (now s d) c.read_file.new.rows.items) (sym (append-nil (at_depth 0 (file_variables s))))
      (c.in_ok-read_file.ensures.rows s d st [] (subst (λ rows. AreRows (map sight_view c.args.variables.now.items) c.args.most_words (now s d) rows []) (sym c.new-rows.ensures.items) tt));
}

pub returns-in_err-read_scoped-clause-distinct : goal.returns-in_err-read_scoped-clause-distinct
returns-in_err-read_scoped-clause-distinct g c distinct = c.read_scoped.ensures.distinct (c.loop-below.invariant.distinct distinct)

pub returns-in_err-read_scoped-2-clause-distinct : goal.returns-in_err-read_scoped-2-clause-distinct
returns-in_err-read_scoped-2-clause-distinct g c distinct = c.read_scoped-in-loop-below.ensures.distinct (c.in_ok-read_scoped.ensures.distinct (c.loop-below.invariant.distinct distinct))

pub loop-below-preserved : goal.loop-below-preserved
loop-below-preserved g c =
    let first = map sight_view c.args.variables.now.items in
    let old = map sight_view c.loop-below.variables.items in
    let middle = map sight_view c.read_scoped.new.variables.items in
    let new = map sight_view c.read_scoped-in-loop-below.new.variables.items in
    record {
      grows = grows_on first old new c.loop-below.invariant.grows (grows_on old middle new c.in_ok-read_scoped.ensures.grows c.in_ok-read_scoped-2.ensures.grows);
      distinct = λ distinct. c.in_ok-read_scoped-2.ensures.distinct (c.in_ok-read_scoped.ensures.distinct (c.loop-below.invariant.distinct distinct));
      rows = λ s d st.
          let most = c.args.most_words in
          let state = now s d in
          let below = c.loop-below.below in
          let file = at_depth 0 (file_variables s) in
          let before = file ++ seen_to s.program (now s d) below in
          let parameters = at_depth (below + 1) (listed_parameters_at s d (below + 1)) in
          let rows = c.read_scoped-in-loop-below.new.rows.items in
          let all = c.in_ok-read_scoped-2.ensures.rows s d st (before ++ parameters) (c.in_ok-read_scoped.ensures.rows s d st before (c.loop-below.invariant.rows s d st)) in
          let moved = frame_more new most state rows file (seen_to s.program (now s d) below) parameters (at_depth (below + 1) (listed_at s d (below + 1))) all in
          let same : seen_to s.program (now s d) below ++ seen_at s.program (now s d) (below + 1) ≡ seen_to s.program (now s d) (below + 1) = ap (λ n. seen_to s.program (now s d) below ++ seen_at s.program (now s d) n) (add-one below) ∙ ap (seen_to s.program (now s d)) (sym (add-one below)) in
          subst (λ seen. AreRows new most state rows (file ++ seen)) same moved;
    }
