use Rattle.std.proofs.Common.{◌∷◌, ◌∙◌, ℕ, List, ap, sym, subst, map}
use Rattle.gang_model.specs.Types.Tree.{Variable}
use Rattle.gang_model.specs.Debugger.Debugger.{now}
use Rattle.run_page.specs.Rows.{ShowsNamedIn, at_depth, picked, sight_view}
use Rattle.run_page.proofs.Numbers.{grows_on}
use Rattle.run_page.proofs.RowsRead.{of_frame, so_more}
use Rattle.run_page.proofs.reading.read_scoped.Goals as goal

pub loop-next-preserved : goal.loop-next-preserved
loop-next-preserved g c =
    let first = map sight_view c.args.variables.now.items in
    let old = map sight_view c.loop-next.variables.items in
    let new = map sight_view c.read_row.new.variables.items in
    record {
      grows = grows_on first old new c.loop-next.invariant.grows c.in_ok-read_row.ensures.grows;
      distinct = λ distinct. c.in_ok-read_row.ensures.distinct (c.loop-next.invariant.distinct distinct);
      so_far = λ s d st.
          let deep = c.args.depth in
          let from : ℕ → List Variable = λ place. picked c.args.which (g.M.FramedMachine.parameters_at c.args.machine.now s d deep place) (g.M.FramedMachine.locals_at c.args.machine.now s d deep place) in
          let (v, is, shows) = c.in-Some.ensures.next s d st in
          let there = of_frame s d deep v c.in-Some.next.variable c.requires shows in
          so_more c.args.most_words (now s d) first old new c.args.rows.now.items c.loop-next.rows.items c.read_row.new.rows.items (at_depth deep (from 0)) (at_depth deep (from c.loop-next.from)) (at_depth deep (from c.place_after-from.result)) (deep, v)
          (ap (at_depth deep) (is ∙ ap (λ n. v ∷ from n) (sym c.place_after-from.ensures))) (c.loop-next.invariant.so_far s d st)
          (c.in_ok-read_row.ensures.rows s d v st (subst (ShowsNamedIn s d deep v) (sym c.variable_here-named.ensures) there));
    }
