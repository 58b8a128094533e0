use Rattle.std.proofs.Common.{◌+◌, ap, drop, map, arith}
use Rattle.gang_model.specs.Debugger.Debugger.{now}
use Rattle.debug_traits.specs.Machines.{file_variables}
use Rattle.run_page.specs.Rows.{at_depth, sight_view}
use Rattle.run_page.proofs.Numbers.{grows_on}
use Rattle.run_page.proofs.Places.{front_left, none_left}
use Rattle.run_page.proofs.RowsRead.{no_file, of_file, so_all, so_more}
use Rattle.run_page.proofs.reading.read_file.Goals as goal

pub loop-named-preserved : goal.loop-named-preserved
loop-named-preserved g c =
    let first = map sight_view c.args.variables.now.items in
    let old = map sight_view c.loop-named.variables.items in
    let new = map sight_view c.read_row.new.variables.items in
    record {
      few = omega (arith, c.loop-named.invariant.few, c.in_ok-read_row.ensures.longer);
      grows = grows_on first old new c.loop-named.invariant.grows c.in_ok-read_row.ensures.grows;
      distinct = λ distinct. c.in_ok-read_row.ensures.distinct (c.loop-named.invariant.distinct distinct);
      so_far = λ s d st.
          let file = file_variables s in
          let number = c.loop-named.number in
          let (v, is, shows) = of_file s d number c.in-Some.named (c.in-Some.ensures.shown s d st) in
          so_more c.args.most_words (now s d) first old new c.args.rows.now.items c.loop-named.rows.items c.read_row.new.rows.items (at_depth 0 file) (at_depth 0 (drop number file)) (at_depth 0 (drop (number + 1) file)) (0, v)
          (ap (at_depth 0) (front_left file number v is)) (c.loop-named.invariant.so_far s d st) (c.in_ok-read_row.ensures.rows s d v st shows);
    }

pub returns-clause-rows : goal.returns-clause-rows
returns-clause-rows g c s d st =
    let file = file_variables s in
    let number = c.loop-named.number in
    so_all c.args.most_words (now s d) (map sight_view c.args.variables.now.items) (map sight_view c.loop-named.variables.items) c.args.rows.now.items c.loop-named.rows.items (at_depth 0 file) (at_depth 0 (drop number file))
    (ap (at_depth 0) (none_left file number (no_file s d number (c.in_default.ensures.shown s d st)))) (c.loop-named.invariant.so_far s d st)
