use Rattle.std.proofs.Common.{◌∙◌, ap, map, Some}
use Rattle.gang_model.specs.Debugger.Debugger.{now}
use Rattle.run_page.specs.Rows.{sight_view}
use Rattle.run_page.proofs.RowsRead.{row_added, told_sight}
use Rattle.run_page.proofs.reading.read_row.Goals as goal

pub returns-clause-rows : goal.returns-clause-rows
returns-clause-rows g c s d v st shows =
    row_added c.args.most_words (now s d) (map sight_view c.args.variables.now.items) (map sight_view c.number_of.new.variables.items) c.number_of.ensures.grows c.args.rows.now.items c.push.new.self.items _ (c.args.depth, v)
    c.in_ok-push.ensures.items
    (record { number = c.in_ok-variable.ensures.number ∙ ap Some (told_sight s d c.args.depth v c.args.named shows); words = c.in_ok-words.ensures s d v st shows.1 })
