use Rattle.std.proofs.Common.{sym}
use Rattle.run_page.proofs.views.words_of.Goals as goal

pub returns : goal.returns
returns c = (c.in-Some.row.now, ((c.args.guess, c.in-Some.ensures.lookup.3.0, sym c.in-Some.ensures.lookup.1), c.if-row-variable.true), c.as_slice.ensures.value)

pub returns-then-row-variable-2 : goal.returns-then-row-variable-2
returns-then-row-variable-2 c = (c.row-item.result, ((c.loop-row.row-index, c.loop-row-test.true, sym c.row-item.is), c.if-row-variable-2.true), c.as_slice-then-row-variable-2.ensures.value)
