use Rattle.std.proofs.Common.{sym, ◌∙◌}
use Rattle.type_check_library.proofs.NamedCalls.{found_here, found_later, not_found}
use Rattle.type_check_library.proofs.calls.library_call_of.Goals as goal

pub returns-then-is_asked : goal.returns-then-is_asked
returns-then-is_asked c =
    found_here c.args.name.now c.args.count c.args.entries.now c.loop-entry.entry-index _ c.loop-entry-test.true
    (sym c.is_asked.ensures ∙ c.if-is_asked.true) c.loop-entry.invariant

pub loop-entry-preserved : goal.loop-entry-preserved
loop-entry-preserved c =
    found_later c.args.name.now c.args.count c.args.entries.now c.loop-entry.entry-index _ c.loop-entry-test.true
    (sym c.is_asked.ensures ∙ c.if-is_asked.false) c.loop-entry.invariant

pub returns : goal.returns
returns c = not_found c.args.name.now c.args.count c.args.entries.now c.loop-entry.entry-index c.loop-entry-test.false c.loop-entry.invariant
