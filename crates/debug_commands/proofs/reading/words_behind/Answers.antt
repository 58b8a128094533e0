use Rattle.debug_commands.proofs.WordLists.{no_more}
use Rattle.debug_commands.proofs.reading.words_behind.Goals as goal

pub returns-in_default : goal.returns-in_default
returns-in_default c = no_more c.args.command.now c.loop-expected.rest.now c.loop-expected.expected-index _ c.loop-expected-test.true c.in_default.len_below c.loop-expected.invariant
