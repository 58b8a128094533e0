use Rattle.std.proofs.Common.{sym, ◌∙◌}
use Rattle.std.proofs.lemmas.Bool.{true≢false}
use Rattle.prompt_walks.proofs.lanes_told.tell_lanes.Goals as goal

pub returns-else-is_alone-clause-told : goal.returns-else-is_alone-clause-told
returns-else-is_alone-clause-told g c s d st alone = absurd (true≢false (sym alone ∙ sym c.is_alone.ensures ∙ c.if-is_alone.false))
