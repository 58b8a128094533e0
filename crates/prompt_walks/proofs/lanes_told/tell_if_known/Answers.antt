use Rattle.std.proofs.Common.{sym, ◌∙◌}
use Rattle.std.proofs.lemmas.Bool.{true≢false}
use Rattle.prompt_walks.proofs.lanes_told.tell_if_known.Goals as goal

pub returns-else-is_known-clause-told : goal.returns-else-is_known-clause-told
returns-else-is_known-clause-told g c s d st limit small known = absurd (true≢false (sym known ∙ sym (c.is_known.ensures s d st) ∙ c.if-is_known.false))
