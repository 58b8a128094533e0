use Rattle.std.proofs.Common.{rules}
use Rattle.std.proofs.lemmas.Fn.{filter_same}
use Rattle.whole_runs.proofs.copies.Copies.drop_past.Goals as goal

pub returns-clause-all : goal.returns-clause-all
returns-clause-all c = filter_same _ _ _ (λ x b f' k. search rules) _ _ c.retain.ensures.filtered
