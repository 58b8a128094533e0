-- Functions that a call may mean, without where they lie in memory.
use Rattle.gang_model.specs.Types.Overloads as overloads
use Rattle.source_tree.specs.Tree.{function_view}
use Rattle.type_check_overloads.specs.declared.overloads.Candidate.{Candidate}

abbrev pub candidate_view : Candidate → overloads.Candidate
candidate_view c = record { number = c.number; function = function_view c.function.now; prices = c.prices.items }
