-- A call of the function that is meant.
use Rattle.std.specs.Prelude.{List}
use Rattle.gang_model.specs.Types.Tree.{Call, ResultFor, StepNumber}
use Rattle.gang_model.specs.Types.Calls.{Called, called}
use Rattle.gang_model.specs.Types.Signatures.{result_of}
use Rattle.gang_model.specs.Types.Typing.{Passing}
use Rattle.gang_model.specs.Types.Overloads.{Candidate, passed_args}

abbrev pub called_function : List Passing → ResultFor → StepNumber → Candidate → Called
called_function given result_for step c = called (Call step c.number (passed_args 0 given c.function.params) result_for) (result_of c.function.spec)
