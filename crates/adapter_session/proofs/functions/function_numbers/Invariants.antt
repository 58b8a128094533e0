-- the numbers so far
use Rattle.std.proofs.Common.{◌≡◌, map, take}
use Rattle.adapter_session.specs.Terms.{function_of}
use Rattle.adapter_session.proofs.FunctionLists.{number_in}
use Rattle.adapter_session.proofs.functions.function_numbers.Given as goal

abbrev pub invariant-loop-function : goal.invariant-loop-function
invariant-loop-function l = l.numbers.items ≡ map number_in (map function_of (take l.function-index l.all))
