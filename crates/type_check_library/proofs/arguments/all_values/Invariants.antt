use Rattle.std.proofs.Common.{◌≡◌, map}
use Rattle.std.specs.Prelude.{Some}
use Rattle.gang_model.specs.Types.Typing as typing
use Rattle.type_check_scopes.specs.Passings.{passing_view}
use Rattle.type_check_library.specs.Arguments.{argument_view}
use Rattle.type_check_library.proofs.arguments.all_values.Given as goal

-- what is read so far is all values
abbrev pub invariant-loop-passing : goal.invariant-loop-passing
invariant-loop-passing l = typing.all_values (map passing_view l.yielded) ≡ Some (map argument_view l.values.items)
