-- the variables before this one have other names
use Rattle.std.proofs.Common.{◌≡◌, drop}
use Rattle.gang_model.specs.Source.Names.{named}
use Rattle.machine_names.specs.Found.{file_variables}
use Rattle.machine_names.proofs.names.file_number.Given as goal

abbrev pub invariant-loop-number : goal.invariant-loop-number
invariant-loop-number l = named l.name (drop l.number (file_variables l.globals)) ≡ named l.name (file_variables l.globals)
