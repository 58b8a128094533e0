-- those of the parameters so far
use Rattle.std.proofs.Common.{◌≡◌, map, string_bytes, take}
use Rattle.std.specs.Prelude.{flat_map}
use Rattle.adapter_replies.specs.Console.{parameter_line}
use Rattle.adapter_replies.specs.Variables.{variable_view}
use Rattle.adapter_replies.proofs.console.parameter_lines.Given as goal

abbrev pub invariant-loop-variable : goal.invariant-loop-variable
invariant-loop-variable l = string_bytes l.lines ≡ flat_map parameter_line (map variable_view (take l.variable-index l.variables))
