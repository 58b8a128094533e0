-- the lines of the functions before this one are there
use Rattle.std.proofs.Common.{◌≡◌, take, map}
use Rattle.typed_tree.specs.Views.{function_view}
use Rattle.machine_names.specs.Lines.{lines_in}
use Rattle.machine_names.proofs.breakpoint_lines.step_lines.Given as goal

abbrev pub invariant-loop-function : goal.invariant-loop-function
invariant-loop-function l = l.lines.items ≡ lines_in (map function_view (take l.function-index l.functions))
