-- the functions so far have other names
use Rattle.std.proofs.Common.{◌≡◌, map, drop}
use Rattle.typed_tree.specs.Views.{function_view}
use Rattle.function_lines.specs.Lines.{line_in}
use Rattle.function_lines.proofs.lines.line_in.Given as goal

abbrev pub invariant-loop-function : goal.invariant-loop-function
invariant-loop-function l = line_in (map function_view (drop l.function-index l.functions)) l.name ≡ line_in (map function_view l.functions) l.name
