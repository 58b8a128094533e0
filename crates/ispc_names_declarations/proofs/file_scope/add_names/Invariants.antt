use Rattle.std.proofs.Common.{◌≡◌, ◌++◌, drop, map}
use Rattle.source_tree.specs.Tree.{function_view}
use Rattle.ispc_names_declarations.proofs.file_scope.add_names.Given as goal

-- what is collected so far and what is left
abbrev pub invariant-loop-function : goal.invariant-loop-function
invariant-loop-function l =
    l.known ++ map (λ f. f.name) (map (λ f. function_view f.now) (drop l.function-index l.functions)) ≡ l.fn.known ++ map (λ f. f.name) (map (λ f. function_view f.now) l.fn.functions)
