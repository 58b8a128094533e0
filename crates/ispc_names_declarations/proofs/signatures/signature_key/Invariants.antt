use Rattle.std.proofs.Common.{◌≡◌, ◌++◌, drop, map}
use Rattle.source_tree.specs.Tree.{function_view, param_view}
use Rattle.ispc_names_declarations.specs.SignatureKeys.{key_with, signature_key}
use Rattle.ispc_names_declarations.proofs.signatures.signature_key.Given as goal

-- what is written so far and what is left
abbrev pub invariant-loop-param : goal.invariant-loop-param
invariant-loop-param l = l.key.items ++ key_with (map param_view (drop l.param-index l.param-items)) l.function.name.items ≡ signature_key (function_view l.function)
