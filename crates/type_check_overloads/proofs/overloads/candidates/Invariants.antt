use Rattle.std.proofs.Common.{◌≡◌, ◌++◌, drop, map}
use Rattle.gang_model.specs.Types.Overloads.{candidates}
use Rattle.source_tree.specs.Tree.{function_view}
use Rattle.type_check_scopes.specs.Passings.{passing_view}
use Rattle.type_check_overloads.specs.Candidates.{candidate_view}
use Rattle.type_check_overloads.proofs.overloads.candidates.Given as goal

-- what is found so far and what is left
abbrev pub invariant-loop-number : goal.invariant-loop-number
invariant-loop-number l =
    map candidate_view l.possible.items ++ candidates l.number (map (λ f. function_view f.now) (drop l.number l.functions)) l.name (map passing_view l.given)
    ≡ candidates 0 (map (λ f. function_view f.now) l.functions) l.name (map passing_view l.given)
