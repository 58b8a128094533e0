use Rattle.std.proofs.Common.{◌≡◌, drop, map}
use Rattle.gang_model.specs.Types.Overloads.{costs}
use Rattle.source_tree.specs.Tree.{param_view}
use Rattle.type_check_scopes.specs.Passings.{passing_view}
use Rattle.type_check_overloads.proofs.Prices.{before}
use Rattle.type_check_overloads.proofs.costs.costs.Given as goal

-- the costs so far before those of what is left
abbrev pub invariant-loop-number : goal.invariant-loop-number
invariant-loop-number l =
    before l.prices.items (costs (map passing_view (drop l.number l.given)) (map param_view (drop l.number l.params))) ≡ costs (map passing_view l.given) (map param_view l.params)
