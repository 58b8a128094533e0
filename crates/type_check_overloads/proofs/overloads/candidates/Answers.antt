use Rattle.std.proofs.Common.{◌+◌, drop, map, ap, arith}
use Rattle.std.proofs.lemmas.List.{at_drop_all}
use Rattle.gang_model.proofs.WalkedLists.{next_item}
use Rattle.source_tree.specs.Tree.{function_view}
use Rattle.type_check_scopes.specs.Passings.{passing_view}
use Rattle.type_check_overloads.specs.Candidates.{candidate_view}
use Rattle.type_check_overloads.proofs.Possible.{candidates_step, candidates_end}
use Rattle.type_check_overloads.proofs.overloads.candidates.Goals as goal

pub loop-number-preserved : goal.loop-number-preserved
loop-number-preserved c =
    let functions = c.args.functions.now in
    let i = c.loop-number.number in
    candidates_step _ i _ (map (λ f. function_view f.now) (drop (i + 1) functions)) (function_view c.index-functions-number.result.now) c.args.name.now (map passing_view c.args.given.now)
    (map candidate_view c.loop-number.possible.items) _ _
    (ap (map (λ f. function_view f.now)) (next_item functions i c.index-functions-number.result (omega arith) c.index-functions-number.is))
    c.in_ok-prices.ensures.costs c.in_ok-add_candidate.ensures.added c.loop-number.invariant

pub returns : goal.returns
returns c =
    record {
      candidates = candidates_end _ c.loop-number.number _ c.args.name.now (map passing_view c.args.given.now) (map candidate_view c.loop-number.possible.items)
          (at_drop_all (map (λ f. function_view f.now)) c.args.functions.now c.loop-number.number (omega arith)) c.loop-number.invariant;
    }
