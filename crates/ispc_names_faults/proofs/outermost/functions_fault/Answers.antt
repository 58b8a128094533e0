use Rattle.std.proofs.Common.{◌∙◌, ◌+◌, drop, map, ap}
use Rattle.std.specs.List.{flat_map}
use Rattle.std.proofs.lemmas.List.Concat.{flat_map-cons}
use Rattle.gang_model.specs.Source.Judged.{least_fault}
use Rattle.gang_model.specs.Names.NameFaults.{function_names}
use Rattle.gang_model.proofs.JudgedLaws.{least_fault-append}
use Rattle.gang_model.proofs.WalkedLists.{next_item}
use Rattle.source_tree.specs.Tree.{function_view}
use Rattle.ispc_names_declarations.proofs.Merging.{one_more}
use Rattle.ispc_names_faults.proofs.outermost.functions_fault.Goals as goal

pub loop-function-preserved : goal.loop-function-preserved
loop-function-preserved c =
    let items = c.args.functions.now in
    let i = c.loop-function.function-index in
    let names = function_names c.args.known.now c.args.scopes.now.environment in
    let f = function_view c.function-item.result.now in
    let later = map (λ x. function_view x.now) (drop (i + 1) items) in
    record {
      found = one_more _ _ _ _ (least_fault (names f)) _ (least_fault (flat_map names later)) c.loop-function.invariant.found
          (ap (λ fs. least_fault (flat_map names (map (λ x. function_view x.now) fs))) (next_item items i c.function-item.result c.loop-function-test.true c.function-item.is)
          ∙ (ap least_fault (flat_map-cons names f later) ∙ least_fault-append (names f) (flat_map names later)))
          (c.in_ok-function_fault.ensures.fault ∙ ap (λ env. least_fault (function_names c.args.known.now env f)) c.loop-function.invariant.environment)
          c.least-first.ensures;
      environment = c.in_ok-function_fault.ensures.environment ∙ c.loop-function.invariant.environment;
    }
