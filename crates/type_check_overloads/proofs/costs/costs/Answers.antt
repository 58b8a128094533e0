use Rattle.std.proofs.Common.{◌+◌, drop, map, sym, ap, arith}
use Rattle.std.proofs.lemmas.List.{at_drop_all}
use Rattle.gang_model.specs.Types.Overloads.{costs}
use Rattle.gang_model.proofs.WalkedLists.{next_item}
use Rattle.source_tree.specs.Tree.{param_view}
use Rattle.type_check_scopes.specs.Passings.{passing_view}
use Rattle.type_check_overloads.proofs.Prices.{other_length, costs_init, costs_step, costs_stop, costs_end}
use Rattle.type_check_overloads.proofs.costs.costs.Goals as goal

pub returns-then-given-params : goal.returns-then-given-params
returns-then-given-params c =
    record { costs = sym (other_length passing_view param_view c.args.given.now c.args.params.now (λ e. omega arith)) }

pub loop-number-init : goal.loop-number-init
loop-number-init c = costs_init (costs (map passing_view c.args.given.now) (map param_view c.args.params.now)) c.new-prices.result.items c.new-prices.ensures.items

pub loop-number-preserved : goal.loop-number-preserved
loop-number-preserved c =
    let given = c.args.given.now in
    let params = c.args.params.now in
    let i = c.loop-number.number in
    costs_step _ _ (map passing_view (drop (i + 1) given)) _ (map param_view (drop (i + 1) params)) (passing_view c.index-given-number.result) (param_view c.index-params-number.result)
    c.loop-number.prices.items c.push.new.self.items c.in-Some.price
    (ap (map passing_view) (next_item given i c.index-given-number.result (omega arith) c.index-given-number.is))
    (ap (map param_view) (next_item params i c.index-params-number.result (omega arith) c.index-params-number.is))
    c.in-Some.ensures c.in_ok-push-in-Some.ensures.items c.loop-number.invariant

pub returns-in-None : goal.returns-in-None
returns-in-None c =
    let given = c.args.given.now in
    let params = c.args.params.now in
    let i = c.loop-number.number in
    record {
      costs = costs_stop _ _ (map passing_view (drop (i + 1) given)) _ (map param_view (drop (i + 1) params)) (passing_view c.index-given-number.result) (param_view c.index-params-number.result)
          c.loop-number.prices.items
          (ap (map passing_view) (next_item given i c.index-given-number.result (omega arith) c.index-given-number.is))
          (ap (map param_view) (next_item params i c.index-params-number.result (omega arith) c.index-params-number.is))
          c.in-None.ensures c.loop-number.invariant;
    }

pub returns : goal.returns
returns c =
    record {
      costs = costs_end _ _ _ c.loop-number.prices.items (at_drop_all (map passing_view) c.args.given.now c.loop-number.number (omega arith))
          (at_drop_all (map param_view) c.args.params.now c.loop-number.number (omega arith)) c.loop-number.invariant;
    }
