use Rattle.std.proofs.Common.{◌∙◌, ap, sym, map, Err}
use Rattle.std.specs.Prelude.{option_map}
use Rattle.gang_model.specs.Texts.InputText.{Missing}
use Rattle.typed_tree.specs.Views.{variable_view}
use Rattle.debug_inputs.specs.Remaining.{found_in, receiver_view}
use Rattle.debug_inputs.proofs.RowsSoFar.{all_passed, item_view, parameter_missing, parameter_passed}
use Rattle.debug_inputs.proofs.reading.Reading.complete.Goals as goal

pub returns-then-is_some : goal.returns-then-is_some
returns-then-is_some c = λ others rows stands.
    let vs = map (λ v. variable_view v.now) c.args.parameters.now in
    let i = c.loop-parameter.parameter-index in
    let p = c.parameter-item.result in
    let at = item_view c.args.parameters.now i p c.loop-parameter-test.true c.parameter-item.is in
    let found = ap (option_map receiver_view) (c.find.ensures ∙ ap (found_in c.args.self.now.remaining.index.entries) c.deref.ensures.value) in
    parameter_missing vs others rows c.args.self.now i (variable_view p.now) c.find.result stands at.1 at.0 found (sym c.if-is_some.ensures) (c.loop-parameter.invariant others rows stands)
    ∙ ap (λ n. Err (Missing n)) (sym (c.in_ok-to_vec.ensures.items_if_clones_equal (λ x y h. h) ∙ c.deref-then-is_some.ensures.value))

pub loop-parameter-preserved : goal.loop-parameter-preserved
loop-parameter-preserved c = λ others rows stands.
    let vs = map (λ v. variable_view v.now) c.args.parameters.now in
    let i = c.loop-parameter.parameter-index in
    let p = c.parameter-item.result in
    let at = item_view c.args.parameters.now i p c.loop-parameter-test.true c.parameter-item.is in
    let found = ap (option_map receiver_view) (c.find.ensures ∙ ap (found_in c.args.self.now.remaining.index.entries) c.deref.ensures.value) in
    parameter_passed vs others rows c.args.self.now i (variable_view p.now) c.find.result stands at.1 at.0 found (sym c.if-is_some.ensures) (c.loop-parameter.invariant others rows stands)

pub returns : goal.returns
returns c = λ others rows stands. sym (c.loop-parameter.invariant others rows stands) ∙ all_passed c.args.parameters.now rows c.loop-parameter.parameter-index c.loop-parameter-test.false
