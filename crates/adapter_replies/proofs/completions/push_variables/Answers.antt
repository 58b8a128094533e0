use Rattle.std.proofs.Common.{◌∙◌, [], ◌∷◌, ◌++◌, ap, map, take}
use Rattle.adapter_replies.specs.Completions.{completed, completion_view, name_length, names_of}
use Rattle.adapter_replies.specs.Variables.{variable_view}
use Rattle.adapter_replies.proofs.Completing.{completed_next, names_next}
use Rattle.adapter_replies.proofs.completions.push_variables.Goals as goal

pub loop-variable-preserved : goal.loop-variable-preserved
loop-variable-preserved c =
    let front = c.args.front.now in
    let vs = c.args.variables.now in
    let i = c.loop-variable.variable-index in
    let v = c.variable-item.result in
    let old = map completion_view c.loop-variable.told.items in
    completed_next front (name_length front) (names_of (map variable_view (take i vs))) _ _ (map completion_view c.args.told.now.items)
    old (map completion_view c.push_name.new.told.items) (names_next vs i v c.loop-variable-test.true c.variable-item.is) c.loop-variable.invariant
    (c.in_ok-push_name.ensures
    ∙ ap (λ n. old ++ completed front n (c.as_str.result.now ∷ [])) c.name_length-many.ensures.run
    ∙ ap (λ name. old ++ completed front (name_length front) (name ∷ [])) c.as_str.ensures.value)
