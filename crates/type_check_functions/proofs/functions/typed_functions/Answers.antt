use Rattle.std.proofs.Common.{◌∙◌, ◌∷◌, ◌++◌, [], ap, map, length, Vec}
use Rattle.std.specs.Global as alloc
use Rattle.std.proofs.lemmas.List.{length_push}
use Rattle.std.proofs.lemmas.Iterator.{YieldsList-from_slice, YieldsList-from_zip}
use Rattle.std.proofs.lemmas.Iterator.Adapters.{YieldsList-from_vec}
use Rattle.std.proofs.lemmas.Iterator.Consumers.{YieldsList-turn, YieldsList-end}
use Rattle.std.specs.Iterator.Adapters.{zip_first, zip_second}
use Rattle.std.specs.Slice.Iter.{iter_rest}
use Rattle.std.specs.Vec.Iter.{into_iter_items, into_iter_len}
use Rattle.gang_model.specs.Source.Parsed.{functions_in}
use Rattle.gang_model.specs.Types.Resolved.{judged_functions}
use Rattle.typed_tree.specs.declared.program.Function.{Function}
use Rattle.typed_tree.specs.Views as typed
use Rattle.type_check_functions.specs.Bodies.{AreVariablesOf, declared_variables}
use Rattle.type_check_functions.proofs.Collecting.{collected-answers, collected-ok}
use Rattle.type_check_functions.proofs.FunctionParts.{pair-at, steps-of, views, all-paired, functions-added, variables-added, if-added, functions-done}
use Rattle.type_check_functions.proofs.functions.typed_functions.Goals as goal

pub loop-function-preserved : goal.loop-function-preserved
loop-function-preserved c =
    let fs = c.args.functions.now in
    let tables = c.args.tables in
    let s = c.into_iter-function-iterator.result in
    let begun = c.into_iter-function-iterator.ensures.into_iter_gives in
    let xs = c.loop-function.yielded in
    let f = c.in-Some.function in
    let t = c.in-Some.scopes in
    let road = YieldsList-from_zip {s = s} (YieldsList-from_slice fs (ap (λ z. iter_rest (zip_first z)) begun ∙ (ap iter_rest c.zip-function-items.ensures.first ∙ c.iter.ensures.rest)))
    (YieldsList-from_vec tables.items (ap (λ z. into_iter_items (zip_second z)) begun ∙ c.zip-function-items.ensures.second.0)
    (ap (λ z. into_iter_len (zip_second z)) begun ∙ (c.zip-function-items.ensures.second.1 ∙ tables.ok.0))) in
    let turn = YieldsList-turn road xs c.loop-function.function-iterator c.loop-function.yielded_by c.next.result c.next.new.self (f, t) c.in-Some.is c.next.ensures.steps in
    let pair = pair-at fs tables.items (length xs) f.now t turn.0 turn.1 in
    let held = c.loop-function.invariant in
    let function = c.typed_function-next.result in
    let fault = c.loop-function.collected.fault in
    let more = c.add.new.self.fault in
    let before = c.loop-function.collected.functions.items in
    let after = c.add.new.self.functions.items in
    let added = c.in_ok-add.ensures.added in
    record {
      entries = if-added function before after fault more added c.typed_function-next.ensures.entries ∙ held.entries;
      variables = λ source are entries stand.
          variables-added source fs (length xs) (length (xs ++ (f, t) ∷ [])) f.now pair.in_left pair.left_is (length_push xs (f, t)) fault more before after function added
          (c.typed_function-next.ensures.variables source are (held.entries ∙ entries)) (held.variables source are entries stand);
      collects = λ source are entries stand.
          functions-added source fs (length xs) (length (xs ++ (f, t) ∷ [])) f.now pair.in_left pair.left_is (length_push xs (f, t)) fault more before after function added
          (c.typed_function-next.ensures.function source are (held.entries ∙ entries) (steps-of source fs tables.items are stand (length xs) f.now t pair))
          (held.collects source are entries stand);
    }

pub returns-clause-functions : goal.returns-clause-functions
returns-clause-functions c = λ source are entries stand.
    let fs = c.args.functions.now in
    let tables = c.args.tables in
    let s = c.into_iter-function-iterator.result in
    let begun = c.into_iter-function-iterator.ensures.into_iter_gives in
    let xs = c.loop-function.yielded in
    let road = YieldsList-from_zip {s = s} (YieldsList-from_slice fs (ap (λ z. iter_rest (zip_first z)) begun ∙ (ap iter_rest c.zip-function-items.ensures.first ∙ c.iter.ensures.rest)))
    (YieldsList-from_vec tables.items (ap (λ z. into_iter_items (zip_second z)) begun ∙ c.zip-function-items.ensures.second.0)
    (ap (λ z. into_iter_len (zip_second z)) begun ∙ (c.zip-function-items.ensures.second.1 ∙ tables.ok.0))) in
    let ended = YieldsList-end road xs c.loop-function.function-iterator c.loop-function.yielded_by c.next.result c.next.new.self c.in-None.is c.next.ensures.steps in
    let collected = c.loop-function.collected in
    collected-answers (λ (made : Vec Function alloc.Global). map typed.function_view made.items) collected.fault collected.functions (judged_functions source (functions_in source)) c.into_functions.result c.into_functions.ensures
    (functions-done source fs (length xs) collected.fault (map typed.function_view collected.functions.items) are (all-paired source fs tables.items are stand (length xs) ended.1) (c.loop-function.invariant.collects source are entries stand))

pub returns-clause-variables : goal.returns-clause-variables
returns-clause-variables c = λ source are entries stand.
    let fs = c.args.functions.now in
    let tables = c.args.tables in
    let s = c.into_iter-function-iterator.result in
    let begun = c.into_iter-function-iterator.ensures.into_iter_gives in
    let xs = c.loop-function.yielded in
    let road = YieldsList-from_zip {s = s} (YieldsList-from_slice fs (ap (λ z. iter_rest (zip_first z)) begun ∙ (ap iter_rest c.zip-function-items.ensures.first ∙ c.iter.ensures.rest)))
    (YieldsList-from_vec tables.items (ap (λ z. into_iter_items (zip_second z)) begun ∙ c.zip-function-items.ensures.second.0)
    (ap (λ z. into_iter_len (zip_second z)) begun ∙ (c.zip-function-items.ensures.second.1 ∙ tables.ok.0))) in
    let ended = YieldsList-end road xs c.loop-function.function-iterator c.loop-function.yielded_by c.next.result c.next.new.self c.in-None.is c.next.ensures.steps in
    let collected = c.loop-function.collected in
    collected-ok collected.fault collected.functions c.into_functions.result (λ (made : Vec Function alloc.Global). AreVariablesOf source made.items) c.into_functions.ensures
    (λ none.
    c.loop-function.invariant.variables source are entries stand none
    ∙ ap (λ gs. map (declared_variables source) (views gs)) (all-paired source fs tables.items are stand (length xs) ended.1)
    ∙ ap (map (declared_variables source)) are)
