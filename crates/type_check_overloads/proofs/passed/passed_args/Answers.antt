use Rattle.std.specs.Prelude.{option_map}
use Rattle.std.proofs.Common.{◌∙◌, ◌++◌, drop, length, map, sym, ap}
use Rattle.std.proofs.lemmas.List.{length_push}
use Rattle.std.proofs.lemmas.Iterator.{YieldsList-from_slice, YieldsList-from_zip}
use Rattle.std.proofs.lemmas.Iterator.Adapters.{YieldsList-from_vec}
use Rattle.std.proofs.lemmas.Iterator.Consumers.{YieldsList-from_enumerate, YieldsList-turn, YieldsList-end}
use Rattle.std.specs.List.{enumerate_from, zip}
use Rattle.typed_tree.specs.Views.{arg_view}
use Rattle.type_check_overloads.proofs.Parts.{passed_all, args_step, args_end, paired}
use Rattle.type_check_overloads.proofs.passed.passed_args.Goals as goal

pub loop-number-init : goal.loop-number-init
loop-number-init c = ap (λ xs. map arg_view xs ++ passed_all (enumerate_from 0 (zip c.args.given.items c.args.params.now))) c.new-args.ensures.items

pub loop-number-preserved : goal.loop-number-preserved
loop-number-preserved c =
    let items = enumerate_from 0 (zip c.args.given.items c.args.params.now) in
    let road =
    YieldsList-from_enumerate {s = c.into_iter-number-iterator.result}
    (YieldsList-from_zip (YieldsList-from_vec c.args.given.items (cc) (cc)) (YieldsList-from_slice c.args.params.now (cc))) (cc) in
    ap (λ n. map arg_view c.add_arg.new.args.items ++ passed_all (drop n items)) (length_push c.loop-number.yielded (c.in-Some.number, (c.in-Some.argument, c.in-Some.param)))
    ∙ args_step _ (map arg_view c.loop-number.args.items) _ items (length c.loop-number.yielded) (c.in-Some.number, (c.in-Some.argument, c.in-Some.param.now)) (option_map arg_view c.in_ok-arg.arg)
    (YieldsList-turn road c.loop-number.yielded c.loop-number.number-iterator c.loop-number.yielded_by c.next.result c.next.new.self
    (c.in-Some.number, (c.in-Some.argument, c.in-Some.param)) c.in-Some.is c.next.ensures.steps)
    c.in_ok-arg.ensures.passed c.in_ok-add_arg.ensures.added c.loop-number.invariant

pub returns : goal.returns
returns c =
    let items = enumerate_from 0 (zip c.args.given.items c.args.params.now) in
    let road =
    YieldsList-from_enumerate {s = c.into_iter-number-iterator.result}
    (YieldsList-from_zip (YieldsList-from_vec c.args.given.items (cc) (cc)) (YieldsList-from_slice c.args.params.now (cc))) (cc) in
    record {
      passed = args_end _ (map arg_view c.loop-number.args.items) _ items (length c.loop-number.yielded)
          (YieldsList-end road c.loop-number.yielded c.loop-number.number-iterator c.loop-number.yielded_by c.next.result c.next.new.self c.in-None.is c.next.ensures.steps) c.loop-number.invariant
          ∙ sym (paired 0 c.args.given.items c.args.params.now);
    }
