use Rattle.std.proofs.Common.{◌≡◌, ◌-◌, ◌+◌, ◌∙◌, [], ◌∷◌, ◌++◌, sym, arith, map}
use Rattle.std.proofs.lemmas.List.{map-append}
use Rattle.std.proofs.lemmas.Result.{err_from_is_err_and}
use Rattle.gang_model.specs.Source.SpellsSource.{max_params}
use Rattle.ispc_lexer.specs.Views.{lexemes_of}
use Rattle.source_tree.specs.Tree.{param_view}
use Rattle.ispc_parser_shared.proofs.Fails.{fails_none}
use Rattle.ispc_parser_shared.proofs.Lists.{starts_empty, list_spent, list_fails, list_ends, list_goes_on}
use Rattle.ispc_parser.specs.Source.{param_of, some_params_of}
use Rattle.ispc_parser.proofs.source.some_params.Goals as goal

pub loop-init : goal.loop-init
unfolding some_params_of
loop-init c = rw c.new-params.ensures.items (starts_empty param_of max_params (lexemes_of c.args.tokens.now))

pub returns-in_err-param : goal.returns-in_err-param
returns-in_err-param c =
    let p = err_from_is_err_and c.from_residual.result c.from_residual.ensures.1 in
    rw (p.1, p.2) (list_fails param_of (max_params - c.loop.counter) (max_params - (c.loop.counter + 1)) (map param_view c.loop.params.items) (lexemes_of c.loop.rest.now) _ (omega arith) c.loop.invariant c.in_err-param.field-0.0 c.in_err-param.ensures)

pub returns-in_default : goal.returns-in_default
returns-in_default c =
    let e : map param_view c.push.new.self.items ≡ map param_view c.loop.params.items ++ param_view c.in_ok-param.param ∷ [] = rw c.in_ok-push.ensures.items (map-append param_view c.loop.params.items (c.in_ok-param.param ∷ [])) in
    rw e (list_ends param_of (max_params - c.loop.counter) (max_params - (c.loop.counter + 1)) (map param_view c.loop.params.items) (lexemes_of c.loop.rest.now) _ (omega arith) c.loop.invariant (param_view c.in_ok-param.param) (lexemes_of c.in_ok-param.after_param.now) c.in_ok-param.ensures (sym c.in_default.ensures))

pub loop-preserved : goal.loop-preserved
loop-preserved c =
    let e : map param_view c.push.new.self.items ≡ map param_view c.loop.params.items ++ param_view c.in_ok-param.param ∷ [] = rw c.in_ok-push.ensures.items (map-append param_view c.loop.params.items (c.in_ok-param.param ∷ [])) in
    rw e (list_goes_on param_of (max_params - c.loop.counter) (max_params - (c.loop.counter + 1)) (map param_view c.loop.params.items) (lexemes_of c.loop.rest.now) _ (omega arith) c.loop.invariant (param_view c.in_ok-param.param) (lexemes_of c.in_ok-param.after_param.now) (lexemes_of c.in-Some.next.now) c.in_ok-param.ensures (sym c.in-Some.ensures))

pub returns : goal.returns
returns c = fails_none c.too_many.result _ c.too_many.ensures (sym c.loop.invariant ∙ list_spent param_of (max_params - c.loop.counter) (map param_view c.loop.params.items) (lexemes_of c.loop.rest.now) (omega arith))
