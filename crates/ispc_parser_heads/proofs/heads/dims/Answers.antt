use Rattle.std.proofs.Common.{◌≡◌, ◌-◌, ◌+◌, ◌∙◌, [], ◌∷◌, ◌++◌, sym, arith, map}
use Rattle.std.proofs.lemmas.List.{map-append}
use Rattle.std.proofs.lemmas.Result.{err_from_is_err_and}
use Rattle.gang_model.specs.Source.SpellsStatements.{max_dims}
use Rattle.ispc_lexer.specs.Views.{lexemes_of}
use Rattle.source_tree.specs.Tree.{dim_view}
use Rattle.ispc_parser_shared.proofs.Fails.{fails_none}
use Rattle.ispc_parser_shared.proofs.Lists.{starts_empty, list_spent, list_fails, list_ends, list_goes_on}
use Rattle.ispc_parser_heads.specs.Heads.{dim_of, dims_of}
use Rattle.ispc_parser_heads.proofs.heads.dims.Goals as goal

pub loop-init : goal.loop-init
unfolding dims_of
loop-init c = rw c.new-dims.ensures.items (starts_empty (dim_of c.args.depth) max_dims (lexemes_of c.args.tokens.now))

pub returns-in_err-dim : goal.returns-in_err-dim
returns-in_err-dim c =
    let p = err_from_is_err_and c.from_residual.result c.from_residual.ensures.1 in
    rw (p.1, p.2) (list_fails (dim_of c.args.depth) (max_dims - c.loop.counter) (max_dims - (c.loop.counter + 1)) (map dim_view c.loop.dims.items) (lexemes_of c.loop.rest.now) _ (omega arith) c.loop.invariant c.in_err-dim.field-0.0 c.in_err-dim.ensures)

pub returns-in_default : goal.returns-in_default
returns-in_default c =
    let e : map dim_view c.push.new.self.items ≡ map dim_view c.loop.dims.items ++ dim_view c.in_ok-dim.dim ∷ [] = rw c.in_ok-push.ensures.items (map-append dim_view c.loop.dims.items (c.in_ok-dim.dim ∷ [])) in
    rw e (list_ends (dim_of c.args.depth) (max_dims - c.loop.counter) (max_dims - (c.loop.counter + 1)) (map dim_view c.loop.dims.items) (lexemes_of c.loop.rest.now) _ (omega arith) c.loop.invariant (dim_view c.in_ok-dim.dim) (lexemes_of c.in_ok-dim.after_dim.now) c.in_ok-dim.ensures (sym c.in_default.ensures))

pub loop-preserved : goal.loop-preserved
loop-preserved c =
    let e : map dim_view c.push.new.self.items ≡ map dim_view c.loop.dims.items ++ dim_view c.in_ok-dim.dim ∷ [] = rw c.in_ok-push.ensures.items (map-append dim_view c.loop.dims.items (c.in_ok-dim.dim ∷ [])) in
    rw e (list_goes_on (dim_of c.args.depth) (max_dims - c.loop.counter) (max_dims - (c.loop.counter + 1)) (map dim_view c.loop.dims.items) (lexemes_of c.loop.rest.now) _ (omega arith) c.loop.invariant (dim_view c.in_ok-dim.dim) (lexemes_of c.in_ok-dim.after_dim.now) (lexemes_of c.in-Some.next.now) c.in_ok-dim.ensures (sym c.in-Some.ensures))

pub returns : goal.returns
returns c = fails_none c.too_many.result _ c.too_many.ensures (sym c.loop.invariant ∙ list_spent (dim_of c.args.depth) (max_dims - c.loop.counter) (map dim_view c.loop.dims.items) (lexemes_of c.loop.rest.now) (omega arith))
