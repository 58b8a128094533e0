use Rattle.std.proofs.Common.{◌+◌, length, drop, map, ap}
use Rattle.std.proofs.lemmas.List.{drop_all}
use Rattle.std.specs.Prelude.{Ok}
use Rattle.gang_model.proofs.WalkedLists.{next_item}
use Rattle.source_tree.specs.Tree.{dim_view}
use Rattle.typed_tree.specs.Views.{dimension_view}
use Rattle.type_check_parts.specs.Rows.{dimension_of}
use Rattle.source_answers.specs.Apart.{seen}
use Rattle.type_check_parts.proofs.InRows.{rows-none, rows-next, rows-all}
use Rattle.type_check_parts.proofs.Judging.{answers-apart}
use Rattle.type_check_parts.proofs.rounds.dimensions.Goals as goal

pub loop-dim-init : goal.loop-dim-init
loop-dim-init c =
    let scope = c.args.scope.now in
    rows-none scope.entries (length scope.locals) c.next-number.result (map dim_view c.args.dims.now) _ c.next-number.ensures (ap (λ ds. Ok (map dimension_view ds)) c.new.ensures.items)

pub loop-dim-preserved : goal.loop-dim-preserved
loop-dim-preserved c =
    let scope = c.args.scope.now in
    let dims = c.args.dims.now in
    let i = c.loop-dim.dim-index in
    let d = c.dim-item.result in
    rows-next scope.entries (length scope.locals) c.loop-dim.number _ (map dim_view dims) (map dim_view (drop i dims)) (map dim_view (drop (i + 1) dims)) (dim_view d)
    (seen (λ ds. map dimension_view ds.items) c.loop-dim.typed) _ (seen dimension_view c.in_ok-next.next)
    c.loop-dim.invariant (ap (map dim_view) (next_item dims i d c.loop-dim-test.true c.dim-item.is))
    (answers-apart dimension_view c.dimension.result c.in_ok-next.next (dimension_of scope.entries c.loop-dim.number (dim_view d)) c.dimension.ensures c.in_ok-next.ensures)
    c.in_ok-typed.ensures.more c.in_ok-number.ensures.number

pub returns : goal.returns
returns c =
    let scope = c.args.scope.now in
    let dims = c.args.dims.now in
    let i = c.loop-dim.dim-index in
    record {
      dimensions = rows-all scope.entries (length scope.locals) c.loop-dim.number (map dim_view dims) (map dim_view (drop i dims)) (seen (λ ds. map dimension_view ds.items) c.loop-dim.typed)
          c.loop-dim.invariant (ap (map dim_view) (drop_all i dims c.loop-dim-test.false));
    }
