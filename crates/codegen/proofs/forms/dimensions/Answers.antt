use Rattle.typed_tree.specs.Views.{dimension_view}
use Rattle.codegen.specs.Codes.{IsDimension}
use Rattle.codegen.proofs.Rows.{fit_next}
use Rattle.codegen.proofs.forms.dimensions.Goals as goal

pub loop-dimension-preserved : goal.loop-dimension-preserved
loop-dimension-preserved c =
    fit_next IsDimension dimension_view c.args.dims.now c.loop-dimension.dimension-index c.dimension-item.result c.loop-dimension.made.items c.push.new.self.items _
    c.loop-dimension-test.true c.dimension-item.is c.loop-dimension.invariant c.in_ok-bounds.ensures c.in_ok-push.ensures.items
