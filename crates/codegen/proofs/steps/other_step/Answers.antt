use Rattle.std.proofs.Common.{◌∙◌, ap, length, subst}
use Rattle.std.specs.Prelude.{None}
use Rattle.mask_lowering.specs.PointViews.{point_view}
use Rattle.codegen.specs.Codes.{HasCode}
use Rattle.codegen.proofs.Labels.{entries_long}
use Rattle.codegen.proofs.steps.other_step.Goals as goal

pub segments-requires : goal.segments-requires
segments-requires c =
    ap length (c.deref.ensures.value ∙ subst (λ point. HasCode (point_view point) None) c.in-Choose.is c.requires) ∙ entries_long c.in-Choose.labelled.now c.in-Choose.next
