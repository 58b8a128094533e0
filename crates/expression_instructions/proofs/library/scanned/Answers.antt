use Rattle.std.proofs.Common.{◌∙◌, ap, sym}
use Rattle.gang_types.specs.Masks.{lanes_of}
use Rattle.gang_model.specs.Running.Lanes.{each}
use Rattle.gang_model.specs.Running.Library.{scanned, before_lane}
use Rattle.typed_tree.specs.Views.{scan_view}
use Rattle.cross_lane.specs.Calls.{values_in}
use Rattle.expression_instructions.proofs.library.scanned.Goals as goal

pub returns-in-Or : goal.returns-in-Or
returns-in-Or g c =
    c.exclusive_scan_or.ensures c.args.value_type
    ∙ ap (λ f. each (lanes_of g.row.W c.args.mask) (λ k. scanned (scan_view f) c.args.value_type (before_lane k (lanes_of g.row.W c.args.mask) (values_in (lanes_of g.row.W c.args.mask) c.args.values)))) (sym c.in-Or.is)
