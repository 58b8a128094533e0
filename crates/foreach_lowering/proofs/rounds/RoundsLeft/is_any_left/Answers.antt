-- What is kept is that of one form, and tells of this one.
use Rattle.std.proofs.Common.{sym, subst, ap, ◌∙◌}
use Rattle.std.specs.Prelude.{not}
use Rattle.gang_types.specs.Masks.{lanes_of}
use Rattle.gang_types.specs.MaskLaws.{length-lanes_of_word}
use Rattle.foreach_lowering.specs.Views.{bounds_view, grid_view}
use Rattle.foreach_lowering.specs.RoundViews.{AreLeft, SaysAnyLeft}
use Rattle.foreach_lowering.proofs.AnyLeft.{domain_left, lanes_left, values_left}
use Rattle.foreach_lowering.proofs.rounds.RoundsLeft.is_any_left.Goals as goal

pub returns-in-Domain : goal.returns-in-Domain
returns-in-Domain g c =
    subst (λ kept. SaysAnyLeft g.row.W kept c.has_next.result) (sym c.in-Domain.is)
    (λ form is. domain_left c.in-Domain.domain.order (bounds_view c.in-Domain.domain.bounds) g.row.W (grid_view c.in-Domain.left) c.has_next.result form is.0
    (subst (AreLeft g.row.W) c.in-Domain.is c.requires.left) c.has_next.ensures is.1)

pub returns-in-EachLane : goal.returns-in-EachLane
returns-in-EachLane g c =
    subst (λ kept. SaysAnyLeft g.row.W kept (not c.is_empty.result)) (sym c.in-EachLane.is)
    (λ form is. ap not c.is_empty.ensures ∙ lanes_left form is.0 g.row.W (lanes_of g.row.W c.in-EachLane.lanes) is.1 (length-lanes_of_word g.row.W c.in-EachLane.lanes.word))

pub returns-in-EachValue : goal.returns-in-EachValue
returns-in-EachValue g c =
    subst (λ kept. SaysAnyLeft g.row.W kept (not c.is_empty-in-EachValue.result)) (sym c.in-EachValue.is)
    (λ form is. ap not c.is_empty-in-EachValue.ensures ∙ values_left form is.0 is.1 g.row.W (lanes_of g.row.W c.in-EachValue.lanes) c.in-EachValue.values is.2)
