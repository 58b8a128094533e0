use Rattle.std.proofs.Common.{refl, sym, subst}
use Rattle.foreach_lowering.specs.declared.rounds.RoundsLeft.TheVariants.{EachValue as ValuesLeft}
use Rattle.foreach_lowering.specs.RoundViews.{IsNextRound}
use Rattle.gang_types.specs.Masks.{lanes_of}
use Rattle.foreach_lowering.proofs.FormRounds.{value_form, no_value_form}
use Rattle.foreach_lowering.proofs.rounds.next_of_values.Goals as goal

pub returns-in_err-round : goal.returns-in_err-round
returns-in_err-round g c =
    subst (λ next. IsNextRound g.row.W (ValuesLeft c.args.lanes c.args.values) next) (sym c.from_residual.ensures)
    (λ form is. no_value_form g.row.W form is.0 is.1 (lanes_of g.row.W c.args.lanes) c.args.values is.2 c.in_err-round.ensures)

pub returns : goal.returns
returns g c = (
  λ form is. (
    value_form g.row.W form is.0 is.1 (lanes_of g.row.W c.args.lanes) (lanes_of g.row.W c.in_ok-round.round.lanes) (lanes_of g.row.W c.in_ok-round.round.later) c.args.values c.in_ok-round.round.value is.2
        c.in_ok-round.ensures,
    is,
  ),
  tt,
  refl,
)
