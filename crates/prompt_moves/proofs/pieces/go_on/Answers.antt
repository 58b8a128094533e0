use Rattle.std.proofs.Common.{◌≡◌, false, sym, ap, ◌∙◌}
use Rattle.std.specs.List.{list_any}
use Rattle.conditional_stops.specs.Watching.{is_watch}
use Rattle.prompt_moves.proofs.PieceLaws.{as_continue, no_watch}
use Rattle.prompt_moves.proofs.pieces.go_on.Goals as goal

pub returns : goal.returns
returns g c s d st limit =
    let stops = c.args.session.now.stops.items in
    let none : list_any is_watch stops ≡ false = ap (list_any is_watch) (sym c.stops.ensures) ∙ sym c.has_watch.ensures ∙ c.if-has_watch.false in
    as_continue g.M.RecordedMachine.stands s g.M.RecordedMachine.may_want c.args.most_steps d c.go_by_pieces-answer.result c.go_by_pieces-answer.new.session limit
    (c.go_by_pieces-answer.ensures s d st (no_watch s stops d.stops none st.stops) limit)
