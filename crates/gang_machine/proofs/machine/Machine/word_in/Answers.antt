use Rattle.std.proofs.Common.{◌∙◌, sym, ap, subst, slice_index}
use Rattle.gang_machine.specs.Standings.{Stands}
use Rattle.gang_machine.proofs.Seeing.{is_seen_at, shown_here, shown_same_at}
use Rattle.gang_machine.proofs.machine.Machine.word_in.Goals as goal

pub returns : goal.returns
returns g c s d v stands is below =
    let m = c.self.inside in
    let history = g.T.Timeline.history in
    let here = subst (λ m. Stands m s d) (sym c.self.view_is) stands in
    let shown = shown_here history g.row.W m.entry m.compiled m.lines.items m.words c.self.invariant s d here in
    let seen = is_seen_at history g.row.W m.entry m.compiled m.lines.items m.words c.self.invariant s d here c.args.depth v is.there in
    c.word.ensures.shown _ v shown seen is.id
    ∙ ap (λ ws. slice_index ws c.args.index) (sym (shown_same_at history g.row.W m.entry m.compiled m.lines.items m.words c.self.invariant s d here c.args.depth v))
