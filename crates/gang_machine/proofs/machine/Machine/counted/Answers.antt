use Rattle.std.proofs.Common.{◌∙◌, sym, ap, subst, length, true≢false}
use Rattle.gang_machine.specs.Standings.{Stands}
use Rattle.gang_machine.proofs.Finding.{few_words, shows}
use Rattle.gang_machine.proofs.Seeing.{is_seen_at, shown_here, shown_long, shown_same_at}
use Rattle.gang_machine.proofs.machine.Machine.counted.Goals as goal

pub returns-then-shown-clause-shown : goal.returns-then-shown-clause-shown
returns-then-shown-clause-shown g c s d v stands there seen =
    let m = c.self.inside in
    let history = g.T.Timeline.history in
    let here = subst (λ m. Stands m s d) (sym c.self.view_is) stands in
    let words = shown_here history g.row.W m.entry m.compiled m.lines.items m.words c.self.invariant s d here in
    let is = is_seen_at history g.row.W m.entry m.compiled m.lines.items m.words c.self.invariant s d here c.args.depth v there in
    shows g.row.W s d c.args.depth v c.args.shown c.count-elements.result there seen
    (ap length (shown_same_at history g.row.W m.entry m.compiled m.lines.items m.words c.self.invariant s d here c.args.depth v) ∙ sym (c.count-elements.ensures.shown _ v words is seen.id))

pub returns-else-shown-clause-shown : goal.returns-else-shown-clause-shown
returns-else-shown-clause-shown g c s d v stands there seen =
    let m = c.self.inside in
    let history = g.T.Timeline.history in
    let here = subst (λ m. Stands m s d) (sym c.self.view_is) stands in
    let is = is_seen_at history g.row.W m.entry m.compiled m.lines.items m.words c.self.invariant s d here c.args.depth v there in
    let scalar = seen.is_array ∙ c.if-shown.false in
    shows g.row.W s d c.args.depth v c.args.shown c.args.shown.count there seen
    (shown_long history g.row.W m.entry m.compiled m.lines.items m.words c.self.invariant s d here c.args.depth v scalar is ∙ seen.count scalar)

pub returns-then-shown-clause-few : goal.returns-then-shown-clause-few
returns-then-shown-clause-few g c v seen scalar = absurd (true≢false (sym c.if-shown.true ∙ scalar))

pub returns-else-shown-clause-few : goal.returns-else-shown-clause-few
returns-else-shown-clause-few g c v seen scalar = few_words g.row.W c.self.invariant.lie.gang v c.args.shown seen scalar
