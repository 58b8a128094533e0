use Rattle.std.proofs.Common.{sym, subst, ap, ◌∙◌}
use Rattle.debug_traits.specs.Beginnings.{with_events}
use Rattle.gang_machine.specs.Again.{CanHave, Copies}
use Rattle.gang_machine.specs.Standings.{counted, history_of, view_of}
use Rattle.gang_machine.proofs.BegunAgain.{copies_here}
use Rattle.gang_machine.proofs.again.MachineCopiesOver.copy_over.Goals as goal

pub copy_words-requires : goal.copy_words-requires
copy_words-requires g c =
    let has = subst (λ self. CanHave self c.args.words.now) (sym c.self.view_is) c.requires in
    has.laid.long ∙ sym c.self.invariant.lie.laid.long

pub returns-clause-words : goal.returns-clause-words
returns-clause-words g c =
    let m = c.self.inside in
    let i = c.self.invariant in
    let h = g.T.Timeline.history m.words.store.timeline in
    let here = counted (view_of g.row.W m.entry m.compiled.program m.lines.items m.words.layout h) m.mover.moves.count in
    let has : CanHave here h.words = record { laid = i.lie.laid; masked = i.masked; shown = record { shows = i.shown.shows; declared = i.shown.declared }; called = i.called } in
    subst (λ self. CanHave self c.copy_words.new.copy) c.self.view_is (subst (CanHave here) (sym c.copy_words.ensures) has)

pub returns-clause-moment : goal.returns-clause-moment
returns-clause-moment g c s d stands =
    let same = c.copy_words.ensures ∙ ap (λ m. (history_of m).words) c.self.view_is in
    subst (λ words. Copies c.args.self.now words s (with_events d.events 0 0 d)) (sym same) (copies_here c.args.self.now s d stands)
