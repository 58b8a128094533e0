use Rattle.std.proofs.Common.{◌∙◌, ap, subst, sym}
use Rattle.undo_log.specs.History.{put_words}
use Rattle.debug_traits.specs.Beginnings.{StandsAt}
use Rattle.gang_machine.specs.Again.{CanHave, Copies, SameRun}
use Rattle.debug_traits.specs.Beginnings.{with_events}
use Rattle.gang_machine.specs.Standings.{Stands, counted, history_of, view_of}
use Rattle.gang_machine.proofs.BegunAgain.{machine_again, past_is, stands_again}
use Rattle.gang_machine.proofs.Lasting.{lasts}
use Rattle.gang_machine.proofs.again.MachineBeginsAgain.begin_again.Goals as goal

pub put-requires-clause-long : goal.put-requires-clause-long
put-requires-clause-long g c =
    let has = subst (λ self. CanHave self c.args.words.now) (sym c.self.view_is) c.requires.words in
    has.laid.long ∙ sym c.self.invariant.lie.laid.long

pub put-requires-clause-none_kept : goal.put-requires-clause-none_kept
put-requires-clause-none_kept g c = ap (λ m. (history_of m).past) c.self.view_is ∙ c.requires.none_kept

pub invariant_of-self : goal.invariant_of-self
invariant_of-self g c =
    let m = c.self.inside in
    machine_again g.T.Timeline.history g.row.W m.compiled m.words c.put.new.words c.args.words.now c.put.ensures.layout c.put.ensures.put m.entry m.mover.moves.count m.lines.items c.self.invariant
    (subst (λ self. CanHave self c.args.words.now) (sym c.self.view_is) c.requires.words)

pub returns-clause-moment : goal.returns-clause-moment
returns-clause-moment g c s d copy =
    let m = c.self.inside in
    let old = g.T.Timeline.history m.words.store.timeline in
    let words = c.args.words.now in
    let moves = m.mover.moves.count in
    subst (λ h. StandsAt Stands (counted (view_of g.row.W m.entry m.compiled.program m.lines.items c.put.new.words.layout h) moves) s d d.events) (sym c.put.ensures.put)
    (subst (λ l. StandsAt Stands (counted (view_of g.row.W m.entry m.compiled.program m.lines.items l (put_words words old)) moves) s d d.events) (sym c.put.ensures.layout)
    (stands_again g.row.W m.entry m.compiled.program m.lines.items m.words.layout old moves moves words s d
    (subst (λ self. Copies self words s (with_events d.events 0 0 d)) (sym c.self.view_is) copy)))

pub returns-clause-none_kept : goal.returns-clause-none_kept
returns-clause-none_kept g c =
    past_is g.T.Timeline.history g.row.W c.self.inside.compiled c.self.inside.words c.put.new.words c.args.words.now c.put.ensures.layout c.put.ensures.put

pub returns-clause-run : goal.returns-clause-run
returns-clause-run g c =
    let m = c.self.inside in
    let history = g.T.Timeline.history in
    subst (λ old. SameRun old (counted (view_of g.row.W m.entry m.compiled.program m.lines.items c.put.new.words.layout (history c.put.new.words.store.timeline)) m.mover.moves.count)) c.self.view_is
    (lasts g.row.W m.entry m.compiled.program m.lines.items m.words.layout c.put.new.words.layout (history m.words.store.timeline) (history c.put.new.words.store.timeline) m.mover.moves.count m.mover.moves.count c.put.ensures.layout)
