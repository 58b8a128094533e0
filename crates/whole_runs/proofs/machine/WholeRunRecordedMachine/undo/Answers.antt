use Rattle.std.proofs.lemmas.Result.{err_from_is_err_and}
use Rattle.std.proofs.Common.{◌∙◌, arith, Bool, ap, drop, subst, sym, inl, inr, true}
use Rattle.std.specs.Prelude.{All, Ok, filter}
use Rattle.std.proofs.lemmas.List.Elements.{All-filter, All-same}
use Rattle.debug_traits.specs.Beginnings.{with_events}
use Rattle.debug_traits.specs.Machines.{Undoes, UndoesWords}
use Rattle.whole_runs.specs.declared.copies.CopiedMoment.{CopiedMoment}
use Rattle.whole_runs.specs.Copies.{is_within}
use Rattle.whole_runs.specs.Histories.{history_of}
use Rattle.whole_runs.specs.NotesViews.{noted_of}
use Rattle.whole_runs.specs.Runs.{CanHaveAll, IsCopied, StandsWhole, whole_of}
use Rattle.whole_runs.proofs.NoWords.{undo_words}
use Rattle.whole_runs.proofs.Places.{copies_back}
use Rattle.whole_runs.proofs.TakenBack.{left_by}
use Rattle.whole_runs.proofs.WholeLaws.{copied_stays, same_noted, still, taken}
use Rattle.whole_runs.proofs.machine.WholeRunRecordedMachine.undo.Goals as goal

pub returns-in_err-event-clause-undo : goal.returns-in_err-event-clause-undo
returns-in_err-event-clause-undo g c s d whole =
    let stands = g.M.RecordedMachine.stands in
    let copies = g.M.BeginsAgain.copies in
    let m = c.self.inside in
    let run = whole_of m.inner (noted_of m.notes) m.start.items m.copies.all.items m.copies.plan.most m.is_stale m.moves.count in
    let here = subst (λ run. StandsWhole stands copies run s d) (sym c.self.view_is) whole in
    let (none, pokes, steps, kept) = c.in_err-event.ensures.forgets in
    let notes_are = same_noted (noted_of c.forget_last.new.self) (noted_of m.notes) pokes steps kept c.in_err-event.ensures.limit in
    let count = c.count_one.new.self.count in
    let there = subst (λ notes. StandsWhole stands copies (whole_of m.inner notes m.start.items m.copies.all.items m.copies.plan.most m.is_stale count) s d) (sym notes_are)
    (still stands copies run s d here m.inner (λ words s d copy. copy) count here.there) in
    let (fault, err, same) = err_from_is_err_and c.from_residual.result c.from_residual.ensures.1 in
    subst (λ r. Undoes (StandsWhole stands copies) s d r (whole_of m.inner (noted_of c.forget_last.new.self) m.start.items m.copies.all.items m.copies.plan.most m.is_stale count)) (sym err) (here.kept ∙ none, there)

pub take_last_back-requires : goal.take_last_back-requires
take_last_back-requires g c =
    let m = c.self.inside in
    subst (λ words. CanHaveAll g.M.BeginsAgain.can_have m.inner words m.copies.all.items) (sym c.deref.ensures.value) c.self.invariant

pub invariant_of-self-2 : goal.invariant_of-self-2
invariant_of-self-2 g c =
    subst (λ words. CanHaveAll g.M.BeginsAgain.can_have c.take_last_back.new.machine words c.take_last_back.new.copies.all.items) c.deref.ensures.value c.take_last_back.ensures.words

pub returns-clause-undo : goal.returns-clause-undo
returns-clause-undo g c s d whole =
    let stands = g.M.RecordedMachine.stands in
    let copies = g.M.BeginsAgain.copies in
    let m = c.self.inside in
    let run = whole_of m.inner (noted_of m.notes) m.start.items m.copies.all.items m.copies.plan.most m.is_stale m.moves.count in
    let here = subst (λ run. StandsWhole stands copies run s d) (sym c.self.view_is) whole in
    let new = noted_of c.forget_last.new.self in
    let machine = c.take_last_back.new.machine in
    let forgets = c.in_ok-event.ensures.forgets in
    let left = left_by s here.older d.events m.notes.pokes.items m.notes.steps m.notes.kept c.in_ok-event.event new.pokes new.steps new.kept here.events here.are_noted here.have_gone forgets in
    let P = IsCopied copies m.inner s d here.older new.pokes new.steps in
    let test : CopiedMoment → Bool = λ c'. is_within new.pokes new.steps c'.pokes c'.steps in
    let old = m.copies.all.items in
    let all = c.take_last_back.new.copies.all.items in
    let back = copies_back copies m.inner s d here.older m.notes.pokes.items m.notes.steps m.notes.kept c.in_ok-event.event new.pokes new.steps new.kept old forgets here.copied in
    let fewer : All P all = elim c.take_last_back.ensures.copies [
      | inl same ↦ All-same P all old same back
      | inr some ↦ All-same P all (filter test old) some (All-filter test P old back)
    ] in
    let stays = c.take_last_back.ensures.stays.1 in
    let begins = subst (λ words. copies m.inner words s (with_events here.older 0 0 d)) (sym c.deref.ensures.value) here.begins in
    let there = c.take_last_back.ensures.back s d here.older d.events here.there (ap (drop 1) left.is) back begins left.noted_are left.gone in
    taken stands copies run s d here machine stays c.count_one.new.self.count new c.in_ok-event.event left c.in_ok-event.ensures.limit all c.take_last_back.new.copies.plan.most
    (copied_stays stands copies m.inner machine s d here.older new.pokes new.steps all stays fewer) there

pub returns-clause-words : goal.returns-clause-words
returns-clause-words g c =
    let m = c.self.inside in
    let new = noted_of c.forget_last.new.self in
    let after = whole_of c.take_last_back.new.machine new m.start.items c.take_last_back.new.copies.all.items c.take_last_back.new.copies.plan.most true c.count_one.new.self.count in
    subst (λ run. UndoesWords (history_of run) (Ok c.in_ok-event.event) (history_of after)) c.self.view_is
    (undo_words (noted_of m.notes) new c.in_ok-event.event c.in_ok-event.ensures.limit c.in_ok-event.ensures.forgets)

pub returns-in_err-event-clause-cost : goal.returns-in_err-event-clause-cost
returns-in_err-event-clause-cost g c = grind arith
