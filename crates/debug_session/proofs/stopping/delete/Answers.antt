use Rattle.std.proofs.Common.{sym, subst, ap, ◌∙◌, refl, Some, None}
use Rattle.std.specs.Prelude.{◌==◌, filter, if◌then◌else◌, not}
use Rattle.gang_model.specs.Debugger.Debugger.{Deleted, NoSuchNumber, do_delete, refused, reply}
use Rattle.debug_answers.specs.declared.answer.Answer.TheVariants as answer
use Rattle.debug_session.specs.Tables.{Listed}
use Rattle.debug_session.proofs.Listing.{has_same, listed_so, without_same}
use Rattle.debug_session.proofs.stopping.delete.Goals.{in-None, in-Some}
use Rattle.debug_session.proofs.stopping.delete.Goals as goal

pub returns-in-Some-2-clause-replied : goal.returns-in-Some-2-clause-replied
returns-in-Some-2-clause-replied c s d are next =
    let n = c.in-Some.number in
    let none = sym (has_same s n c.args.stops.now.items d.stops are) ∙ sym c.has.ensures ∙ c.if-has.false in
    listed_so s d _ _ _ _
    (ap (λ number. do_delete number d) c.in-Some.is
    ∙ ap (λ b. if b then reply (Deleted (Some n)) (record d { stops = filter (λ entry. not (entry.0 == n)) d.stops }) else refused NoSuchNumber d) none)
    (record { same = refl; stops = are; next = next; means = refl })

pub returns-clause-replied : goal.returns-clause-replied
returns-clause-replied c s d are next =
    elim c.match-number.branch [
      | in-None w ↦
          subst (λ number. Listed s d (do_delete c.args.number d) (answer.Deleted number) c.match-number.stops) (sym (w.number-is ∙ w.in-None.is))
          (listed_so s d _ _ _ _ (ap (λ number. do_delete number d) w.in-None.is)
          (subst (λ table. Listed s d (do_delete None d) (answer.Deleted None) table) (sym (w.stops-is ∙ w.clear.ensures)) (record { same = refl; stops = tt; next = next; means = refl })))
      | in-Some w ↦
          let n = w.in-Some.number in
          let some = sym (has_same s n c.args.stops.now.items d.stops are) ∙ sym w.has.ensures ∙ w.if-has.true in
          subst (λ number. Listed s d (do_delete c.args.number d) (answer.Deleted number) c.match-number.stops) (sym w.number-is)
          (listed_so s d _ _ _ _
          (ap (λ number. do_delete number d) w.in-Some.is
          ∙ ap (λ b. if b then reply (Deleted (Some n)) (record d { stops = filter (λ entry. not (entry.0 == n)) d.stops }) else refused NoSuchNumber d) some)
          (subst (λ table. Listed s d (reply (Deleted (Some n)) (record d { stops = filter (λ entry. not (entry.0 == n)) d.stops })) (answer.Deleted (Some n)) table) (sym (w.stops-is ∙ w.remove.ensures))
          (record { same = refl; stops = without_same s n c.args.stops.now.items d.stops are; next = next; means = refl })))
    ]
