use Rattle.std.proofs.Common.{subst, sym}
use Rattle.gang_model.specs.Debugger.Debugger as model
use Rattle.gang_model.specs.Debugger.Debugger.{now}
use Rattle.gang_model.specs.Texts.Text.{shown_line, text}
use Rattle.debug_commands.specs.Views.{target_view}
use Rattle.debug_traits.specs.Devices.{Writes}
use Rattle.debug_traits.specs.Machines.{fault_view}
use Rattle.debug_answers.specs.Meanings.{Means}
use Rattle.debug_answers.specs.declared.answer.Answer.TheVariants as answer
use Rattle.debug_texts.proofs.Meant.{meant_text, moved_text, shown_at, with_events}
use Rattle.debug_texts.proofs.answer_texts.write_answer.Goals as goal

pub returns-in-Here-clause-said : goal.returns-in-Here-clause-said
returns-in-Here-clause-said g c s at d meant st same are means =
    meant_text s d _ answer.Here meant model.Here _ _ _ _ c.in-Here.is means (λ m. m)
    (moved_text (λ events. text s model.Here (with_events at events)) at.events d.events _ _ _ _ same (c.write_here.ensures.said s at st))

pub returns-in-HistoryEnd-clause-said : goal.returns-in-HistoryEnd-clause-said
returns-in-HistoryEnd-clause-said g c s at d meant st same are means =
    meant_text s d _ answer.HistoryEnd meant model.HistoryEnd _ _ _ _ c.in-HistoryEnd.is means (λ m. m)
    (moved_text (λ events. text s model.HistoryEnd (with_events at events)) at.events d.events _ _ _ _ same (c.write_here-in-HistoryEnd.ensures.said s at st))

pub returns-in-StepLimit-clause-said : goal.returns-in-StepLimit-clause-said
returns-in-StepLimit-clause-said g c s at d meant st same are means =
    meant_text s d _ answer.StepLimit meant model.StepLimit _ _ _ _ c.in-StepLimit.is means (λ m. m)
    (moved_text (λ events. text s model.StepLimit (with_events at events)) at.events d.events _ _ _ _ same (c.write_here-in-StepLimit.ensures.said s at st))

pub returns-in-UndoneStep-clause-said : goal.returns-in-UndoneStep-clause-said
returns-in-UndoneStep-clause-said g c s at d meant st same are means =
    meant_text s d _ answer.UndoneStep meant model.UndoneStep _ _ _ _ c.in-UndoneStep.is means (λ m. m)
    (moved_text (λ events. text s model.UndoneStep (with_events at events)) at.events d.events _ _ _ _ same (c.write_here-in-UndoneStep.ensures.said s at st))

pub returns-in-UndonePoke-clause-said : goal.returns-in-UndonePoke-clause-said
returns-in-UndonePoke-clause-said g c s at d meant st same are means =
    meant_text s d _ answer.UndonePoke meant model.UndonePoke _ _ _ _ c.in-UndonePoke.is means (λ m. m)
    (moved_text (λ events. text s model.UndonePoke (with_events at events)) at.events d.events _ _ _ _ same (c.write_here-in-UndonePoke.ensures.said s at st))

pub returns-in-AtBreakpoint-clause-said : goal.returns-in-AtBreakpoint-clause-said
returns-in-AtBreakpoint-clause-said g c s at d meant st same are means =
    meant_text s d _ (answer.AtBreakpoint c.in-AtBreakpoint.number) meant (model.AtBreakpoint c.in-AtBreakpoint.number) _ _ _ _ c.in-AtBreakpoint.is means (λ m. m)
    (moved_text (λ events. text s (model.AtBreakpoint c.in-AtBreakpoint.number) (with_events at events)) at.events d.events _ _ _ _ same (c.write_at.ensures.said s at st))

pub returns-in-AtWatch-clause-said : goal.returns-in-AtWatch-clause-said
returns-in-AtWatch-clause-said g c s at d meant st same are means =
    meant_text s d _ (answer.AtWatch c.in-AtWatch.number) meant (model.AtWatch c.in-AtWatch.number) _ _ _ _ c.in-AtWatch.is means (λ m. m)
    (moved_text (λ events. text s (model.AtWatch c.in-AtWatch.number) (with_events at events)) at.events d.events _ _ _ _ same (c.write_at-in-AtWatch.ensures.said s at st))

pub returns-in-AtFault-clause-said : goal.returns-in-AtFault-clause-said
returns-in-AtFault-clause-said g c s at d meant st same are means =
    meant_text s d _ (answer.AtFault c.in-AtFault.fault) meant (model.AtFault (fault_view c.in-AtFault.fault)) _ _ _ _ c.in-AtFault.is means (λ m. m)
    (moved_text (λ events. text s (model.AtFault (fault_view c.in-AtFault.fault)) (with_events at events)) at.events d.events _ _ _ _ same (c.write_fault.ensures.said s at st))

pub returns-in-BreaksAt-clause-said : goal.returns-in-BreaksAt-clause-said
returns-in-BreaksAt-clause-said g c s at d meant st same are means =
    meant_text s d _ (answer.BreaksAt c.in-BreaksAt.number c.in-BreaksAt.line) meant (model.BreaksAt c.in-BreaksAt.number c.in-BreaksAt.line) _ _ _ _ c.in-BreaksAt.is means (λ m. m) (c.write_breaks_at.ensures.said s d)

pub returns-in-Watches-clause-said : goal.returns-in-Watches-clause-said
returns-in-Watches-clause-said g c s at d meant st same are means =
    meant_text s d _ (answer.Watches c.in-Watches.number c.in-Watches.target) meant (model.Watches c.in-Watches.number (target_view c.in-Watches.target)) _ _ _ _ c.in-Watches.is means (λ m. m) (c.write_watches.ensures.said s d)

pub returns-in-Deleted-clause-said : goal.returns-in-Deleted-clause-said
returns-in-Deleted-clause-said g c s at d meant st same are means =
    meant_text s d _ (answer.Deleted c.in-Deleted.number) meant (model.Deleted c.in-Deleted.number) _ _ _ _ c.in-Deleted.is means (λ m. m) (c.write_deleted.ensures.said s d)

pub returns-in-ListsLocals-clause-said : goal.returns-in-ListsLocals-clause-said
returns-in-ListsLocals-clause-said g c s at d meant st same are means =
    meant_text s d _ answer.ListsLocals meant model.ListsLocals _ _ _ _ c.in-ListsLocals.is means (λ m. m)
    (moved_text (λ events. text s model.ListsLocals (with_events at events)) at.events d.events _ _ _ _ same (c.write_locals.ensures.said s at st))

pub returns-in-ListsFrames-clause-said : goal.returns-in-ListsFrames-clause-said
returns-in-ListsFrames-clause-said g c s at d meant st same are means =
    meant_text s d _ answer.ListsFrames meant model.ListsFrames _ _ _ _ c.in-ListsFrames.is means (λ m. m)
    (moved_text (λ events. text s model.ListsFrames (with_events at events)) at.events d.events _ _ _ _ same (c.write_frames.ensures.said s at st))

pub returns-in-ListsStops-clause-said : goal.returns-in-ListsStops-clause-said
returns-in-ListsStops-clause-said g c s at d meant st same are means =
    meant_text s d _ answer.ListsStops meant model.ListsStops _ _ _ _ c.in-ListsStops.is means (λ m. m) (c.write_stops.ensures.said s at d.stops st are)

pub returns-in-Shows-clause-said : goal.returns-in-Shows-clause-said
returns-in-Shows-clause-said g c s at d meant st same are means =
    let target = c.in-Shows.target in
    let (v, only, is, inside) = subst (λ a. Means s d a meant) c.in-Shows.is means in
    let says = c.write_shown.ensures.said s at v st (shown_at s at d v c.in-Shows.shown same is) inside in
    subst (λ a. Writes (text s a d) (g.O.AnswerWriter.written c.args.writer.now) (g.O.AnswerWriter.written c.write_shown.new.writer) (g.O.AnswerWriter.has_failed c.write_shown.new.writer) c.write_shown.result) (sym only)
    (moved_text (λ events. shown_line (now s (with_events at events)) (target_view target) v) at.events d.events _ _ _ _ same says)

pub returns-in-KeepsHistory-clause-said : goal.returns-in-KeepsHistory-clause-said
returns-in-KeepsHistory-clause-said g c s at d meant st same are means =
    meant_text s d _ (answer.KeepsHistory c.in-KeepsHistory.limit) meant (model.KeepsHistory c.in-KeepsHistory.limit) _ _ _ _ c.in-KeepsHistory.is means (λ m. m) (c.write_history.ensures.said s d)
