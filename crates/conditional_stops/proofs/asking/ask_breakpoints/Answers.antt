use Rattle.std.proofs.Common.{◌≡◌, sym, subst, ap, ◌∙◌}
use Rattle.gang_model.specs.Debugger.Debugger.{now, on_line}
use Rattle.gang_model.specs.Debugger.Positions.{line_now}
use Rattle.debug_answers.specs.Meanings.{AreStops}
use Rattle.debug_session.specs.Sessions.{bare}
use Rattle.debug_session.proofs.Turns.{turn}
use Rattle.conditional_stops.specs.declared.reasons.Reason.TheVariants as reason
use Rattle.conditional_stops.specs.Views.{table_of}
use Rattle.conditional_stops.proofs.Asked.{all_asked, asked_as, none_asked, one_asked, one_left}
use Rattle.conditional_stops.proofs.asking.ask_breakpoints.Goals.{then-is_on_line, else-is_on_line}
use Rattle.conditional_stops.proofs.asking.ask_breakpoints.Goals as goal

pub loop-entry-init : goal.loop-entry-init
loop-entry-init g c s d st =
    none_asked reason.Breakpoint (on_line (line_now s.program (now s d))) s d d.stops (table_of c.args.conditions.now) c.stops-entry-items.result.now
    (subst (λ items. AreStops s items d.stops) (sym c.stops-entry-items.ensures) st.stops)

pub loop-entry-preserved : goal.loop-entry-preserved
loop-entry-preserved g c s d st =
    let test = on_line (line_now s.program (now s d)) in
    let table = table_of c.args.conditions.now in
    let so = c.loop-entry.invariant s d st in
    let t = turn s c.stops-entry-items.result.now c.loop-entry.entry-index _ so.rest c.loop-entry-test.true so.are in
    let there = subst (λ m. g.M.RecordedMachine.stands m s (bare d)) (sym c.machine.ensures) st.there in
    let here : test t.entry.1 ≡ c.is_on_line.result = ap (λ line. on_line line t.entry.1) (c.line_of-line.ensures s (bare d) there) ∙ c.is_on_line.ensures s t.entry.1 t.stop in
    elim c.if-is_on_line.branch [
      | then-is_on_line w ↦
          let stands = subst (λ m. g.M.RecordedMachine.stands m s (bare d)) (sym w.machine-then-is_on_line.ensures) st.there in
          asked_as reason.Breakpoint test s d d.stops table _ _ _ _ _ (w.first-is ∙ w.first_of-first.ensures) (ap table_of w.conditions-is)
          (one_asked reason.Breakpoint test s d d.stops table _ _ _ c.loop-entry.first w.ask.result (table_of c.loop-entry.conditions) (table_of w.ask.new.conditions) so t
          (here ∙ w.if-is_on_line.true) (w.ask.ensures s d stands))
      | else-is_on_line w ↦
          asked_as reason.Breakpoint test s d d.stops table _ _ _ _ _ w.first-is (ap table_of w.conditions-is)
          (one_left reason.Breakpoint test s d d.stops table _ _ _ c.loop-entry.first (table_of c.loop-entry.conditions) so t (here ∙ w.if-is_on_line.false))
    ]

pub returns : goal.returns
returns g c s d st =
    all_asked reason.Breakpoint (on_line (line_now s.program (now s d))) s d d.stops (table_of c.args.conditions.now) c.stops-entry-items.result.now c.loop-entry.entry-index c.loop-entry.first (table_of c.loop-entry.conditions)
    c.loop-entry-test.false (c.loop-entry.invariant s d st)
