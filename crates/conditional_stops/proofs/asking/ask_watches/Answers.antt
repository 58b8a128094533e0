use Rattle.std.proofs.Common.{◌≡◌, sym, subst, ap, ◌∙◌, arith, drop}
use Rattle.std.specs.Prelude.{not}
use Rattle.gang_model.specs.Source.Names.{same_text}
use Rattle.gang_model.specs.Debugger.Debugger.{differs, now, target_words}
use Rattle.debug_answers.specs.Meanings.{AreStops}
use Rattle.debug_session.specs.Moves.{noted, watch_words}
use Rattle.debug_session.specs.Sessions.{bare}
use Rattle.debug_session.proofs.Turns.{turn}
use Rattle.debug_session.proofs.Watches.{noted_on, watch_turn, words_of_line, words_of_watch}
use Rattle.conditional_stops.specs.declared.reasons.Reason.TheVariants as reason
use Rattle.conditional_stops.specs.Views.{table_of}
use Rattle.conditional_stops.proofs.Asked.{all_asked, asked_as, no_watch_differs, none_asked, one_asked, one_left}
use Rattle.conditional_stops.proofs.asking.ask_watches.Goals.{in-Watch, then-not-shows, else-not-shows, in_default}
use Rattle.conditional_stops.proofs.asking.ask_watches.Goals as goal

pub loop-entry-init : goal.loop-entry-init
loop-entry-init g c = record {
  few = omega arith;
  asked = λ s began d st words. (
    none_asked reason.Watch (differs (now s began) (now s d)) s d d.stops (table_of c.args.conditions.now) c.stops-entry-items.result.now
        (subst (λ items. AreStops s items d.stops) (sym c.stops-entry-items.ensures) st.stops),
    words,
  );
}

pub loop-entry-preserved : goal.loop-entry-preserved
loop-entry-preserved g c = elim c.match-entry.branch [
  | in-Watch w ↦ record {
    few = omega (arith, w.next-is, c.loop-entry.invariant.few);
    asked = λ s began d st first.
        let test = differs (now s began) (now s d) in
        let table = table_of c.args.conditions.now in
        let (so, words) = c.loop-entry.invariant.asked s began d st first in
        let t = turn s c.stops-entry-items.result.now c.loop-entry.entry-index _ so.rest c.loop-entry-test.true so.are in
        let found = watch_turn s _ _ so.rest w.in-Watch.variable w.in-Watch.at t w.in-Watch.is in
        let stands = subst (λ m. g.M.RecordedMachine.stands m s (bare d)) (sym w.machine.ensures) st.there in
        let before = words ∙ words_of_watch s _ _ so.rest t (now s began) found.target found.v found.is in
        let told = w.shows.ensures s d found.target found.v stands found.watch
        ∙ ap (λ words. same_text words (target_words (now s d) found.target found.v)) (w.noted_at.ensures (target_words (now s began) found.target found.v) (watch_words (now s began) t.rest) before) in
        let changed : test t.entry.1 ≡ not w.shows.result = ap test found.is ∙ ap not (sym told) in
        let rest_noted = ap (λ k. drop k (noted c.args.before.now.items)) w.next-is ∙ noted_on (noted c.args.before.now.items) c.loop-entry.next _ _ before in
        elim w.if-not-shows.branch [
          | then-not-shows v ↦
              let there = subst (λ m. g.M.RecordedMachine.stands m s (bare d)) (sym v.machine-then-not-shows.ensures) st.there in (
                asked_as reason.Watch test s d d.stops table _ _ _ _ _ (w.first-is ∙ v.first-is ∙ v.first_of-first.ensures) (ap table_of (w.conditions-is ∙ v.conditions-is))
                    (one_asked reason.Watch test s d d.stops table _ _ _ c.loop-entry.first v.ask.result (table_of c.loop-entry.conditions) (table_of v.ask.new.conditions) so t
                    (changed ∙ ap not v.if-not-shows.true) (v.ask.ensures s d there)),
                rest_noted,
              )
          | else-not-shows v ↦ (
            asked_as reason.Watch test s d d.stops table _ _ _ _ _ (w.first-is ∙ v.first-is) (ap table_of (w.conditions-is ∙ v.conditions-is))
                (one_left reason.Watch test s d d.stops table _ _ _ c.loop-entry.first (table_of c.loop-entry.conditions) so t (changed ∙ ap not v.if-not-shows.false)),
            rest_noted,
          )
        ];
  }
  | in_default w ↦ record {
    few = omega (arith, w.next-is, c.loop-entry.invariant.few);
    asked = λ s began d st first.
        let test = differs (now s began) (now s d) in
        let (so, words) = c.loop-entry.invariant.asked s began d st first in
        let t = turn s c.stops-entry-items.result.now c.loop-entry.entry-index _ so.rest c.loop-entry-test.true so.are in (
          asked_as reason.Watch test s d d.stops (table_of c.args.conditions.now) _ _ _ _ _ w.first-is (ap table_of w.conditions-is)
              (one_left reason.Watch test s d d.stops (table_of c.args.conditions.now) _ _ _ c.loop-entry.first (table_of c.loop-entry.conditions) so t
              (no_watch_differs s (now s began) (now s d) _ t.entry.1 w.in_default.not-Watch t.stop)),
          ap (λ k. drop k (noted c.args.before.now.items)) w.next-is ∙ words ∙ words_of_line s _ _ so.rest t (now s began) w.in_default.not-Watch,
        );
  }
]

pub returns : goal.returns
returns g c s began d st words =
    all_asked reason.Watch (differs (now s began) (now s d)) s d d.stops (table_of c.args.conditions.now) c.stops-entry-items.result.now c.loop-entry.entry-index c.loop-entry.first (table_of c.loop-entry.conditions)
    c.loop-entry-test.false (c.loop-entry.invariant.asked s began d (st) words).0
