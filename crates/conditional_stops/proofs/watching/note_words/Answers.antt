use Rattle.std.proofs.Common.{◌++◌, ◌∷◌, [], sym, ap, ◌∙◌}
use Rattle.std.specs.Prelude.{is_ok, if◌then◌else◌}
use Rattle.gang_model.specs.Debugger.Debugger.{now}
use Rattle.debug_session.specs.Moves.{noted, watch_words}
use Rattle.debug_session.proofs.Turns.{turn}
use Rattle.debug_session.proofs.Watches.{noted_more, watch_turn, words_of_line, words_of_watch}
use Rattle.conditional_stops.proofs.watching.note_words.Goals.{in-Watch+in_ok-push, in_default}
use Rattle.conditional_stops.proofs.watching.note_words.Goals as goal

pub loop-entry-preserved : goal.loop-entry-preserved
loop-entry-preserved g c = elim c.match-entry.branch [
  | in-Watch+in_ok-push w ↦ λ s d meant st are.
      let (rest, here, same) = c.loop-entry.invariant s d meant st are in
      let t = turn s c.args.stops.now c.loop-entry.entry-index _ rest c.loop-entry-test.true here in
      let found = watch_turn s _ _ rest w.in-Watch.variable w.in-Watch.at t w.in-Watch.is in
      let shows = w.watched_words.ensures s d found.target found.v st found.watch in
      let pushed = w.push.ensures.items ∙ ap (λ r. if is_ok r then c.loop-entry.before.items ++ w.watched_words.result ∷ [] else c.loop-entry.before.items) w.in_ok-push.was in (
        t.rest,
        t.others,
        ap (λ before. noted before.items ++ watch_words (now s d) t.rest) w.before-is
            ∙ ap (λ items. noted items ++ watch_words (now s d) t.rest) pushed
            ∙ noted_more c.loop-entry.before.items w.watched_words.result _ (watch_words (now s d) t.rest) shows
            ∙ sym (ap (λ xs. noted c.loop-entry.before.items ++ xs) (words_of_watch s _ _ rest t (now s d) found.target found.v found.is)) ∙ same,
      )
  | in_default w ↦ λ s d meant st are.
      let (rest, here, same) = c.loop-entry.invariant s d meant st are in
      let t = turn s c.args.stops.now c.loop-entry.entry-index _ rest c.loop-entry-test.true here in (
        t.rest,
        t.others,
        ap (λ before. noted before.items ++ watch_words (now s d) t.rest) w.before-is
            ∙ sym (ap (λ xs. noted c.loop-entry.before.items ++ xs) (words_of_line s _ _ rest t (now s d) w.in_default.not-Watch)) ∙ same,
      )
]
