use Rattle.std.proofs.Common.{◌++◌, sym, ap, subst, ◌∙◌, arith, append-nil}
use Rattle.gang_model.specs.Debugger.Debugger.{now}
use Rattle.debug_answers.specs.Meanings.{AreStops}
use Rattle.debug_session.specs.Moves.{noted, watch_words}
use Rattle.debug_session.proofs.Turns.{turn, turns_end}
use Rattle.debug_session.proofs.Watches.{noted_more, watch_turn, words_of_line, words_of_watch}
use Rattle.debug_session.proofs.watching.note_words.Goals.{in-Watch, in_default}
use Rattle.debug_session.proofs.watching.note_words.Goals as goal

pub loop-entry-preserved : goal.loop-entry-preserved
loop-entry-preserved g c = elim c.match-entry.branch [
  | in-Watch w ↦ record {
    few = rw w.before-is (omega (arith, w.push.ensures.len, c.loop-entry.invariant.few));
    words = λ s d meant st are.
        let (rest, here, same) = c.loop-entry.invariant.words s d meant st are in
        let t = turn s c.as_slice-entry-items.result.now c.loop-entry.entry-index _ rest c.loop-entry-test.true here in
        let found = watch_turn s _ _ rest w.in-Watch.variable w.in-Watch.at t w.in-Watch.is in
        let shows = w.watched_words.ensures s d found.target found.v st found.watch in (
          t.rest,
          t.others,
          ap (λ before. noted before.items ++ watch_words (now s d) t.rest) w.before-is
              ∙ ap (λ items. noted items ++ watch_words (now s d) t.rest) w.push.ensures.items
              ∙ noted_more c.loop-entry.before.items w.watched_words.result _ (watch_words (now s d) t.rest) shows
              ∙ sym (ap (λ xs. noted c.loop-entry.before.items ++ xs) (words_of_watch s _ _ rest t (now s d) found.target found.v found.is)) ∙ same,
        );
  }
  | in_default w ↦ record {
    few = rw w.before-is (omega (arith, c.loop-entry.invariant.few));
    words = λ s d meant st are.
        let (rest, here, same) = c.loop-entry.invariant.words s d meant st are in
        let t = turn s c.as_slice-entry-items.result.now c.loop-entry.entry-index _ rest c.loop-entry-test.true here in (
          t.rest,
          t.others,
          ap (λ before. noted before.items ++ watch_words (now s d) t.rest) w.before-is
              ∙ sym (ap (λ xs. noted c.loop-entry.before.items ++ xs) (words_of_line s _ _ rest t (now s d) w.in_default.not-Watch)) ∙ same,
        );
  }
]

pub returns : goal.returns
returns g c s d meant st are =
    let (rest, here, same) = c.loop-entry.invariant.words s d meant st (subst (λ items. AreStops s items meant) (sym c.as_slice-entry-items.ensures.value) are) in
    let none = turns_end s c.as_slice-entry-items.result.now c.loop-entry.entry-index rest c.loop-entry-test.false here in
    sym (append-nil (noted c.loop-entry.before.items)) ∙ sym (ap (λ rest. noted c.loop-entry.before.items ++ watch_words (now s d) rest) none) ∙ same
