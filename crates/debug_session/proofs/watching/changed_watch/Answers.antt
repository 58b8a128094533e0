use Rattle.std.proofs.Common.{sym, ap, subst, ◌∙◌, arith, drop, true, false}
use Rattle.gang_model.specs.Source.Names.{same_text}
use Rattle.gang_model.specs.Debugger.Debugger.{now, target_words}
use Rattle.debug_answers.specs.Meanings.{AreStops}
use Rattle.debug_session.specs.Moves.{noted, watch_words}
use Rattle.debug_session.proofs.Turns.{turn}
use Rattle.debug_session.proofs.Watches.{noted_on, test_of_line, test_of_watch, watch_turn, words_of_line, words_of_watch}
use Rattle.debug_session.proofs.watching.changed_watch.Goals.{in-Watch+else-not-shows, in_default}
use Rattle.debug_session.proofs.watching.changed_watch.Goals as goal

pub loop-entry-preserved : goal.loop-entry-preserved
loop-entry-preserved g c = elim c.match-entry.branch [
  | in-Watch+else-not-shows w ↦ record {
    few = omega (arith, w.next-is, c.loop-entry.invariant.few);
    same = λ s d old meant st are first.
        let (rest, here, same, words) = c.loop-entry.invariant.same s d old meant st are first in
        let t = turn s c.as_slice-entry-items.result.now c.loop-entry.entry-index _ rest c.loop-entry-test.true here in
        let found = watch_turn s _ _ rest w.in-Watch.variable w.in-Watch.at t w.in-Watch.is in
        let before = words ∙ words_of_watch s _ _ rest t old found.target found.v found.is in
        let told = w.shows.ensures s d found.target found.v st found.watch
        ∙ ap (λ words. same_text words (target_words (now s d) found.target found.v)) (w.noted_at.ensures (target_words old found.target found.v) (watch_words old t.rest) before) in (
          t.rest,
          t.others,
          same ∙ test_of_watch s _ _ rest t old (now s d) found.target found.v true found.is (sym told ∙ w.if-not-shows.false),
          ap (λ k. drop k (noted c.args.before.now.items)) w.next-is ∙ noted_on (noted c.args.before.now.items) c.loop-entry.next _ _ before,
        );
  }
  | in_default w ↦ record {
    few = omega (arith, w.next-is, c.loop-entry.invariant.few);
    same = λ s d old meant st are first.
        let (rest, here, same, words) = c.loop-entry.invariant.same s d old meant st are first in
        let t = turn s c.as_slice-entry-items.result.now c.loop-entry.entry-index _ rest c.loop-entry-test.true here in (
          t.rest,
          t.others,
          same ∙ test_of_line s _ _ rest t old (now s d) w.in_default.not-Watch,
          ap (λ k. drop k (noted c.args.before.now.items)) w.next-is ∙ words ∙ words_of_line s _ _ rest t old w.in_default.not-Watch,
        );
  }
]

pub returns-then-not-shows : goal.returns-then-not-shows
returns-then-not-shows g c s d old meant st are first =
    let (rest, here, same, words) = c.loop-entry.invariant.same s d old meant st (subst (λ items. AreStops s items meant) (sym c.as_slice-entry-items.ensures.value) are) first in
    let t = turn s c.as_slice-entry-items.result.now c.loop-entry.entry-index _ rest c.loop-entry-test.true here in
    let found = watch_turn s _ _ rest c.in-Watch.variable c.in-Watch.at t c.in-Watch.is in
    let before = words ∙ words_of_watch s _ _ rest t old found.target found.v found.is in
    let told = c.shows.ensures s d found.target found.v st found.watch
    ∙ ap (λ words. same_text words (target_words (now s d) found.target found.v)) (c.noted_at.ensures (target_words old found.target found.v) (watch_words old t.rest) before) in
    sym (same ∙ test_of_watch s _ _ rest t old (now s d) found.target found.v false found.is (sym told ∙ c.if-not-shows.true))
