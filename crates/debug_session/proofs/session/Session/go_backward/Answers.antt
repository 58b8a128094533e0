use Rattle.std.proofs.Common.{refl, sym, ap, ◌∙◌}
use Rattle.debug_session.specs.Goals.{goal_view}
use Rattle.debug_session.specs.Moves.{refusal_option}
use Rattle.debug_session.proofs.Replies.{backward_done, backward_refused, replied_done, steps_kept}
use Rattle.debug_session.proofs.session.Session.go_backward.Goals as goal

pub returns-in-Some-clause-replied : goal.returns-in-Some-clause-replied
returns-in-Some-clause-replied g c s d st =
    let refusal = sym (c.backward_refusal.ensures.refusal s d st.there) ∙ ap refusal_option c.in-Some.is in
    replied_done g.M.RecordedMachine.stands s d c.args.self.now c.args.self.now st refl _ _ _ refl
    (backward_refused s d c.args.needs_frame (goal_view c.args.goal) _ refusal)
    (record { follows = record { there = st.there; stops = refl; next = refl }; means = refl })

pub returns-in-None-clause-replied : goal.returns-in-None-clause-replied
returns-in-None-clause-replied g c s d st =
    let none = sym (c.backward_refusal.ensures.refusal s d st.there) ∙ ap refusal_option c.in-None.is in
    replied_done g.M.RecordedMachine.stands s d c.args.self.now _ st refl _ _ _ refl
    (backward_done s d c.args.needs_frame (goal_view c.args.goal) none)
    (c.move_backward.ensures.replied s d st.there st.stops (steps_kept s d c.args.needs_frame none))
