use Rattle.std.proofs.Common.{◌≡◌, sym, subst, ap, ◌∙◌, refl}
use Rattle.std.proofs.lemmas.Int.{to_z-of_z}
use mir.Syntax.{w128}
use Rattle.gang_types.specs.Values.{wrapped}
use Rattle.gang_model.specs.Debugger.Events.{InFrame, Poke}
use Rattle.gang_model.specs.Debugger.Debugger.{DoSetIn, NoSuchName, Silent, do_set_in, moved, poked_by, reply, unless_refused}
use Rattle.debug_answers.specs.declared.answer.Answer.TheVariants as answer
use Rattle.debug_answers.specs.Meanings.{refusal_view}
use Rattle.debug_commands.specs.Views.{target_view}
use Rattle.debug_session.specs.Moves.{Done, refusal_option, set_refusal}
use Rattle.debug_session.specs.Sessions.{bare}
use Rattle.debug_session.proofs.Histories.{finds_no_room}
use Rattle.debug_session.proofs.Listing.{not_set_in, part_of, set_in_nowhere, set_in_or_not}
use Rattle.debug_session.proofs.Replies.{done_refused, done_surely}
use Rattle.debug_session.proofs.framed.set_in.Goals as goal

pub returns-in-Ok-clause-replied : goal.returns-in-Ok-clause-replied
returns-in-Ok-clause-replied g c s d st =
    let deep = c.args.depth in
    let target = target_view c.args.target in
    let z = c.args.number in
    let shown = c.in-Some.shown in
    let (v, named, is) = c.in-Some.ensures s (bare d) st in
    let number = to_z-of_z w128 z c.ranges.number in
    let none = ap (set_refusal target.at shown) (sym number) ∙ sym c.set_refusal.ensures.refused ∙ ap refusal_option c.in_default-set_refusal.is in
    let word : c.wrap.result ≡ wrapped v.type z = c.wrap.ensures.value ∙ ap (wrapped shown.value_type) number ∙ ap (λ t. wrapped t z) (sym is.type) in
    let reply_is : do_set_in s deep target z d ≡ reply Silent (moved (Poke (InFrame deep (poked_by v target.at)) c.wrap.result) d) =
    set_in_or_not s d deep target z v shown is named
    ∙ ap (λ r. unless_refused r d (λ e. reply Silent (moved (Poke (InFrame deep (poked_by v target.at)) (wrapped v.type z)) d))) none
    ∙ ap (λ w. reply Silent (moved (Poke (InFrame deep (poked_by v target.at)) w) d)) (sym word) in
    let there = c.in-Ok.ensures.poke s (bare d) v st is (part_of target.at shown z none) in
    done_surely g.M.RecordedMachine.may_want g.M.RecordedMachine.stands s d (DoSetIn deep target z) answer.Silent c.poke_at.new.self
    (subst (λ r. Done g.M.RecordedMachine.stands s d r answer.Silent c.poke_at.new.self) (sym reply_is)
    (record { follows = record { there = there; stops = refl; next = refl }; means = refl }))

pub returns-in-Err-clause-replied : goal.returns-in-Err-clause-replied
returns-in-Err-clause-replied g c s d st =
    let (v, named, is) = c.in-Some.ensures s (bare d) st in
    let none = ap (set_refusal c.args.target.at c.in-Some.shown) (sym (to_z-of_z w128 c.args.number c.ranges.number)) ∙ sym c.set_refusal.ensures.refused
    ∙ ap refusal_option c.in_default-set_refusal.is in
    let there = c.in-Err.ensures.poke s (bare d) v st is (part_of c.args.target.at c.in-Some.shown c.args.number none) in
    finds_no_room g.M.RecordedMachine.may_want g.M.RecordedMachine.stands s d c.poke_at.new.self (DoSetIn c.args.depth (target_view c.args.target) c.args.number) (record {})
    (c.in-Err.ensures.memory refl) there

pub returns-in_default-clause-replied : goal.returns-in_default-clause-replied
returns-in_default-clause-replied g c s d st =
    let target = target_view c.args.target in
    done_refused g.M.RecordedMachine.may_want g.M.RecordedMachine.stands s d (DoSetIn c.args.depth target c.args.number) _ c.args.machine.now st NoSuchName refl
    (set_in_nowhere s d target c.args.number c.args.depth (c.in_default.ensures s (bare d) st))

pub returns-in-Some-set_refusal-clause-replied : goal.returns-in-Some-set_refusal-clause-replied
returns-in-Some-set_refusal-clause-replied g c s d st =
    let target = target_view c.args.target in
    let (v, named, is) = c.in-Some.ensures s (bare d) st in
    let why = ap (set_refusal target.at c.in-Some.shown) (sym (to_z-of_z w128 c.args.number c.ranges.number)) ∙ sym c.set_refusal.ensures.refused
    ∙ ap refusal_option c.in-Some-set_refusal.is in
    done_refused g.M.RecordedMachine.may_want g.M.RecordedMachine.stands s d (DoSetIn c.args.depth target c.args.number) _ c.args.machine.now st (refusal_view c.in-Some-set_refusal.refusal) refl
    (not_set_in s d target c.args.number v c.in-Some.shown (refusal_view c.in-Some-set_refusal.refusal) why c.args.depth is named)
