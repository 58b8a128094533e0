use Rattle.std.proofs.Common.{◌≡◌, sym, subst, ap, ◌∙◌, refl}
use Rattle.std.proofs.lemmas.Int.{to_z-of_z}
use mir.Syntax.{w128}
use Rattle.gang_types.specs.Values.{wrapped}
use Rattle.gang_model.specs.Debugger.Events.{Poke}
use Rattle.gang_model.specs.Debugger.Debugger.{DoSet, NoSuchName, Shows, do_set, moved, poked_by, reply, unless_refused}
use Rattle.debug_answers.specs.declared.answer.Answer.TheVariants as answer
use Rattle.debug_answers.specs.Meanings.{refusal_view}
use Rattle.debug_commands.specs.Views.{target_view}
use Rattle.debug_session.specs.Moves.{Done, refusal_option, set_refusal}
use Rattle.debug_session.specs.Sessions.{bare}
use Rattle.debug_session.proofs.Bare.{of_bare}
use Rattle.debug_session.proofs.Histories.{finds_no_room}
use Rattle.debug_session.proofs.Listing.{not_set, part_of, set_nowhere, set_or_not}
use Rattle.debug_session.proofs.Replies.{done_refused, done_surely}
use Rattle.debug_session.proofs.changing.set.Goals as goal

pub returns-in-Ok-clause-replied : goal.returns-in-Ok-clause-replied
returns-in-Ok-clause-replied g c s d st =
    let target = target_view c.args.target in
    let z = c.args.number in
    let shown = c.in-Some.shown in
    let (v, named, is) = c.in-Some.ensures s (bare d) st in
    let number = to_z-of_z w128 z c.ranges.number in
    let none = ap (set_refusal target.at shown) (sym number) ∙ sym c.set_refusal.ensures.refused ∙ ap refusal_option c.in_default-set_refusal.is in
    let word : c.wrap.result ≡ wrapped v.type z = c.wrap.ensures.value ∙ ap (wrapped shown.value_type) number ∙ ap (λ t. wrapped t z) (sym is.type) in
    let reply_is : do_set s target z d ≡ reply (Shows target v) (moved (Poke (poked_by v target.at) c.wrap.result) d) =
    set_or_not s d target z v shown is named
    ∙ ap (λ r. unless_refused r d (λ e. reply (Shows target v) (moved (Poke (poked_by v target.at) (wrapped v.type z)) d))) none
    ∙ ap (λ w. reply (Shows target v) (moved (Poke (poked_by v target.at) w) d)) (sym word) in
    let (there, still) = c.in-Ok.ensures.poke s (bare d) v st is (part_of target.at shown z none) in
    done_surely g.M.RecordedMachine.may_want g.M.RecordedMachine.stands s d (DoSet target z) (answer.Shows c.args.target shown) c.poke.new.self
    (subst (λ r. Done g.M.RecordedMachine.stands s d r (answer.Shows c.args.target shown) c.poke.new.self) (sym reply_is)
    (record {
      follows = record { there = there; stops = refl; next = refl };
      means = (v, refl, of_bare s (moved (Poke (poked_by v target.at) c.wrap.result) d) v shown still, c.set_refusal.ensures.inside c.in_default-set_refusal.is);
    }))

pub returns-in-Err-clause-replied : goal.returns-in-Err-clause-replied
returns-in-Err-clause-replied g c s d st =
    let (v, named, is) = c.in-Some.ensures s (bare d) st in
    let none = ap (set_refusal c.args.target.at c.in-Some.shown) (sym (to_z-of_z w128 c.args.number c.ranges.number)) ∙ sym c.set_refusal.ensures.refused
    ∙ ap refusal_option c.in_default-set_refusal.is in
    let there = c.in-Err.ensures.poke s (bare d) v st is (part_of c.args.target.at c.in-Some.shown c.args.number none) in
    finds_no_room g.M.RecordedMachine.may_want g.M.RecordedMachine.stands s d c.poke.new.self (DoSet (target_view c.args.target) c.args.number) (record {}) (c.in-Err.ensures.memory refl) there

pub returns-in_default-clause-replied : goal.returns-in_default-clause-replied
returns-in_default-clause-replied g c s d st =
    let target = target_view c.args.target in
    done_refused g.M.RecordedMachine.may_want g.M.RecordedMachine.stands s d (DoSet target c.args.number) _ c.args.machine.now st NoSuchName refl
    (set_nowhere s d target c.args.number (c.in_default.ensures s (bare d) st))

pub returns-in-Some-set_refusal-clause-replied : goal.returns-in-Some-set_refusal-clause-replied
returns-in-Some-set_refusal-clause-replied g c s d st =
    let target = target_view c.args.target in
    let (v, named, is) = c.in-Some.ensures s (bare d) st in
    let why = ap (set_refusal target.at c.in-Some.shown) (sym (to_z-of_z w128 c.args.number c.ranges.number)) ∙ sym c.set_refusal.ensures.refused
    ∙ ap refusal_option c.in-Some-set_refusal.is in
    done_refused g.M.RecordedMachine.may_want g.M.RecordedMachine.stands s d (DoSet target c.args.number) _ c.args.machine.now st (refusal_view c.in-Some-set_refusal.refusal) refl
    (not_set s d target c.args.number v c.in-Some.shown (refusal_view c.in-Some-set_refusal.refusal) why is named)
