use Rattle.std.proofs.Common.{◌≡◌, sym, subst, ap, ◌∙◌, refl, Some, None, true, false, Bool, Option, ℕ}
use Rattle.gang_types.specs.declared.types.Rate.{Rate}
use Rattle.gang_model.specs.Debugger.Debugger.{Watch, Watches, add_stop, bad_part, global_named}
use Rattle.debug_commands.specs.Views.{target_view}
use Rattle.debug_answers.specs.declared.stops.Stop.TheVariants as stop
use Rattle.debug_answers.specs.Meanings.{IsWatch}
use Rattle.debug_traits.specs.Machines.{ShowsNamed, file_variables}
use Rattle.debug_session.specs.Moves.{refusal_option}
use Rattle.debug_session.specs.Sessions.{bare}
use Rattle.debug_session.proofs.Listing.{listed_added, listed_full, listed_so, with_part}
use Rattle.gang_model.proofs.SameTexts.{named_so}
use Rattle.debug_session.proofs.stopping.set_watch.Goals as goal

-- a whole variable that can be had is a scalar
scalar_part : (at : Option ℕ) (is_array : Bool) (rate : Rate) (count : ℕ) → bad_part false at is_array rate count ≡ None → at ≡ None → is_array ≡ false
scalar_part None true rate count fine none = cc fine
scalar_part None false rate count fine none = refl
scalar_part (Some k) is_array rate count fine none = cc none

pub returns-in-None-clause-replied : goal.returns-in-None-clause-replied
returns-in-None-clause-replied g c s d st are next =
    let target = target_view c.args.target in
    let (v, named, is) = c.in-Some.ensures s (bare d) st in
    let shown = (subst (λ o. ShowsNamed s (bare d) o (Some c.in-Some-file_variable.named)) is (c.in-Some-file_variable.ensures.shown s (bare d) st)).1 in
    let fine = sym c.part_refusal.ensures.refused ∙ ap refusal_option c.in_default-part_refusal.is in
    listed_so s d _ _ _ _ (with_part s d false target v c.in-Some-file_variable.named.shown shown (global_named s.program target.name) (λ v. add_stop (Watch target v) (λ n. Watches n target) d) named fine)
    (listed_full s d c.args.stops.now c.add.new.self (stop.Watch c.in-Some.variable c.args.target.at) (Watch target v) (λ n. Watches n target) are next c.add.ensures.table (sym c.add.ensures.number ∙ c.in-None.is))

pub returns-in-Some-add-clause-replied : goal.returns-in-Some-add-clause-replied
returns-in-Some-add-clause-replied g c s d st are next =
    let target = target_view c.args.target in
    let (v, named, is) = c.in-Some.ensures s (bare d) st in
    let shown = (subst (λ o. ShowsNamed s (bare d) o (Some c.in-Some-file_variable.named)) is (c.in-Some-file_variable.ensures.shown s (bare d) st)).1 in
    let fine = sym c.part_refusal.ensures.refused ∙ ap refusal_option c.in_default-part_refusal.is in
    let watch : IsWatch s c.in-Some.variable c.args.target.at target v = record {
      is_file = is;
      name = named_so target.name (file_variables s) v named;
      part = refl;
      is_scalar = λ none. shown.is_array ∙ scalar_part c.args.target.at c.in-Some-file_variable.named.shown.is_array _ _ fine none;
    } in
    listed_so s d _ _ _ _ (with_part s d false target v c.in-Some-file_variable.named.shown shown (global_named s.program target.name) (λ v. add_stop (Watch target v) (λ n. Watches n target) d) named fine)
    (listed_added s d c.args.stops.now c.add.new.self (stop.Watch c.in-Some.variable c.args.target.at) (Watch target v) (λ n. Watches n target) are next c.add.ensures.table
    c.in-Some-add.number _ (sym c.add.ensures.number ∙ c.in-Some-add.is) watch (λ e. ap (λ n. Watches n target) (sym e)))
