use Rattle.std.proofs.Common.{◌∙◌, sym, ap, subst, take, Ok, Err}
use Rattle.gang_model.specs.Running.Value.{value}
use Rattle.gang_model.specs.Debugger.Debugger.{now}
use Rattle.debug_traits.specs.Frames.{state_at}
use Rattle.typed_tree.specs.Views.{expr_view}
use Rattle.expression_runs.specs.Correct.{Computes}
use Rattle.frame_expressions.specs.Lanes.{IsValue, lanes_at}
use Rattle.element_touches.specs.Counted.{with_touch}
use Rattle.element_touches.specs.Touches.{touched}
use Rattle.element_accesses.specs.Touched.{with_value}
use Rattle.element_accesses.proofs.accesses.Access.note.Goals as goal

pub returns-in-Ok-clause-few : goal.returns-in-Ok-clause-few
returns-in-Ok-clause-few g c most few = c.and_touch-self.ensures.few most few c.as_slice.ensures.fits

pub returns-in-Ok-clause-tried : goal.returns-in-Ok-clause-tried
returns-in-Ok-clause-tried g c s d spot written type rate there at means few =
    let tried = c.args.self.now.tried in
    let found = c.in-Ok.found in
    let lanes = lanes_at c.args.depth (now s d) in
    let meant = value (expr_view means.tree) lanes (state_at c.args.depth (now s d)) in
    let computes = subst (Computes means.tree) (sym c.deref.ensures.value) means.computes in
    let told = c.evaluate.ensures s d spot written type rate there at (record { tree = means.tree; is_sound = means.is_sound; computes = computes; room = means.room }) in
    let is : IsValue (Ok found) lanes meant = subst (λ r. IsValue r lanes meant) c.in-Ok.is told in
    c.and_touch-self.ensures.value few c.as_slice.ensures.fits
    ∙ ap (with_touch tried) (c.as_slice.ensures.value ∙ c.touched-elements.ensures is.0.gang)
    ∙ ap (λ ls. with_touch tried (touched ls (take found.width found.words))) is.0.lanes_are
    ∙ ap (λ r. with_value lanes r tried) (sym is.1)

pub returns-in_default-clause-tried : goal.returns-in_default-clause-tried
returns-in_default-clause-tried g c s d spot written type rate there at means few =
    let tried = c.args.self.now.tried in
    let lanes = lanes_at c.args.depth (now s d) in
    let meant = value (expr_view means.tree) lanes (state_at c.args.depth (now s d)) in
    let computes = subst (Computes means.tree) (sym c.deref.ensures.value) means.computes in
    let told = c.evaluate.ensures s d spot written type rate there at (record { tree = means.tree; is_sound = means.is_sound; computes = computes; room = means.room }) in
    let is : IsValue (Err c.in_default.field-0) lanes meant = subst (λ r. IsValue r lanes meant) c.in_default.is told in
    sym (ap (λ r. with_value lanes r tried) is)
