use Rattle.std.specs.Prelude.{option_map}
use Rattle.std.proofs.Common.{◌∙◌, sym, ap, arith, take}
use Rattle.std.proofs.lemmas.List.{length-take, length-drop}
use Rattle.ispc_lexer.specs.Views.{lexemes_of}
use Rattle.ispc_lexer.specs.Steps.{step_view}
use Rattle.ispc_lexer.proofs.PlaceSteps.{place_bounds}
use Rattle.ispc_lexer.proofs.ReadLoop.{ends_nil, stops_here, goes_on, within, some_bytes, length_nil}
use Rattle.ispc_lexer.proofs.source.read.Goals as goal

pub returns-in_default : goal.returns-in_default
returns-in_default c =
    rw c.fault_at-number.ensures (sym c.loop-rest.invariant.0 ∙ stops_here _ _ _ _ (sym (length_nil c.loop-rest.rest.now) ∙ sym c.is_empty.ensures ∙ c.loop-rest-test.true)
    (ap (option_map step_view) (sym c.in_default.is) ∙ c.in_ok-step.ensures.value))

pub add-requires : goal.add-requires
add-requires c =
    let fits = within (step_view c.in-Some.step) c.loop-rest.rest.now (ap (option_map step_view) (sym c.in-Some.is) ∙ c.in_ok-step.ensures.value) in
    let small = c.requires in
    let so_far = c.loop-rest.invariant.1 in
    omega (arith, fits, small, so_far)

pub split_at-requires : goal.split_at-requires
split_at-requires c = within (step_view c.in-Some.step) c.loop-rest.rest.now (ap (option_map step_view) (sym c.in-Some.is) ∙ c.in_ok-step.ensures.value)

pub loop-rest-smaller : goal.loop-rest-smaller
loop-rest-smaller c =
    let found = ap (option_map step_view) (sym c.in-Some.is) ∙ c.in_ok-step.ensures.value in
    let some = some_bytes (step_view c.in-Some.step) c.loop-rest.rest.now found in
    let fits = within (step_view c.in-Some.step) c.loop-rest.rest.now found in
    let dropped = length-drop c.in-Some.step.len c.loop-rest.rest.now in
    rw c.split_at.ensures.back (omega (arith, some, fits, dropped))

pub loop-rest-preserved : goal.loop-rest-preserved
loop-rest-preserved c =
    let s = step_view c.in-Some.step in
    let found = ap (option_map step_view) (sym c.in-Some.is) ∙ c.in_ok-step.ensures.value in
    let fits = within s c.loop-rest.rest.now found in
    let bounds = place_bounds c.loop-rest.place (take c.in-Some.step.len c.loop-rest.rest.now) in
    let taken = length-take c.in-Some.step.len c.loop-rest.rest.now in
    let dropped = length-drop c.in-Some.step.len c.loop-rest.rest.now in
    let so_far = c.loop-rest.invariant in
    rw (c.in_ok-add.ensures.value, c.place_after-place.ensures, c.split_at.ensures.front, c.split_at.ensures.back) (
      goes_on c.loop-rest.start c.loop-rest.place c.loop-rest.rest.now (lexemes_of c.loop-rest.tokens.items) s _ (sym (length_nil c.loop-rest.rest.now) ∙ sym c.is_empty.ensures ∙ c.loop-rest-test.true) found so_far.0,
      omega (arith, so_far.1, dropped, fits),
      omega (arith, bounds.0, so_far.2, taken, fits),
      omega (arith, bounds.1, so_far.3, taken, fits),
    )

pub returns : goal.returns
returns c = sym c.loop-rest.invariant.0 ∙ ends_nil _ _ _ _ _ (sym (length_nil c.loop-rest.rest.now) ∙ sym c.is_empty.ensures ∙ c.loop-rest-test.false)
