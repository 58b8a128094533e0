use Rattle.std.proofs.Common.{◌∙◌, ap, map, sym}
use Rattle.std.proofs.lemmas.List.{map-id, take_all}
use Rattle.typed_tree.specs.Views.{function_view, program_view}
use Rattle.mask_states.proofs.RunsAlike.{runs_alike, accepted_alike}
use Rattle.mask_states.specs.Points.{points_in}
use Rattle.mask_lowering.specs.Views.{first_step, points_view}
use Rattle.mask_lowering.proofs.Programs.{next_function}
use Rattle.mask_lowering.proofs.masked.lower.Goals as goal

pub loop-function-init : goal.loop-function-init
loop-function-init c = λ numbered. (ap (map points_view) c.new-functions.ensures.items, ap (map (λ n. n)) c.new-entries.ensures.items)

pub loop-function-preserved : goal.loop-function-preserved
loop-function-preserved c = λ numbered.
    let before = c.loop-function.invariant numbered in (
      next_function points_view points_in c.deref-function-items.result.now c.args.program.now.functions.items c.loop-function.functions.items c.push.new.self.items c.loop-function.function-index c.function-item.result
          c.in_ok-entry.points c.deref-function-items.ensures.value c.loop-function-test.true c.function-item.is numbered (λ one. (c.in_ok-entry.ensures one).1) before.0
          c.in_ok-push.ensures.items,
      next_function (λ n. n) first_step c.deref-function-items.result.now c.args.program.now.functions.items c.loop-function.entries.items c.push-in-loop-function.new.self.items c.loop-function.function-index c.function-item.result
          c.in_ok-entry.entry c.deref-function-items.ensures.value c.loop-function-test.true c.function-item.is numbered (λ one. (c.in_ok-entry.ensures one).0) before.1
          c.in_ok-push-2.ensures.items,
    )

pub returns-clause-points : goal.returns-clause-points
returns-clause-points c = λ numbered.
    (c.loop-function.invariant numbered).0
    ∙ ap (λ list. map points_in (map function_view list))
    (take_all c.loop-function.function-index c.deref-function-items.result.now c.loop-function-test.false ∙ c.deref-function-items.ensures.value)

pub returns-clause-entries : goal.returns-clause-entries
returns-clause-entries c = λ numbered.
    sym (map-id c.loop-function.entries.items)
    ∙ (c.loop-function.invariant numbered).1
    ∙ ap (λ list. map first_step (map function_view list))
    (take_all c.loop-function.function-index c.deref-function-items.result.now c.loop-function-test.false ∙ c.deref-function-items.ensures.value)

-- the law does not hang on what the function answers
pub returns-clause-law : goal.returns-clause-law
returns-clause-law c = runs_alike (program_view c.args.program.now)

pub returns-clause-accepted : goal.returns-clause-accepted
returns-clause-accepted c = λ source. accepted_alike source (program_view c.args.program.now)

pub returns-in_err-entry-clause-law : goal.returns-in_err-entry-clause-law
returns-in_err-entry-clause-law c = runs_alike (program_view c.args.program.now)

pub returns-in_err-entry-clause-accepted : goal.returns-in_err-entry-clause-accepted
returns-in_err-entry-clause-accepted c = λ source. accepted_alike source (program_view c.args.program.now)

pub returns-in_err-push-clause-law : goal.returns-in_err-push-clause-law
returns-in_err-push-clause-law c = runs_alike (program_view c.args.program.now)

pub returns-in_err-push-clause-accepted : goal.returns-in_err-push-clause-accepted
returns-in_err-push-clause-accepted c = λ source. accepted_alike source (program_view c.args.program.now)

pub returns-in_err-push-2-clause-law : goal.returns-in_err-push-2-clause-law
returns-in_err-push-2-clause-law c = runs_alike (program_view c.args.program.now)

pub returns-in_err-push-2-clause-accepted : goal.returns-in_err-push-2-clause-accepted
returns-in_err-push-2-clause-accepted c = λ source. accepted_alike source (program_view c.args.program.now)
