use Rattle.std.proofs.Common.{◌∙◌, length, drop, not, rules, sym, ap}
use Rattle.std.proofs.lemmas.List.{length_push}
use Rattle.std.proofs.lemmas.Slice.Zip.{zip_turn, zip_end}
use Rattle.gang_model.specs.declared.refusals.RefusalNumber.TheVariants.{S7}
use Rattle.gang_model.specs.Source.Judged.{least_fault, fault_if, merged}
use Rattle.gang_model.proofs.JudgedLaws.{merged-none}
use Rattle.type_check_library.proofs.GivenValues.{rates_fault, next_rate, no_rates_left}
use Rattle.type_check_library.proofs.arguments.rate_fault.Goals as goal

pub loop-rate-preserved : goal.loop-rate-preserved
loop-rate-preserved c =
    let asks = c.args.asked.now in
    let values = c.args.values.now in
    let xs = c.loop-rate.yielded in
    let turn = zip_turn asks values xs c.into_iter-rate-iterator.result c.loop-rate.rate-iterator c.next.new.self c.next.result (search rules) (search rules)
    c.loop-rate.yielded_by (c.in-Some.rate, c.in-Some.argument) c.in-Some.is c.next.ensures.steps in
    let step = next_rate asks values (length xs) c.in-Some.rate.now c.in-Some.argument.now c.loop-rate.first c.fault_if-fault.result c.least-first.result
    turn.0 turn.1 (turn.2 c.in-Some.rate.now) (turn.3 c.in-Some.argument.now)
    (c.fault_if-fault.ensures ∙ ap (λ b. least_fault (fault_if (not b) S7 c.in-Some.argument.now.place)) c.may_become-is_allowed.ensures) c.least-first.ensures in
    c.loop-rate.invariant
    ∙ sym (ap (λ n. merged c.least-first.result (rates_fault (drop n asks) (drop n values))) (length_push xs (c.in-Some.rate, c.in-Some.argument)) ∙ step)

pub returns : goal.returns
returns c =
    let asks = c.args.asked.now in
    let values = c.args.values.now in
    let xs = c.loop-rate.yielded in
    let end = zip_end asks values xs c.into_iter-rate-iterator.result c.loop-rate.rate-iterator c.next.new.self c.next.result (search rules) (search rules)
    c.loop-rate.yielded_by c.in-None.is c.next.ensures.steps in
    sym (c.loop-rate.invariant ∙ (ap (merged c.loop-rate.first) (no_rates_left asks values (length xs) end) ∙ merged-none c.loop-rate.first))
