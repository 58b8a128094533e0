use Rattle.std.proofs.Common.{◌≡◌, ap, sym, ◌∙◌, ◌++◌, [], ◌∷◌, arith}
use Rattle.std.specs.Prelude.{map}
use Rattle.std.specs.List.{range_with_len}
use Rattle.std.proofs.lemmas.List.FromFn.{map-range_with_len_more}
use Rattle.input_rows.specs.Inputs.{entry_length}
use Rattle.machine_states.specs.Variables.{parameters_of}
use Rattle.codegen.specs.Programs.{variables_of}
use Rattle.machine_steps.proofs.RowLengths.{parameters_counted}
use Rattle.machine_steps.proofs.rows.entry_lengths.Goals as goal

pub loop-number-init : goal.loop-number-init
loop-number-init c f given may = c.new-lengths.ensures.items

pub loop-number-preserved : goal.loop-number-preserved
loop-number-preserved c f given may =
    let n = c.loop-number.number in
    c.in_ok-push.ensures.items
    ∙ ap (λ ns. ns ++ c.entry_length.result ∷ []) (c.loop-number.invariant f given may)
    ∙ ap (λ m. map (entry_length given) (range_with_len 0 n) ++ m ∷ []) (c.entry_length.ensures f given may)
    ∙ sym (map-range_with_len_more (entry_length given) 0 n n (omega arith))

pub returns : goal.returns
returns c f given may =
    let program = c.args.program.now in
    let count = c.parameter_count-count.ensures ∙ parameters_counted program c.args.entry c.variables_of.result.now c.variables_of.ensures in
    let over : c.loop-number.number ≡ parameters_of (variables_of program) c.args.entry = omega (arith, c.loop-number-test.false, c.loop-number.auto.number-end, count) in
    c.loop-number.invariant f given may ∙ ap (λ n. map (entry_length given) (range_with_len 0 n)) over
