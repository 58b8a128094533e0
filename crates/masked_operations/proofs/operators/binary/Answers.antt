use Rattle.std.proofs.Common.{◌≡◌, refl, sym, ap, arith, ◌∙◌, slice_index, length, false}
use Rattle.std.specs.Prelude.{Ok, Err}
use Rattle.std.proofs.lemmas.Result.{err_from_is_err_and}
use Rattle.gang_types.specs.declared.operators.BinaryOp.TheVariants.{Div, Rem}
use Rattle.gang_types.specs.Values.{binary_of, binary_result, divides}
use Rattle.gang_types.specs.Masks.{lanes_of}
use Rattle.gang_types.specs.MaskLaws.{length-lanes_of_word}
use Rattle.gang_model.specs.Running.Lanes.{at, try_each}
use Rattle.cross_lane.specs.Calls.{answer_of, fault_of}
use Rattle.cross_lane.specs.EachLaws.{each_same}
use Rattle.cross_lane.specs.AttemptLaws.{all_ok}
use Rattle.masked_operations.proofs.Values.{divides_not, total_result, values_divided, division_faulted}
use Rattle.masked_operations.proofs.operators.binary.Goals as goal

pub returns-in_ok-quotients-in-Div : goal.returns-in_ok-quotients-in-Div
returns-in_ok-quotients-in-Div g c =
    let long : length c.in_ok-quotients-in-Div.quotients ≡ g.row.W = omega arith in
    values_divided g.row.W (lanes_of g.row.W c.args.mask) Div c.args.value_type c.args.left c.args.right (length-lanes_of_word g.row.W c.args.mask.word) refl c.in_ok-quotients-in-Div.quotients long (c.in_ok-quotients-in-Div.ensures)
    ∙ ap (λ op. try_each (lanes_of g.row.W c.args.mask) (λ k. binary_result op c.args.value_type (at c.args.left k) (at c.args.right k))) (sym c.in-Div.is)

pub returns-in_err-quotients-in-Div : goal.returns-in_err-quotients-in-Div
returns-in_err-quotients-in-Div g c =
    let p = err_from_is_err_and c.from_residual.result c.from_residual.ensures.1 in
    ap answer_of p.1
    ∙ ap (λ found. Err (fault_of found)) p.2
    ∙ division_faulted g.row.W (lanes_of g.row.W c.args.mask) Div c.args.value_type c.args.left c.args.right (length-lanes_of_word g.row.W c.args.mask.word) refl c.in_err-quotients-in-Div.field-0.0 (c.in_err-quotients-in-Div.ensures)
    ∙ ap (λ op. try_each (lanes_of g.row.W c.args.mask) (λ k. binary_result op c.args.value_type (at c.args.left k) (at c.args.right k))) (sym c.in-Div.is)

pub returns-in_ok-remainders-in-Rem : goal.returns-in_ok-remainders-in-Rem
returns-in_ok-remainders-in-Rem g c =
    let long : length c.in_ok-remainders-in-Rem.remainders ≡ g.row.W = omega arith in
    values_divided g.row.W (lanes_of g.row.W c.args.mask) Rem c.args.value_type c.args.left c.args.right (length-lanes_of_word g.row.W c.args.mask.word) refl c.in_ok-remainders-in-Rem.remainders long (c.in_ok-remainders-in-Rem.ensures)
    ∙ ap (λ op. try_each (lanes_of g.row.W c.args.mask) (λ k. binary_result op c.args.value_type (at c.args.left k) (at c.args.right k))) (sym c.in-Rem.is)

pub returns-in_err-remainders-in-Rem : goal.returns-in_err-remainders-in-Rem
returns-in_err-remainders-in-Rem g c =
    let p = err_from_is_err_and c.from_residual-in_err-remainders-in-Rem.result c.from_residual-in_err-remainders-in-Rem.ensures.1 in
    ap answer_of p.1
    ∙ ap (λ found. Err (fault_of found)) p.2
    ∙ division_faulted g.row.W (lanes_of g.row.W c.args.mask) Rem c.args.value_type c.args.left c.args.right (length-lanes_of_word g.row.W c.args.mask.word) refl c.in_err-remainders-in-Rem.field-0.0 (c.in_err-remainders-in-Rem.ensures)
    ∙ ap (λ op. try_each (lanes_of g.row.W c.args.mask) (λ k. binary_result op c.args.value_type (at c.args.left k) (at c.args.right k))) (sym c.in-Rem.is)

pub returns-in_default : goal.returns-in_default
returns-in_default g c =
    let total : divides c.args.operator ≡ false = divides_not c.args.operator c.in_default.not-Div c.in_default.not-Rem in
    ap Ok
    (c.only.ensures
    ∙ each_same g.row.W (lanes_of g.row.W c.args.mask) (slice_index c.total_words.result) (λ k. binary_of c.args.operator c.args.value_type (at c.args.left k) (at c.args.right k)) (length-lanes_of_word g.row.W c.args.mask.word)
    (λ i h e. c.total_words.ensures i h))
    ∙ sym (all_ok g.row.W (lanes_of g.row.W c.args.mask) (λ k. binary_result c.args.operator c.args.value_type (at c.args.left k) (at c.args.right k)) (λ k. binary_of c.args.operator c.args.value_type (at c.args.left k) (at c.args.right k)) (length-lanes_of_word g.row.W c.args.mask.word)
    (λ i h e. total_result c.args.operator c.args.value_type (at c.args.left i) (at c.args.right i) total))
