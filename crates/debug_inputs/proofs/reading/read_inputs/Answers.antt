use Rattle.std.proofs.Common.{◌≡◌, ◌∙◌, List, [], ◌++◌, Ok, ap, arith, map, refl, sym, subst}
use Rattle.gang_model.specs.Texts.InputText.{complete, parameter_receiver}
use Rattle.typed_tree.specs.Views.{global_view, program_view, variable_view}
use Rattle.debug_inputs.specs.Lines.{Stands}
use Rattle.debug_inputs.specs.Remaining.{all_receivers, file_receivers, first_named}
use Rattle.debug_inputs.specs.Rows.{IsRefusedBy}
use Rattle.debug_inputs.proofs.LinesRead.{first_stands, input_refused, rows_are}
use Rattle.debug_inputs.proofs.reading.read_inputs.Goals as goal

pub returns-in_err-read_lines : goal.returns-in_err-read_lines
returns-in_err-read_lines c =
    let p = program_view c.args.program.now in
    let vs = map (λ v. variable_view v.now) c.in_ok-parameters.parameters.items in
    let whole = rows_are p c.args.entry.0 c.args.bytes.now vs (omega (arith, c.if-bytes-gt-MOST_BYTES.false)) c.in_ok-parameters.ensures in
    let remaining = λ (name : List _). c.in_ok-new.ensures name
    ∙ (ap (λ ps. first_named (all_receivers (map (λ v. variable_view v.now) ps) (map global_view c.deref-2.result.now)) name) c.deref.ensures.value
    ∙ ap (λ gs. first_named (all_receivers vs (map global_view gs)) name) c.deref-2.ensures.value) in
    let first = first_stands vs p.globals _ remaining refl c.new-2.ensures.items in
    input_refused _ _ c.in_err-read_lines.field-0.0 c.from_residual-in_err-read_lines.result c.from_residual-in_err-read_lines.ensures.1 whole
    (c.in_err-read_lines.ensures (all_receivers vs p.globals) [] first (complete vs))

pub returns-in_err-complete : goal.returns-in_err-complete
returns-in_err-complete c =
    let p = program_view c.args.program.now in
    let vs = map (λ v. variable_view v.now) c.in_ok-parameters.parameters.items in
    let whole = rows_are p c.args.entry.0 c.args.bytes.now vs (omega (arith, c.if-bytes-gt-MOST_BYTES.false)) c.in_ok-parameters.ensures in
    let remaining = λ (name : List _). c.in_ok-new.ensures name
    ∙ (ap (λ ps. first_named (all_receivers (map (λ v. variable_view v.now) ps) (map global_view c.deref-2.result.now)) name) c.deref.ensures.value
    ∙ ap (λ gs. first_named (all_receivers vs (map global_view gs)) name) c.deref-2.ensures.value) in
    let first = first_stands vs p.globals _ remaining refl c.new-2.ensures.items in
    let (rows, same, stands) = c.in_ok-read_lines.ensures (all_receivers vs p.globals) [] first in
    let others = file_receivers p.globals in
    let stands_here = subst (λ ps. Stands (map parameter_receiver (map (λ v. variable_view v.now) ps) ++ others) rows c.read_lines.new.self) (sym c.deref-3.ensures.value) stands in
    input_refused _ _ c.in_err-complete.field-0.0 c.from_residual-in_err-complete.result c.from_residual-in_err-complete.ensures.1 (whole ∙ same (complete vs))
    (subst (λ ps. IsRefusedBy c.in_err-complete.field-0.0 (complete (map (λ v. variable_view v.now) ps) rows)) c.deref-3.ensures.value (c.in_err-complete.ensures others rows stands_here))

pub returns : goal.returns
returns c =
    let p = program_view c.args.program.now in
    let vs = map (λ v. variable_view v.now) c.in_ok-parameters.parameters.items in
    let whole = rows_are p c.args.entry.0 c.args.bytes.now vs (omega (arith, c.if-bytes-gt-MOST_BYTES.false)) c.in_ok-parameters.ensures in
    let remaining = λ (name : List _). c.in_ok-new.ensures name
    ∙ (ap (λ ps. first_named (all_receivers (map (λ v. variable_view v.now) ps) (map global_view c.deref-2.result.now)) name) c.deref.ensures.value
    ∙ ap (λ gs. first_named (all_receivers vs (map global_view gs)) name) c.deref-2.ensures.value) in
    let first = first_stands vs p.globals _ remaining refl c.new-2.ensures.items in
    let (rows, same, stands) = c.in_ok-read_lines.ensures (all_receivers vs p.globals) [] first in
    let others = file_receivers p.globals in
    let stands_here = subst (λ ps. Stands (map parameter_receiver (map (λ v. variable_view v.now) ps) ++ others) rows c.read_lines.new.self) (sym c.deref-3.ensures.value) stands in
    let all = subst (λ ps. complete (map (λ v. variable_view v.now) ps) rows ≡ Ok rows) c.deref-3.ensures.value (c.in_ok-complete.ensures others rows stands_here) in
    (rows, whole ∙ (same (complete vs) ∙ all), stands.shown)
