use Rattle.std.proofs.Common.{◌∙◌, ap, refl, subst}
use Rattle.std.specs.Prelude.{option_map}
use Rattle.typed_tree.specs.Views.{variable_view}
use Rattle.gang_model.specs.Texts.InputText.{is_equals, values_of}
use Rattle.gang_model.specs.Texts.Spellings.{words_of_line}
use Rattle.debug_inputs.specs.LineValues.{ReadsValues}
use Rattle.debug_inputs.specs.Remaining.{receiver_view}
use Rattle.debug_inputs.proofs.LinesRead.{read_some, row_refused, row_is}
use Rattle.debug_inputs.proofs.reading.Reading.read_row.Goals as goal

pub returns-in_err-row : goal.returns-in_err-row
returns-in_err-row c = λ receivers rows stands.
    let receiver = c.in-Some-find.receiver in
    let (zs, are, shows) = read_some receiver.variable.now.value_type c.most-most.result _ c.in-Some-2.values
    (subst (ReadsValues receiver.variable.now.value_type c.most-most.result (values_of (words_of_line is_equals c.in-Some.text.now))) c.in-Some-2.is c.in_ok-values.ensures) in
    let is = row_is receivers rows c.args.self.now c.args.number c.args.line.now c.in-Some.name c.in-Some.text receiver zs stands (c.in-Some.ensures receivers c.args.number rows)
    (ap (option_map receiver_view) c.in-Some-find.ensures) are in
    row_refused receivers rows _ _ c.args.self.now c.in_err-row.field-0.0 c.from_residual-in_err-row.result c.from_residual-in_err-row.ensures.1 is
    (c.in_err-row.ensures (receiver_view receiver) rows zs c.most-most.result refl (c.most-most.ensures receivers rows stands) shows)

pub returns : goal.returns
returns c = λ receivers rows stands.
    let receiver = c.in-Some-find.receiver in
    let (zs, are, shows) = read_some receiver.variable.now.value_type c.most-most.result _ c.in-Some-2.values
    (subst (ReadsValues receiver.variable.now.value_type c.most-most.result (values_of (words_of_line is_equals c.in-Some.text.now))) c.in-Some-2.is c.in_ok-values.ensures) in
    let is = row_is receivers rows c.args.self.now c.args.number c.args.line.now c.in-Some.name c.in-Some.text receiver zs stands (c.in-Some.ensures receivers c.args.number rows)
    (ap (option_map receiver_view) c.in-Some-find.ensures) are in
    let made = c.in_ok-row.ensures (receiver_view receiver) rows zs c.most-most.result refl (c.most-most.ensures receivers rows stands) shows in
    (record { variable = variable_view receiver.variable.now; words = c.in_ok-row.row.values.items }, is ∙ made.1, c.in_ok-add.ensures receivers rows made.0 stands)
