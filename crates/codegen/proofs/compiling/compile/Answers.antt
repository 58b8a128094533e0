use Rattle.std.proofs.Common.{◌∙◌, ap, map, subst, sym}
use Rattle.std.specs.Prelude.{ℕ}
use Rattle.machine_states.specs.Cells.{greatest}
use Rattle.foreach_lowering.specs.declared.forms.FunctionForms.{FunctionForms}
use Rattle.foreach_lowering.specs.Forms.{FormsOf, function_forms}
use Rattle.foreach_lowering.specs.FormViews.{forms_view}
use Rattle.mask_lowering.specs.Views.{points_view}
use Rattle.mask_states.specs.Points.{points_in}
use Rattle.typed_tree.specs.Views.{program_view}
use Rattle.codegen.specs.Codes.{AreRounds, Fit, HaveCode}
use Rattle.codegen.proofs.Pointed.{program_coded}
use Rattle.codegen.proofs.Rows.{fit_unmapped}
use Rattle.codegen.proofs.StepWords.{greatest_mapped}
use Rattle.codegen.proofs.compiling.compile.Goals as goal

pub functions-requires : goal.functions-requires
functions-requires c =
    let p = program_view c.args.program.now in
    let table = c.in_ok-masked.ensures.points c.requires.numbered in
    let points = ap (map points_view) c.deref.ensures.value ∙ table in
    let forms = ap (map forms_view) c.deref-2.ensures.value ∙ c.in_ok-forms.ensures.forms p table in
    subst (λ ps. Fit HaveCode ps (map forms_view c.deref-2.result.now)) (sym points)
    (subst (Fit HaveCode (map points_in p.functions)) (sym forms) (program_coded p c.requires.numbered))

pub returns-clause-rounds : goal.returns-clause-rounds
returns-clause-rounds c =
    let p = program_view c.args.program.now in
    let table = c.in_ok-masked.ensures.points c.requires.numbered in
    let forms = ap (map forms_view) c.deref-2.ensures.value ∙ c.in_ok-forms.ensures.forms p table in
    fit_unmapped AreRounds function_forms c.in_ok-functions.functions.items p.functions
    (subst (Fit AreRounds c.in_ok-functions.functions.items) forms c.in_ok-functions.ensures.rounds)

abbrev deepest : FormsOf → ℕ
deepest forms = forms.depth

abbrev depth_of : FunctionForms → ℕ
depth_of forms = forms.depth

pub returns-clause-levels : goal.returns-clause-levels
returns-clause-levels c =
    let p = program_view c.args.program.now in
    let table = c.in_ok-masked.ensures.points c.requires.numbered in
    c.most_levels-levels.ensures
    ∙ ap (greatest depth_of) c.deref-3.ensures.value
    ∙ sym (greatest_mapped deepest forms_view c.in_ok-forms.forms.items)
    ∙ ap (greatest deepest) (c.in_ok-forms.ensures.forms p table)
    ∙ greatest_mapped deepest function_forms p.functions
