use Rattle.std.proofs.Common.{◌≡◌, ◌∙◌, sym, ap, subst, arith}
use Rattle.gang_types.specs.Masks.{lanes_of}
use Rattle.gang_types.specs.MaskLaws.{gang_width-le}
use Rattle.gang_model.specs.Types.Tree.{Function}
use Rattle.typed_tree.specs.declared.statements.ResultFor.TheVariants as result
use Rattle.typed_tree.specs.Views.{function_view, result_view, var_view}
use Rattle.machine_states.specs.WellScoped.{ResultWellScoped}
use Rattle.machine_states.specs.Regions.{FunctionOf, OfHead}
use Rattle.machine_states.specs.Steps.{converted_values}
use Rattle.machine_words.specs.Views.{region_view}
use Rattle.machine_words.specs.Words.{regions_in}
use Rattle.frame_steps.specs.Compiled.{function_of, variables_of}
use Rattle.frame_steps.specs.Delivering.{GivesResult}
use Rattle.frame_steps.specs.Results.{Returns}
use Rattle.frame_steps.proofs.FrameResults.{function_is, function_within}
use Rattle.frame_steps.proofs.GivenResults.{gives_assigned, gives_declared, gives_nothing, gives_returned, scalar_room}
use Rattle.frame_steps.proofs.Heads.{first_word, head_long}
use Rattle.frame_steps.proofs.delivering.deliver_values.Goals as goal

pub declare-requires : goal.declare-requires
declare-requires g c =
    let w = g.row.W in
    let regions = regions_in g.T.Timeline.history w c.args.words.now in
    let takes = c.requires.takes.1 in
    let variables = variables_of c.args.compiled.now in
    let well_scoped : ResultWellScoped variables takes.n (result_view (result.Declares c.in-Declares.variable)) =
    subst (λ r. ResultWellScoped variables takes.n (result_view r)) c.in-Declares.is takes.well_scoped in
    let room = scalar_room variables w c.requires.width regions c.requires.sized c.args.frame takes.n c.requires.there (var_view c.in-Declares.variable) well_scoped.1.scalar
    (region_view c.region_of.result) c.region_of.ensures in
    (omega (arith, gang_width-le w c.requires.width), (c.requires.width, (c.requires.laid, (room.0, (room.1, (c.requires.lane, omega (arith, c.requires.left)))))))

pub assign-requires : goal.assign-requires
assign-requires g c =
    let w = g.row.W in
    let regions = regions_in g.T.Timeline.history w c.args.words.now in
    let takes = c.requires.takes.1 in
    let variables = variables_of c.args.compiled.now in
    let well_scoped : ResultWellScoped variables takes.n (result_view (result.Assigns c.in-Assigns.variable)) =
    subst (λ r. ResultWellScoped variables takes.n (result_view r)) c.in-Assigns.is takes.well_scoped in
    let room = scalar_room variables w c.requires.width regions c.requires.sized c.args.frame takes.n c.requires.there (var_view c.in-Assigns.variable) well_scoped
    (region_view c.region_of-in-Assigns.result) c.region_of-in-Assigns.ensures in
    (omega (arith, gang_width-le w c.requires.width), (c.requires.width, (c.requires.laid, (room.0, (room.1, (c.requires.lane, omega (arith, c.requires.left)))))))

pub word-runs-requires-clause-within : goal.word-runs-requires-clause-within
word-runs-requires-clause-within g c =
    omega (arith, head_long g.T.Timeline.history g.T.Timeline.left g.row.W c.args.words.now c.requires.laid c.args.frame FunctionOf c.requires.there)

pub index-function-requires : goal.index-function-requires
index-function-requires g c =
    let takes = c.requires.takes.1 in
    let functions = c.args.compiled.now.program.functions in
    let runs : c.word-runs.result ≡ takes.n = first_word (regions_in g.T.Timeline.history g.row.W c.args.words.now (OfHead c.args.frame FunctionOf)) takes.n c.word-runs.result takes.runs c.word-runs.ensures in
    let within = function_within functions.items takes.n c.requires.takes.0 takes.is_function in
    omega (arith, runs, within, functions.ok)

pub returns-in-Nothing : goal.returns-in-Nothing
returns-in-Nothing g c = λ f takes.
    let lanes = lanes_of g.row.W c.args.lanes in
    subst (λ r. GivesResult g.T.Timeline.history g.T.Timeline.left g.row.W c.args.frame f (result_view r) c.args.from_type lanes c.args.values c.args.words.now c.args.words.now) (sym c.in-Nothing.is)
    (gives_nothing g.T.Timeline.history g.T.Timeline.left g.row.W c.args.frame f c.args.from_type c.args.lanes c.args.values c.args.words.now c.requires.laid)

pub returns-in-Declares : goal.returns-in-Declares
returns-in-Declares g c = λ f takes.
    let w = g.row.W in
    let history = g.T.Timeline.history in
    let left = g.T.Timeline.left in
    let old = c.args.words.now in
    let new = c.declare.new.self in
    subst (λ r. GivesResult history left w c.args.frame f (result_view r) c.args.from_type (lanes_of w c.args.lanes) c.args.values old new) (sym c.in-Declares.is)
    (gives_declared history left w c.args.frame f c.args.from_type c.args.lanes c.args.values old new c.convert-converted.result (var_view c.in-Declares.variable) c.convert-converted.ensures
    (region_view c.region_of.result) c.region_of.ensures c.declare.ensures)

pub returns-in-Assigns : goal.returns-in-Assigns
returns-in-Assigns g c = λ f takes.
    let w = g.row.W in
    let history = g.T.Timeline.history in
    let left = g.T.Timeline.left in
    let old = c.args.words.now in
    let new = c.assign.new.self in
    subst (λ r. GivesResult history left w c.args.frame f (result_view r) c.args.from_type (lanes_of w c.args.lanes) c.args.values old new) (sym c.in-Assigns.is)
    (gives_assigned history left w c.args.frame f c.args.from_type c.args.lanes c.args.values old new c.convert-converted-in-Assigns.result (var_view c.in-Assigns.variable) c.convert-converted-in-Assigns.ensures
    (region_view c.region_of-in-Assigns.result) c.region_of-in-Assigns.ensures c.assign.ensures)

pub returns-in-Returns : goal.returns-in-Returns
returns-in-Returns g c = λ f takes.
    let w = g.row.W in
    let history = g.T.Timeline.history in
    let left = g.T.Timeline.left in
    let frame = c.args.frame in
    let old = c.args.words.now in
    let new = c.give_result.new.words in
    let regions = regions_in history w old in
    let function = c.index-function.result.now in
    let given = c.convert-converted-in-Returns.result in
    let runs : c.word-runs.result ≡ takes.n = first_word (regions (OfHead frame FunctionOf)) takes.n c.word-runs.result takes.runs c.word-runs.ensures in
    let view : function_view function ≡ f =
    function_is c.args.compiled.now.program.functions.items c.word-runs.result f (ap (function_of c.args.compiled.now) runs ∙ takes.is_function) function c.index-function.ensures in
    let same : given ≡ converted_values c.args.from_type f.result_type (lanes_of w c.args.lanes) c.args.values =
    c.convert-converted-in-Returns.ensures ∙ ap (λ (k : Function). converted_values c.args.from_type k.result_type (lanes_of w c.args.lanes) c.args.values) view in
    subst (λ r. GivesResult history left w frame f (result_view r) c.args.from_type (lanes_of w c.args.lanes) c.args.values old new) (sym c.in-Returns.is)
    (gives_returned history left w frame f c.args.from_type c.args.lanes c.args.values old new given same
    (subst (λ (k : Function). Returns history left w frame k.result c.args.lanes given old new) view c.give_result.ensures))
