use Rattle.std.proofs.Common.{◌≡◌, ◌≤◌, ◌∙◌, refl, sym, ap, subst, inr, length, arith}
use Rattle.std.specs.Prelude.{slice_get}
use Rattle.std.proofs.lemmas.Bool.Decides.{nat_tests}
use Rattle.gang_types.specs.declared.places.VarId.TheVariants.{File, Local}
use Rattle.typed_tree.specs.Views.{function_view, variable_view}
use Rattle.codegen.specs.Programs.{own_variables}
use Rattle.machine_states.specs.Variables.{or_none}
use Rattle.machine_words.specs.Words.{regions_in}
use Rattle.machine_shown.specs.Frames.{regions_up_to}
use Rattle.machine_shown.specs.ShownWords.{HasNoWords, HasWords, shown_view}
use Rattle.machine_shown.proofs.Viewed.{read_at, viewed_at, viewed_past, viewed_within}
use Rattle.machine_shown.proofs.WordsRoom.{shown_of_up_to}
use Rattle.machine_shown.proofs.found.find_shown.Goals as goal

pub returns-in_err-variable-in-Local-clause-none : goal.returns-in_err-variable-in-Local-clause-none
returns-in_err-variable-in-Local-clause-none g c e =
    let functions = c.args.compiled.now.program.functions.items in
    let regions = regions_in g.T.Timeline.history g.row.W c.args.words.now in
    let left = regions_up_to c.args.depth regions in
    let active = c.in_ok-active-in-Local.active in
    let f = c.in_ok-active-in-Local.ensures.step.0 in
    let is = c.in_ok-active-in-Local.ensures.step.1 in
    let own = c.index-function.result.now in
    let within = viewed_within function_view functions active.function f is.next.is_function in
    let item = read_at functions functions active.function own refl within c.index-function.ensures in
    let long : length c.deref-in-Local.result.now ≡ length own.variables.items = ap length c.deref-in-Local.ensures.value in
    let none = c.in_err-variable-in-Local.ensures.lookup in
    let past : length c.deref-in-Local.result.now ≤ c.in-Local.number = grind (arith, nat_tests) in
    subst (λ id. HasNoWords g.row.W c.args.compiled.now left id) (sym c.in-Local.is)
    (inr (
      active,
      record {
        f = f;
        active_is = is;
        none = ap (λ o. slice_get (or_none o) c.in-Local.number) (viewed_at own_variables functions active.function own item)
            ∙ viewed_past variable_view own.variables.items c.in-Local.number (omega (arith, past, long));
      },
    ))

pub returns-in_ok-global-in-File-clause-found : goal.returns-in_ok-global-in-File-clause-found
returns-in_ok-global-in-File-clause-found g c =
    let globals = c.args.compiled.now.program.globals.items in
    let regions = regions_in g.T.Timeline.history g.row.W c.args.words.now in
    let left = regions_up_to c.args.depth regions in
    let global = c.in_ok-global-in-File.global.now in
    let number = c.in-File.number in
    let read = c.in_ok-global-in-File.ensures.lookup in
    subst (λ id. HasWords g.row.W c.args.compiled.now left id (shown_view c.shown_words.result)) (sym c.in-File.is) (
      variable_view global.variable,
      viewed_at _ globals number global (read_at globals c.deref.result.now number global c.deref.ensures.value read.3.0 read.1),
      shown_of_up_to c.args.depth regions 0 (File c.in-File.number) (variable_view global.variable) (shown_view c.shown_words.result) c.shown_words.ensures,
    )

pub returns-in_ok-variable-in-Local-clause-found : goal.returns-in_ok-variable-in-Local-clause-found
returns-in_ok-variable-in-Local-clause-found g c =
    let functions = c.args.compiled.now.program.functions.items in
    let regions = regions_in g.T.Timeline.history g.row.W c.args.words.now in
    let left = regions_up_to c.args.depth regions in
    let active = c.in_ok-active-in-Local.active in
    let f = c.in_ok-active-in-Local.ensures.step.0 in
    let is = c.in_ok-active-in-Local.ensures.step.1 in
    let own = c.index-function.result.now in
    let x = c.in_ok-variable-in-Local.variable.now in
    let number = c.in-Local.number in
    let within = viewed_within function_view functions active.function f is.next.is_function in
    let item = read_at functions functions active.function own refl within c.index-function.ensures in
    let read = c.in_ok-variable-in-Local.ensures.lookup in
    subst (λ id. HasWords g.row.W c.args.compiled.now left id (shown_view c.shown_words-in-Local.result)) (sym c.in-Local.is)
    (record {
      active = active;
      f = f;
      active_is = is;
      variable = variable_view x;
      is_variable = ap (λ o. slice_get (or_none o) number) (viewed_at own_variables functions active.function own item)
          ∙ viewed_at variable_view own.variables.items number x (read_at own.variables.items c.deref-in-Local.result.now number x c.deref-in-Local.ensures.value read.3.0 read.1);
      shown_is = shown_of_up_to c.args.depth regions active.frame (Local number) (variable_view x) (shown_view c.shown_words-in-Local.result) c.shown_words-in-Local.ensures;
    })
