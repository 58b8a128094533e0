use Rattle.std.proofs.Common.{◌≡◌, ◌∙◌, refl, sym, ap, subst, ℕ, ◌<◌, List, Some, get_or, length}
use Rattle.codegen.specs.declared.code.StepCode.{StepCode}
use Rattle.codegen.specs.Codes.{DoAll}
use Rattle.mask_states.specs.Points.{points_in}
use Rattle.machine_states.specs.Regions.{Regions}
use Rattle.machine_words.specs.Words.{regions_in}
use Rattle.frame_steps.specs.declared.active.Active.{Active}
use Rattle.frame_steps.specs.declared.compiled.CompiledProgram.{CompiledProgram}
use Rattle.frame_steps.specs.Standing.{DoesNext, IsNextOf, IsValueAt}
use Rattle.frame_steps.proofs.NextCode.{does_next, is_closing}
use Rattle.frame_steps.proofs.Standings.{some_active}
use Rattle.machine_shown.proofs.Viewed.{read_at}
use Rattle.gang_machine.specs.Stored.{meets_found}
use Rattle.gang_machine.proofs.StoringPoints.{StoresNowhere, assigned, changed, elements_next, found_small, next_of_point, packed, packed_next, stored_nowhere}
use Rattle.gang_machine.proofs.stores.next_store.Goals as goal

-- the next step does what this code, which was read at its number, says
does_there : (w : ℕ) (compiled : CompiledProgram) (regions : Regions) (active : Active) (next : IsNextOf w compiled regions (Some active)) (steps : List StepCode) (read code : StepCode)
    → DoAll steps (points_in next.0) → active.step < length steps → read ≡ get_or steps active.step read → read ≡ code → DoesNext w compiled regions active code
does_there w compiled regions active next steps read code does within is same =
    subst (λ step. DoesNext w compiled regions active step) same (does_next w compiled regions active next steps does read (read_at steps steps active.step read refl within is))

pub returns-in_err-code : goal.returns-in_err-code
returns-in_err-code g c masked shown view =
    let w = g.row.W in
    let compiled = c.args.compiled.now in
    let regions = regions_in g.T.Timeline.history w c.args.words.now in
    let active = c.in_ok-active.active in
    let next = c.in_ok-active.ensures in
    let closing = is_closing w compiled regions active next c.steps.result.now (c.steps.ensures.does next.0 next.1.next.is_function) c.in_err-code.ensures.lookup.3 in
    ap (meets_found w view) c.from_residual-in_err-code.ensures ∙ sym (next_of_point w compiled regions active closing.0 masked shown.shows _ closing.1 view)

pub elements_store-requires : goal.elements_store-requires
elements_store-requires g c =
    let w = g.row.W in
    let compiled = c.args.compiled.now in
    let sound = c.requires.sound in
    let regions = regions_in g.T.Timeline.history w c.args.words.now in
    let active = c.in_ok-active.active in
    let next = c.in_ok-active.ensures in
    let step = c.in-AssignElement in
    let read = c.in_ok-code.ensures.lookup in
    let does = does_there w compiled regions active next c.steps.result.now c.in_ok-code.code.now _ (c.steps.ensures.does next.0 next.1.next.is_function) read.3.0 read.1 step.is in
    let stores = assigned w compiled sound.lie.compiled_is regions active does.0 step.array step.index step.value step.next does.1 does.2 does.3 in
    (found_small w sound.lie.gang, (sound, (stores.index, subst (λ code. IsValueAt w compiled regions active stores.index code) (sym c.deref.ensures.value) stores.index_at)))

pub elements_store-requires-in-ChangeElement : goal.elements_store-requires-in-ChangeElement
elements_store-requires-in-ChangeElement g c =
    let w = g.row.W in
    let compiled = c.args.compiled.now in
    let sound = c.requires.sound in
    let regions = regions_in g.T.Timeline.history w c.args.words.now in
    let active = c.in_ok-active.active in
    let next = c.in_ok-active.ensures in
    let step = c.in-ChangeElement in
    let read = c.in_ok-code.ensures.lookup in
    let does = does_there w compiled regions active next c.steps.result.now c.in_ok-code.code.now _ (c.steps.ensures.does next.0 next.1.next.is_function) read.3.0 read.1 step.is in
    let stores = changed w compiled sound.lie.compiled_is regions active does.0 step.array step.index step.change step.value step.next does.1 does.2 does.3 in
    (found_small w sound.lie.gang, (sound, (stores.index, subst (λ code. IsValueAt w compiled regions active stores.index code) (sym c.deref-in-ChangeElement.ensures.value) stores.index_at)))

pub packed_store-requires : goal.packed_store-requires
packed_store-requires g c =
    let w = g.row.W in
    let compiled = c.args.compiled.now in
    let sound = c.requires.sound in
    let regions = regions_in g.T.Timeline.history w c.args.words.now in
    let active = c.in_ok-active.active in
    let next = c.in_ok-active.ensures in
    let step = c.in-PackedStore in
    let read = c.in_ok-code.ensures.lookup in
    let does = does_there w compiled regions active next c.steps.result.now c.in_ok-code.code.now _ (c.steps.ensures.does next.0 next.1.next.is_function) read.3.0 read.1 step.is in
    let stores = packed w compiled sound.lie.compiled_is regions active does.0 step.array step.from step.value step.result_for step.next does.1 does.2 does.3 in
    let some = some_active g.T.Timeline.history w compiled c.args.words.now sound active does.0 does.1 does.3 stores.unturned in
    (found_small w sound.lie.gang, (sound, ((does.0, does.1, does.3, some), (stores.index, stores.index_at))))

pub returns-in-AssignElement : goal.returns-in-AssignElement
returns-in-AssignElement g c masked shown view =
    let w = g.row.W in
    let compiled = c.args.compiled.now in
    let is = c.requires.sound.lie.compiled_is in
    let regions = regions_in g.T.Timeline.history w c.args.words.now in
    let active = c.in_ok-active.active in
    let next = c.in_ok-active.ensures in
    let step = c.in-AssignElement in
    let read = c.in_ok-code.ensures.lookup in
    let does = does_there w compiled regions active next c.steps.result.now c.in_ok-code.code.now _ (c.steps.ensures.does next.0 next.1.next.is_function) read.3.0 read.1 step.is in
    let stores = assigned w compiled is regions active does.0 step.array step.index step.value step.next does.1 does.2 does.3 in
    ap (meets_found w view) c.ok.ensures.value
    ∙ elements_next g.T.Timeline.history w compiled is c.args.words.now active does.0 does.1 does.3 step.array c.elements_store.result masked shown view step.index.items stores
    (c.elements_store.ensures masked stores.index shown (subst (λ code. IsValueAt w compiled regions active stores.index code) (sym c.deref.ensures.value) stores.index_at))

pub returns-in-ChangeElement : goal.returns-in-ChangeElement
returns-in-ChangeElement g c masked shown view =
    let w = g.row.W in
    let compiled = c.args.compiled.now in
    let is = c.requires.sound.lie.compiled_is in
    let regions = regions_in g.T.Timeline.history w c.args.words.now in
    let active = c.in_ok-active.active in
    let next = c.in_ok-active.ensures in
    let step = c.in-ChangeElement in
    let read = c.in_ok-code.ensures.lookup in
    let does = does_there w compiled regions active next c.steps.result.now c.in_ok-code.code.now _ (c.steps.ensures.does next.0 next.1.next.is_function) read.3.0 read.1 step.is in
    let stores = changed w compiled is regions active does.0 step.array step.index step.change step.value step.next does.1 does.2 does.3 in
    ap (meets_found w view) c.ok-in-ChangeElement.ensures.value
    ∙ elements_next g.T.Timeline.history w compiled is c.args.words.now active does.0 does.1 does.3 step.array c.elements_store-in-ChangeElement.result masked shown view step.index.items stores
    (c.elements_store-in-ChangeElement.ensures masked stores.index shown (subst (λ code. IsValueAt w compiled regions active stores.index code) (sym c.deref-in-ChangeElement.ensures.value) stores.index_at))

pub returns-in-PackedStore : goal.returns-in-PackedStore
returns-in-PackedStore g c masked shown view =
    let w = g.row.W in
    let compiled = c.args.compiled.now in
    let is = c.requires.sound.lie.compiled_is in
    let regions = regions_in g.T.Timeline.history w c.args.words.now in
    let active = c.in_ok-active.active in
    let next = c.in_ok-active.ensures in
    let step = c.in-PackedStore in
    let read = c.in_ok-code.ensures.lookup in
    let does = does_there w compiled regions active next c.steps.result.now c.in_ok-code.code.now _ (c.steps.ensures.does next.0 next.1.next.is_function) read.3.0 read.1 step.is in
    let stores = packed w compiled is regions active does.0 step.array step.from step.value step.result_for step.next does.1 does.2 does.3 in
    ap (meets_found w view) c.ok-in-PackedStore.ensures.value
    ∙ packed_next g.T.Timeline.history w compiled is c.args.words.now active does.0 does.1 does.3 step.array c.packed_store.result masked shown view step.from stores
    (c.packed_store.ensures masked stores.index shown stores.index_at)

pub returns-in_default : goal.returns-in_default
returns-in_default g c masked shown view =
    let w = g.row.W in
    let compiled = c.args.compiled.now in
    let regions = regions_in g.T.Timeline.history w c.args.words.now in
    let active = c.in_ok-active.active in
    let next = c.in_ok-active.ensures in
    let code = c.in_ok-code.code.now in
    let read = c.in_ok-code.ensures.lookup in
    let does = does_there w compiled regions active next c.steps.result.now code code (c.steps.ensures.does next.0 next.1.next.is_function) read.3.0 read.1 refl in
    let nowhere : StoresNowhere code = record { assigns = c.in_default.not-AssignElement; changes = c.in_default.not-ChangeElement; packs = c.in_default.not-PackedStore } in
    sym (next_of_point w compiled regions active does.0 masked shown.shows (Some does.1) does.3 view ∙ stored_nowhere code does.1 does.2 nowhere view _ masked.state)
