-- What the code of the next step says of the elements that it stores to.
use Rattle.std.proofs.Common.{◌≡◌, refl, sym, ap, subst, ◌∙◌, ℕ, ◌+◌, ◌*◌, ◌<◌, inl, List, Option, Some, false, Vec, Global, lit<}
use prog.Memory.{up}
use Rattle.std.specs.Prelude.{Result, Ok, Err, option_and_then, slice_get}
use Rattle.std.specs.Result.{result_ok}
use Rattle.undo_log.specs.History.{History}
use Rattle.gang_types.specs.declared.places.VarId.{VarId}
use Rattle.gang_types.specs.Lanes.{Lanes}
use Rattle.gang_types.specs.Masks.{IsGangWidth, lanes_of}
use Rattle.gang_model.specs.Types.Tree.{Assign, Change as ModelChange, ElementOf, Expr, Function, PackedStore, Scalar}
use Rattle.gang_model.specs.Running.State.{State, View, view_of}
use Rattle.gang_model.specs.Running.Lanes.{Fault as ModelFault}
use Rattle.gang_model.specs.Running.Step.{Written, part}
use Rattle.gang_model.specs.Running.Value.{value}
use Rattle.debug_traits.specs.declared.machine.Fault.{Fault}
use Rattle.mask_states.specs.Masked.{Masked, masked_lanes}
use Rattle.mask_states.specs.Points.{Point, Put, points_in}
use Rattle.machine_states.specs.ArrayParts.{view_at}
use Rattle.machine_states.specs.Regions.{Regions}
use Rattle.machine_states.specs.Shows.{Shows}
use Rattle.machine_states.specs.Variables.{IsArray}
use Rattle.machine_states.proofs.AwaitedLevels.{IsNoTurn}
use Rattle.machine_states.proofs.ElementSteps.{array_shown}
use Rattle.machine_states.proofs.TopFrame.{spot}
use Rattle.machine_words.specs.declared.words.MachineWords.{MachineWords}
use Rattle.machine_words.specs.Words.{regions_in}
use Rattle.expression_instructions.specs.declared.code.Instruction.{Instruction}
use Rattle.typed_tree.specs.declared.statements.ResultFor.{ResultFor}
use Rattle.codegen.specs.declared.code.Change.{Change}
use Rattle.codegen.specs.declared.code.StepCode.{StepCode}
use Rattle.codegen.specs.declared.code.StepCode.TheVariants as code
use Rattle.codegen.specs.Codes.{Does}
use Rattle.frame_steps.specs.declared.active.Active.{Active}
use Rattle.frame_steps.specs.declared.compiled.CompiledProgram.{CompiledProgram}
use Rattle.frame_steps.specs.Compiled.{IsCompiled, program_of, variables_of}
use Rattle.frame_steps.specs.Parts.{IsIndexAt}
use Rattle.frame_steps.specs.Standing.{IsActive, IsShown, IsValueAt}
use Rattle.frame_steps.proofs.GangLanes.{each_width}
use Rattle.frame_steps.proofs.NamedParts.{index_of}
use Rattle.frame_steps.proofs.StepValues.{active_well_scoped, value_at}
use Rattle.machine_shown.proofs.StepPlaces.{lanes_at_step}
use Rattle.frame_expressions.specs.Stores.{meets, meets_reached, packed_to, put_at, put_by, some_stores}
use Rattle.gang_machine.specs.declared.stores.Stored.{Stored}
use Rattle.gang_machine.specs.Stored.{IsFound, elements_at, meets_found, meets_next, written_by}

-- ---- what a point stores to, by its code

module _ (width : ℕ) (compiled : CompiledProgram) (is : IsCompiled compiled) (regions : Regions) (active : Active) (f : Function) where
  -- elements at an index
  pub record StoresElements (array : VarId) (index_code : List Instruction) (point : Point) : Type 0 where
    pub index : Expr
    pub index_at : IsValueAt width compiled regions active index index_code
    pub there : IsArray (variables_of compiled) active.function array
    pub unturned : IsNoTurn point
    pub stores : (view : View) (lanes : Lanes) (state : State) → some_stores view lanes state (put_by point) ≡ meets_reached view lanes (elements_at (view_of state array) (value index lanes state))

  -- those of a part, one after another
  pub record StoresPacked (array : VarId) (from : Option (Vec Instruction Global)) (point : Point) : Type 0 where
    pub index : Option Expr
    pub index_at : IsIndexAt width compiled regions active index from
    pub there : IsArray (variables_of compiled) active.function array
    pub unturned : IsNoTurn point
    pub stores : (view : View) (lanes : Lanes) (state : State) → some_stores view lanes state (put_by point) ≡ meets_reached view lanes (packed_to lanes (part index (view_of state array) lanes state))

  pub assigned : (array : VarId) (index value' : Vec Instruction Global) (next : ℕ) (point : Point) → Does (code.AssignElement array index value' next) point
      → IsActive width compiled regions active f (Some point) → StoresElements array index.items point
  assigned array index value' next (Put (Assign number (ElementOf stored rate i) e) then) does at =
      let point = Put (Assign number (ElementOf stored rate i) e) then in
      subst (λ a. StoresElements a index.items point) does.0 (record {
        index = i;
        index_at = value_at width compiled is regions active f point at i index.items (inl refl) does.1;
        there = (active_well_scoped width compiled is regions active f point at).0;
        unturned = tt;
        stores = λ view lanes state. refl;
      })
  assigned array index value' next point does at = absurd does

  pub changed : (array : VarId) (index : Vec Instruction Global) (change : Change) (value' : Vec Instruction Global) (next : ℕ) (point : Point) → Does (code.ChangeElement array index change value' next) point
      → IsActive width compiled regions active f (Some point) → StoresElements array index.items point
  changed array index change value' next (Put (ModelChange number (ElementOf stored rate i) type op in_type e) then) does at =
      let point = Put (ModelChange number (ElementOf stored rate i) type op in_type e) then in
      subst (λ a. StoresElements a index.items point) does.0 (record {
        index = i;
        index_at = value_at width compiled is regions active f point at i index.items (inl refl) does.1;
        there = (active_well_scoped width compiled is regions active f point at).0;
        unturned = tt;
        stores = λ view lanes state. refl;
      })
  changed array index change value' next point does at = absurd does

  pub packed : (array : VarId) (from : Option (Vec Instruction Global)) (value' : Vec Instruction Global) (result_for : ResultFor) (next : ℕ) (point : Point)
      → Does (code.PackedStore array from value' result_for next) point → IsActive width compiled regions active f (Some point) → StoresPacked array from point
  packed array from value' result_for next (Put (PackedStore number stored index e for) then) does at =
      let point = Put (PackedStore number stored index e for) then in
      subst (λ a. StoresPacked a from point) does.0 (record {
        index = index;
        index_at = index_of width compiled is regions active f point at index from (λ e same. inl same) does.1;
        there = (active_well_scoped width compiled is regions active f point at).0;
        unturned = tt;
        stores = λ view lanes state. refl;
      })
  packed array from value' result_for next point does at = absurd does

-- the code stores to no elements
pub record StoresNowhere (step : StepCode) : Type 0 where
  pub assigns : (array : VarId) (index value' : Vec Instruction Global) (next : ℕ) → step ≡ code.AssignElement array index value' next → ⊥
  pub changes : (array : VarId) (index : Vec Instruction Global) (change : Change) (value' : Vec Instruction Global) (next : ℕ) → step ≡ code.ChangeElement array index change value' next → ⊥
  pub packs : (array : VarId) (from : Option (Vec Instruction Global)) (value' : Vec Instruction Global) (result_for : ResultFor) (next : ℕ) → step ≡ code.PackedStore array from value' result_for next → ⊥

pub stored_nowhere : (step : StepCode) (point : Point) → Does step point → StoresNowhere step → (view : View) (lanes : Lanes) (state : State) → some_stores view lanes state (put_by point) ≡ false
stored_nowhere (code.AssignElement array index value' next) point does none view lanes state = absurd (none.assigns array index value' next refl)
stored_nowhere (code.ChangeElement array index change value' next) point does none view lanes state = absurd (none.changes array index change value' next refl)
stored_nowhere (code.PackedStore array from value' result_for next) point does none view lanes state = absurd (none.packs array from value' result_for next refl)
stored_nowhere step (Put (Assign number (ElementOf stored rate i) e) then) does none view lanes state = absurd does
stored_nowhere step (Put (ModelChange number (ElementOf stored rate i) type op in_type e) then) does none view lanes state = absurd does
stored_nowhere step (Put (PackedStore number stored index e for) then) does none view lanes state = absurd does
stored_nowhere step (Put (Assign number (Scalar x) e) then) does none view lanes state = refl
stored_nowhere step (Put (ModelChange number (Scalar x) type op in_type e) then) does none view lanes state = refl
stored_nowhere step point does none view lanes state = refl

-- ---- what the next step stores to, by its point

module _ (width : ℕ) (compiled : CompiledProgram) (regions : Regions) (active : Active) (f : Function) (masked : Masked)
    (shows : Shows (program_of compiled) (variables_of compiled) width regions masked) where
  pub next_of_point : (o : Option Point) → IsActive width compiled regions active f o → (view : View)
      → meets_next compiled masked view ≡ some_stores view (masked_lanes masked) masked.state (option_and_then put_by o)
  next_of_point o at view =
      let p = program_of compiled in
      ap (λ here. some_stores view (masked_lanes masked) masked.state (option_and_then (put_at p) here))
      (spot p (variables_of compiled) width regions masked shows active.frame active.level active.function f active.step o at.next)
      ∙ ap (λ g. some_stores view (masked_lanes masked) masked.state (option_and_then (λ g. option_and_then put_by (slice_get (points_in g) active.step)) g)) at.next.is_function
      ∙ ap (λ point. some_stores view (masked_lanes masked) masked.state (option_and_then put_by point)) at.next.is_point

-- ---- what was found

-- it fits in memory
abbrev found_bytes : ℕ → ℕ
found_bytes w = up 8 (40 + w * 8)

pub found_small : (w : ℕ) → IsGangWidth w → found_bytes w < 9223372036854775808
found_small w gang = each_width (λ n. found_bytes n < 9223372036854775808) (lit< tt) (lit< tt) (lit< tt) w gang

meets_if_found : (w : ℕ) (view : View) (lanes : Lanes) (found : Result (Stored w) Fault) (meant : Result Written ModelFault) → IsFound w lanes found meant
    → meets_found w view (result_ok found) ≡ meets_reached view lanes meant
meets_if_found w view lanes (Ok stored) meant is = ap (λ ls. meets view ls (written_by w stored)) is.0 ∙ sym (ap (meets_reached view lanes) is.1)
meets_if_found w view lanes (Err fault) meant is = sym (ap (meets_reached view lanes) is)

module _ {T : Type 0} (history : T → History) (width : ℕ) (compiled : CompiledProgram) (is : IsCompiled compiled) (words : MachineWords T) (active : Active) (f : Function) (point : Point)
    (at : IsActive width compiled (regions_in history width words) active f (Some point)) (array : VarId) (found : Result (Stored width) Fault) where
  abbrev regions : Regions
  regions = regions_in history width words

  module _ (masked : Masked) (shown : IsShown history width compiled words masked) (view : View) where
    -- what was found is what the point reaches of the array
    reached_next : IsNoTurn point → IsArray (variables_of compiled) active.function array → (of_part : View → Result Written ModelFault)
        → some_stores view (lanes_of width active.lanes) masked.state (put_by point) ≡ meets_reached view (lanes_of width active.lanes) (of_part (view_of masked.state array))
        → IsFound width (lanes_of width active.lanes) found (of_part (view_at (regions_in history width words) active.frame array))
        → meets_found width view (result_ok found) ≡ meets_next compiled masked view
    reached_next unturned there of_part stores fits =
        let lanes = lanes_of width active.lanes in
        meets_if_found width view lanes found (of_part (view_at regions active.frame array)) fits
        ∙ ap (λ part. meets_reached view lanes (of_part part))
        (sym (array_shown (program_of compiled) (variables_of compiled) width regions masked shown.shows active.frame active.level active.function f active.step (Some point) at.next array there))
        ∙ sym stores
        ∙ ap (λ ls. some_stores view ls masked.state (put_by point)) (lanes_at_step width compiled regions active f masked shown.shows point at unturned)
        ∙ sym (next_of_point width compiled regions active f masked shown.shows (Some point) at view)

    pub elements_next : (index_code : List Instruction) (stores : StoresElements width compiled is (regions_in history width words) active f array index_code point)
        → IsFound width (lanes_of width active.lanes) found (elements_at (view_at (regions_in history width words) active.frame array) (value stores.index (lanes_of width active.lanes) masked.state))
        → meets_found width view (result_ok found) ≡ meets_next compiled masked view
    elements_next index_code stores =
        reached_next stores.unturned stores.there (λ part. elements_at part (value stores.index (lanes_of width active.lanes) masked.state)) (stores.stores view (lanes_of width active.lanes) masked.state)

    pub packed_next : (from : Option (Vec Instruction Global)) (stores : StoresPacked width compiled is (regions_in history width words) active f array from point)
        → IsFound width (lanes_of width active.lanes) found
        (packed_to (lanes_of width active.lanes) (part stores.index (view_at (regions_in history width words) active.frame array) (lanes_of width active.lanes) masked.state))
        → meets_found width view (result_ok found) ≡ meets_next compiled masked view
    packed_next from stores =
        reached_next stores.unturned stores.there (λ whole. packed_to (lanes_of width active.lanes) (part stores.index whole (lanes_of width active.lanes) masked.state))
        (stores.stores view (lanes_of width active.lanes) masked.state)
