-- Packed stores.
use Rattle.std.proofs.Common.{ℕ, ◌+◌, ◌≤◌, inl, inr, false, ◌≡◌, refl, sym, ◌∙◌, ap, subst, arith, List, [], ◌∷◌, Option, Some, Vec, Global}
use Rattle.std.specs.Prelude.{Result, Ok, Err}
use Rattle.gang_types.specs.declared.places.VarId.{VarId}
use Rattle.gang_types.specs.declared.types.IntType.TheVariants.{Int32}
use Rattle.gang_types.specs.declared.places.VarId.TheVariants.{File, Local}
use Rattle.gang_types.specs.Lanes.{Lanes, no_lane}
use Rattle.gang_types.specs.Masks.{lanes_of}
use Rattle.gang_model.specs.Types.Tree.{Expr, Function, PackedStore, ResultFor as ModelResultFor, StepNumber}
use Rattle.gang_model.specs.Running.Lanes.{Fault as ModelFault, try_each}
use Rattle.gang_model.specs.Running.Library.{rank}
use Rattle.gang_model.specs.Running.State.{View}
use Rattle.gang_model.specs.Running.Step.{part}
use Rattle.gang_model.specs.Running.Value.{element, value}
use Rattle.undo_log.specs.History.{History}
use Rattle.undo_log.specs.declared.timeline.Undone.TheVariants as undone
use Rattle.gang_memory.specs.Elements.{stored}
use Rattle.gang_memory.specs.Packed.{ranks_of}
use Rattle.mask_states.specs.Points.{Point, Put}
use Rattle.mask_states.specs.Masked.{Masked}
use Rattle.typed_tree.specs.declared.statements.ResultFor.{ResultFor}
use Rattle.typed_tree.specs.Views.{result_view}
use Rattle.machine_states.specs.ArrayParts.{IsInside, ReadsElements, array_region, view_at}
use Rattle.machine_states.specs.Cells.{words_set}
use Rattle.machine_states.specs.Effects.{stored_in, stored_region}
use Rattle.machine_states.specs.WellScoped.{ResultWellScoped}
use Rattle.machine_states.specs.Regions.{FunctionOf, OfHead, Regions, with_region}
use Rattle.machine_states.specs.Steps.{FailsWith, waiting_in}
use Rattle.machine_states.specs.Variables.{IsArray}
use Rattle.machine_states.proofs.PackedSteps.{pack_value_fails, packs, part_fails, rank_fails}
use Rattle.expression_instructions.specs.declared.code.Instruction.{Instruction}
use Rattle.codegen.specs.Codes.{Does, IsOptionValue, IsValue}
use Rattle.codegen.specs.declared.code.StepCode.TheVariants as code
use Rattle.machine_words.specs.declared.words.MachineWords.{MachineWords}
use Rattle.machine_words.specs.Words.{AreLaid, Writes, left_of, regions_in}
use Rattle.frame_steps.specs.declared.active.Active.{Active}
use Rattle.frame_steps.specs.declared.compiled.CompiledProgram.{CompiledProgram}
use Rattle.frame_steps.specs.Compiled.{program_of, variables_of}
use Rattle.frame_steps.specs.Delivering.{GivesResult, TakesResult}
use Rattle.frame_steps.specs.Parts.{HasNextPoint, IsIndexAt, counts_of}
use Rattle.frame_steps.specs.Standing.{AreSound, Begins, DoesNext, EndsAs, IsActive, IsShown, IsValueAt}
use Rattle.frame_steps.proofs.NamedParts.{index_of}
use Rattle.frame_steps.proofs.PackedCounts.{MayGive, counted, counted_may_send, counted_sent, may_give, result_there}
use Rattle.frame_steps.proofs.Standings.{IsUnderWay, begun, begun_laid, begun_regions, ends_well, may_write, sized, some_active, step_within}
use Rattle.frame_steps.proofs.StepValues.{IsAt, active_names, active_well_scoped, value_at}
use Rattle.frame_steps.specs.Written.{MaySend}
use Rattle.frame_steps.proofs.SentSteps.{Sends, wrote_so}

-- what the code says of its point
module _ (width : ℕ) (compiled : CompiledProgram) (regions : Regions) (active : Active) (array : VarId) (from : Option (Vec Instruction Global)) (value' : Vec Instruction Global) (result_for : ResultFor) (next : ℕ) where
  pub record IsPacking (f : Function) : Type 0 where
    pub number : StepNumber
    pub index : Option Expr
    pub e : Expr
    pub index_is : IsOptionValue index from
    pub value_is : IsValue e value'.items
    pub here : IsAt width compiled regions active f (Put (PackedStore number array index e (result_view result_for)) next)

  pack_at : (f : Function) (point : Point) → Does (code.PackedStore array from value' result_for next) point → IsAt width compiled regions active f point → IsPacking f
  pack_at f (Put (PackedStore number a index e for) then) does at = record {
    number = number;
    index = index;
    e = e;
    index_is = does.1;
    value_is = does.2;
    here = subst (λ m. IsAt width compiled regions active f (Put (PackedStore number array index e (result_view result_for)) m)) does.4
        (subst (λ r. IsAt width compiled regions active f (Put (PackedStore number array index e r) then)) does.3
        (subst (λ b. IsAt width compiled regions active f (Put (PackedStore number b index e for) then)) does.0 at));
  }
  pack_at f point does at = absurd does

  pub packs_at : DoesNext width compiled regions active (code.PackedStore array from value' result_for next) → (f : Function) × IsPacking f
  packs_at does = (does.0, pack_at does.0 does.1 does.2 does.3)

-- the frame's function is not among the words of an array
function_away : (v : VarId) (words : List ℕ) (regions : Regions) (i : ℕ) → with_region (array_region v) words regions (OfHead i FunctionOf) ≡ regions (OfHead i FunctionOf)
function_away (File k) words regions i = refl
function_away (Local k) words regions i = refl

module _ {T : Type 0} (history : T → History) (left : T → ℕ) (width : ℕ) (compiled : CompiledProgram) (old : MachineWords T) (sound : AreSound history width compiled old) (active : Active)
    (array : VarId) (from : Option (Vec Instruction Global)) (value' : Vec Instruction Global) (result_for : ResultFor) (next : ℕ)
    (does : DoesNext width compiled (regions_in history width old) active (code.PackedStore array from value' result_for next)) where
  abbrev regions : Regions
  regions = regions_in history width old

  abbrev lanes : Lanes
  lanes = waiting_in regions active.frame active.level active.step

  abbrev for : ModelResultFor
  for = result_view result_for

  abbrev found : (f : Function) × IsPacking width compiled (regions_in history width old) active array from value' result_for next f
  found = packs_at width compiled (regions_in history width old) active array from value' result_for next does

  abbrev pub index_expr : Option Expr
  index_expr = found.1.index

  abbrev pub value_expr : Expr
  value_expr = found.1.e

  abbrev point : Point
  point = Put (PackedStore found.1.number array index_expr value_expr for) next

  here : IsActive width compiled (regions_in history width old) active found.0 (Some point)
  here = found.1.here

  pub has_point : HasNextPoint width compiled (regions_in history width old) active
  has_point = (found.0, point, here, some_active history width compiled old sound active found.0 point here tt)

  array_here : IsArray (variables_of compiled) active.function array
  array_here = (active_well_scoped width compiled sound.lie.compiled_is regions active found.0 point here).0

  result_well_scoped : ResultWellScoped (variables_of compiled) active.function for
  result_well_scoped = (active_well_scoped width compiled sound.lie.compiled_is regions active found.0 point here).3

  pub index_here : IsIndexAt width compiled (regions_in history width old) active index_expr from
  index_here = index_of width compiled sound.lie.compiled_is regions active found.0 point here index_expr from (λ e is. inl is) found.1.index_is

  pub value_here : (read : List Instruction) → read ≡ value'.items → IsValueAt width compiled (regions_in history width old) active value_expr read
  value_here read is =
      subst (λ c. IsValueAt width compiled regions active value_expr c) (sym is)
      (value_at width compiled sound.lie.compiled_is regions active found.0 point here value_expr value'.items (inr refl) found.1.value_is)

  pub some_here : no_lane (lanes_of width active.lanes) ≡ false
  some_here = has_point.3

  few_words : 0 + width + (width + 1) + width ≤ words_set width point
  few_words = omega arith

  module _ (masked : Masked) (shown : IsShown history width compiled old masked) where
    part_is : (r : Result View ModelFault) → part index_expr (view_at (regions_in history width old) active.frame array) (lanes_of width active.lanes) masked.state ≡ r
        → part index_expr (view_at (regions_in history width old) active.frame array) (waiting_in (regions_in history width old) active.frame active.level active.step) masked.state ≡ r
    part_is r is = ap (λ l. part index_expr (view_at regions active.frame array) l masked.state) (sym here.lanes) ∙ is

    pub part_faults : (fault : ModelFault) → part index_expr (view_at (regions_in history width old) active.frame array) (lanes_of width active.lanes) masked.state ≡ Err fault → FailsWith (program_of compiled) masked fault
    part_faults fault is =
        part_fails (program_of compiled) (variables_of compiled) width regions masked shown.shows active.frame active.level active.function found.0 active.step found.1.number array index_expr value_expr for next
        here.next array_here fault (part_is (Err fault) is)

    module _ (view : View) (view_is : part index_expr (view_at (regions_in history width old) active.frame array) (lanes_of width active.lanes) masked.state ≡ Ok view) where
      by_lanes : (r : Result (List ℕ) ModelFault) → value value_expr (lanes_of width active.lanes) masked.state ≡ r → value value_expr lanes masked.state ≡ r
      by_lanes r is = ap (λ l. value value_expr l masked.state) (sym here.lanes) ∙ is

      pub value_faults : (fault : ModelFault) → value value_expr (lanes_of width active.lanes) masked.state ≡ Err fault → FailsWith (program_of compiled) masked fault
      value_faults fault is =
          pack_value_fails (program_of compiled) (variables_of compiled) width regions masked shown.shows active.frame active.level active.function found.0 active.step found.1.number array index_expr value_expr for next
          here.next array_here view (part_is (Ok view) view_is) fault (by_lanes (Err fault) is)

      module _ (x : List ℕ) (value_is : value value_expr (lanes_of width active.lanes) masked.state ≡ Ok x) where
        tried : (r : Result (List ℕ) ModelFault) → ReadsElements (regions_in history width old) view (lanes_of width active.lanes) (rank (lanes_of width active.lanes)) r
            → try_each lanes (λ k. element masked.state view (rank lanes k)) ≡ r
        tried r reads = ap (λ l. try_each l (λ k. element masked.state view (rank l k))) (sym here.lanes) ∙ sym (reads masked.state shown.shows.memory)

        pub rank_faults : (fault : ModelFault) → ReadsElements (regions_in history width old) view (lanes_of width active.lanes) (rank (lanes_of width active.lanes)) (Err fault) → FailsWith (program_of compiled) masked fault
        rank_faults fault reads =
            rank_fails (program_of compiled) (variables_of compiled) width regions masked shown.shows active.frame active.level active.function found.0 active.step found.1.number array index_expr value_expr for next
            here.next array_here view (part_is (Ok view) view_is) x (by_lanes (Ok x) value_is) fault (tried (Err fault) reads)

  module _ (mid : MachineWords T) (begins : Begins history left width undone.Step old mid) where
    pub inside_still : (view : View) → IsInside (regions_in history width old) view → IsInside (regions_in history width mid) view
    inside_still view inside = subst (λ r. IsInside r view) (sym (begun_regions history left width compiled undone.Step old mid sound.lie begins)) inside

    pub mid_laid : AreLaid history width mid
    mid_laid = begun_laid history left width compiled undone.Step old mid sound.lie begins

    pub room_here : width ≤ left_of history left mid
    room_here =
        may_write history left width undone.Step regions 0 old mid (begun history left width compiled undone.Step old mid sound.lie begins) width
        (omega (arith, step_within history width compiled old sound.lie active found.0 point here))

    module _ (view : View) (x : List ℕ) (put : MachineWords T)
        (made : Writes history left width (array_region view.array)
        (stored view.first (lanes_of width active.lanes) (ranks_of (lanes_of width active.lanes)) x (regions_in history width mid (array_region view.array))) width mid put) where
      abbrev with_elements : Regions
      with_elements = stored_in view lanes (ranks_of lanes) x regions

      is_put : IsUnderWay history left width undone.Step with_elements (0 + width) old put
      is_put =
          wrote_so history left width regions 0 old mid put (begun history left width compiled undone.Step old mid sound.lie begins) (array_region view.array) (array_region view.array) refl
          (stored view.first (lanes_of width active.lanes) (ranks_of (lanes_of width active.lanes)) x) (stored_region view lanes (ranks_of lanes) x)
          (λ ws. ap (λ l. stored view.first l (ranks_of l) x ws) here.lanes) width made

      runs : with_elements (OfHead active.frame FunctionOf) ≡ active.function ∷ []
      runs = function_away view.array (stored_region view lanes (ranks_of lanes) x (regions (array_region view.array))) regions active.frame ∙ here.next.function

      pub stored_may_give : MayGive history left width compiled active (result_view result_for) put
      stored_may_give = may_give history left width compiled old sound active found.0 point here for result_well_scoped with_elements (0 + width) put is_put runs few_words some_here

      module _ (given : MachineWords T)
          (gives : (g : Function) → TakesResult compiled (regions_in history width put) active.frame (result_view result_for) g
          → GivesResult history left width active.frame g (result_view result_for) Int32 (lanes_of width active.lanes) (counts_of (lanes_of width active.lanes)) put given) where
        pub stored_may_send : MaySend history left width active.frame active.level active.lanes given
        stored_may_send = counted_may_send history left width compiled old sound active found.0 point here for result_well_scoped with_elements (0 + width) put is_put runs few_words given gives some_here

        pub stored_ends : (new : MachineWords T) → Sends history left width active.frame active.level active.lanes (λ k. next) given new
            → (masked : Masked) → IsShown history width compiled old masked
            → part index_expr (view_at (regions_in history width old) active.frame array) (lanes_of width active.lanes) masked.state ≡ Ok view
            → value value_expr (lanes_of width active.lanes) masked.state ≡ Ok x
            → (there : List ℕ) → ReadsElements (regions_in history width old) view (lanes_of width active.lanes) (rank (lanes_of width active.lanes)) (Ok there)
            → EndsAs history width compiled masked old (Ok tt) new
        stored_ends new sends masked shown view_is value_is there reads =
            let out = counted history left width compiled old sound active found.0 point here for result_well_scoped with_elements (0 + width) put is_put runs few_words given gives in
            let names = active_names width compiled sound.lie.compiled_is regions active found.0 point here in
            ends_well history left width compiled masked _ (0 + width + (width + 1) + width) old new
            (counted_sent history left width compiled old sound active found.0 point here for result_well_scoped with_elements (0 + width) put is_put runs few_words given gives new next sends)
            (packs (program_of compiled) (variables_of compiled) width regions masked shown.shows active.frame active.level active.function found.0 active.step found.1.number array index_expr value_expr for next
            here.next array_here view (part_is masked shown (Ok view) view_is) x (by_lanes masked shown view view_is (Ok x) value_is) there (tried masked shown view view_is x value_is (Ok there) reads)
            (sized history width compiled old old sound.lie refl sound.lie.laid) result_well_scoped
            (result_there history left width compiled old sound active found.0 point here for masked shown names.2)
            out.delivered out.delivers)
