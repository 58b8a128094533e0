-- Packed loads.
use Rattle.std.proofs.Common.{ℕ, ◌+◌, ◌≤◌, ◌≡◌, refl, sym, ◌∙◌, ap, subst, arith, List, [], ◌∷◌, length, Option, Some, Vec, Global}
use Rattle.std.specs.Prelude.{IfOk, Result, Ok, Err}
use Rattle.std.proofs.lemmas.List.{length-set}
use Rattle.gang_types.specs.declared.places.VarId.{VarId}
use Rattle.gang_types.specs.declared.places.VarId.TheVariants.{File, Local}
use Rattle.gang_types.specs.declared.types.IntType.TheVariants.{Int32}
use Rattle.gang_types.specs.declared.types.Rate.{Rate}
use Rattle.gang_types.specs.declared.types.Rate.TheVariants.{Uniform, Varying}
use Rattle.gang_types.specs.Lanes.{Lanes, lowest}
use Rattle.gang_types.specs.Masks.{lanes_of}
use Rattle.gang_model.specs.Types.Tree.{Expr, Function, PackedLoad, ResultFor as ModelResultFor, StepNumber}
use Rattle.gang_model.specs.Running.Lanes.{Fault as ModelFault, at, try_each}
use Rattle.gang_model.specs.Running.Library.{rank}
use Rattle.gang_model.specs.Running.State.{View}
use Rattle.gang_model.specs.Running.Step.{part}
use Rattle.gang_model.specs.Running.Value.{element}
use Rattle.gang_model.proofs.LaneWords.{Fills, length-merged, length-try_each}
use Rattle.undo_log.specs.History.{History}
use Rattle.undo_log.specs.declared.timeline.Undone.TheVariants as undone
use Rattle.mask_states.specs.Points.{Point, Put}
use Rattle.mask_states.specs.Masked.{Masked}
use Rattle.typed_tree.specs.declared.expressions.Var.{Var}
use Rattle.typed_tree.specs.declared.statements.ResultFor.{ResultFor}
use Rattle.typed_tree.specs.Views.{result_view, var_view}
use Rattle.machine_states.specs.ArrayParts.{ReadsElements, view_at}
use Rattle.machine_states.specs.Cells.{words_set}
use Rattle.machine_states.specs.Effects.{assigned_in, assigned_region, region_of}
use Rattle.machine_states.specs.WellScoped.{ResultWellScoped}
use Rattle.machine_states.specs.Regions.{FunctionOf, OfHead, Region, Regions, with_region}
use Rattle.machine_states.specs.Steps.{FailsWith, waiting_in}
use Rattle.machine_states.specs.Variables.{IsArray, IsScalar}
use Rattle.machine_states.proofs.PackedSteps.{load_part_fails, load_rank_fails, unpacks}
use Rattle.machine_states.proofs.TopFrame.{has_variable}
use Rattle.expression_instructions.specs.declared.code.Instruction.{Instruction}
use Rattle.codegen.specs.Codes.{Does, IsOptionValue}
use Rattle.codegen.specs.declared.code.StepCode.TheVariants as code
use Rattle.machine_words.specs.declared.words.MachineWords.{MachineWords}
use Rattle.machine_words.specs.Words.{Writes, regions_in}
use Rattle.frame_steps.specs.declared.active.Active.{Active}
use Rattle.frame_steps.specs.declared.compiled.CompiledProgram.{CompiledProgram}
use Rattle.frame_steps.specs.Compiled.{program_of, variables_of}
use Rattle.frame_steps.specs.Delivering.{GivesResult, TakesResult}
use Rattle.frame_steps.specs.Parts.{HasNextPoint, IsIndexAt, counts_of}
use Rattle.frame_steps.specs.Standing.{AreSound, Begins, DoesNext, EndsAs, IsActive, IsShown}
use Rattle.frame_steps.proofs.NamedParts.{index_of}
use Rattle.frame_steps.proofs.PackedCounts.{MayGive, counted, counted_may_send, counted_sent, may_give, result_there}
use Rattle.frame_steps.proofs.Standings.{IsUnderWay, begun, ends_well, frame_below, lanes_long, sized, some_active}
use Rattle.frame_steps.proofs.StepValues.{IsAt, active_names, active_well_scoped}
use Rattle.frame_steps.specs.Written.{MaySend}
use Rattle.frame_steps.proofs.SentSteps.{HasPlace, MayPut, Sends, may_put_first, put_so, scalar_place}

-- what the code says of its point
module _ (width : ℕ) (compiled : CompiledProgram) (regions : Regions) (active : Active) (array : VarId) (from : Option (Vec Instruction Global)) (into : Var) (result_for : ResultFor) (next : ℕ) where
  pub record IsUnpacking (f : Function) : Type 0 where
    pub number : StepNumber
    pub index : Option Expr
    pub index_is : IsOptionValue index from
    pub here : IsAt width compiled regions active f (Put (PackedLoad number array index (var_view into) (result_view result_for)) next)

  unpack_at : (f : Function) (point : Point) → Does (code.PackedLoad array from into result_for next) point → IsAt width compiled regions active f point → IsUnpacking f
  unpack_at f (Put (PackedLoad number a index x for) then) does at = record {
    number = number;
    index = index;
    index_is = does.1;
    here = subst (λ m. IsAt width compiled regions active f (Put (PackedLoad number array index (var_view into) (result_view result_for)) m)) does.4
        (subst (λ r. IsAt width compiled regions active f (Put (PackedLoad number array index (var_view into) r) then)) does.3
        (subst (λ y. IsAt width compiled regions active f (Put (PackedLoad number array index y for) then)) does.2
        (subst (λ b. IsAt width compiled regions active f (Put (PackedLoad number b index x for) then)) does.0 at)));
  }
  unpack_at f point does at = absurd does

  pub unpacks_at : DoesNext width compiled regions active (code.PackedLoad array from into result_for next) → (f : Function) × IsUnpacking f
  unpacks_at does = (does.0, unpack_at does.0 does.1 does.2 does.3)

-- the frame's function is not among the words of a variable
function_beside : (v : VarId) (words : List ℕ) (regions : Regions) (i : ℕ) → with_region (region_of i v) words regions (OfHead i FunctionOf) ≡ regions (OfHead i FunctionOf)
function_beside (File k) words regions i = refl
function_beside (Local k) words regions i = refl

-- an assignment leaves as many words
words_kept : (width : ℕ) (rate : Rate) (lanes : Lanes) (values region : List ℕ) → HasPlace width rate region → length lanes ≡ width → length values ≡ width
    → length (assigned_region rate lanes values region) ≡ length region
words_kept width Uniform lanes values region place long given = length-set region 0 (at values (lowest lanes))
words_kept width Varying lanes values region place long given =
    let size : length region ≡ width = omega (arith, place.0, place.1) in
    length-merged lanes values region (given ∙ sym long) (size ∙ sym long) ∙ long ∙ sym size

module _ {T : Type 0} (history : T → History) (left : T → ℕ) (width : ℕ) (compiled : CompiledProgram) (old : MachineWords T) (sound : AreSound history width compiled old) (active : Active)
    (array : VarId) (from : Option (Vec Instruction Global)) (into : Var) (result_for : ResultFor) (next : ℕ)
    (does : DoesNext width compiled (regions_in history width old) active (code.PackedLoad array from into result_for next)) where
  abbrev regions : Regions
  regions = regions_in history width old

  abbrev lanes : Lanes
  lanes = waiting_in regions active.frame active.level active.step

  abbrev for : ModelResultFor
  for = result_view result_for

  abbrev found : (f : Function) × IsUnpacking width compiled (regions_in history width old) active array from into result_for next f
  found = unpacks_at width compiled (regions_in history width old) active array from into result_for next does

  abbrev pub index_expr : Option Expr
  index_expr = found.1.index

  abbrev point : Point
  point = Put (PackedLoad found.1.number array index_expr (var_view into) for) next

  here : IsActive width compiled (regions_in history width old) active found.0 (Some point)
  here = found.1.here

  pub has_point : HasNextPoint width compiled (regions_in history width old) active
  has_point = (found.0, point, here, some_active history width compiled old sound active found.0 point here tt)

  array_here : IsArray (variables_of compiled) active.function array
  array_here = (active_well_scoped width compiled sound.lie.compiled_is regions active found.0 point here).0

  scalar_here : IsScalar (variables_of compiled) active.function (var_view into)
  scalar_here = (active_well_scoped width compiled sound.lie.compiled_is regions active found.0 point here).2

  result_well_scoped : ResultWellScoped (variables_of compiled) active.function for
  result_well_scoped = (active_well_scoped width compiled sound.lie.compiled_is regions active found.0 point here).3

  pub index_here : IsIndexAt width compiled (regions_in history width old) active index_expr from
  index_here = index_of width compiled sound.lie.compiled_is regions active found.0 point here index_expr from (λ e is. is) found.1.index_is

  few_words : 0 + width + (width + 1) + width ≤ words_set width point
  few_words = omega arith

  module _ (masked : Masked) (shown : IsShown history width compiled old masked) where
    part_is : (r : Result View ModelFault) → part index_expr (view_at (regions_in history width old) active.frame array) (lanes_of width active.lanes) masked.state ≡ r
        → part index_expr (view_at (regions_in history width old) active.frame array) (waiting_in (regions_in history width old) active.frame active.level active.step) masked.state ≡ r
    part_is r is = ap (λ l. part index_expr (view_at regions active.frame array) l masked.state) (sym here.lanes) ∙ is

    pub part_faults : (fault : ModelFault) → part index_expr (view_at (regions_in history width old) active.frame array) (lanes_of width active.lanes) masked.state ≡ Err fault → FailsWith (program_of compiled) masked fault
    part_faults fault is =
        load_part_fails (program_of compiled) (variables_of compiled) width regions masked shown.shows active.frame active.level active.function found.0 active.step found.1.number array index_expr (var_view into) for next
        here.next array_here fault (part_is (Err fault) is)

    module _ (view : View) (view_is : part index_expr (view_at (regions_in history width old) active.frame array) (lanes_of width active.lanes) masked.state ≡ Ok view) where
      tried : (r : Result (List ℕ) ModelFault) → ReadsElements (regions_in history width old) view (lanes_of width active.lanes) (rank (lanes_of width active.lanes)) r
          → try_each lanes (λ k. element masked.state view (rank lanes k)) ≡ r
      tried r reads = ap (λ l. try_each l (λ k. element masked.state view (rank l k))) (sym here.lanes) ∙ sym (reads masked.state shown.shows.memory)

      pub rank_faults : (fault : ModelFault) → ReadsElements (regions_in history width old) view (lanes_of width active.lanes) (rank (lanes_of width active.lanes)) (Err fault) → FailsWith (program_of compiled) masked fault
      rank_faults fault reads =
          load_rank_fails (program_of compiled) (variables_of compiled) width regions masked shown.shows active.frame active.level active.function found.0 active.step found.1.number array index_expr (var_view into) for next
          here.next array_here view (part_is (Ok view) view_is) fault (tried (Err fault) reads)

  module _ (mid : MachineWords T) (begins : Begins history left width undone.Step old mid) (region : Region) (region_is : region ≡ region_of active.frame into.id) where
    pub may_load : MayPut history left width into.rate region active.lanes mid
    may_load = may_put_first history left width compiled old sound active found.0 point here (var_view into) scalar_here (omega arith) mid begins region region_is has_point.3

    module _ (values : List ℕ) (put : MachineWords T)
        (made : Writes history left width region (assigned_region into.rate (lanes_of width active.lanes) values (regions_in history width mid region)) width mid put) where
      abbrev with_values : Regions
      with_values = assigned_in active.frame into.id into.rate lanes values regions

      is_put : IsUnderWay history left width undone.Step with_values (0 + width) old put
      is_put =
          put_so history left width compiled old sound active found.0 point here regions 0 mid (begun history left width compiled undone.Step old mid sound.lie begins) (omega arith)
          put region into.id region_is (λ l ws. assigned_region into.rate l values ws) made

      runs : with_values (OfHead active.frame FunctionOf) ≡ active.function ∷ []
      runs = function_beside into.id (assigned_region into.rate lanes values (regions (region_of active.frame into.id))) regions active.frame ∙ here.next.function

      pub loaded_may_give : MayGive history left width compiled active (result_view result_for) put
      loaded_may_give = may_give history left width compiled old sound active found.0 point here for result_well_scoped with_values (0 + width) put is_put runs few_words has_point.3

      module _ (given : MachineWords T)
          (gives : (g : Function) → TakesResult compiled (regions_in history width put) active.frame (result_view result_for) g
          → GivesResult history left width active.frame g (result_view result_for) Int32 (lanes_of width active.lanes) (counts_of (lanes_of width active.lanes)) put given) where
        pub loaded_may_send : MaySend history left width active.frame active.level active.lanes given
        loaded_may_send = counted_may_send history left width compiled old sound active found.0 point here for result_well_scoped with_values (0 + width) put is_put runs few_words given gives has_point.3

        pub loaded_ends : (new : MachineWords T) → Sends history left width active.frame active.level active.lanes (λ k. next) given new
            → (masked : Masked) → IsShown history width compiled old masked
            → (view : View) → part index_expr (view_at (regions_in history width old) active.frame array) (lanes_of width active.lanes) masked.state ≡ Ok view
            → ReadsElements (regions_in history width old) view (lanes_of width active.lanes) (rank (lanes_of width active.lanes)) (Ok values)
            → EndsAs history width compiled masked old (Ok tt) new
        loaded_ends new sends masked shown view view_is reads =
            let out = counted history left width compiled old sound active found.0 point here for result_well_scoped with_values (0 + width) put is_put runs few_words given gives in
            let names = active_names width compiled sound.lie.compiled_is regions active found.0 point here in
            let sizes = sized history width compiled old old sound.lie refl sound.lie.laid in
            let wide : length lanes ≡ width = sym (ap length here.lanes) ∙ lanes_long width active.lanes in
            let read : try_each lanes (λ k. element masked.state view (rank lanes k)) ≡ Ok values = tried masked shown view view_is (Ok values) reads in
            let full : length values ≡ width = subst (λ r. IfOk r (Fills lanes)) read (length-try_each lanes (λ k. element masked.state view (rank lanes k))) ∙ wide in
            let place = scalar_place (variables_of compiled) width sound.lie.gang regions sizes active.frame active.function (frame_below history width compiled old sound active found.0 (Some point) here) (var_view into) scalar_here in
            ends_well history left width compiled masked _ (0 + width + (width + 1) + width) old new
            (counted_sent history left width compiled old sound active found.0 point here for result_well_scoped with_values (0 + width) put is_put runs few_words given gives new next sends)
            (unpacks (program_of compiled) (variables_of compiled) width regions masked shown.shows active.frame active.level active.function found.0 active.step found.1.number array index_expr (var_view into) for next
            here.next array_here view (part_is masked shown (Ok view) view_is) values read sizes scalar_here
            (has_variable (program_of compiled) (variables_of compiled) width regions masked shown.shows active.frame active.level active.function found.0 active.step point here.next shown.declared into.id names.1)
            result_well_scoped (result_there history left width compiled old sound active found.0 point here for masked shown names.2)
            (words_kept width into.rate lanes values (regions (region_of active.frame into.id)) place wide full)
            out.delivered out.delivers)
