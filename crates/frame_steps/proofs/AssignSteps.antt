-- Declarations, assignments and changes of variables.
use Rattle.std.proofs.Common.{ℕ, ◌+◌, ◌<◌, ◌≡◌, refl, sym, ◌∙◌, ap, subst, arith, List, length, slice_index, Option, Some, None, Vec, Global}
use Rattle.std.specs.Prelude.{Result, Ok, Err, replicate}
use Rattle.gang_types.specs.Lanes.{Lanes}
use Rattle.gang_types.specs.Masks.{lanes_of}
use Rattle.gang_model.specs.Types.Tree.{Expr, StepNumber, Function, Scalar, Declare, Assign, Change as ModelChange}
use Rattle.gang_model.specs.Running.Lanes.{Fault as ModelFault, at}
use Rattle.gang_model.specs.Running.State.{seen}
use Rattle.gang_model.specs.Running.Step.{initial}
use Rattle.gang_model.specs.Running.Value.{value}
use Rattle.undo_log.specs.History.{History}
use Rattle.undo_log.specs.declared.timeline.Undone.TheVariants as undone
use Rattle.typed_tree.specs.declared.expressions.Var.{Var}
use Rattle.typed_tree.specs.Views.{var_view}
use Rattle.mask_states.specs.Points.{Point, Put}
use Rattle.mask_states.specs.Masked.{Masked}
use Rattle.machine_states.specs.Variables.{IsOwn, IsScalar}
use Rattle.machine_states.specs.Declared.{IsThere, declared_before}
use Rattle.machine_states.specs.Regions.{Region, Regions}
use Rattle.machine_states.specs.Shows.{AreSized}
use Rattle.machine_states.specs.Effects.{assigned_in, declared_in, declared_region, region_of, sent_on}
use Rattle.machine_states.specs.Steps.{FailsWith, GoesTo, waiting_in}
use Rattle.machine_states.proofs.PutSteps.{assignment_fails, assigns, changes, declaration_fails, declares, operand_fails, operated, operation_fails, result_words}
use Rattle.expression_instructions.specs.Read.{place_in}
use Rattle.expression_instructions.specs.declared.code.Instruction.{Instruction}
use Rattle.codegen.specs.declared.code.Change.{Change}
use Rattle.codegen.specs.declared.code.StepCode.TheVariants as code
use Rattle.machine_words.specs.declared.words.MachineWords.{MachineWords}
use Rattle.machine_words.specs.Words.{Writes, regions_in}
use Rattle.frame_steps.specs.declared.active.Active.{Active}
use Rattle.frame_steps.specs.declared.compiled.CompiledProgram.{CompiledProgram}
use Rattle.frame_steps.specs.Compiled.{program_of, variables_of}
use Rattle.frame_steps.specs.Results.{changed}
use Rattle.frame_steps.specs.Standing.{AreSound, Begins, DoesNext, EndsAs, IsActive, IsShown, IsValueAt, SetsValues}
use Rattle.frame_steps.proofs.OldWords.{changed_fails, changed_gives}
use Rattle.frame_steps.proofs.OptionValues.{each_zero, no_value, some_value}
use Rattle.frame_steps.proofs.Standings.{ends_well, lanes_long, sized, some_active}
use Rattle.frame_steps.proofs.StepValues.{IsAssigning, IsChanging, IsDeclaring, IsValueOf, active_names, active_well_scoped, assigns_at, changes_at, declares_at, value_at}
use Rattle.frame_steps.specs.Written.{MaySend}
use Rattle.frame_steps.proofs.SentSteps.{MayPut, Sends, may_put_first, may_send_then, sent_then}

module _ {T : Type 0} (history : T → History) (left : T → ℕ) (width : ℕ) (compiled : CompiledProgram) (old : MachineWords T) (sound : AreSound history width compiled old) (active : Active) where
  abbrev regions : Regions
  regions = regions_in history width old

  abbrev lanes : Lanes
  lanes = waiting_in regions active.frame active.level active.step

  sizes : AreSized (variables_of compiled) width regions
  sizes = sized history width compiled old old sound.lie refl sound.lie.laid

  -- ---- declarations

  module _ (variable : Var) (value' : Option (Vec Instruction Global)) (next : ℕ) (does : DoesNext width compiled (regions_in history width old) active (code.Declare variable value' next)) where
    abbrev found_declaration : (f : Function) × IsDeclaring width compiled (regions_in history width old) active variable next value' f
    found_declaration = declares_at width compiled (regions_in history width old) active variable next value' does

    abbrev pub declared_value : Option Expr
    declared_value = found_declaration.1.1

    abbrev declaring : Function
    declaring = found_declaration.0

    abbrev declaration : Point
    declaration = Put (Declare found_declaration.1.0 (var_view variable) declared_value) next

    declares_here : IsActive width compiled (regions_in history width old) active declaring (Some declaration)
    declares_here = found_declaration.1.3

    own_here : (k : ℕ) × IsOwn (variables_of compiled) active.function k (var_view variable)
    own_here = (active_well_scoped width compiled sound.lie.compiled_is regions active declaring declaration declares_here).0

    pub initial_at : (given : Vec Instruction Global) → value' ≡ Some given → (read : List Instruction) → read ≡ given.items
        → (v : Expr) × (declared_value ≡ Some v) × IsValueAt width compiled (regions_in history width old) active v read
    initial_at given same read is =
        let there = some_value declared_value value' given found_declaration.1.2 same in
        let number = found_declaration.1.0 in (
          there.0,
          there.1,
          subst (λ c. IsValueAt width compiled regions active there.0 c) (sym is)
              (value_at width compiled sound.lie.compiled_is regions active declaring declaration declares_here there.0 given.items
              (subst (λ o. IsValueOf (Put (Declare number (var_view variable) o) next) there.0) (sym there.1) refl) there.2),
        )

    pub initial_is : (masked : Masked) (v : Expr) → declared_value ≡ Some v → (r : Result (List ℕ) ModelFault) → value v (lanes_of width active.lanes) masked.state ≡ r
        → initial declared_value (waiting_in (regions_in history width old) active.frame active.level active.step) masked.state ≡ r
    initial_is masked v is r answer =
        ap (λ e. initial e lanes masked.state) is ∙ ap (λ l. value v l masked.state) (sym declares_here.lanes) ∙ answer

    pub no_initial_is : (masked : Masked) → value' ≡ None → initial declared_value (waiting_in (regions_in history width old) active.frame active.level active.step) masked.state ≡ Ok (replicate width 0)
    no_initial_is masked none =
        ap (λ e. initial e lanes masked.state) (no_value declared_value value' found_declaration.1.2 none)
        ∙ ap Ok (each_zero width lanes (sym (ap length declares_here.lanes) ∙ lanes_long width active.lanes))

    pub declaration_faults : (masked : Masked) → IsShown history width compiled old masked → (fault : ModelFault)
        → initial declared_value (waiting_in (regions_in history width old) active.frame active.level active.step) masked.state ≡ Err fault → FailsWith (program_of compiled) masked fault
    declaration_faults masked shown fault is =
        declaration_fails (program_of compiled) (variables_of compiled) width regions masked shown.shows active.frame active.level active.function declaring active.step
        found_declaration.1.0 (var_view variable) declared_value next declares_here.next fault is

    module _ (mid : MachineWords T) (begins : Begins history left width undone.Step old mid) (region : Region) (region_is : region ≡ region_of active.frame variable.id) where
      pub may_declare : MayPut history left width variable.rate region active.lanes mid
      may_declare = may_put_first history left width compiled old sound active declaring declaration declares_here (var_view variable) own_here.1.scalar (omega arith) mid begins region region_is
          (some_active history width compiled old sound active declaring declaration declares_here tt)

      module _ (values : List ℕ) (put : MachineWords T)
          (made : Writes history left width region (declared_region variable.rate (lanes_of width active.lanes) values (regions_in history width mid region)) width mid put) where
        pub declared_may_send : MaySend history left width active.frame active.level active.lanes put
        declared_may_send =
            may_send_then history left width compiled old sound active declaring declaration declares_here (var_view variable) own_here.1.scalar (omega arith) mid begins region region_is
            (λ l ws. declared_region variable.rate l values ws) put made (some_active history width compiled old sound active declaring declaration declares_here tt)

        pub declared_ends : (new : MachineWords T) → Sends history left width active.frame active.level active.lanes (λ k. next) put new
            → (masked : Masked) → IsShown history width compiled old masked → initial declared_value (waiting_in (regions_in history width old) active.frame active.level active.step) masked.state ≡ Ok values
            → EndsAs history width compiled masked old (Ok tt) new
        declared_ends new sends masked shown is =
            ends_well history left width compiled masked
            (sent_on active.frame active.level lanes (λ k. next) (declared_in active.frame variable.id variable.rate lanes values regions)) (0 + width + width) old new
            (sent_then history left width compiled old sound active declaring declaration declares_here (var_view variable) own_here.1.scalar (omega arith) mid begins region region_is
            (λ l ws. declared_region variable.rate l values ws) put made new next sends)
            (declares (program_of compiled) (variables_of compiled) width regions masked shown.shows active.frame active.level active.function declaring active.step
            found_declaration.1.0 (var_view variable) declared_value next declares_here.next
            sizes own_here.0 own_here.1 values is)

  -- ---- assignments

  module _ (variable : Var) (value' : Vec Instruction Global) (next : ℕ) (does : DoesNext width compiled (regions_in history width old) active (code.Assign variable value' next)) where
    abbrev found_assignment : (f : Function) × IsAssigning width compiled (regions_in history width old) active variable next value' f
    found_assignment = assigns_at width compiled (regions_in history width old) active variable next value' does

    abbrev pub assigned_value : Expr
    assigned_value = found_assignment.1.1

    abbrev assigning : Function
    assigning = found_assignment.0

    abbrev assignment : Point
    assignment = Put (Assign found_assignment.1.0 (Scalar (var_view variable)) assigned_value) next

    assigns_here : IsActive width compiled (regions_in history width old) active assigning (Some assignment)
    assigns_here = found_assignment.1.3

    pub scalar_here : IsScalar (variables_of compiled) active.function (var_view variable)
    scalar_here = (active_well_scoped width compiled sound.lie.compiled_is regions active assigning assignment assigns_here).0

    there_here : IsThere (declared_before (variables_of compiled) active.function assigning active.step) variable.id
    there_here = (active_names width compiled sound.lie.compiled_is regions active assigning assignment assigns_here).0

    pub assigned_at : (read : List Instruction) → read ≡ value'.items → IsValueAt width compiled (regions_in history width old) active assigned_value read
    assigned_at read is =
        subst (λ c. IsValueAt width compiled regions active assigned_value c) (sym is)
        (value_at width compiled sound.lie.compiled_is regions active assigning assignment assigns_here assigned_value value'.items refl
        found_assignment.1.2)

    pub assignment_faults : (masked : Masked) → IsShown history width compiled old masked → (fault : ModelFault)
        → value assigned_value (lanes_of width active.lanes) masked.state ≡ Err fault → FailsWith (program_of compiled) masked fault
    assignment_faults masked shown fault is =
        assignment_fails (program_of compiled) (variables_of compiled) width regions masked shown.shows active.frame active.level active.function assigning active.step
        found_assignment.1.0 (var_view variable) assigned_value next assigns_here.next fault
        (ap (λ l. value assigned_value l masked.state) (sym assigns_here.lanes) ∙ is)

    -- the step sets words enough for its value and for where its lanes go on
    pub assign_here : SetsValues width compiled (regions_in history width old) active
    assign_here = (assigning, assignment, assigns_here, omega arith, some_active history width compiled old sound active assigning assignment assigns_here tt)

    pub assign_goes : (masked : Masked) → IsShown history width compiled old masked → (values : List ℕ) → value assigned_value (lanes_of width active.lanes) masked.state ≡ Ok values
        → GoesTo (program_of compiled) (variables_of compiled) width masked
        (sent_on active.frame active.level (lanes_of width active.lanes) (λ k. next) (assigned_in active.frame variable.id variable.rate (lanes_of width active.lanes) values (regions_in history width old)))
    assign_goes masked shown values is =
        subst (λ l. GoesTo (program_of compiled) (variables_of compiled) width masked
        (sent_on active.frame active.level l (λ k. next) (assigned_in active.frame variable.id variable.rate l values regions))) (sym assigns_here.lanes)
        (assigns (program_of compiled) (variables_of compiled) width regions masked shown.shows active.frame active.level active.function assigning active.step
        found_assignment.1.0 (var_view variable) assigned_value next assigns_here.next
        sizes scalar_here shown.declared there_here values (ap (λ l. value assigned_value l masked.state) (sym assigns_here.lanes) ∙ is))

  -- ---- changes

  module _ (variable : Var) (change : Change) (value' : Vec Instruction Global) (next : ℕ) (does : DoesNext width compiled (regions_in history width old) active (code.Change variable change value' next)) where
    abbrev found_change : (f : Function) × IsChanging width compiled (regions_in history width old) active variable next value' change f
    found_change = changes_at width compiled (regions_in history width old) active variable next value' change does

    abbrev pub operand : Expr
    operand = found_change.1.1

    abbrev changing : Function
    changing = found_change.0

    abbrev number : StepNumber
    number = found_change.1.0

    abbrev changing_point : Point
    changing_point = Put (ModelChange number (Scalar (var_view variable)) change.target_type change.operator change.value_type operand) next

    changes_here : IsActive width compiled (regions_in history width old) active changing (Some changing_point)
    changes_here = found_change.1.3

    pub changed_scalar : IsScalar (variables_of compiled) active.function (var_view variable)
    changed_scalar = (active_well_scoped width compiled sound.lie.compiled_is regions active changing changing_point changes_here).0

    changed_there : IsThere (declared_before (variables_of compiled) active.function changing active.step) variable.id
    changed_there = (active_names width compiled sound.lie.compiled_is regions active changing changing_point changes_here).0

    pub operand_at : (read : List Instruction) → read ≡ value'.items → IsValueAt width compiled (regions_in history width old) active operand read
    operand_at read is =
        subst (λ c. IsValueAt width compiled regions active operand c) (sym is)
        (value_at width compiled sound.lie.compiled_is regions active changing changing_point changes_here operand value'.items refl
        found_change.1.2)

    -- the step sets words enough for its value and for where its lanes go on
    pub change_here : SetsValues width compiled (regions_in history width old) active
    change_here = (changing, changing_point, changes_here, omega arith, some_active history width compiled old sound active changing changing_point changes_here tt)

    operand_is : (masked : Masked) (r : Result (List ℕ) ModelFault) → value operand (lanes_of width active.lanes) masked.state ≡ r → value operand lanes masked.state ≡ r
    operand_is masked r is = ap (λ l. value operand l masked.state) (sym changes_here.lanes) ∙ is

    pub operand_faults : (masked : Masked) → IsShown history width compiled old masked → (fault : ModelFault)
        → value operand (lanes_of width active.lanes) masked.state ≡ Err fault → FailsWith (program_of compiled) masked fault
    operand_faults masked shown fault is =
        operand_fails (program_of compiled) (variables_of compiled) width regions masked shown.shows active.frame active.level active.function changing active.step
        number (var_view variable) change.target_type change.operator change.value_type operand next changes_here.next fault (operand_is masked (Err fault) is)

    -- the old words were read of the variable's region, and the operation was made of them
    module _ (words operands : List ℕ)
        (read : (k : ℕ) → k < width → slice_index words k ≡ at (regions_in history width old (region_of active.frame variable.id)) (place_in variable.rate k)) where
      abbrev own_words : List ℕ
      own_words = regions_in history width old (region_of active.frame variable.id)

      abbrev made_by : Lanes → Result (List ℕ) ModelFault
      made_by l = operated l change.target_type change.operator change.value_type (seen variable.rate l own_words) operands

      pub change_faults : (fault : ModelFault) → changed change (lanes_of width active.lanes) words operands ≡ Err fault
          → (masked : Masked) → IsShown history width compiled old masked → value operand (lanes_of width active.lanes) masked.state ≡ Ok operands → FailsWith (program_of compiled) masked fault
      change_faults fault made masked shown is =
          operation_fails (program_of compiled) (variables_of compiled) width regions masked shown.shows active.frame active.level active.function changing active.step
          number (var_view variable) change.target_type change.operator change.value_type operand next changes_here.next
          sizes changed_scalar shown.declared changed_there operands (operand_is masked (Ok operands) is) fault
          (ap made_by (sym changes_here.lanes)
          ∙ changed_fails width change (lanes_of width active.lanes) (lanes_long width active.lanes) variable.rate own_words words operands read fault made)

      pub change_goes : (values : List ℕ) → changed change (lanes_of width active.lanes) words operands ≡ Ok values
          → (masked : Masked) → IsShown history width compiled old masked → value operand (lanes_of width active.lanes) masked.state ≡ Ok operands
          → GoesTo (program_of compiled) (variables_of compiled) width masked
          (sent_on active.frame active.level (lanes_of width active.lanes) (λ k. next) (assigned_in active.frame variable.id variable.rate (lanes_of width active.lanes) values (regions_in history width old)))
      change_goes values made masked shown is =
          let gives = changed_gives width change (lanes_of width active.lanes) (lanes_long width active.lanes) variable.rate own_words words operands read values made in
          let results = gives.0 in
          let same : values ≡ result_words lanes change.target_type change.value_type results =
          gives.2 ∙ ap (λ l. result_words l change.target_type change.value_type results) changes_here.lanes in
          subst (λ l. GoesTo (program_of compiled) (variables_of compiled) width masked
          (sent_on active.frame active.level l (λ k. next) (assigned_in active.frame variable.id variable.rate l values regions))) (sym changes_here.lanes)
          (subst (λ vs. GoesTo (program_of compiled) (variables_of compiled) width masked
          (sent_on active.frame active.level lanes (λ k. next) (assigned_in active.frame variable.id variable.rate lanes vs regions))) (sym same)
          (changes (program_of compiled) (variables_of compiled) width regions masked shown.shows active.frame active.level active.function changing active.step
          number (var_view variable) change.target_type change.operator change.value_type operand next changes_here.next
          sizes changed_scalar shown.declared changed_there operands (operand_is masked (Ok operands) is) results
          (ap made_by (sym changes_here.lanes) ∙ gives.1)))
