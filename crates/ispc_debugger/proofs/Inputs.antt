-- What an input gives the run of a compiled source: rows that it may begin with, or the right refusal.
use Rattle.std.proofs.Common.{◌≡◌, ℕ, List, length, inl, inr, refl, ◌∙◌, ap, subst}
use Rattle.std.specs.Prelude.{Option, Some, Result, Ok, slice_get}
use Rattle.gang_types.specs.Masks.{IsGangWidth}
use Rattle.gang_model.specs.Debugger.Events.{Row}
use Rattle.gang_model.specs.Source.Limits.{limit_refusal}
use Rattle.gang_model.specs.Source.Parsed.{Name}
use Rattle.gang_model.specs.Texts.InputText as text
use Rattle.gang_model.specs.Texts.InputText.{InputRefusal, rows_of}
use Rattle.gang_model.specs.Types.SourceRefusals.{refusal_of}
use Rattle.gang_model.specs.Types.Tree.{Function}
use Rattle.codegen.specs.Programs.{variables_of}
use Rattle.debug_inputs.specs.declared.fault.InputFault.{InputFault}
use Rattle.debug_inputs.specs.declared.fault.InputFault.TheVariants.{BadLine, Missing, Range, TooLarge, Memory}
use Rattle.debug_inputs.specs.Rows.{IsRefusedBy}
use Rattle.input_rows.specs.declared.row.InputRow.{InputRow}
use Rattle.input_rows.specs.Rows.{AreRows}
use Rattle.input_rows.proofs.EntryParameters.{has_parameters}
use Rattle.input_rows.proofs.InputRows.{inputs_of-text}
use Rattle.input_rows.proofs.UniformParameters.{exported_uniform}
use Rattle.ispc_compiler.specs.declared.front.Compiled.{Compiled}
use Rattle.ispc_compiler.specs.Front.{Compiles}
use Rattle.ispc_options.specs.declared.options.Width.{Width}
use Rattle.ispc_options.specs.declared.options.Width.TheVariants.{Four, Eight, Sixteen}
use Rattle.machine_states.specs.EntryParameters.{HasEntryParameters}
use Rattle.machine_steps.specs.Beginning.{MayBegin}
use Rattle.runnable_programs.proofs.EntryFunctions.{entry_exported}
use Rattle.runnable_programs.proofs.WellScopedSources.{no_refusal}
use Rattle.runnable_programs.proofs.RunnableSources.{parameters_text}
use Rattle.typed_tree.specs.Views.{program_view}
use Rattle.ispc_debugger.specs.Runs.{IsRightForInput, lanes_of, told}

-- the widths of the options are those of gangs
pub gang_width : (width : Width) (lanes : ℕ) → lanes ≡ lanes_of width → IsGangWidth lanes
gang_width Four lanes is = inl is
gang_width Eight lanes is = inr (inl is)
gang_width Sixteen lanes is = inr (inr is)

-- a fault of the input is told rightly
pub told_right : (answer : Result (List Row) InputRefusal) (fault : InputFault) → IsRefusedBy fault answer → IsRightForInput answer (told fault)
told_right answer (BadLine line) is = (text.BadLine line, is, refl)
told_right answer (Missing name) is = (text.Missing name.items, is, refl)
told_right answer (Range line) is = (text.Range line, is, refl)
told_right answer (TooLarge line) is = (text.TooLarge line, is, refl)
told_right answer Memory is = tt

module _ (source : List ℕ) (asked : Option Name) (compiled : Compiled) (is : Compiles source asked (Some compiled)) where
  -- the entry's parameters are its first variables, by their numbers, and uniform
  entry_parameters : (f : Function) → slice_get (program_view compiled.program).functions compiled.entry.0 ≡ Some f
      → HasEntryParameters (variables_of compiled.program) compiled.entry.0 f
  entry_parameters f at =
      let p = program_view compiled.program in
      let entry = compiled.entry.0 in
      let tree = is.0.source in
      let accepted = (no_refusal (refusal_of tree) (limit_refusal tree) is.0.accepted.sound).0 in
      let has = has_parameters tree p accepted is.0.program_is entry f at in
      let own = parameters_text source asked entry compiled.program is.0 is.1 entry has.function has.found in
      let exported = entry_exported tree asked entry is.0.entry_is in
      record {
        count = ap length has.parameters ∙ own.count;
        own = λ n v there. (own.places n v (subst (λ vs. slice_get vs n ≡ Some v) has.parameters there)).1;
        uniform = exported_uniform tree p accepted is.0.program_is entry f at exported.function exported.found exported.exported;
      }

  -- the run may begin with the rows of an input
  pub may_begin : (input : List ℕ) (given : List Row) (rows : List InputRow) → rows_of (program_view compiled.program) compiled.entry.0 input ≡ Ok given
      → AreRows given rows → (f : Function) × MayBegin compiled.program compiled.entry.0 f given rows
  may_begin input given rows read are =
      let f = is.2.entry.0 in
      let at = is.2.entry.1 in (
        f,
        record {
          is_function = at;
          parameters = entry_parameters f at;
          inputs = inputs_of-text source asked (program_view compiled.program) compiled.entry.0 is.0 f at input given read;
          rows_are = are;
        },
      )
