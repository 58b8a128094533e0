-- The words of a machine before its first step: the entry's arrays are as long as their rows.
use Rattle.std.proofs.Common.{◌≡◌, sym, ap, ◌∙◌, subst, ℕ, ◌<◌, ◌≤◌, List, length, get_or, inl, inr, Some, arith}
use Rattle.std.specs.Prelude.{map}
use Rattle.std.specs.List.{range_with_len}
use Rattle.std.proofs.lemmas.Bool.{cases_lt}
use Rattle.std.proofs.lemmas.List.{get_or-map, length-map}
use Rattle.std.proofs.lemmas.List.FromFn.{get_or-map-range_with_len, length-map-range_with_len}
use Rattle.std.proofs.lemmas.Option.{slice_get-get_or, slice_get_within}
use Rattle.gang_types.specs.declared.places.VarId.TheVariants.{Local}
use Rattle.gang_model.specs.Debugger.Events.{Row}
use Rattle.gang_model.specs.Texts.InputText as text
use Rattle.gang_model.specs.Types.Tree.{Function}
use Rattle.undo_log.specs.History.{History}
use Rattle.gang_memory.specs.declared.parts.Part.{Part}
use Rattle.gang_memory.specs.Ranges.{range, sizes_of}
use Rattle.input_rows.specs.declared.row.InputRow.{InputRow}
use Rattle.input_rows.specs.Inputs.{IsRowFor, IsRowOf, entry_length}
use Rattle.input_rows.proofs.EntryLengths.{length_none}
use Rattle.input_rows.proofs.InputRows.{each_row}
use Rattle.machine_states.specs.Regions.{OfEntry}
use Rattle.machine_states.specs.Variables.{parameters_of}
use Rattle.codegen.specs.Programs.{variables_of}
use Rattle.typed_tree.specs.Views.{program_view}
use Rattle.machine_words.specs.declared.words.MachineWords.{MachineWords}
use Rattle.machine_words.specs.Words.{AreLaid, regions_in, words_of}
use Rattle.machine_words.proofs.Found.{entry_found}
use Rattle.machine_words.proofs.RegionWords.{region_long}
use Rattle.frame_steps.proofs.RegionStates.{no_entry_words}
use Rattle.machine_steps.specs.Beginning.{HaveEntryLengths}
use Rattle.gang_machine.specs.declared.opening.PreparedProgram.{PreparedProgram}
use Rattle.gang_machine.specs.Openings.{MayOpen}

module _ {T : Type 0} (history : T → History) (width : ℕ) (prepared : PreparedProgram) (entry : ℕ) (f : Function) (given : List Row) (rows : List InputRow) (may : MayOpen prepared entry f given rows)
    (words : MachineWords T) (same : words.layout ≡ prepared.layout) (laid : AreLaid history width words) where
  abbrev count : ℕ
  count = parameters_of (variables_of prepared.compiled.program) entry

  abbrev parts : List Part
  parts = words.layout.entry.items

  sizes : sizes_of parts ≡ map (entry_length given) (range_with_len 0 count)
  sizes = ap (λ l. sizes_of l.entry.items) same ∙ may.arrays

  parts_long : length parts ≡ count
  parts_long = sym (length-map parts (λ p. p.len)) ∙ ap length sizes ∙ length-map-range_with_len (entry_length given) 0 count

  -- a parameter's array
  long_there : (n : ℕ) → n < count → length (regions_in history width words (OfEntry n)) ≡ entry_length given n
  long_there n below =
      let within : n < length parts = omega (arith, below, parts_long) in
      let part = get_or parts n (range 0 0) in
      region_long width words.layout (words_of history words) laid (OfEntry n) part (entry_found width words.layout part n (slice_get-get_or parts n (range 0 0) within))
      ∙ sym (get_or-map (λ (p : Part). p.len) parts n (range 0 0) 0 within)
      ∙ ap (λ ns. get_or ns n 0) sizes
      ∙ get_or-map-range_with_len (entry_length given) 0 count n n 0 below (omega arith)

  -- past the parameters there are no rows
  no_row : (n : ℕ) → count ≤ n → entry_length given n ≡ 0
  no_row n past =
      length_none given n (λ i row is id.
      let right : IsRowOf (program_view prepared.compiled.program) f (Local n) row =
      subst (λ v. IsRowOf (program_view prepared.compiled.program) f v row) id (each_row (IsRowFor (program_view prepared.compiled.program) f) given may.begins.inputs.each i row is) in
      let within = slice_get_within (text.parameters_of (Some f)) n row.variable right.0 in
      absurd (omega (arith, within, past, may.begins.parameters.count)))

  pub entry_long : HaveEntryLengths (regions_in history width words) given
  entry_long n = elim (cases_lt n count) [
    | inl below ↦ long_there n below
    | inr past ↦ ap length (no_entry_words history width words 0 n (omega (arith, past, parts_long))) ∙ sym (no_row n past)
  ]
