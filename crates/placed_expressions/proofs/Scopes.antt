-- What is declared of a program's variables, one after another from the last to the first.
use Rattle.std.proofs.Common.{◌≡◌, ℕ, suc, ◌+◌, ◌-◌, ◌<◌, ◌≤◌, Bool, true, false, cond, List, [], ◌∷◌, ◌++◌, length, get_or, drop, Some, None, sym, ap, ◌∙◌, append-nil, add-one, drop-cons, arith}
use Rattle.std.proofs.lemmas.List.{map-append}
use Rattle.std.proofs.lemmas.Option.{slice_get-map}
use Rattle.std.specs.List.{range_with_len}
use Rattle.std.specs.Prelude.{filter, map, option_map, slice_get}
use Rattle.gang_types.specs.declared.places.Spot.{Spot}
use Rattle.gang_types.specs.declared.places.VarId.TheVariants.{Local}
use Rattle.gang_model.specs.Types.Resolved.{local_at}
use Rattle.gang_model.specs.Types.Tree.{Variable}
use Rattle.gang_model.specs.Types.Typing.{Entry}
use Rattle.ispc_names_table.proofs.ListedNumbers.{front_number, passing}
use Rattle.gang_model.specs.Debugger.Positions.{scope_of, standing_at, standing_in}
use Rattle.typed_tree.specs.declared.program.Function.{Function}
use Rattle.typed_tree.specs.declared.program.Global.{Global}
use Rattle.typed_tree.specs.declared.program.Program.{Program}
use Rattle.typed_tree.specs.Views.{function_view, global_view, program_view}
use Rattle.machine_names.proofs.FirstNamed.{get_mapped}
use Rattle.machine_names.proofs.Listed.{from_number}
use Rattle.frame_expressions.specs.Meanings.{entries_at, variable_entry}

-- ---- the variables of the file

-- as they are declared
abbrev pub file_entries : List Global → List Entry
file_entries gs = map variable_entry (map (λ g. g.variable) (map global_view gs))

pub file_more : (gs : List Global) (i : ℕ) (g : Global) (old now new : List Entry) → i < length gs → g ≡ get_or gs i g
    → now ≡ file_entries (drop (i + 1) gs) ++ old → new ≡ variable_entry (global_view g).variable ∷ now → new ≡ file_entries (drop i gs) ++ old
file_more gs i g old now new below is before more =
    let first : drop i gs ≡ g ∷ drop (i + 1) gs = drop-cons gs i g below ∙ ap (λ x. x ∷ drop (suc i) gs) (sym is) ∙ ap (λ k. g ∷ drop k gs) (sym (add-one i)) in
    more ∙ ap (λ es. variable_entry (global_view g).variable ∷ es) before ∙ ap (λ xs. file_entries xs ++ old) (sym first)

-- ---- the variables of a function

module _ (vs : List Variable) (test : ℕ → Bool) (i n : ℕ) (below : i < n) where
  front : (b : Bool) → test i ≡ b → from_number vs test i n ≡ cond b (local_at vs (Local i) ∷ from_number vs test (i + 1) n) (from_number vs test (i + 1) n)
  front true e = ap (map (λ j. local_at vs (Local j))) (front_number test i n below ∙ ap (λ t. cond t (i ∷ passing test (i + 1) n) (passing test (i + 1) n)) e)
  front false e = ap (map (λ j. local_at vs (Local j))) (front_number test i n below ∙ ap (λ t. cond t (i ∷ passing test (i + 1) n) (passing test (i + 1) n)) e)

  pub local_more : (old now new : List Entry) → test i ≡ true → now ≡ map variable_entry (from_number vs test (i + 1) n) ++ old → new ≡ variable_entry (local_at vs (Local i)) ∷ now
      → new ≡ map variable_entry (from_number vs test i n) ++ old
  local_more old now new e before more = more ∙ ap (λ es. variable_entry (local_at vs (Local i)) ∷ es) before ∙ ap (λ xs. map variable_entry xs ++ old) (sym (front true e))

  pub local_hidden : (old now : List Entry) → test i ≡ false → now ≡ map variable_entry (from_number vs test (i + 1) n) ++ old → now ≡ map variable_entry (from_number vs test i n) ++ old
  local_hidden old now e before = before ∙ ap (λ xs. map variable_entry xs ++ old) (sym (front false e))

-- past the last number there is none
pub local_none : (vs : List Variable) (test : ℕ → Bool) (a n : ℕ) → n ≤ a → from_number vs test a n ≡ []
local_none vs test a n past =
    let none : n - a ≡ 0 = omega (arith, past) in
    ap (λ m. map (λ j. local_at vs (Local j)) (filter test (range_with_len a m))) none

-- ---- all of them

module _ (p : Program) (spot : Spot) where
  abbrev files : List Variable
  files = map (λ g. g.variable) (map global_view p.globals.items)

  pub none_declared : (now : List Entry) → slice_get p.functions.items spot.function.0 ≡ None → now ≡ file_entries p.globals.items ++ [] → now ≡ entries_at (program_view p) spot
  none_declared now found by_file =
      let there : standing_at (program_view p) spot ≡ None = ap (λ o. standing_in o spot.number) (slice_get-map function_view p.functions.items spot.function.0 ∙ ap (option_map function_view) found) in
      by_file ∙ append-nil (map variable_entry files) ∙ ap (λ o. map variable_entry (scope_of o ++ files)) (sym there)

  pub all_declared : (f : Function) (old now : List Entry) → slice_get p.functions.items spot.function.0 ≡ Some f → old ≡ file_entries p.globals.items ++ []
      → now ≡ map variable_entry (scope_of (slice_get (function_view f).standings spot.number)) ++ old → now ≡ entries_at (program_view p) spot
  all_declared f old now found by_file by_function =
      let here = slice_get (function_view f).standings spot.number in
      let there : standing_at (program_view p) spot ≡ here = ap (λ o. standing_in o spot.number) (get_mapped function_view p.functions.items spot.function.0 f found) in
      by_function ∙ ap (λ es. map variable_entry (scope_of here) ++ es) (by_file ∙ append-nil (map variable_entry files)) ∙ sym (map-append variable_entry (scope_of here) files)
      ∙ ap (λ o. map variable_entry (scope_of o ++ files)) (sym there)
