-- The lengths of the entry's arrays, read off the rows of an input.
use Rattle.std.proofs.Common.{◌≡◌, refl, sym, ap, ◌∙◌, subst, ℕ, zero, suc, Bool, true, false, cond, List, [], ◌∷◌, length, Option, Some, None}
use Rattle.std.specs.Prelude.{count_by, filter, find, map, slice_get, slice_index, if◌then◌else◌}
use Rattle.std.proofs.lemmas.Bool.{and_from, and_right}
use Rattle.std.proofs.lemmas.List.Sums.{length-filter}
use Rattle.gang_types.specs.declared.places.VarId.{VarId}
use Rattle.gang_types.specs.declared.places.VarId.TheVariants.{Local}
use Rattle.gang_model.specs.Debugger.Events.{Row}
use Rattle.gang_model.specs.Types.Tree as model
use Rattle.gang_model.specs.Types.Tree.{Function}
use Rattle.typed_tree.specs.declared.program.Function.{Function as TypedFunction}
use Rattle.typed_tree.specs.declared.program.Program.{Program}
use Rattle.typed_tree.specs.declared.program.Variable.{Variable}
use Rattle.typed_tree.specs.Views.{program_view, variable_view}
use Rattle.input_rows.specs.declared.row.InputRow.{InputRow}
use Rattle.input_rows.specs.Inputs.{IsRowFor, IsRowOf, entry_length, is_own}
use Rattle.input_rows.specs.Rows.{AreRows, numbered, row_view}
use Rattle.input_rows.proofs.EntryLengths.{length_none, own_is}
use Rattle.input_rows.proofs.InputRows.{each_row}
use Rattle.machine_states.specs.Variables.{is_array_of, or_none, own_of, parameters_of}
use Rattle.codegen.specs.Programs.{own_variables, variables_of}
use Rattle.machine_steps.specs.Beginning.{AreArrayRows, MayBegin}

-- ---- parameters

filtered : (p : Bool) (vs : List Variable) (v : Variable) → v.is_parameter ≡ p
    → length (filter (λ (u : model.Variable). u.is_parameter) (map variable_view vs)) ≡ length (filter (λ (u : Variable). u.is_parameter) vs)
    → length (filter (λ (u : model.Variable). u.is_parameter) (map variable_view (v ∷ vs))) ≡ length (filter (λ (u : Variable). u.is_parameter) (v ∷ vs))
filtered true vs v is more = rw is (ap suc more)
filtered false vs v is more = rw is more

views_filtered : (vs : List Variable) → length (filter (λ (u : model.Variable). u.is_parameter) (map variable_view vs)) ≡ length (filter (λ (u : Variable). u.is_parameter) vs)
views_filtered [] = refl
views_filtered (v ∷ vs) = filtered v.is_parameter vs v refl (views_filtered vs)

counts_at : (functions : List TypedFunction) (n : ℕ)
    → slice_index (map (λ f. length (filter (λ (v : model.Variable). v.is_parameter) (own_variables f))) functions) n
    ≡ length (filter (λ (v : model.Variable). v.is_parameter) (or_none (slice_get (map own_variables functions) n)))
counts_at [] n = refl
counts_at (f ∷ functions) zero = refl
counts_at (f ∷ functions) (suc n) = counts_at functions n

-- a function has as many parameters as its variables that are parameters
pub parameters_counted : (program : Program) (n : ℕ) (vs : List Variable) → map variable_view vs ≡ own_of (variables_of program) n
    → count_by (λ (v : Variable). v.is_parameter) vs ≡ parameters_of (variables_of program) n
parameters_counted program n vs are =
    sym (length-filter (λ (v : Variable). v.is_parameter) vs) ∙ sym (views_filtered vs) ∙ ap (λ us. length (filter (λ (v : model.Variable). v.is_parameter) us)) are
    ∙ sym (counts_at program.functions.items n)

-- ---- one parameter

module _ (program : Program) (entry : ℕ) (f : Function) (given : List Row) (rows : List InputRow) (may : MayBegin program entry f given rows) (n : ℕ) where
  -- a row of a parameter is that of an array where the parameter is one
  row_alike : (i : ℕ) (row : Row) → slice_get given i ≡ Some row → row.variable.id ≡ Local n → is_array_of (slice_get (own_of (variables_of program) entry) n) ≡ row.variable.is_array
  row_alike i row is id =
      let right : IsRowOf (program_view program) f (Local n) row = subst (λ v. IsRowOf (program_view program) f v row) id (each_row (IsRowFor (program_view program) f) given may.inputs.each i row is) in
      ap is_array_of (may.parameters.own n row.variable right.0)

  pub array_rows : is_array_of (slice_get (own_of (variables_of program) entry) n) ≡ true → AreArrayRows given n
  array_rows array i row is id = sym (row_alike i row is id) ∙ array

  pub scalar_length : is_array_of (slice_get (own_of (variables_of program) entry) n) ≡ false → entry_length given n ≡ 0
  scalar_length scalar = length_none given n (λ i row is id. sym (row_alike i row is id) ∙ scalar)

-- ---- the row of an array

abbrev pub words_long : Option InputRow → ℕ
words_long None = 0
words_long (Some row) = length row.values.items

-- the first row of a parameter's number is its array's
pub found_long : (given : List Row) (rows : List InputRow) (n : ℕ) → AreRows given rows → AreArrayRows given n
    → words_long (find (λ (row : InputRow). is_own n row.var) rows) ≡ entry_length given n
found_long [] [] n are arrays = refl
found_long [] (x ∷ rows) n are arrays = absurd (cc are)
found_long (y ∷ given) [] n are arrays = absurd (cc are)
found_long (y ∷ given) (x ∷ rows) n are arrays =
    let pair : numbered y ≡ row_view x = cc are in
    let rest : map numbered given ≡ map row_view rows = cc are in
    by (is_own n x.var) refl (ap (λ (p : VarId × List ℕ). p.0) pair) (ap (λ (p : VarId × List ℕ). p.1) pair) (found_long given rows n rest (λ i row is id. arrays (suc i) row is id))
  where
    by : (b : Bool) → is_own n x.var ≡ b → y.variable.id ≡ x.var → y.words ≡ x.values.items
        → words_long (find (λ (row : InputRow). is_own n row.var) rows) ≡ entry_length given n
        → words_long (cond b (Some x) (find (λ (row : InputRow). is_own n row.var) rows)) ≡ entry_length (y ∷ given) n
    by true own id words later =
        let mine : is_own n y.variable.id ≡ true = ap (is_own n) id ∙ own in
        let array = arrays 0 y refl (own_is n y.variable.id mine) in
        ap length (sym words) ∙ sym (ap (λ b. if b then length y.words else entry_length given n) (and_from y.variable.is_array (is_own n y.variable.id) array mine))
    by false own id words later =
        let other : is_own n y.variable.id ≡ false = ap (is_own n) id ∙ own in
        later ∙ sym (ap (λ b. if b then length y.words else entry_length given n) (and_right y.variable.is_array (is_own n y.variable.id) other))
