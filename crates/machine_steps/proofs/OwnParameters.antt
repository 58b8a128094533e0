-- The parameters that a frame begins with, as variables of its function.
use Rattle.std.proofs.Common.{◌≡◌, refl, sym, ap, ◌∙◌, ℕ, zero, suc, ◌+◌, ◌<◌, ◌≤◌, true, false, true≢false, List, [], ◌∷◌, length, Some, add-zero, inl, inr, arith}
use Rattle.std.specs.Prelude.{Option, None, ◌||◌, slice_get, if◌then◌else◌}
use Rattle.std.proofs.lemmas.Bool.{cases_eq}
use Rattle.gang_types.specs.declared.places.VarId.{VarId}
use Rattle.gang_types.specs.declared.places.VarId.TheVariants.{Local}
use Rattle.gang_types.specs.Lanes.{Lanes}
use Rattle.gang_model.specs.Types.Tree.{Arg, Expr, Value, Array, Var, Variable}
use Rattle.gang_model.specs.Running.State.{declared_words, same_id, view_in, words_of}
use Rattle.mask_states.proofs.OwnTasks.{by_bool}
use Rattle.machine_states.specs.ArrayParts.{view_of_words}
use Rattle.machine_states.specs.Declared.{has_entry}
use Rattle.machine_states.specs.Effects.{declared_region}
use Rattle.machine_states.specs.WellScoped.{ArgsWellScoped}
use Rattle.machine_states.specs.Variables.{Variables, is_array_of, own_of, rate_of, variable_of}
use Rattle.machine_states.proofs.StoreWords.{another, itself, same_variable}
use Rattle.codegen.specs.Codes.{IsArg}
use Rattle.codegen.specs.declared.code.ArgCode.{ArgCode}
use Rattle.codegen.specs.declared.code.ArgCode.TheVariants as arg
use Rattle.machine_steps.specs.Calls.{parameter_region}
use Rattle.machine_steps.proofs.PassedArguments.{passed_with}

-- an array is there
pub array_there : (o : Option Variable) → is_array_of o ≡ true → (v : Variable) × (o ≡ Some v) × (v.is_array ≡ true)
array_there None e = absurd cc
array_there (Some v) e = (v, refl, e)

-- ---- regions

-- the region of a parameter once it is declared
abbrev pub argument_region : Arg → Lanes → (words old : List ℕ) → List ℕ
argument_region (Value x e) lanes words old = declared_region x.rate lanes words old
argument_region (Array parameter array from) lanes words old = words

pub made_region : (made : ArgCode) (y : Arg) (lanes : Lanes) (words old : List ℕ) → IsArg made y → parameter_region made lanes words old ≡ argument_region y lanes words old
made_region (arg.Value parameter code) (Value x e) lanes words old is = ap (λ (v : Var). declared_region v.rate lanes words old) (sym is.0)
made_region (arg.Array array from) (Array parameter named index) lanes words old is = refl
made_region (arg.Value parameter code) (Array own named index) lanes words old is = absurd is
made_region (arg.Array array from) (Value x e) lanes words old is = absurd is

-- ---- variables

module _ (variables : Variables) (n called : ℕ) where
  -- the variable of a parameter
  pub own_of_argument : (first : ℕ) (meant : List Arg) → ArgsWellScoped variables n called first meant → (k : ℕ) → k < length meant
      → (v : Variable) × (slice_get (own_of variables called) (first + k) ≡ Some v)
  own_of_argument first [] well_scoped k below = absurd (omega (arith, below))
  own_of_argument first (Array parameter array from ∷ meant) well_scoped zero below =
      let there = array_there (slice_get (own_of variables called) first) well_scoped.0.array in
      (there.0, ap (slice_get (own_of variables called)) (add-zero first) ∙ there.1)
  own_of_argument first (Value x e ∷ meant) well_scoped zero below =
      let own = well_scoped.0.scalar in
      (own.0, ap (slice_get (own_of variables called)) (add-zero first) ∙ ap (variable_of variables called) (sym well_scoped.0.id) ∙ own.1)
  own_of_argument first (Array parameter array from ∷ meant) well_scoped (suc k) below =
      let rest = own_of_argument (suc first) meant well_scoped.3 k (omega (arith, below)) in
      let same : first + suc k ≡ suc first + k = omega arith in
      (rest.0, ap (slice_get (own_of variables called)) same ∙ rest.1)
  own_of_argument first (Value x e ∷ meant) well_scoped (suc k) below =
      let rest = own_of_argument (suc first) meant well_scoped.2 k (omega (arith, below)) in
      let same : first + suc k ≡ suc first + k = omega arith in
      (rest.0, ap (slice_get (own_of variables called)) same ∙ rest.1)

  -- a scalar that a frame begins with is one of its parameters
  pub record IsParameterOf (first : ℕ) (meant : List Arg) (lanes : Lanes) (given : List (List ℕ)) (k : ℕ) : Type 0 where
    pub number : ℕ
    pub x : Var
    pub e : Expr
    pub words : List ℕ
    pub is_arg : slice_get meant number ≡ Some (Value x e)
    pub is_given : slice_get given number ≡ Some words
    pub place : k ≡ first + number
    pub declares : words_of (passed_with lanes meant given).vars (Local k) ≡ declared_words x.rate lanes words
    pub rate : rate_of (slice_get (own_of variables called) k) ≡ x.rate

  same_local : (j k : ℕ) → Local j ≡ Local k → j ≡ k
  same_local j k e = cc

  pub parameter_in : (lanes : Lanes) (first : ℕ) (meant : List Arg) (given : List (List ℕ)) → ArgsWellScoped variables n called first meant
      → (k : ℕ) → has_entry (passed_with lanes meant given).vars (Local k) ≡ true → IsParameterOf first meant lanes given k
  parameter_in lanes first [] given well_scoped k h = absurd cc
  parameter_in lanes first (y ∷ meant) [] well_scoped k h = absurd cc
  parameter_in lanes first (Array parameter array from ∷ meant) (words ∷ given) well_scoped k h =
      let found = parameter_in lanes (suc first) meant given well_scoped.3 k h in
      record {
        number = suc found.number;
        x = found.x;
        e = found.e;
        words = found.words;
        is_arg = found.is_arg;
        is_given = found.is_given;
        place = omega (arith, found.place);
        declares = found.declares;
        rate = found.rate;
      }
  parameter_in lanes first (Value x e ∷ meant) (words ∷ given) well_scoped k h =
      let rest = (passed_with lanes meant given).vars in
      by_bool (same_id x.id (Local k))
      (λ here.
      let place : first ≡ k = same_local first k (sym well_scoped.0.id ∙ same_variable x.id (Local k) here) in
      let own = well_scoped.0.scalar in
      record {
        number = 0;
        x = x;
        e = e;
        words = words;
        is_arg = refl;
        is_given = refl;
        place = omega (arith, place);
        declares = ap (λ b. if b then declared_words x.rate lanes words else words_of rest (Local k)) here;
        rate = ap (λ j. rate_of (slice_get (own_of variables called) j)) (sym place)
            ∙ ap rate_of (ap (variable_of variables called) (sym well_scoped.0.id) ∙ own.1) ∙ sym (ap (λ (y : Var). y.rate) own.3);
      })
      (λ away.
      let found = parameter_in lanes (suc first) meant given well_scoped.2 k (ap (λ b. b || has_entry rest (Local k)) (sym away) ∙ h) in
      record {
        number = suc found.number;
        x = found.x;
        e = found.e;
        words = found.words;
        is_arg = found.is_arg;
        is_given = found.is_given;
        place = omega (arith, found.place);
        declares = ap (λ b. if b then declared_words x.rate lanes words else words_of rest (Local k)) away ∙ found.declares;
        rate = found.rate;
      })

  -- an array of the function is one of its parameters, which stands for the part that its words keep
  pub record IsArrayParameterOf (first : ℕ) (meant : List Arg) (lanes : Lanes) (given : List (List ℕ)) (k : ℕ) : Type 0 where
    pub number : ℕ
    pub parameter : VarId
    pub array : VarId
    pub from : Option Expr
    pub words : List ℕ
    pub is_arg : slice_get meant number ≡ Some (Array parameter array from)
    pub is_given : slice_get given number ≡ Some words
    pub place : k ≡ first + number
    pub view : view_in (passed_with lanes meant given).views (Local k) ≡ view_of_words words

  pub array_in : (lanes : Lanes) (first : ℕ) (meant : List Arg) (given : List (List ℕ)) → length meant ≡ length given → ArgsWellScoped variables n called first meant
      → (k : ℕ) → first ≤ k → k < first + length meant → is_array_of (slice_get (own_of variables called) k) ≡ true → IsArrayParameterOf first meant lanes given k
  array_in lanes first [] given same well_scoped k low high array = absurd (omega (arith, low, high))
  array_in lanes first (y ∷ meant) [] same well_scoped k low high array = absurd (omega (arith, same))
  array_in lanes first (Value x e ∷ meant) (words ∷ given) same well_scoped k low high array = elim (cases_eq first k) [
    | inl here ↦
        let own = well_scoped.0.scalar in
        let scalar : is_array_of (slice_get (own_of variables called) k) ≡ false =
        ap (λ j. is_array_of (slice_get (own_of variables called) j)) (sym here)
        ∙ ap is_array_of (ap (variable_of variables called) (sym well_scoped.0.id) ∙ own.1) ∙ own.2 in
        absurd (true≢false (sym array ∙ scalar))
    | inr away ↦
        let found = array_in lanes (suc first) meant given (omega (arith, same)) well_scoped.2 k (omega (arith, low, away)) (omega (arith, high)) array in
        record {
          number = suc found.number;
          parameter = found.parameter;
          array = found.array;
          from = found.from;
          words = found.words;
          is_arg = found.is_arg;
          is_given = found.is_given;
          place = omega (arith, found.place);
          view = found.view;
        }
  ]
  array_in lanes first (Array parameter named from ∷ meant) (words ∷ given) same well_scoped k low high array =
      let rest = (passed_with lanes meant given).views in
      elim (cases_eq first k) [
        | inl here ↦
            let mine : same_id parameter (Local k) ≡ true = ap (λ v. same_id v (Local k)) (well_scoped.0.is_local ∙ ap Local here) ∙ itself (Local k) in
            record {
              number = 0;
              parameter = parameter;
              array = named;
              from = from;
              words = words;
              is_arg = refl;
              is_given = refl;
              place = omega (arith, here);
              view = ap (λ b. if b then view_of_words words else view_in rest (Local k)) mine;
            }
        | inr away ↦
            let found = array_in lanes (suc first) meant given (omega (arith, same)) well_scoped.3 k (omega (arith, low, away)) (omega (arith, high)) array in
            let other : same_id parameter (Local k) ≡ false =
            ap (λ v. same_id v (Local k)) well_scoped.0.is_local ∙ another (Local first) (Local k) (λ e. away (same_local first k e)) in
            record {
              number = suc found.number;
              parameter = found.parameter;
              array = found.array;
              from = found.from;
              words = found.words;
              is_arg = found.is_arg;
              is_given = found.is_given;
              place = omega (arith, found.place);
              view = ap (λ b. if b then view_of_words words else view_in rest (Local k)) other ∙ found.view;
            }
      ]
