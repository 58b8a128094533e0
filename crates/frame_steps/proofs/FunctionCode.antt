-- The code of a function, and of each of its steps.
use Rattle.std.proofs.Common.{ℕ, zero, suc, ◌<◌, ◌≡◌, refl, sym, ◌∙◌, ap, subst, arith, List, [], ◌∷◌, length, get_or, map, Some, Vec, Global}
use Rattle.std.specs.Prelude.{option_map, slice_get}
use Rattle.std.proofs.lemmas.Option.{none-some, slice_get-get_or, slice_get-map, slice_get_within}
use Rattle.gang_model.specs.Types.Tree.{Function, RoundsOf}
use Rattle.mask_states.specs.Points.{closing_number, function_ways, points_in}
use Rattle.mask_states.proofs.PlacedPoints.{length-points_of}
use Rattle.machine_states.proofs.DeclaredLists.{same_some}
use Rattle.codegen.specs.declared.code.IndexCode.{IndexCode}
use Rattle.codegen.specs.declared.code.StepCode.{StepCode}
use Rattle.codegen.specs.declared.code.StepCode.TheVariants as code
use Rattle.foreach_lowering.specs.Forms.{round_forms}
use Rattle.codegen.specs.Codes.{DoAll, Does, Fit, IndexesOf, IsRoundOf}
use Rattle.codegen.proofs.Rows.{fit_long}
use Rattle.frame_steps.specs.declared.compiled.CompiledProgram.{CompiledProgram}
use Rattle.frame_steps.specs.Compiled.{IsCompiled, IsRounds, function_of, program_of}

-- the items of lists that fit do
pub fit_at : {A B : Type 0} (P : A → B → Type 0) (xs : List A) (ys : List B) (k : ℕ) (x : A) (y : B) → Fit P xs ys → slice_get xs k ≡ Some x → slice_get ys k ≡ Some y → P x y
fit_at P [] ys k x y h e d = absurd (none-some x e)
fit_at P (a ∷ xs) [] k x y h e d = absurd h
fit_at P (a ∷ xs) (b ∷ ys) zero x y h e d = subst (λ c. P c y) (same_some a x e) (subst (λ c. P a c) (same_some b y d) h.0)
fit_at P (a ∷ xs) (b ∷ ys) (suc k) x y h e d = fit_at P xs ys k x y h.1 e d

-- an item that fits another
pub fit_with : {A B : Type 0} (P : A → B → Type 0) (xs : List A) (ys : List B) (k : ℕ) (x : A) → Fit P xs ys → slice_get xs k ≡ Some x → (y : B) × (slice_get ys k ≡ Some y) × P x y
fit_with P [] ys k x h e = absurd (none-some x e)
fit_with P (a ∷ xs) [] k x h e = absurd h
fit_with P (a ∷ xs) (b ∷ ys) zero x h e = (b, refl, subst (λ c. P c b) (same_some a x e) h.0)
fit_with P (a ∷ xs) (b ∷ ys) (suc k) x h e = fit_with P xs ys k x h.1 e

-- a function has as many steps as come before its closing brace
pub code_long : (f : Function) (steps : List StepCode) → DoAll steps (points_in f) → length steps ≡ closing_number f
code_long f steps does = fit_long Does steps (points_in f) does ∙ length-points_of f.body (function_ways f)

module _ (compiled : CompiledProgram) (is : IsCompiled compiled) (n : ℕ) (f : Function) (found : function_of compiled n ≡ Some f) where
  points_found : slice_get (map points_in (program_of compiled).functions) n ≡ Some (points_in f)
  points_found = slice_get-map points_in (program_of compiled).functions n ∙ ap (option_map points_in) found

  -- there is code for it
  pub has_code : n < length compiled.code.functions.items
  has_code =
      let long = fit_long (λ (steps : Vec StepCode Global) points. DoAll steps.items points) compiled.code.functions.items (map points_in (program_of compiled).functions) is.does in
      let within = slice_get_within (map points_in (program_of compiled).functions) n (points_in f) points_found in
      omega (arith, long, within)

  -- which does what its points do
  pub code_does : (steps : Vec StepCode Global) → steps ≡ get_or compiled.code.functions.items n steps → DoAll steps.items (points_in f)
  code_does steps e =
      fit_at (λ (steps : Vec StepCode Global) points. DoAll steps.items points) compiled.code.functions.items (map points_in (program_of compiled).functions) n steps (points_in f) is.does
      (slice_get-get_or compiled.code.functions.items n steps has_code ∙ ap Some (sym e)) points_found

  -- and has the index variables of the forms whose rounds they are
  pub code_rounds : (steps : Vec StepCode Global) → steps ≡ get_or compiled.code.functions.items n steps → Fit IsRoundOf steps.items (round_forms f)
  code_rounds steps e =
      fit_at (λ (steps : Vec StepCode Global) (g : Function). Fit IsRoundOf steps.items (round_forms g)) compiled.code.functions.items (program_of compiled).functions n steps f is.rounds
      (slice_get-get_or compiled.code.functions.items n steps has_code ∙ ap Some (sym e)) found

-- ---- steps of rounds

-- a step that is the rounds of a form has its index variables
pub round_is : (form : RoundsOf) (step : StepCode) → IsRoundOf step (Some form) → (indexes : IndexCode) × (body : ℕ) × (step ≡ code.Round indexes body) × IndexesOf indexes form
round_is form (code.Round indexes body) of = (indexes, body, refl, of)
round_is form step of = absurd of

module _ (compiled : CompiledProgram) (n number : ℕ) (f : Function) (form : RoundsOf) (is : IsRounds compiled n number f form) (steps : List StepCode) (fits : Fit IsRoundOf steps (round_forms f)) where
  pub round_within : number < length steps
  round_within = omega (arith, slice_get_within (round_forms f) number (Some form) is.is_form, fit_long IsRoundOf steps (round_forms f) fits)

  pub round_code : (step : StepCode) → step ≡ get_or steps number step → IsRoundOf step (Some form)
  round_code step e = fit_at IsRoundOf steps (round_forms f) number step (Some form) fits (slice_get-get_or steps number step round_within ∙ ap Some (sym e)) is.is_form
