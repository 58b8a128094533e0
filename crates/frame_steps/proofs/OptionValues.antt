-- The value of a declaration or of a `return`, which may have none: then it is 0 in each lane.
use Rattle.std.proofs.Common.{ℕ, suc, true, false, ◌≡◌, refl, sym, ◌∙◌, ap, subst, [], ◌∷◌, length, Option, Some, None, Vec, Global}
use Rattle.std.specs.Prelude.{replicate}
use Rattle.std.proofs.lemmas.Option.{none-some, same_Some}
use Rattle.gang_types.specs.Lanes.{Lanes}
use Rattle.gang_model.specs.Types.Tree.{Expr}
use Rattle.gang_model.specs.Running.Lanes.{each, words_from}
use Rattle.expression_instructions.specs.declared.code.Instruction.{Instruction}
use Rattle.codegen.specs.Codes.{IsOptionValue, IsValue}

-- there is code where there is a value
pub some_value : (e : Option Expr) (value : Option (Vec Instruction Global)) (code : Vec Instruction Global) → IsOptionValue e value → value ≡ Some code → (x : Expr) × (e ≡ Some x) × IsValue x code.items
some_value None None code h is = absurd (none-some code is)
some_value None (Some other) code h is = absurd h
some_value (Some x) None code h is = absurd h
some_value (Some x) (Some other) code h is = (x, refl, subst (λ (c : Vec Instruction Global). IsValue x c.items) (same_Some other code is) h)

pub no_value : (e : Option Expr) (value : Option (Vec Instruction Global)) → IsOptionValue e value → value ≡ None → e ≡ None
no_value None value h is = refl
no_value (Some x) None h is = absurd h
no_value (Some x) (Some other) h is = absurd (none-some other (sym is))

zeros : (m : ℕ) (lanes : Lanes) → words_from m lanes (λ k. 0) ≡ replicate (length lanes) 0
zeros m [] = refl
zeros m (true ∷ lanes) = ap (λ words. 0 ∷ words) (zeros (suc m) lanes)
zeros m (false ∷ lanes) = ap (λ words. 0 ∷ words) (zeros (suc m) lanes)

-- 0 in each lane
pub each_zero : (w : ℕ) (lanes : Lanes) → length lanes ≡ w → each lanes (λ k. 0) ≡ replicate w 0
each_zero w lanes long = zeros 0 lanes ∙ ap (λ n. replicate n 0) long
