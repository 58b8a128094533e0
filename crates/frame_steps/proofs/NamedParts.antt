-- The code of the index from which a step takes a part of an array.
use Rattle.std.proofs.Common.{ℕ, ◌≡◌, refl, sym, subst, List, Option, Some, None, Vec, Global}
use Rattle.std.proofs.lemmas.Option.{same_Some}
use Rattle.gang_model.specs.Types.Tree.{Expr, Function}
use Rattle.mask_states.specs.Points.{Point}
use Rattle.machine_states.specs.Regions.{Regions}
use Rattle.expression_instructions.specs.declared.code.Instruction.{Instruction}
use Rattle.codegen.specs.Codes.{IsOptionValue}
use Rattle.frame_steps.specs.declared.active.Active.{Active}
use Rattle.frame_steps.specs.declared.compiled.CompiledProgram.{CompiledProgram}
use Rattle.frame_steps.specs.Compiled.{IsCompiled}
use Rattle.frame_steps.specs.Parts.{IsIndexAt}
use Rattle.frame_steps.specs.Standing.{IsActive, IsValueAt}
use Rattle.frame_steps.proofs.StepValues.{IsValueOf, value_at}

-- the index of a point of the next step
module _ (width : ℕ) (compiled : CompiledProgram) (is : IsCompiled compiled) (regions : Regions) (active : Active) (f : Function) (point : Point) (is_active : IsActive width compiled regions active f (Some point)) where
  pub index_of : (index : Option Expr) (from : Option (Vec Instruction Global)) → ((e : Expr) → index ≡ Some e → IsValueOf point e) → IsOptionValue index from → IsIndexAt width compiled regions active index from
  index_of None None of fits = tt
  index_of None (Some code) of fits = absurd fits
  index_of (Some e) None of fits = absurd fits
  index_of (Some e) (Some code) of fits = value_at width compiled is regions active f point is_active e code.items (of e refl) fits

module _ (width : ℕ) (compiled : CompiledProgram) (regions : Regions) (active : Active) where
  -- where there is code there is an index
  pub index_there : (index : Option Expr) (from : Option (Vec Instruction Global)) (code : Vec Instruction Global) → from ≡ Some code → IsIndexAt width compiled regions active index from
      → (read : List Instruction) → read ≡ code.items → (e : Expr) × (index ≡ Some e) × IsValueAt width compiled regions active e read
  index_there index None code is at read same = cc
  index_there None (Some own) code is at read same = absurd at
  index_there (Some e) (Some own) code is at read same =
      (e, refl, subst (λ c. IsValueAt width compiled regions active e c) (sym same) (subst (λ (c : Vec Instruction Global). IsValueAt width compiled regions active e c.items) (same_Some own code is) at))
