-- Code of one instruction, which pushes a leaf.
use Rattle.std.proofs.Common.{◌≡◌, ap, sym, subst, arith, List, [], ◌∷◌, ℕ, length, get_or}
use Rattle.std.specs.Prelude.{Result, Ok, Err}
use Rattle.gang_types.specs.Lanes.{Lanes}
use Rattle.gang_model.specs.Running.Lanes.{Fault}
use Rattle.gang_model.specs.Running.State.{State}
use Rattle.gang_model.specs.Running.Value.{value}
use Rattle.typed_tree.specs.declared.expressions.Expr.{Expr}
use Rattle.typed_tree.specs.Views.{expr_view}
use Rattle.expression_instructions.specs.declared.code.Leaf.{Leaf}
use Rattle.expression_instructions.specs.declared.code.Instruction.{Instruction}
use Rattle.expression_instructions.specs.declared.code.Instruction.TheVariants.{Push}
use Rattle.expression_instructions.specs.Values.{leaf_value}
use Rattle.expression_runs.specs.Room.{HasRoom}
use Rattle.expression_runs.specs.Machine.{Done}
use Rattle.expression_runs.specs.Correct.{Computes, ended}

pub one_instruction : (code : List Instruction) (other i : Instruction) → length code ≡ 1 → get_or code 0 other ≡ i → code ≡ i ∷ []
one_instruction [] other i long is = absurd (omega (arith, long))
one_instruction (j ∷ []) other i long is = ap (λ k. k ∷ []) is
one_instruction (j ∷ k ∷ code) other i long is = absurd (omega (arith, long))

done_is : (words : List ℕ) (lanes : Lanes) (meant : Result (List ℕ) Fault) → Done (words ∷ []) (lanes ∷ []) ≡ ended lanes meant → meant ≡ Ok words
done_is words lanes (Ok found) e = let same : words ≡ found = cc in ap Ok (sym same)
done_is words lanes (Err fault) e = cc

-- what it computes is the leaf's value
pub leaf_is : (e : Expr) (code : List Instruction) (leaf : Leaf) (lanes : Lanes) (state : State) → code ≡ Push leaf ∷ [] → Computes e code → HasRoom (expr_view e)
    → value (expr_view e) lanes state ≡ Ok (leaf_value leaf lanes state)
leaf_is e code leaf lanes state is computes room =
    done_is (leaf_value leaf lanes state) lanes (value (expr_view e) lanes state)
    ((subst (Computes e) is computes).run 513 257 lanes state room.few_vectors (omega (arith, room.few_masks)))
