-- A gate is written after the part that it passes.
use Rattle.std.proofs.Common.{◌≡◌, ℕ, ◌-◌, List, [], ◌∷◌, ◌++◌, length, ap, ◌∙◌, arith, append_assoc, length-append}
use Rattle.std.specs.Prelude.{slice_set}
use Rattle.std.proofs.Math.Seq.{set-append_seam}
use Rattle.expression_instructions.specs.declared.code.Gate.{Gate}
use Rattle.expression_instructions.specs.declared.code.Instruction.{Instruction}
use Rattle.expression_instructions.specs.declared.code.Instruction.TheVariants.{Enter}
use Rattle.expression_code.specs.Code.{arm_code}

pub patch_arm : (gate : Gate) (base part c1 c2 : List Instruction) (x : Instruction) (n0 n1 : ℕ) → n0 ≡ length base → c1 ≡ base ++ x ∷ [] → c2 ≡ c1 ++ part → n1 ≡ length c2 → slice_set c2 n0 (Enter gate (n1 - n0 - 1)) ≡ base ++ arm_code gate part
patch_arm gate base part c1 c2 x n0 n1 m0 e1 e2 m1 =
    let l1 = ap length e1 ∙ length-append base (x ∷ []) in
    let l2 = ap length e2 ∙ length-append c1 part in
    let d : n1 - n0 - 1 ≡ length part = omega arith in
    let all : c2 ≡ (base ++ x ∷ []) ++ part = cc in
    ap (λ l. slice_set l n0 (Enter gate (n1 - n0 - 1))) (all ∙ append_assoc base (x ∷ []) part)
    ∙ ap (λ n. slice_set (base ++ x ∷ part) n (Enter gate (n1 - n0 - 1))) m0
    ∙ set-append_seam base x part (Enter gate (n1 - n0 - 1))
    ∙ ap (λ n. base ++ Enter gate n ∷ part) d
