-- What the machine does with a list of instructions: vectors on a stack and masks on another, the top of each first.
use Rattle.std.specs.Prelude.{ℕ, zero, suc, Bool, true, false, cond, nat_lt, List, [], ◌∷◌, length, Result, Ok, Err}
use Rattle.gang_types.specs.declared.places.VarId.{VarId}
use Rattle.gang_types.specs.Lanes.{Lanes, no_lane}
use Rattle.gang_model.specs.Running.Lanes.{Fault, each}
use Rattle.gang_model.specs.Running.State.{State}
use Rattle.expression_instructions.specs.declared.code.Leaf.{Leaf}
use Rattle.expression_instructions.specs.declared.code.OneOperand.{OneOperand}
use Rattle.expression_instructions.specs.declared.code.TwoOperands.{TwoOperands}
use Rattle.expression_instructions.specs.declared.code.ThreeOperands.{ThreeOperands}
use Rattle.expression_instructions.specs.declared.code.Gate.{Gate}
use Rattle.expression_instructions.specs.declared.code.Gate.TheVariants.{WhereTrue, WhereFalse, Otherwise}
use Rattle.expression_instructions.specs.declared.code.Joining.{Joining}
use Rattle.expression_instructions.specs.declared.code.Joining.TheVariants.{Both, Either, Choice}
use Rattle.expression_instructions.specs.declared.code.Instruction.{Instruction}
use Rattle.expression_instructions.specs.declared.code.Instruction.TheVariants.{Push, Element, One, Two, Three, Enter, Join}
use Rattle.expression_instructions.specs.Values.{leaf_value, element_value, one_value, two_value, three_value, both_value, either_value, chosen_value, where_lanes}

abbrev pub Vectors : Type 0
Vectors = List (List ℕ)

abbrev pub Masks : Type 0
Masks = List Lanes

-- after one instruction: how many to pass next, and the stacks; or how the run ends
pub data Next : Type 0 where
  Goes : (pass : ℕ) (stack : Vectors) (masks : Masks) → Next
  Faults : (fault : Fault) → Next
  Jams : Next

-- how a run ends
pub data Outcome : Type 0 where
  Done : (stack : Vectors) (masks : Masks) → Outcome
  Faulted : (fault : Fault) → Outcome
  Stuck : Outcome

-- one more vector, where there is room for it
abbrev pub push : ℕ → ℕ → List ℕ → Vectors → Masks → Next
push room pass v stack masks = cond (nat_lt (length stack) room) (Goes pass (v ∷ stack) masks) Jams

-- a vector in place of the operands that were taken
abbrev pub give : Vectors → Masks → Result (List ℕ) Fault → Next
give stack masks (Err f) = Faults f
give stack masks (Ok v) = Goes 0 (v ∷ stack) masks

abbrev pub push_leaf : ℕ → State → Leaf → Vectors → Masks → Next
push_leaf room state leaf stack (s ∷ masks) = push room 0 (leaf_value leaf s state) stack (s ∷ masks)
push_leaf room state leaf stack masks = Jams

abbrev pub read_elements : State → VarId → Vectors → Masks → Next
read_elements state array (x ∷ stack) (s ∷ masks) = give stack (s ∷ masks) (element_value array s state x)
read_elements state array stack masks = Jams

abbrev pub apply_one : OneOperand → Vectors → Masks → Next
apply_one op (x ∷ stack) (s ∷ masks) = give stack (s ∷ masks) (Ok (one_value op s x))
apply_one op stack masks = Jams

abbrev pub apply_two : TwoOperands → Vectors → Masks → Next
apply_two op (y ∷ x ∷ stack) (s ∷ masks) = give stack (s ∷ masks) (two_value op s x y)
apply_two op stack masks = Jams

abbrev pub apply_three : ThreeOperands → Vectors → Masks → Next
apply_three op (z ∷ y ∷ x ∷ stack) (s ∷ masks) = give stack (s ∷ masks) (three_value op s x y z)
apply_three op stack masks = Jams

-- a part that the lanes of t do, or zeros for its value where there are none
abbrev pub enter : ℕ → ℕ → Lanes → Vectors → Masks → Next
enter room pass t stack masks =
    cond (no_lane t) (push room pass (each t (λ k. 0)) stack (t ∷ masks)) (Goes 0 stack (t ∷ masks))

-- the same, where there is room for a mask
abbrev pub deeper : ℕ → ℕ → ℕ → Lanes → Vectors → Masks → Next
deeper room nested pass t stack masks = cond (nat_lt (length masks) nested) (enter room pass t stack masks) Jams

-- a gate on the top vector, which stays
abbrev pub open_where : ℕ → ℕ → Bool → ℕ → Vectors → Masks → Next
open_where room nested wanted pass (c ∷ stack) (s ∷ masks) = deeper room nested pass (where_lanes wanted s c) (c ∷ stack) (s ∷ masks)
open_where room nested wanted pass stack masks = Jams

-- a gate on the vector below the top, for the lanes that the part before it left out
abbrev pub open_otherwise : ℕ → ℕ → Vectors → Masks → Next
open_otherwise room pass (x ∷ c ∷ stack) (t ∷ s ∷ masks) = enter room pass (where_lanes false s c) (x ∷ c ∷ stack) (s ∷ masks)
open_otherwise room pass stack masks = Jams

abbrev pub open_gate : ℕ → ℕ → Gate → ℕ → Vectors → Masks → Next
open_gate room nested WhereTrue pass stack masks = open_where room nested true pass stack masks
open_gate room nested WhereFalse pass stack masks = open_where room nested false pass stack masks
open_gate room nested Otherwise pass stack masks = open_otherwise room pass stack masks

-- the vector of a part joined to those below it for the lanes of the mask below the part's, which is taken off
abbrev pub join : Joining → Vectors → Masks → Next
join Both (y ∷ x ∷ stack) (t ∷ s ∷ masks) = give stack (s ∷ masks) (Ok (both_value s x y))
join Either (y ∷ x ∷ stack) (t ∷ s ∷ masks) = give stack (s ∷ masks) (Ok (either_value s x y))
join Choice (y ∷ x ∷ c ∷ stack) (t ∷ s ∷ masks) = give stack (s ∷ masks) (Ok (chosen_value s c x y))
join joining stack masks = Jams

-- one instruction
abbrev pub act : ℕ → ℕ → State → Instruction → Vectors → Masks → Next
act room nested state (Push leaf) stack masks = push_leaf room state leaf stack masks
act room nested state (Element array) stack masks = read_elements state array stack masks
act room nested state (One op) stack masks = apply_one op stack masks
act room nested state (Two op) stack masks = apply_two op stack masks
act room nested state (Three op) stack masks = apply_three op stack masks
act room nested state (Enter gate pass) stack masks = open_gate room nested gate pass stack masks
act room nested state (Join joining) stack masks = join joining stack masks

abbrev pub follow : Next → (ℕ → Vectors → Masks → Outcome) → Outcome
follow (Goes pass stack masks) go = go pass stack masks
follow (Faults f) go = Faulted f
follow Jams go = Stuck

-- the instructions in order, but for those that are passed
abbrev pub exec : ℕ → ℕ → State → List Instruction → ℕ → Vectors → Masks → Outcome
exec room nested state [] pass stack masks = Done stack masks
exec room nested state (i ∷ code) (suc pass) stack masks = exec room nested state code pass stack masks
exec room nested state (i ∷ code) zero stack masks = follow (act room nested state i stack masks) (exec room nested state code)
