-- The machine follows the value of an expression.
use Rattle.std.proofs.Common.{◌≡◌, ℕ, suc, ◌+◌, ◌<◌, ◌≤◌, Bool, true, false, cond, List, [], ◌∷◌, ◌++◌, length, Result, Ok, Err, refl, sym, ap, ◌∙◌, arith, append_assoc}
use Rattle.std.specs.Prelude.{◌==◌, if◌then◌else◌}
use Rattle.std.proofs.lemmas.Bool.{lt-ltb}
use Rattle.gang_types.specs.declared.places.VarId.{VarId}
use Rattle.gang_types.specs.Lanes.{Lanes, no_lane}
use Rattle.gang_model.specs.Running.Lanes.{Fault, ◌>>=◌, each, try_each, at}
use Rattle.gang_model.specs.Running.Library.{reduced, scanned, before_lane, lane_value}
use Rattle.gang_model.specs.Running.State.{State}
use Rattle.gang_model.specs.Running.Value.{value}
use Rattle.typed_tree.specs.declared.expressions.Expr.{Expr, Number, ProgramIndex, ProgramCount, LaneMask, Read, Element', Unary', Binary', Convert', AndAlso', OrElse', Choice', Reduce', ScanLanes', OfOne', OfTwo', Extract', Insert', Rotate', Shift', Shuffle', ShuffleTwo', Select'}
use Rattle.typed_tree.specs.Views.{expr_view, reduction_view, scan_view}
use Rattle.cross_lane.specs.Calls.{values_in}
use Rattle.expression_instructions.specs.declared.code.Leaf.{Leaf}
use Rattle.expression_instructions.specs.declared.code.Leaf.TheVariants as leaf
use Rattle.expression_instructions.specs.declared.code.OneOperand.{OneOperand}
use Rattle.expression_instructions.specs.declared.code.OneOperand.TheVariants as one
use Rattle.expression_instructions.specs.declared.code.Move.TheVariants as move
use Rattle.expression_instructions.specs.declared.code.TwoOperands.{TwoOperands}
use Rattle.expression_instructions.specs.declared.code.TwoOperands.TheVariants as two
use Rattle.expression_instructions.specs.declared.code.ThreeOperands.{ThreeOperands}
use Rattle.expression_instructions.specs.declared.code.ThreeOperands.TheVariants as three
use Rattle.expression_instructions.specs.declared.code.Gate.TheVariants.{WhereTrue, WhereFalse, Otherwise}
use Rattle.expression_instructions.specs.declared.code.Joining.TheVariants as joining
use Rattle.expression_instructions.specs.declared.code.Instruction.{Instruction}
use Rattle.expression_instructions.specs.declared.code.Instruction.TheVariants.{Push, Element, One, Two, Three, Enter, Join}
use Rattle.expression_code.specs.Code.{code_of, arm_code}
use Rattle.expression_runs.specs.Room.{depth, nesting}
use Rattle.expression_instructions.specs.Values.{leaf_value, element_value, one_value, two_value, three_value, moved_word, both_value, either_value, chosen_value, where_lanes}
use Rattle.expression_runs.specs.Machine.{Vectors, Masks, Goes, Jams, Outcome, Faulted, push, give, enter, deeper, follow, exec}
use Rattle.expression_instructions.proofs.Idle.{idle, zeros}
use Rattle.expression_code.proofs.Outside.{after_within, bind_same}

-- what follows a value; a fault ends the run
abbrev pub after : Result (List ℕ) Fault → (List ℕ → Outcome) → Outcome
after (Ok v) go = go v
after (Err f) go = Faulted f

after_same : (r : Result (List ℕ) Fault) (f g : List ℕ → Outcome) → ((v : List ℕ) → f v ≡ g v) → after r f ≡ after r g
after_same (Ok v) f g h = h v
after_same (Err f') f g h = refl

after_bind : (r : Result (List ℕ) Fault) (next : List ℕ → Result (List ℕ) Fault) (go : List ℕ → Outcome) → after r (λ v. after (next v) go) ≡ after (r >>= next) go
after_bind (Ok v) next go = refl
after_bind (Err f) next go = refl

pub one_deep : (e : Expr) → 1 ≤ depth (expr_view e)
one_deep (Element' array p i) = one_deep i
one_deep (Unary' op ty p a) = one_deep a
one_deep (Binary' op ty p a q b) = omega (arith, one_deep a)
one_deep (Convert' from to p a) = one_deep a
one_deep (AndAlso' p a q b) = omega (arith, one_deep a)
one_deep (OrElse' p a q b) = omega (arith, one_deep a)
one_deep (Choice' p c q a r b) = omega (arith, one_deep c)
one_deep (Reduce' f ty p a) = one_deep a
one_deep (ScanLanes' f ty p a) = one_deep a
one_deep (OfOne' f ty p a) = one_deep a
one_deep (OfTwo' f ty p a q b) = omega (arith, one_deep a)
one_deep (Extract' p a q i) = omega (arith, one_deep a)
one_deep (Insert' p a q i r x) = omega (arith, one_deep a)
one_deep (Rotate' p a q n) = omega (arith, one_deep a)
one_deep (Shift' p a q n) = omega (arith, one_deep a)
one_deep (Shuffle' p a q i) = omega (arith, one_deep a)
one_deep (ShuffleTwo' p a q b r i) = omega (arith, one_deep a)
one_deep (Select' p c q a r b) = omega (arith, one_deep c)
one_deep _ = omega arith

module _ (room nested : ℕ) (state : State) where
  abbrev run : List Instruction → ℕ → Vectors → Masks → Outcome
  run = exec room nested state

  -- what follows once the value is on the stack
  abbrev pub on_top : List Instruction → Lanes → Vectors → Masks → List ℕ → Outcome
  on_top rest s stack masks v = run rest 0 (v ∷ stack) (s ∷ masks)

  skips : (code mid : List Instruction) (stack : Vectors) (masks : Masks) → run (code ++ mid) (length code) stack masks ≡ run mid 0 stack masks
  skips [] mid stack masks = refl
  skips (i ∷ code) mid stack masks = skips code mid stack masks

  push_goes : (pass : ℕ) (v : List ℕ) (stack : Vectors) (masks : Masks) → length stack < room → push room pass v stack masks ≡ Goes pass (v ∷ stack) masks
  push_goes pass v stack masks h = ap (λ b. cond b (Goes pass (v ∷ stack) masks) Jams) (lt-ltb (length stack) room h)

  leaf_lands : (leaf : Leaf) (s : Lanes) (stack : Vectors) (masks : Masks) (rest : List Instruction) → length stack < room → run (Push leaf ∷ rest) 0 stack (s ∷ masks) ≡ on_top rest s stack masks (leaf_value leaf s state)
  leaf_lands leaf s stack masks rest h = ap (λ n. follow n (run rest)) (push_goes 0 (leaf_value leaf s state) stack (s ∷ masks) h)

  give_lands : (r : Result (List ℕ) Fault) (s : Lanes) (stack : Vectors) (masks : Masks) (rest : List Instruction) → follow (give stack (s ∷ masks) r) (run rest) ≡ after r (on_top rest s stack masks)
  give_lands (Ok v) s stack masks rest = refl
  give_lands (Err f) s stack masks rest = refl

  -- the code leaves a value on the stack, or faults, whatever follows
  abbrev pub Lands : List Instruction → Lanes → Vectors → Masks → Result (List ℕ) Fault → Type 0
  Lands code s stack masks r = (rest : List Instruction) → run (code ++ rest) 0 stack (s ∷ masks) ≡ after r (on_top rest s stack masks)

  -- a part behind its gate
  part_by : (b : Bool) (t : Lanes) (code mid : List Instruction) (stack : Vectors) (masks : Masks) (r : Result (List ℕ) Fault) → no_lane t ≡ b → length stack < room → (no_lane t ≡ true → r ≡ Ok (zeros t)) → Lands code t stack masks r
      → follow (cond b (push room (length code) (zeros t) stack (t ∷ masks)) (Goes 0 stack (t ∷ masks))) (run (code ++ mid)) ≡ after r (on_top mid t stack masks)
  part_by true t code mid stack masks r e h none l =
      ap (λ n. follow n (run (code ++ mid))) (push_goes (length code) (zeros t) stack (t ∷ masks) h)
      ∙ skips code mid (zeros t ∷ stack) (t ∷ masks)
      ∙ sym (ap (λ r. after r (on_top mid t stack masks)) (none e))
  part_by false t code mid stack masks r e h none l = l mid

  part_lands : (e : Expr) (t : Lanes) (mid : List Instruction) (stack : Vectors) (masks : Masks) → length stack < room → Lands (code_of e) t stack masks (value (expr_view e) t state)
      → follow (enter room (length (code_of e)) t stack masks) (run (code_of e ++ mid)) ≡ after (value (expr_view e) t state) (on_top mid t stack masks)
  part_lands e t mid stack masks h l = part_by (no_lane t) t (code_of e) mid stack masks (value (expr_view e) t state) refl h (idle (expr_view e) t state) l

  gate_lands : (e : Expr) (t : Lanes) (mid : List Instruction) (stack : Vectors) (masks : Masks) → length stack < room → length masks < nested → Lands (code_of e) t stack masks (value (expr_view e) t state)
      → follow (deeper room nested (length (code_of e)) t stack masks) (run (code_of e ++ mid)) ≡ after (value (expr_view e) t state) (on_top mid t stack masks)
  gate_lands e t mid stack masks h n l =
      ap (λ b. follow (cond b (enter room (length (code_of e)) t stack masks) Jams) (run (code_of e ++ mid))) (lt-ltb (length masks) nested n)
      ∙ part_lands e t mid stack masks h l

  -- an operation after its operands
  one_lands : (op : OneOperand) (a : Expr) (s : Lanes) (stack : Vectors) (masks : Masks) → Lands (code_of a) s stack masks (value (expr_view a) s state)
      → Lands (code_of a ++ One op ∷ []) s stack masks (value (expr_view a) s state >>= λ x. Ok (one_value op s x))
  one_lands op a s stack masks l rest =
      ap (λ c. run c 0 stack (s ∷ masks)) (append_assoc (code_of a) (One op ∷ []) rest)
      ∙ l (One op ∷ rest)
      ∙ after_bind (value (expr_view a) s state) (λ x. Ok (one_value op s x)) (on_top rest s stack masks)

  two_lands : (op : TwoOperands) (a b : Expr) (s : Lanes) (stack : Vectors) (masks : Masks) → Lands (code_of a) s stack masks (value (expr_view a) s state)
      → ((x : List ℕ) → Lands (code_of b) s (x ∷ stack) masks (value (expr_view b) s state))
      → Lands (code_of a ++ (code_of b ++ Two op ∷ [])) s stack masks (value (expr_view a) s state >>= λ x. value (expr_view b) s state >>= λ y. two_value op s x y)
  two_lands op a b s stack masks l m rest =
      let mid : List Instruction = Two op ∷ rest in
      let flat : (code_of a ++ (code_of b ++ Two op ∷ [])) ++ rest ≡ code_of a ++ (code_of b ++ mid) = simp append_assoc in
      ap (λ c. run c 0 stack (s ∷ masks)) flat
      ∙ l (code_of b ++ mid)
      ∙ after_same (value (expr_view a) s state) (on_top (code_of b ++ mid) s stack masks) (λ x. after (value (expr_view b) s state >>= λ y. two_value op s x y) (on_top rest s stack masks))
      (λ x. m x mid
      ∙ after_same (value (expr_view b) s state) (on_top mid s (x ∷ stack) masks) (λ y. after (two_value op s x y) (on_top rest s stack masks)) (λ y. give_lands (two_value op s x y) s stack masks rest)
      ∙ after_bind (value (expr_view b) s state) (λ y. two_value op s x y) (on_top rest s stack masks))
      ∙ after_bind (value (expr_view a) s state) (λ x. value (expr_view b) s state >>= λ y. two_value op s x y) (on_top rest s stack masks)

  three_lands : (op : ThreeOperands) (c a b : Expr) (s : Lanes) (stack : Vectors) (masks : Masks) → Lands (code_of c) s stack masks (value (expr_view c) s state)
      → ((z : List ℕ) → Lands (code_of a) s (z ∷ stack) masks (value (expr_view a) s state))
      → ((z x : List ℕ) → Lands (code_of b) s (x ∷ z ∷ stack) masks (value (expr_view b) s state))
      → Lands (code_of c ++ (code_of a ++ (code_of b ++ Three op ∷ []))) s stack masks (value (expr_view c) s state >>= λ z. value (expr_view a) s state >>= λ x. value (expr_view b) s state >>= λ y. three_value op s z x y)
  three_lands op c a b s stack masks l m n rest =
      let mid : List Instruction = Three op ∷ rest in
      let flat : (code_of c ++ (code_of a ++ (code_of b ++ Three op ∷ []))) ++ rest ≡ code_of c ++ (code_of a ++ (code_of b ++ mid)) = simp append_assoc in
      let go : List ℕ → Outcome = on_top rest s stack masks in
      ap (λ k. run k 0 stack (s ∷ masks)) flat
      ∙ l (code_of a ++ (code_of b ++ mid))
      ∙ after_same (value (expr_view c) s state) (on_top (code_of a ++ (code_of b ++ mid)) s stack masks) (λ z. after (value (expr_view a) s state >>= λ x. value (expr_view b) s state >>= λ y. three_value op s z x y) go)
      (λ z. m z (code_of b ++ mid)
      ∙ after_same (value (expr_view a) s state) (on_top (code_of b ++ mid) s (z ∷ stack) masks) (λ x. after (value (expr_view b) s state >>= λ y. three_value op s z x y) go)
      (λ x. n z x mid
      ∙ after_same (value (expr_view b) s state) (on_top mid s (x ∷ z ∷ stack) masks) (λ y. after (three_value op s z x y) go) (λ y. give_lands (three_value op s z x y) s stack masks rest)
      ∙ after_bind (value (expr_view b) s state) (λ y. three_value op s z x y) go)
      ∙ after_bind (value (expr_view a) s state) (λ x. value (expr_view b) s state >>= λ y. three_value op s z x y) go)
      ∙ after_bind (value (expr_view c) s state) (λ z. value (expr_view a) s state >>= λ x. value (expr_view b) s state >>= λ y. three_value op s z x y) go

  element_lands : (array : VarId) (i : Expr) (s : Lanes) (stack : Vectors) (masks : Masks) → Lands (code_of i) s stack masks (value (expr_view i) s state)
      → Lands (code_of i ++ Element array ∷ []) s stack masks (value (expr_view i) s state >>= λ x. element_value array s state x)
  element_lands array i s stack masks l rest =
      ap (λ c. run c 0 stack (s ∷ masks)) (append_assoc (code_of i) (Element array ∷ []) rest)
      ∙ l (Element array ∷ rest)
      ∙ after_same (value (expr_view i) s state) (on_top (Element array ∷ rest) s stack masks) (λ x. after (element_value array s state x) (on_top rest s stack masks)) (λ x. give_lands (element_value array s state x) s stack masks rest)
      ∙ after_bind (value (expr_view i) s state) (λ x. element_value array s state x) (on_top rest s stack masks)

  -- the same value, said in another way
  lands_as : (code : List Instruction) (s : Lanes) (stack : Vectors) (masks : Masks) (q r : Result (List ℕ) Fault) → q ≡ r → Lands code s stack masks q → Lands code s stack masks r
  lands_as code s stack masks q r e l rest = l rest ∙ ap (λ r. after r (on_top rest s stack masks)) e

  both_lands : (a b : Expr) (s : Lanes) (stack : Vectors) (masks : Masks) → suc (length stack) < room → suc (length masks) < nested → Lands (code_of a) s stack masks (value (expr_view a) s state)
      → ((x : List ℕ) → Lands (code_of b) (where_lanes true s x) (x ∷ stack) (s ∷ masks) (value (expr_view b) (where_lanes true s x) state))
      → Lands (code_of a ++ (arm_code WhereTrue (code_of b) ++ Join joining.Both ∷ [])) s stack masks (value (expr_view a) s state >>= λ x. value (expr_view b) (where_lanes true s x) state >>= λ y. Ok (both_value s x y))
  both_lands a b s stack masks h k l m rest =
      let mid : List Instruction = Join joining.Both ∷ rest in
      let arm : List Instruction = Enter WhereTrue (length (code_of b)) ∷ (code_of b ++ mid) in
      let flat : (code_of a ++ (arm_code WhereTrue (code_of b) ++ Join joining.Both ∷ [])) ++ rest ≡ code_of a ++ arm = simp append_assoc in
      let go : List ℕ → Outcome = on_top rest s stack masks in
      ap (λ c. run c 0 stack (s ∷ masks)) flat
      ∙ l arm
      ∙ after_same (value (expr_view a) s state) (on_top arm s stack masks) (λ x. after (value (expr_view b) (where_lanes true s x) state >>= λ y. Ok (both_value s x y)) go)
      (λ x. gate_lands b (where_lanes true s x) mid (x ∷ stack) (s ∷ masks) h k (m x)
      ∙ after_bind (value (expr_view b) (where_lanes true s x) state) (λ y. Ok (both_value s x y)) go)
      ∙ after_bind (value (expr_view a) s state) (λ x. value (expr_view b) (where_lanes true s x) state >>= λ y. Ok (both_value s x y)) go

  either_lands : (a b : Expr) (s : Lanes) (stack : Vectors) (masks : Masks) → suc (length stack) < room → suc (length masks) < nested → Lands (code_of a) s stack masks (value (expr_view a) s state)
      → ((x : List ℕ) → Lands (code_of b) (where_lanes false s x) (x ∷ stack) (s ∷ masks) (value (expr_view b) (where_lanes false s x) state))
      → Lands (code_of a ++ (arm_code WhereFalse (code_of b) ++ Join joining.Either ∷ [])) s stack masks (value (expr_view a) s state >>= λ x. value (expr_view b) (where_lanes false s x) state >>= λ y. Ok (either_value s x y))
  either_lands a b s stack masks h k l m rest =
      let mid : List Instruction = Join joining.Either ∷ rest in
      let arm : List Instruction = Enter WhereFalse (length (code_of b)) ∷ (code_of b ++ mid) in
      let flat : (code_of a ++ (arm_code WhereFalse (code_of b) ++ Join joining.Either ∷ [])) ++ rest ≡ code_of a ++ arm = simp append_assoc in
      let go : List ℕ → Outcome = on_top rest s stack masks in
      ap (λ c. run c 0 stack (s ∷ masks)) flat
      ∙ l arm
      ∙ after_same (value (expr_view a) s state) (on_top arm s stack masks) (λ x. after (value (expr_view b) (where_lanes false s x) state >>= λ y. Ok (either_value s x y)) go)
      (λ x. gate_lands b (where_lanes false s x) mid (x ∷ stack) (s ∷ masks) h k (m x)
      ∙ after_bind (value (expr_view b) (where_lanes false s x) state) (λ y. Ok (either_value s x y)) go)
      ∙ after_bind (value (expr_view a) s state) (λ x. value (expr_view b) (where_lanes false s x) state >>= λ y. Ok (either_value s x y)) go

  choice_lands : (c a b : Expr) (s : Lanes) (stack : Vectors) (masks : Masks) → suc (suc (length stack)) < room → suc (length masks) < nested → Lands (code_of c) s stack masks (value (expr_view c) s state)
      → ((z : List ℕ) → Lands (code_of a) (where_lanes true s z) (z ∷ stack) (s ∷ masks) (value (expr_view a) (where_lanes true s z) state))
      → ((z x : List ℕ) → Lands (code_of b) (where_lanes false s z) (x ∷ z ∷ stack) (s ∷ masks) (value (expr_view b) (where_lanes false s z) state))
      → Lands (code_of c ++ (arm_code WhereTrue (code_of a) ++ (arm_code Otherwise (code_of b) ++ Join joining.Choice ∷ []))) s stack masks (value (expr_view c) s state >>= λ z. value (expr_view a) (where_lanes true s z) state >>= λ x. value (expr_view b) (where_lanes false s z) state >>= λ y. Ok (chosen_value s z x y))
  choice_lands c a b s stack masks h k l m n rest =
      let mid : List Instruction = Join joining.Choice ∷ rest in
      let second : List Instruction = Enter Otherwise (length (code_of b)) ∷ (code_of b ++ mid) in
      let first : List Instruction = Enter WhereTrue (length (code_of a)) ∷ (code_of a ++ second) in
      let flat : (code_of c ++ (arm_code WhereTrue (code_of a) ++ (arm_code Otherwise (code_of b) ++ Join joining.Choice ∷ []))) ++ rest ≡ code_of c ++ first = simp append_assoc in
      let go : List ℕ → Outcome = on_top rest s stack masks in
      ap (λ c. run c 0 stack (s ∷ masks)) flat
      ∙ l first
      ∙ after_same (value (expr_view c) s state) (on_top first s stack masks) (λ z. after (value (expr_view a) (where_lanes true s z) state >>= λ x. value (expr_view b) (where_lanes false s z) state >>= λ y. Ok (chosen_value s z x y)) go)
      (λ z. gate_lands a (where_lanes true s z) second (z ∷ stack) (s ∷ masks) (omega arith) k (m z)
      ∙ after_same (value (expr_view a) (where_lanes true s z) state) (on_top second (where_lanes true s z) (z ∷ stack) (s ∷ masks)) (λ x. after (value (expr_view b) (where_lanes false s z) state >>= λ y. Ok (chosen_value s z x y)) go)
      (λ x. part_lands b (where_lanes false s z) mid (x ∷ z ∷ stack) (s ∷ masks) h (n z x)
      ∙ after_bind (value (expr_view b) (where_lanes false s z) state) (λ y. Ok (chosen_value s z x y)) go)
      ∙ after_bind (value (expr_view a) (where_lanes true s z) state) (λ x. value (expr_view b) (where_lanes false s z) state >>= λ y. Ok (chosen_value s z x y)) go)
      ∙ after_bind (value (expr_view c) s state) (λ z. value (expr_view a) (where_lanes true s z) state >>= λ x. value (expr_view b) (where_lanes false s z) state >>= λ y. Ok (chosen_value s z x y)) go

  -- the words of two values are read in the set alone
  picks_of_two : (a b i : Expr) (s : Lanes)
      → (value (expr_view a) s state >>= λ x. value (expr_view b) s state >>= λ y. value (expr_view i) s state >>= λ p. try_each s (λ k. lane_value (values_in s x ++ values_in s y) (at p k)))
      ≡ (value (expr_view a) s state >>= λ x. value (expr_view b) s state >>= λ y. value (expr_view i) s state >>= λ p. try_each s (λ k. lane_value (x ++ y) (at p k)))
  picks_of_two a b i s =
      after_within (expr_view a) s state (λ x. value (expr_view b) s state >>= λ y. value (expr_view i) s state >>= λ p. try_each s (λ k. lane_value (x ++ values_in s y) (at p k)))
      ∙ bind_same (value (expr_view a) s state) _ _ (λ x. after_within (expr_view b) s state (λ y. value (expr_view i) s state >>= λ p. try_each s (λ k. lane_value (x ++ y) (at p k))))

  pub lands : (e : Expr) (s : Lanes) (stack : Vectors) (masks : Masks) → length stack + depth (expr_view e) ≤ room → suc (length masks) + nesting (expr_view e) ≤ nested → Lands (code_of e) s stack masks (value (expr_view e) s state)
  lands (Number n) s stack masks h m = λ rest. leaf_lands (leaf.Number n) s stack masks rest (omega arith)
  lands ProgramIndex s stack masks h m = λ rest. leaf_lands leaf.ProgramIndex s stack masks rest (omega arith)
  lands ProgramCount s stack masks h m = λ rest. leaf_lands leaf.ProgramCount s stack masks rest (omega arith)
  lands LaneMask s stack masks h m = λ rest. leaf_lands leaf.LaneMask s stack masks rest (omega arith)
  lands (Read v) s stack masks h m = λ rest. leaf_lands (leaf.Read v) s stack masks rest (omega arith)
  lands (Element' array p i) s stack masks h m = element_lands array i s stack masks (lands i s stack masks h m)
  lands (Unary' op ty p a) s stack masks h m = one_lands (one.Unary op ty) a s stack masks (lands a s stack masks h m)
  lands (Convert' from to p a) s stack masks h m = one_lands (one.Convert from to) a s stack masks (lands a s stack masks h m)
  lands (OfOne' f ty p a) s stack masks h m = one_lands (one.OfOne f ty) a s stack masks (lands a s stack masks h m)
  lands (Reduce' f ty p a) s stack masks h m =
      lands_as _ s stack masks _ _ (after_within (expr_view a) s state (λ x. Ok (each s (λ k. reduced (reduction_view f) ty s x))))
      (one_lands (one.Reduce f ty) a s stack masks (lands a s stack masks h m))
  lands (ScanLanes' f ty p a) s stack masks h m =
      lands_as _ s stack masks _ _ (after_within (expr_view a) s state (λ x. Ok (each s (λ k. scanned (scan_view f) ty (before_lane k s x)))))
      (one_lands (one.ScanLanes f ty) a s stack masks (lands a s stack masks h m))
  lands (Binary' op ty p a q b) s stack masks h m =
      two_lands (two.Binary op ty) a b s stack masks (lands a s stack masks (omega arith) (omega arith)) (λ x. lands b s (x ∷ stack) masks (omega arith) (omega arith))
  lands (OfTwo' f ty p a q b) s stack masks h m =
      two_lands (two.OfTwo f ty) a b s stack masks (lands a s stack masks (omega arith) (omega arith)) (λ x. lands b s (x ∷ stack) masks (omega arith) (omega arith))
  lands (Extract' p a q i) s stack masks h m =
      lands_as _ s stack masks _ _ (after_within (expr_view a) s state (λ x. value (expr_view i) s state >>= λ y. try_each s (λ k. lane_value x (at y k))))
      (two_lands two.Pick a i s stack masks (lands a s stack masks (omega arith) (omega arith)) (λ x. lands i s (x ∷ stack) masks (omega arith) (omega arith)))
  lands (Shuffle' p a q i) s stack masks h m =
      lands_as _ s stack masks _ _ (after_within (expr_view a) s state (λ x. value (expr_view i) s state >>= λ y. try_each s (λ k. lane_value x (at y k))))
      (two_lands two.Pick a i s stack masks (lands a s stack masks (omega arith) (omega arith)) (λ x. lands i s (x ∷ stack) masks (omega arith) (omega arith)))
  lands (Rotate' p a q n) s stack masks h m =
      lands_as _ s stack masks _ _ (after_within (expr_view a) s state (λ x. value (expr_view n) s state >>= λ y. Ok (each s (λ k. moved_word move.Rotate s x (at y k) k))))
      (two_lands (two.Move move.Rotate) a n s stack masks (lands a s stack masks (omega arith) (omega arith)) (λ x. lands n s (x ∷ stack) masks (omega arith) (omega arith)))
  lands (Shift' p a q n) s stack masks h m =
      lands_as _ s stack masks _ _ (after_within (expr_view a) s state (λ x. value (expr_view n) s state >>= λ y. Ok (each s (λ k. moved_word move.Shift s x (at y k) k))))
      (two_lands (two.Move move.Shift) a n s stack masks (lands a s stack masks (omega arith) (omega arith)) (λ x. lands n s (x ∷ stack) masks (omega arith) (omega arith)))
  lands (AndAlso' p a q b) s stack masks h m =
      both_lands a b s stack masks (omega (arith, one_deep b)) (omega arith) (lands a s stack masks (omega arith) (omega arith))
      (λ x. lands b (where_lanes true s x) (x ∷ stack) (s ∷ masks) (omega arith) (omega arith))
  lands (OrElse' p a q b) s stack masks h m =
      either_lands a b s stack masks (omega (arith, one_deep b)) (omega arith) (lands a s stack masks (omega arith) (omega arith))
      (λ x. lands b (where_lanes false s x) (x ∷ stack) (s ∷ masks) (omega arith) (omega arith))
  lands (Choice' p c q a r b) s stack masks h m =
      choice_lands c a b s stack masks (omega (arith, one_deep b)) (omega arith) (lands c s stack masks (omega arith) (omega arith))
      (λ z. lands a (where_lanes true s z) (z ∷ stack) (s ∷ masks) (omega arith) (omega arith))
      (λ z x. lands b (where_lanes false s z) (x ∷ z ∷ stack) (s ∷ masks) (omega arith) (omega arith))
  lands (Select' p c q a r b) s stack masks h m =
      three_lands three.Select c a b s stack masks (lands c s stack masks (omega arith) (omega arith))
      (λ z. lands a s (z ∷ stack) masks (omega arith) (omega arith)) (λ z x. lands b s (x ∷ z ∷ stack) masks (omega arith) (omega arith))
  lands (Insert' p a q i r y) s stack masks h m =
      lands_as _ s stack masks _ _ (after_within (expr_view a) s state (λ x. value (expr_view i) s state >>= λ i. value (expr_view y) s state >>= λ y. try_each s (λ k. lane_value x (at i k)) >>= λ found. Ok (each s (λ k. if k == at i k then at y k else at x k))))
      (three_lands three.Insert a i y s stack masks (lands a s stack masks (omega arith) (omega arith))
      (λ z. lands i s (z ∷ stack) masks (omega arith) (omega arith)) (λ z x. lands y s (x ∷ z ∷ stack) masks (omega arith) (omega arith)))
  lands (ShuffleTwo' p a q b r i) s stack masks h m =
      lands_as _ s stack masks _ _ (picks_of_two a b i s)
      (three_lands three.PickOfTwo a b i s stack masks (lands a s stack masks (omega arith) (omega arith))
      (λ z. lands b s (z ∷ stack) masks (omega arith) (omega arith)) (λ z x. lands i s (x ∷ z ∷ stack) masks (omega arith) (omega arith)))
