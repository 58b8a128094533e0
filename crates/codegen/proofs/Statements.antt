-- Which statements move no lane.
use Rattle.std.proofs.Common.{◌≡◌, refl}
use mathlib.Core.Former.{Count}
use Rattle.typed_tree.specs.declared.statements.Stmt.{Stmt, Empty, Block', Then', Declare, Assign, Change, If', Loop', BodyFirst', Break, Continue, Return, Switch', ForEach', Call, Check, PackedStore, PackedLoad, Row_of-Stmt, end_of-Stmt, more_of-Stmt}
use Rattle.typed_tree.specs.Views.{row_view, stmt_view}
use Rattle.codegen.specs.Codes.{MovesNoLane}
use Rattle.codegen.specs.PackedCalls.{IsPackedCall}

row_is_none : (count : Count) (row : Row_of-Stmt count) → MovesNoLane (row_view row) → ⊥
row_is_none count end_of-Stmt h = h
row_is_none count (more_of-Stmt s ss) h = h

-- a statement that moves no lane is a declaration, an assignment, a change, a return or `assert`, or else a packed call
pub packed_or_other : (s : Stmt) → MovesNoLane (stmt_view s)
    → ((a : _) (b : _) (c : _) → s ≡ Declare a b c → ⊥) → ((a : _) (b : _) (c : _) → s ≡ Assign a b c → ⊥)
    → ((a : _) (b : _) (c : _) (d : _) (e : _) (f : _) → s ≡ Change a b c d e f → ⊥) → ((a : _) (b : _) → s ≡ Return a b → ⊥)
    → ((a : _) (b : _) → s ≡ Check a b → ⊥) → IsPackedCall (stmt_view s)
packed_or_other Empty h d a c r ch = absurd h
packed_or_other (Block' shape row) h d a c r ch = absurd (row_is_none _ row h)
packed_or_other (Then' p first q rest) h d a c r ch = absurd h
packed_or_other (Declare x y z) h d a c r ch = absurd (d x y z refl)
packed_or_other (Assign x y z) h d a c r ch = absurd (a x y z refl)
packed_or_other (Change x y z u v w) h d a c r ch = absurd (c x y z u v w refl)
packed_or_other (If' k e p x q y) h d a c r ch = absurd h
packed_or_other (Loop' k e p update q body) h d a c r ch = absurd h
packed_or_other (BodyFirst' k e p body) h d a c r ch = absurd h
packed_or_other (Break k) h d a c r ch = absurd h
packed_or_other (Continue k) h d a c r ch = absurd h
packed_or_other (Return x y) h d a c r ch = absurd (r x y refl)
packed_or_other (Switch' k e shape segments) h d a c r ch = absurd h
packed_or_other (ForEach' k rounds p body) h d a c r ch = absurd h
packed_or_other (Call k f args result) h d a c r ch = absurd h
packed_or_other (Check k e) h d a c r ch = absurd (ch k e refl)
packed_or_other (PackedStore k array from e result) h d a c r ch = tt
packed_or_other (PackedLoad k array from v result) h d a c r ch = tt

row_is_no_call : (count : Count) (row : Row_of-Stmt count) → IsPackedCall (row_view row) → ⊥
row_is_no_call count end_of-Stmt h = h
row_is_no_call count (more_of-Stmt s ss) h = h

-- a packed call is a packed store or a packed load
pub store_or_load : (s : Stmt) → IsPackedCall (stmt_view s) → ((a : _) (b : _) (c : _) (d : _) (e : _) → s ≡ PackedStore a b c d e → ⊥)
    → ((a : _) (b : _) (c : _) (d : _) (e : _) → s ≡ PackedLoad a b c d e → ⊥) → ⊥
store_or_load Empty h st ld = h
store_or_load (Block' shape row) h st ld = row_is_no_call _ row h
store_or_load (Then' p first q rest) h st ld = h
store_or_load (Declare x y z) h st ld = h
store_or_load (Assign x y z) h st ld = h
store_or_load (Change x y z u v w) h st ld = h
store_or_load (If' k e p x q y) h st ld = h
store_or_load (Loop' k e p update q body) h st ld = h
store_or_load (BodyFirst' k e p body) h st ld = h
store_or_load (Break k) h st ld = h
store_or_load (Continue k) h st ld = h
store_or_load (Return x y) h st ld = h
store_or_load (Switch' k e shape segments) h st ld = h
store_or_load (ForEach' k rounds p body) h st ld = h
store_or_load (Call k f args result) h st ld = h
store_or_load (Check k e) h st ld = h
store_or_load (PackedStore k array from e result) h st ld = st k array from e result refl
store_or_load (PackedLoad k array from v result) h st ld = ld k array from v result refl
