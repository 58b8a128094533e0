-- The room of the parts of the statements that the program walks through.
use Rattle.std.proofs.Common.{◌≡◌, ℕ, List, ◌∷◌, ◌++◌, refl, sym, ap, ◌∙◌, Vec, Box, Global}
use Rattle.std.specs.Prelude.{Result, Ok, Err, Option, Some, map}
use Rattle.gang_types.specs.declared.places.Place.{Place}
use Rattle.gang_model.specs.Source.Limits.{declared_in, declared_in_all, declared_in_segments}
use Rattle.source_tree.specs.declared.expressions.Expr.{Expr}
use Rattle.source_tree.specs.declared.tree.Dim.{Dim}
use Rattle.source_tree.specs.declared.tree.Stmt.{Stmt, Block, If, For, Switch, ForEach}
use Rattle.source_tree.specs.declared.tree.Segment.{Segment}
use Rattle.source_tree.specs.Tree.{stmt_view, stmts_view, segments_view, dim_view}
use Rattle.source_tree.proofs.StatementRows.{view_block, view_switch}
use Rattle.source_limits.specs.Room.{room_after}
use Rattle.source_limits.proofs.RoomLaws.{room_two, room_stop}

abbrev pub room_in : ℕ → Stmt → Result ℕ Place
room_in room s = room_after room (declared_in (stmt_view s))

abbrev pub room_in_all : ℕ → List Stmt → Result ℕ Place
room_in_all room ss = room_after room (declared_in_all (stmts_view ss))

abbrev pub room_in_segments : ℕ → List Segment → Result ℕ Place
room_in_segments room ss = room_after room (declared_in_segments (segments_view ss))

pub in_block : (s : Stmt) (stmts : Vec Stmt Global) (items : List Stmt) (room : ℕ) (r : Result ℕ Place) → s ≡ Block stmts → items ≡ stmts.items → r ≡ room_in_all room items
    → r ≡ room_in room s
in_block s stmts items room r is same found =
    found ∙ (ap (room_in_all room) same ∙ sym (ap (λ x. room_after room (declared_in x)) (ap stmt_view is ∙ view_block stmts)))

pub in_if : (s first other : Stmt) (p : Place) (e : Expr) (x y : Box Stmt Global) (room left : ℕ) (r : Result ℕ Place) → s ≡ If p e x (Some y) → first ≡ x.value → other ≡ y.value
    → Ok left ≡ room_in room first → r ≡ room_in left other → r ≡ room_in room s
in_if s first other p e x y room left r is same same' before found =
    room_two room left (declared_in (stmt_view x.value)) (declared_in (stmt_view y.value)) r (before ∙ ap (room_in room) same) (found ∙ ap (room_in left) same') ∙ sym (ap (room_in room) is)

pub in_for : (s start update body : Stmt) (p : Place) (e : Option Expr) (x y z : Box Stmt Global) (room left last : ℕ) (r : Result ℕ Place) → s ≡ For p x e y z
    → start ≡ x.value → update ≡ y.value → body ≡ z.value → Ok left ≡ room_in room start → Ok last ≡ room_in left update → r ≡ room_in last body → r ≡ room_in room s
in_for s start update body p e x y z room left last r is one two three first second third =
    let later = room_two left last (declared_in (stmt_view y.value)) (declared_in (stmt_view z.value)) r (second ∙ ap (room_in left) two) (third ∙ ap (room_in last) three) in
    room_two room left (declared_in (stmt_view x.value)) (declared_in (stmt_view y.value) ++ declared_in (stmt_view z.value)) r (first ∙ ap (room_in room) one) later
    ∙ sym (ap (room_in room) is)

pub in_switch : (s : Stmt) (p : Place) (e : Expr) (segments : Vec Segment Global) (items : List Segment) (room : ℕ) (r : Result ℕ Place) → s ≡ Switch p e segments → items ≡ segments.items
    → r ≡ room_in_segments room items → r ≡ room_in room s
in_switch s p e segments items room r is same found =
    found ∙ (ap (room_in_segments room) same ∙ sym (ap (λ x. room_after room (declared_in x)) (ap stmt_view is ∙ view_switch p e segments)))

pub in_for_each : (s body : Stmt) (p : Place) (is_tiled : _) (dims : Vec Dim Global) (items : List Dim) (z : Box Stmt Global) (room left : ℕ) (r : Result ℕ Place)
    → s ≡ ForEach p is_tiled dims z → items ≡ dims.items → body ≡ z.value → Ok left ≡ room_after room (map (λ d. d.at) (map dim_view items)) → r ≡ room_in left body → r ≡ room_in room s
in_for_each s body p is_tiled dims items z room left r is same same' first second =
    room_two room left (map (λ d. d.at) (map dim_view dims.items)) (declared_in (stmt_view z.value)) r
    (first ∙ ap (λ ds. room_after room (map (λ d. d.at) (map dim_view ds))) same) (second ∙ ap (room_in left) same')
    ∙ sym (ap (room_in room) is)

-- one more statement
pub next_room : (rest later : List Stmt) (s : Stmt) (room left : ℕ) → rest ≡ s ∷ later → Ok left ≡ room_in room s → room_in_all room rest ≡ room_in_all left later
next_room rest later s room left split found =
    ap (room_in_all room) split ∙ sym (room_two room left (declared_in (stmt_view s)) (declared_in_all (stmts_view later)) (room_in_all left later) found refl)

-- a statement without room
pub stop_room : (rest later : List Stmt) (s : Stmt) (room : ℕ) (p : Place) → rest ≡ s ∷ later → Err p ≡ room_in room s → Err p ≡ room_in_all room rest
stop_room rest later s room p split found =
    room_stop room (declared_in (stmt_view s)) (declared_in_all (stmts_view later)) p found ∙ sym (ap (room_in_all room) split)

-- one more segment
pub next_segment : (rest later : List Segment) (s : Segment) (items : List Stmt) (room left : ℕ) → rest ≡ s ∷ later → items ≡ s.body.items → Ok left ≡ room_in_all room items
    → room_in_segments room rest ≡ room_in_segments left later
next_segment rest later s items room left split same found =
    ap (room_in_segments room) split
    ∙ sym (room_two room left (declared_in_all (stmts_view s.body.items)) (declared_in_segments (segments_view later)) (room_in_segments left later) (found ∙ ap (room_in_all room) same) refl)

-- a segment without room
pub stop_segment : (rest later : List Segment) (s : Segment) (items : List Stmt) (room : ℕ) (p : Place) → rest ≡ s ∷ later → items ≡ s.body.items → Err p ≡ room_in_all room items
    → Err p ≡ room_in_segments room rest
stop_segment rest later s items room p split same found =
    room_stop room (declared_in_all (stmts_view s.body.items)) (declared_in_segments (segments_view later)) p (found ∙ ap (room_in_all room) same) ∙ sym (ap (room_in_segments room) split)
