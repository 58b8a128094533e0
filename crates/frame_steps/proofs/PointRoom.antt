-- The expressions of each point of a function find room.
use Rattle.std.proofs.Common.{ℕ, zero, suc, ◌≡◌, subst, List, [], ◌∷◌, ◌++◌, Some}
use Rattle.std.specs.Prelude.{slice_get}
use Rattle.std.proofs.lemmas.Option.{none-some}
use Rattle.gang_model.specs.Types.Tree.{Stmt, Empty, Then, Declare, Assign, Change as ModelChange, If, Loop, BodyFirst, Break, Continue, Return, Switch, Segment, ForEach, Call, Check, PackedStore, PackedLoad}
use Rattle.gang_model.specs.Running.Step.{round_number}
use Rattle.gang_model.proofs.StandingLaws.{Each, each_join}
use Rattle.mask_states.specs.Points.{Point, Put, Branch, Choose, Begin, Turn, Enter, Ways, before_step, entry_of, body_ways, update_ways, round_ways, points_of}
use Rattle.machine_states.proofs.DeclaredLists.{same_some}
use Rattle.expression_runs.specs.Room.{HasRoom}
use Rattle.expression_code.specs.ProgramRoom.{ArgsHaveRoom, HaveRoom, RoundsHaveRoom}

-- all expressions of a point find room
abbrev pub PointHasRoom : Point → Type 0
PointHasRoom (Put s next) = HaveRoom s
PointHasRoom (Branch test yes' no') = HasRoom test
PointHasRoom (Choose e segments entries next) = HasRoom e
PointHasRoom (Begin form rounds next) = RoundsHaveRoom form
PointHasRoom (Enter called args result_for next) = ArgsHaveRoom args
PointHasRoom point = Unit {0}

room_joined : (xs ys : List Point) → Each PointHasRoom xs → Each PointHasRoom ys → Each PointHasRoom (xs ++ ys)
room_joined xs ys h k = each_join PointHasRoom xs ys h k

pub points_room : (s : Stmt) (ways : Ways) → HaveRoom s → Each PointHasRoom (points_of s ways)
points_room Empty ways h = tt
points_room (Then first rest) ways h =
    let before = before_step (entry_of rest ways.next) ways in
    room_joined (points_of first before) (points_of rest ways) (points_room first before h.0) (points_room rest ways h.1)
points_room (Declare number x e) ways h = (h, tt)
points_room (Assign number target e) ways h = (h, tt)
points_room (ModelChange number target type op in_type e) ways h = (h, tt)
points_room (If number test first other) ways h =
    (h.0, room_joined (points_of first ways) (points_of other ways) (points_room first ways h.1) (points_room other ways h.2))
points_room (Loop number test update body) ways h =
    let inside = body_ways (entry_of update number) ways in
    let again = update_ways number ways in
    let last = Branch test (entry_of body (entry_of update number)) ways.next ∷ [] in
    room_joined (points_of body inside) (points_of update again ++ last) (points_room body inside h.2)
    (room_joined (points_of update again) last (points_room update again h.1) (h.0, tt))
points_room (BodyFirst number test body) ways h =
    let inside = body_ways number ways in
    room_joined (points_of body inside) (Branch test (entry_of body number) ways.next ∷ []) (points_room body inside h.1) (h.0, tt)
points_room (Break number) ways h = (tt, tt)
points_room (Continue number) ways h = (tt, tt)
points_room (Return number e) ways h = (h, tt)
points_room (Switch number e segments) ways h = (h.0, points_room segments (record ways { on_break = Some ways.next }) h.1)
points_room (Segment label body rest) ways h =
    let before = before_step (entry_of rest ways.next) ways in
    room_joined (points_of body before) (points_of rest ways) (points_room body before h.0) (points_room rest ways h.1)
points_room (ForEach number form body) ways h =
    let inside = round_ways (round_number number body) in
    (h.0, room_joined (points_of body inside) (Turn (entry_of body (round_number number body)) ∷ []) (points_room body inside h.1) (tt, tt))
points_room (Call number called args result_for) ways h = (h, tt)
points_room (Check number e) ways h = (h, tt)
points_room (PackedStore number array from e result_for) ways h = (h, tt)
points_room (PackedLoad number array from x result_for) ways h = (h, tt)

pub each_at : {A : Type 0} (P : A → Type 0) (xs : List A) (k : ℕ) (x : A) → Each P xs → slice_get xs k ≡ Some x → P x
each_at P [] k x h e = absurd (none-some x e)
each_at P (y ∷ xs) zero x h e = subst P (same_some y x e) h.0
each_at P (y ∷ xs) (suc k) x h e = each_at P xs k x h.1 e
