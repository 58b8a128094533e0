-- The definitions of a record, computed for a small program: a scalar of the file, an array, a variable with lanes, and a call that begins and ends.
use Rattle.std.proofs.Common.{◌≡◌, ◌∙◌, ℕ, ◌∷◌, [], Bool, true, false, codes, refl, ap, sym, if◌then◌else◌, lit<, lit≤, List, Some, None, map, slice_get, arith}
use Rattle.std.specs.Fmt.{digits}
use Rattle.gang_types.specs.declared.places.VarId.TheVariants.{File, Local}
use Rattle.gang_types.specs.declared.types.IntType.TheVariants.{Int32}
use Rattle.gang_types.specs.declared.types.Rate.{Rate}
use Rattle.gang_types.specs.declared.types.Rate.TheVariants.{Uniform, Varying}
use Rattle.gang_types.specs.declared.places.VarId.{VarId}
use Rattle.gang_types.specs.Values.{value_of}
use Rattle.gang_model.specs.Types.Tree.{Empty, Nothing, Program, Standing, Variable}
use Rattle.gang_model.specs.Running.State.{Frame, State, view_of, words_in}
use Rattle.gang_model.specs.Debugger.Debugger.{elements}
use Rattle.run_page.specs.declared.moments.Call.{Call}
use Rattle.run_page.specs.declared.moments.Moment.{Moment}
use Rattle.run_page.specs.declared.views.Change.TheVariants.{Gone, Word}
use Rattle.run_page.specs.Calls.{open_calls}
use Rattle.run_page.specs.Changes.{Differs, HasWord, IsGone, told}
use Rattle.run_page.specs.RecordText as text
use Rattle.run_page.specs.RecordText.{calls_text, change_rows, changes_text}
use Rattle.run_page.specs.Rows.{all_seen}
use Rattle.run_page.specs.Sights.{Sees, Sight, seen_in, sight_of, variables_at, words_at}
use Rattle.run_page.proofs.Places.{at_place}

-- ---- the program: uniform int n; uniform int a[3]; void deeper(uniform int k) {} export void go() { int y; deeper(n); }

abbrev pub variable : (name : List ℕ) → VarId → Rate → Variable
variable name id rate = record { name = name; id = id; type = Int32; rate = rate; is_array = false; is_parameter = false; is_constant = false }

abbrev pub n : Variable
n = variable (codes "n") (File 0) Uniform

abbrev a : Variable
a = record (variable (codes "a") (File 1) Uniform) { is_array = true }

abbrev y : Variable
y = variable (codes "y") (Local 0) Varying

abbrev k : Variable
k = record (variable (codes "k") (Local 0) Uniform) { is_parameter = true }

abbrev on : (line : ℕ) → List Variable → Standing
on line scope = record { place = record { line = line; col = 5 }; scope = scope }

abbrev pub program : Program
program = record {
  functions = record { name = codes "go"; result = Uniform; result_type = Int32; body = Empty; standings = on 5 (y ∷ []) ∷ on 6 (y ∷ []) ∷ [] }
      ∷ record { name = codes "deeper"; result = Uniform; result_type = Int32; body = Empty; standings = on 3 (k ∷ []) ∷ [] } ∷ [];
  globals = record { variable = n; word = 7; len = 0 } ∷ record { variable = a; word = 0; len = 3 } ∷ [];
}

abbrev go : (lanes : List ℕ) → Frame
go lanes = record { function = 0; lanes = true ∷ true ∷ false ∷ true ∷ []; call = None; result_for = Nothing; views = []; vars = (Local 0, lanes) ∷ []; result = []; tasks = [] }

abbrev deeper : Frame
deeper = record { function = 1; lanes = true ∷ true ∷ false ∷ true ∷ []; call = Some 0; result_for = Nothing; views = []; vars = (Local 0, 7 ∷ []) ∷ []; result = []; tasks = [] }

-- in go, and in the call from its line 5
abbrev in_go : State
in_go = record { memory = (File 0, 7 ∷ []) ∷ (File 1, 4 ∷ 5 ∷ 6 ∷ []) ∷ []; frames = go (0 ∷ 1 ∷ 2 ∷ 3 ∷ []) ∷ [] }

abbrev pub in_deeper : State
in_deeper = record { memory = (File 0, 7 ∷ []) ∷ (File 1, 4 ∷ 5 ∷ 6 ∷ []) ∷ []; frames = deeper ∷ go (0 ∷ 1 ∷ 2 ∷ 3 ∷ []) ∷ [] }

abbrev ended : State
ended = record in_go { frames = [] }

-- ---- what is seen

seen_in_go : all_seen program in_go ≡ (0, n) ∷ (0, a) ∷ (1, y) ∷ []
seen_in_go = refl

seen_in_deeper : all_seen program in_deeper ≡ (0, n) ∷ (0, a) ∷ (1, y) ∷ (2, k) ∷ []
seen_in_deeper = refl

seen_at_the_end : all_seen program ended ≡ (0, n) ∷ (0, a) ∷ []
seen_at_the_end = refl

-- the words of each: of the frame below the top one its own
words_seen : map (λ it. words_at it.0 in_deeper it.1) (all_seen program in_deeper) ≡ (7 ∷ []) ∷ (4 ∷ 5 ∷ 6 ∷ []) ∷ (0 ∷ 1 ∷ 2 ∷ 3 ∷ []) ∷ (7 ∷ []) ∷ []
words_seen = refl

-- the call on line 5, in the lanes of the call
calls_in_deeper : open_calls program in_deeper ≡ codes "at 5:5 go depth 1 lanes 1101\n" ∷ []
unfolding digits
calls_in_deeper = refl

calls_in_go : open_calls program in_go ≡ []
calls_in_go = refl

-- ---- what changes tell

abbrev sights : List Sight
sights = map (λ it. sight_of it.0 in_deeper it.1) (all_seen program in_deeper)

told_scalar : told sights (Word 0 0 8) ≡ Some (HasWord (sight_of 0 in_go n) 0 8)
told_scalar = refl

told_element : told sights (Word 1 2 9) ≡ Some (HasWord (sight_of 0 in_go a) 2 9)
told_element = refl

told_lane : told sights (Word 2 3 9) ≡ Some (HasWord (sight_of 1 in_go y) 3 9)
told_lane = refl

told_gone : told sights (Gone 3) ≡ Some (IsGone (sight_of 2 in_deeper k))
told_gone = refl

told_none : told sights (Gone 4) ≡ None
told_none = refl

-- ---- what differs

-- a step later lane 2 of y has another word
abbrev later : State
later = record in_go { frames = go (0 ∷ 1 ∷ 9 ∷ 3 ∷ []) ∷ [] }

words_before : (v : Variable) → Sees program in_go (sight_of 1 in_go y) v → words_at 1 in_go v ≡ 0 ∷ 1 ∷ 2 ∷ 3 ∷ []
words_before v sees =
    ap (λ (b : Bool). if b then elements (view_of (seen_in 1 in_go) v.id) (seen_in 1 in_go) else words_in (seen_in 1 in_go) v.id) (sym (ap (λ s. s.shown.is_array) sees.same))
    ∙ ap (words_in (seen_in 1 in_go)) (sym (ap (λ s. s.shown.id) sees.same))

pub same_word : (a b : ℕ) → Some a ≡ Some b → a ≡ b
same_word a b is = cc is

lane_differs : Differs program 8 (Some in_go) later (HasWord (sight_of 1 in_go y) 2 9)
lane_differs = (
  (y, record { frame = lit≤ tt; there = at_place (variables_at program 1 later) y 0 refl; same = refl }, lit< tt, refl),
  λ (v, sees, less, is).
      omega (arith, same_word 2 9 (sym (ap (λ words. slice_get words 2) (words_before v sees)) ∙ is)),
)

-- the call has ended, and its parameter is gone
frame_differs : Differs program 8 (Some in_deeper) in_go (IsGone (sight_of 2 in_deeper k))
frame_differs = (
  (k, record { frame = lit≤ tt; there = at_place (variables_at program 2 in_deeper) k 0 refl; same = refl }),
  λ (v, sees). omega (arith, sees.frame),
)

-- ---- how changes and calls are spelled

-- parts one after another are one row, and a part further on, another variable and one that is gone have rows of their own
rows : change_rows (Word 1 0 5 ∷ Word 1 1 6 ∷ Word 1 3 7 ∷ Word 2 4 8 ∷ Gone 3 ∷ []) ≡ text.Words 1 0 (5 ∷ 6 ∷ []) ∷ text.Words 1 3 (7 ∷ []) ∷ text.Words 2 4 (8 ∷ []) ∷ text.Gone 3 ∷ []
rows = refl

spelled : changes_text [] (Word 1 0 5 ∷ Word 1 1 6 ∷ Word 1 3 7 ∷ Gone 3 ∷ []) ≡ codes "[[1,0,5,6],[1,3,7],[3]]"
unfolding digits value_of
spelled = refl

none_spelled : changes_text [] [] ≡ codes "[]"
none_spelled = refl

-- a call that comes, one that stays while no other comes, and one that ends
abbrev call : Call
call = record { place = record { line = 5; col = 7 }; function = 0 }

abbrev moment : (kept first past : ℕ) → Moment
moment kept first past = record { taken = 0; stand = None; kept_calls = kept; first_call = first; end_of_calls = past; first_change = 0; end_of_changes = 0 }

call_comes : calls_text (call ∷ []) 0 (moment 0 0 1) ≡ codes ",0,[[5,7,0]]"
unfolding digits
call_comes = refl

call_stays : calls_text (call ∷ []) 1 (moment 1 1 1) ≡ []
call_stays = refl

call_ends : calls_text (call ∷ []) 1 (moment 0 1 1) ≡ codes ",0,[]"
unfolding digits
call_ends = refl
