-- What is counted of some steps, worked out.
use Rattle.std.specs.Prelude.{◌≡◌, refl, ℕ, true, false, List, [], ◌∷◌, None, codes}
use Rattle.gang_types.specs.Lanes.{Lanes}
use Rattle.gang_types.specs.declared.places.Spot.{Spot}
use Rattle.foreach_forms.specs.declared.forms.Form.{Form}
use Rattle.foreach_forms.specs.declared.forms.Word.TheVariants as word
use Rattle.lane_counts.specs.Formed.{is_inside, is_round}
use Rattle.lane_counts.specs.Steps.{Stand, at_line, called, each, in_frame, in_function, lane_steps, partings, short_steps, steps}
use Rattle.lane_counts.specs.Tallies.{unparted_of}

abbrev pub go : List ℕ
go = codes "go"

abbrev pub f : List ℕ
f = codes "f"

abbrev pub step_of : ℕ → ℕ → Spot
step_of function number = record { function = record { 0 = function }; number = number }

abbrev pub at : ℕ → List (List ℕ) → Lanes → Stand
at line functions lanes = record { line = line; spot = step_of 0 line; functions = functions; lanes = lanes }

abbrev pub all : Lanes
all = true ∷ true ∷ true ∷ true ∷ []

abbrev pub first_two : Lanes
first_two = true ∷ true ∷ false ∷ false ∷ []

abbrev pub last_two : Lanes
last_two = false ∷ false ∷ true ∷ true ∷ []

abbrev last_one : Lanes
last_one = false ∷ false ∷ false ∷ true ∷ []

-- a test parts the lanes; the two parts of an `if` do not, and nor do the lanes that meet again
abbrev branches : List Stand
branches = at 3 (go ∷ []) all ∷ at 4 (go ∷ []) first_two ∷ at 6 (go ∷ []) last_two ∷ at 7 (go ∷ []) all ∷ []

steps_of_a_line : steps (at_line 4) branches ≡ 1
steps_of_a_line = refl

all_steps : steps each branches ≡ 4
all_steps = refl

all_lane_steps : lane_steps each branches ≡ 12
all_lane_steps = refl

short_ones : short_steps each branches ≡ 2
short_ones = refl

a_test_parts : partings (at_line 3) branches ≡ 1
a_test_parts = refl

branches_do_not : partings each branches ≡ 1
branches_do_not = refl

-- fewer lanes, but others
abbrev fewer : List Stand
fewer = at 4 (go ∷ []) first_two ∷ at 6 (go ∷ []) last_one ∷ []

others_do_not_part : partings each fewer ≡ 0
others_do_not_part = refl

-- what a call does is none of the caller's: the lanes part at the call, whose next step fewer do, and in the callee at its own line
abbrev call : List Stand
call = at 8 (go ∷ []) all ∷ at 2 (f ∷ go ∷ []) all ∷ at 2 (f ∷ go ∷ []) last_two ∷ at 9 (go ∷ []) first_two ∷ []

the_call_parts : partings (at_line 8) call ≡ 1
the_call_parts = refl

its_own_line_parts : partings (at_line 2) call ≡ 1
its_own_line_parts = refl

-- it is called once, by all lanes: its second step is none of a new frame, nor is that of the caller behind it
its_calls : unparted_of (in_function f) (called None call) ≡ record { steps = 1; lane_steps = 4; short_steps = 0; partings = 0 }
its_calls = refl

the_first_step_is_no_call : unparted_of (in_function go) (called None call) ≡ record { steps = 0; lane_steps = 0; short_steps = 0; partings = 0 }
the_first_step_is_no_call = refl

-- the last step of a frame that is left parts nothing
abbrev left : List Stand
left = at 2 (f ∷ go ∷ []) all ∷ at 9 (go ∷ []) first_two ∷ []

leaving_parts_nothing : partings each left ≡ 0
leaving_parts_nothing = refl

-- of a form whose head is step 3 and whose rounds are step 6, the first is not inside, and nor is what follows; a step of another function is none of it
abbrev form_of : ℕ → Form
form_of function = record { line = 3; function = function; head = 3; rounds = 6; word = word.ForEach }

its_rounds : unparted_of (λ stand. is_round (form_of 0) stand.spot) branches ≡ record { steps = 1; lane_steps = 2; short_steps = 1; partings = 0 }
its_rounds = refl

inside_it : unparted_of (λ stand. is_inside (form_of 0) stand.spot) branches ≡ record { steps = 2; lane_steps = 4; short_steps = 2; partings = 0 }
inside_it = refl

inside_another : unparted_of (λ stand. is_inside (form_of 1) stand.spot) branches ≡ record { steps = 0; lane_steps = 0; short_steps = 0; partings = 0 }
inside_another = refl

-- a function that stands twice takes a step once; each of its callee's steps is one of its own too, by the lanes that do it
abbrev deeper : List Stand
deeper = at 8 (go ∷ []) all ∷ at 2 (f ∷ go ∷ []) first_two ∷ at 2 (f ∷ f ∷ go ∷ []) last_one ∷ at 9 (go ∷ []) all ∷ []

once_for_each_step : steps (in_frame f) deeper ≡ 2
once_for_each_step = refl

with_what_it_calls : unparted_of (in_frame go) deeper ≡ record { steps = 4; lane_steps = 11; short_steps = 2; partings = 0 }
with_what_it_calls = refl

by_lanes_of_the_callee : lane_steps (in_frame f) deeper ≡ 3
by_lanes_of_the_callee = refl

-- each frame of a recursion is called by itself, by the lanes of its own first step
calls_in_a_recursion : unparted_of (in_function f) (called None deeper) ≡ record { steps = 2; lane_steps = 3; short_steps = 2; partings = 0 }
calls_in_a_recursion = refl
