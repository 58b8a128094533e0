-- Where lanes meet again, worked out.
use Rattle.std.specs.Prelude.{◌≡◌, refl, ℕ, Bool, true, false, ◌&&◌, ◌==◌, List, [], ◌∷◌, Option, Some, None}
use Rattle.gang_types.specs.Lanes.{Lanes}
use Rattle.lane_counts.specs.Steps.{Stand}
use Rattle.lane_counts.proofs.Worked.{all, at, f, first_two, go, last_two}
use Rattle.lane_meetings.specs.Partings.{Times, Between, is_same, parted}

abbrev last_three : Lanes
last_three = false ∷ true ∷ true ∷ true ∷ []

abbrev first : Lanes
first = true ∷ false ∷ false ∷ false ∷ []

abbrev second : Lanes
second = false ∷ true ∷ false ∷ false ∷ []

abbrev each : ℕ → Option ℕ → Bool
each line at = true

abbrev pair : ℕ → Option ℕ → ℕ → Option ℕ → Bool
pair line at here there = (line == here) && is_same at there

-- the two parts of an `if`, behind which all lanes are together
abbrev branches : List Stand
branches = at 3 (go ∷ []) all ∷ at 4 (go ∷ []) first_two ∷ at 6 (go ∷ []) last_two ∷ at 7 (go ∷ []) all ∷ []

they_meet_behind : parted Times (pair 3 (Some 7)) branches ≡ 1
they_meet_behind = refl

both_parts_lie_between : parted Between (pair 3 (Some 7)) branches ≡ 2
both_parts_lie_between = refl

-- a loop that one lane leaves in its first round, and another in its second: both partings end behind it
abbrev breaks : List Stand
breaks = at 5 (go ∷ []) all ∷ at 6 (go ∷ []) first ∷ at 5 (go ∷ []) last_three ∷ at 6 (go ∷ []) second ∷ at 5 (go ∷ []) last_two ∷ at 8 (go ∷ []) all ∷ []

two_partings : parted Times (pair 5 (Some 8)) breaks ≡ 2
two_partings = refl

no_others : parted Times each breaks ≡ 2
no_others = refl

-- four steps lie between the first one and its end, and two of them between the second one and its end
steps_of_both : parted Between each breaks ≡ 6
steps_of_both = refl

-- some of the lanes are together again before all of them are
abbrev some_first : List Stand
some_first = at 1 (go ∷ []) all ∷ at 2 (go ∷ []) first ∷ at 3 (go ∷ []) last_three ∷ at 4 (go ∷ []) all ∷ []

all_are_wanted : parted Between (pair 1 (Some 4)) some_first ≡ 2
all_are_wanted = refl

-- the steps of a callee lie between none of the caller's, and its lanes are no meeting; those of the callee end with its frame
abbrev call : List Stand
call = at 3 (go ∷ []) all ∷ at 4 (go ∷ []) first_two ∷ at 1 (f ∷ go ∷ []) all ∷ at 2 (f ∷ go ∷ []) first ∷ at 6 (go ∷ []) last_two ∷ at 1 (f ∷ go ∷ []) all ∷ at 7 (go ∷ []) all ∷ []

of_the_caller : parted Between (pair 3 (Some 7)) call ≡ 2
of_the_caller = refl

of_the_callee : parted Times (pair 1 None) call ≡ 1
of_the_callee = refl

its_own_steps : parted Between (pair 1 None) call ≡ 1
its_own_steps = refl

-- a parting inside another one
abbrev inside : List Stand
inside = at 1 (go ∷ []) all ∷ at 2 (go ∷ []) first_two ∷ at 3 (go ∷ []) first ∷ at 4 (go ∷ []) first_two ∷ at 5 (go ∷ []) all ∷ []

the_inner_one : parted Between (pair 2 (Some 4)) inside ≡ 1
the_inner_one = refl

the_outer_one : parted Between (pair 1 (Some 5)) inside ≡ 3
the_outer_one = refl

-- the run ends while lanes are apart
the_end : parted Times (pair 3 None) (at 3 (go ∷ []) all ∷ at 4 (go ∷ []) first_two ∷ []) ≡ 1
the_end = refl
