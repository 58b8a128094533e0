-- At the rounds to which a form's head leads this form is told, and at each step of rounds some form.
use Rattle.std.proofs.Common.{◌≡◌, refl, sym, ap, ◌∙◌, subst, ℕ, zero, suc, ◌+◌, ◌<◌, List, [], ◌∷◌, ◌++◌, length, length-append, arith, append_assoc}
use Rattle.std.specs.Prelude.{slice_get, Option, Some, None}
use Rattle.std.proofs.Math.Seq.{get_or-append_seam}
use Rattle.std.proofs.lemmas.List.{append-nil}
use Rattle.std.proofs.lemmas.Option.{slice_get-get_or}
use Rattle.gang_model.specs.Types.Tree.{StepNumber, RoundsOf, Stmt, Empty, Then, Declare, Assign, Change, If, Loop, BodyFirst, Break, Continue, Return, Switch, Segment, ForEach, Call, Check, PackedStore, PackedLoad, Function}
use Rattle.gang_model.specs.Running.Step.{steps_of, round_number}
use Rattle.gang_model.specs.Running.RunningOrder.{IsNumbered}
use Rattle.mask_states.specs.Placed.{HasPoint}
use Rattle.mask_states.specs.Points.{Point, Branch, Begin, Turn, Ways, before_step, body_ways, update_ways, round_ways, entry_of, function_ways, points_of, points_in}
use Rattle.mask_states.proofs.PlacedPoints.{length-points_of}
use Rattle.foreach_lowering.specs.Forms.{HaveForms, form_at, round_forms, passed}
use Rattle.foreach_lowering.proofs.NestedForms.{told, function_told}

-- ---- the forms behind points

abbrev left_by : List Point → (round : List RoundsOf) → List RoundsOf
left_by [] round = round
left_by (x ∷ xs) round = left_by xs (passed x round)

left_both : (xs ys : List Point) (round : List RoundsOf) → left_by (xs ++ ys) round ≡ left_by ys (left_by xs round)
left_both [] ys round = refl
left_both (x ∷ xs) ys round = left_both xs ys (passed x round)

told_both : (xs ys : List Point) (round : List RoundsOf) → told (xs ++ ys) round ≡ told xs round ++ told ys (left_by xs round)
told_both [] ys round = refl
told_both (x ∷ xs) ys round = ap (λ forms. form_at x round ∷ forms) (told_both xs ys (passed x round))

length-told : (xs : List Point) (round : List RoundsOf) → length (told xs round) ≡ length xs
length-told [] round = refl
length-told (x ∷ xs) round = ap suc (length-told xs (passed x round))

left_as : (xs ys : List Point) (round : List RoundsOf) → left_by xs round ≡ round → left_by (xs ++ ys) round ≡ left_by ys round
left_as xs ys round h = left_both xs ys round ∙ ap (left_by ys) h

-- behind a statement they are those before it
statement_left : (s : Stmt) (ways : Ways) (round : List RoundsOf) → left_by (points_of s ways) round ≡ round
statement_left Empty ways round = refl
statement_left (Then first rest) ways round =
    let here = before_step (entry_of rest ways.next) ways in
    left_as (points_of first here) (points_of rest ways) round (statement_left first here round) ∙ statement_left rest ways round
statement_left (Declare number v e) ways round = refl
statement_left (Assign number target e) ways round = refl
statement_left (Change number target type op in_type e) ways round = refl
statement_left (If number test first other) ways round = left_as (points_of first ways) (points_of other ways) round (statement_left first ways round) ∙ statement_left other ways round
statement_left (Loop number test update body) ways round =
    let inside = body_ways (entry_of update number) ways in
    let last = Branch test (entry_of body (entry_of update number)) ways.next ∷ [] in
    left_as (points_of body inside) (points_of update (update_ways number ways) ++ last) round (statement_left body inside round)
    ∙ left_as (points_of update (update_ways number ways)) last round (statement_left update (update_ways number ways) round)
statement_left (BodyFirst number test body) ways round =
    left_as (points_of body (body_ways number ways)) (Branch test (entry_of body number) ways.next ∷ []) round (statement_left body (body_ways number ways) round)
statement_left (Break number) ways round = refl
statement_left (Continue number) ways round = refl
statement_left (Return number e) ways round = refl
statement_left (Switch number e segments) ways round = statement_left segments _ round
statement_left (Segment label body rest) ways round =
    let here = before_step (entry_of rest ways.next) ways in
    left_as (points_of body here) (points_of rest ways) round (statement_left body here round) ∙ statement_left rest ways round
statement_left (ForEach number form body) ways round =
    let inside = round_ways (round_number number body) in
    left_as (points_of body inside) (Turn (entry_of body (round_number number body)) ∷ []) (form ∷ round) (statement_left body inside (form ∷ round))
statement_left (Call number function args result_for) ways round = refl
statement_left (Check number e) ways round = refl
statement_left (PackedStore number array from e result_for) ways round = refl
statement_left (PackedLoad number array from v result_for) ways round = refl

told_behind : (s : Stmt) (ways : Ways) (rest : List Point) (round : List RoundsOf) → told (points_of s ways ++ rest) round ≡ told (points_of s ways) round ++ told rest round
told_behind s ways rest round = told_both (points_of s ways) rest round ∙ ap (λ r. told (points_of s ways) round ++ told rest r) (statement_left s ways round)

-- ---- heads

abbrev IsHead : List (Option RoundsOf) → Point → Type 0
IsHead rounds (Begin form number next) = slice_get rounds number ≡ Some (Some form)
IsHead rounds point = Unit {0}

abbrev AreHeads : List (Option RoundsOf) → List Point → Type 0
AreHeads rounds [] = Unit {0}
AreHeads rounds (x ∷ xs) = IsHead rounds x × AreHeads rounds xs

heads_both : (rounds : List (Option RoundsOf)) (xs ys : List Point) → AreHeads rounds xs → AreHeads rounds ys → AreHeads rounds (xs ++ ys)
heads_both rounds [] ys h k = k
heads_both rounds (x ∷ xs) ys h k = (h.0, heads_both rounds xs ys h.1 k)

-- an element behind a list
at_seam : {A : Type 0} (front : List A) (x : A) (more : List A) (n : ℕ) → n ≡ length front → slice_get (front ++ x ∷ more) n ≡ Some x
at_seam front x more n e =
    let within : length front < length (front ++ x ∷ more) = omega (arith, length-append front (x ∷ more)) in
    ap (slice_get (front ++ x ∷ more)) e ∙ slice_get-get_or (front ++ x ∷ more) (length front) x within ∙ ap Some (get_or-append_seam front x more x)

-- points behind those of a statement, which has the numbers from that of the forms before it on
heads_behind : (first : Stmt) (ways : Ways) (round : List RoundsOf) (before : List (Option RoundsOf)) (ys rest : List Point)
    → ((rest : List Point) → AreHeads (before ++ told (points_of first ways ++ rest) round) (points_of first ways))
    → AreHeads ((before ++ told (points_of first ways) round) ++ told (ys ++ rest) round) ys
    → AreHeads (before ++ told ((points_of first ways ++ ys) ++ rest) round) (points_of first ways ++ ys)
heads_behind first ways round before ys rest f later =
    let xs = points_of first ways in
    let all = sym (ap (λ zs. before ++ told zs round) (append_assoc xs ys rest)) in
    let apart = append_assoc before (told xs round) (told (ys ++ rest) round) ∙ ap (λ forms. before ++ forms) (sym (told_behind first ways (ys ++ rest) round)) in
    heads_both (before ++ told ((xs ++ ys) ++ rest) round) xs ys (subst (λ rounds. AreHeads rounds xs) all (f (ys ++ rest))) (subst (λ rounds. AreHeads rounds ys) (apart ∙ all) later)

behind_one : (before : List (Option RoundsOf)) (form : Option RoundsOf) (forms : List (Option RoundsOf)) (xs : List Point)
    → AreHeads ((before ++ form ∷ []) ++ forms) xs → AreHeads (before ++ form ∷ forms) xs
behind_one before form forms xs h = subst (λ rounds. AreHeads rounds xs) (append_assoc before (form ∷ []) forms) h

one_before : (before : List (Option RoundsOf)) (form : Option RoundsOf) (s : Stmt) → IsNumbered (length before + 1) s → IsNumbered (length (before ++ form ∷ [])) s
one_before before form s h = subst (λ n. IsNumbered n s) (sym (length-append before (form ∷ []))) h

all_before : (before : List (Option RoundsOf)) (first : Stmt) (ways : Ways) (round : List RoundsOf) (s : Stmt) → IsNumbered (length before + steps_of first) s
    → IsNumbered (length (before ++ told (points_of first ways) round)) s
all_before before first ways round s h =
    subst (λ n. IsNumbered n s)
    (omega (arith, length-append before (told (points_of first ways) round), length-told (points_of first ways) round, length-points_of first ways)) h

heads_of : (s : Stmt) (ways : Ways) (round : List RoundsOf) (before : List (Option RoundsOf)) (rest : List Point) → IsNumbered (length before) s
    → AreHeads (before ++ told (points_of s ways ++ rest) round) (points_of s ways)
heads_of Empty ways round before rest n = tt
heads_of (Then first later) ways round before rest n =
    let here = before_step (entry_of later ways.next) ways in
    heads_behind first here round before (points_of later ways) rest (λ rest. heads_of first here round before rest n.0)
    (heads_of later ways round (before ++ told (points_of first here) round) rest (all_before before first here round later n.1))
heads_of (Declare number v e) ways round before rest n = (tt, tt)
heads_of (Assign number target e) ways round before rest n = (tt, tt)
heads_of (Change number target type op in_type e) ways round before rest n = (tt, tt)
heads_of (If number test first other) ways round before rest n =
    let before' = before ++ None ∷ [] in
    let numbered = all_before before' first ways round other (subst (λ m. IsNumbered (m + steps_of first) other) (sym (length-append before (None ∷ []))) n.2) in (
      tt,
      behind_one before None (told ((points_of first ways ++ points_of other ways) ++ rest) round) (points_of first ways ++ points_of other ways)
          (heads_behind first ways round before' (points_of other ways) rest (λ rest. heads_of first ways round before' rest (one_before before None first n.1))
          (heads_of other ways round (before' ++ told (points_of first ways) round) rest numbered)),
    )
heads_of (Loop number test update body) ways round before rest n =
    let inside = body_ways (entry_of update number) ways in
    let later = update_ways number ways in
    let last = Branch test (entry_of body (entry_of update number)) ways.next ∷ [] in
    let before' = before ++ told (points_of body inside) round in
    heads_behind body inside round before (points_of update later ++ last) rest (λ rest. heads_of body inside round before rest n.1)
    (heads_behind update later round before' last rest (λ rest. heads_of update later round before' rest (all_before before body inside round update n.2)) (tt, tt))
heads_of (BodyFirst number test body) ways round before rest n =
    heads_behind body (body_ways number ways) round before (Branch test (entry_of body number) ways.next ∷ []) rest (λ rest. heads_of body (body_ways number ways) round before rest n.1) (tt, tt)
heads_of (Break number) ways round before rest n = (tt, tt)
heads_of (Continue number) ways round before rest n = (tt, tt)
heads_of (Return number e) ways round before rest n = (tt, tt)
heads_of (Switch number e segments) ways round before rest n = (
  tt,
  behind_one before None (told (points_of segments _ ++ rest) round) (points_of segments _)
      (heads_of segments (record ways { on_break = Some ways.next }) round (before ++ None ∷ []) rest (one_before before None segments n.1)),
)
heads_of (Segment label body later) ways round before rest n =
    let here = before_step (entry_of later ways.next) ways in
    heads_behind body here round before (points_of later ways) rest (λ rest. heads_of body here round before rest n.0)
    (heads_of later ways round (before ++ told (points_of body here) round) rest (all_before before body here round later n.1))
heads_of (ForEach number form body) ways round before rest n =
    let inside = round_ways (round_number number body) in
    let turn = Turn (entry_of body (round_number number body)) in
    let xs = points_of body inside in
    let before' = before ++ None ∷ [] in
    let front = before' ++ told xs (form ∷ round) in
    let told_is : told ((xs ++ turn ∷ []) ++ rest) (form ∷ round) ≡ told xs (form ∷ round) ++ Some form ∷ told rest round =
    ap (λ zs. told zs (form ∷ round)) (append_assoc xs (turn ∷ []) rest) ∙ told_behind body inside (turn ∷ rest) (form ∷ round) in
    let all : before ++ None ∷ told ((xs ++ turn ∷ []) ++ rest) (form ∷ round) ≡ front ++ Some form ∷ told rest round =
    sym (append_assoc before (None ∷ []) (told ((xs ++ turn ∷ []) ++ rest) (form ∷ round)))
    ∙ ap (λ forms. before' ++ forms) told_is
    ∙ sym (append_assoc before' (told xs (form ∷ round)) (Some form ∷ told rest round)) in
    let at = n.0 in
    let long : round_number number body ≡ length front =
    omega (arith, at, length-append before' (told xs (form ∷ round)), length-append before (None ∷ []), length-told xs (form ∷ round), length-points_of body inside) in (
      ap (λ rounds. slice_get rounds (round_number number body)) all ∙ at_seam front (Some form) (told rest round) (round_number number body) long,
      behind_one before None (told ((xs ++ turn ∷ []) ++ rest) (form ∷ round)) (xs ++ turn ∷ [])
          (heads_behind body inside (form ∷ round) before' (turn ∷ []) rest (λ rest. heads_of body inside (form ∷ round) before' rest (one_before before None body n.1)) (tt, tt)),
    )
heads_of (Call number function args result_for) ways round before rest n = (tt, tt)
heads_of (Check number e) ways round before rest n = (tt, tt)
heads_of (PackedStore number array from e result_for) ways round before rest n = (tt, tt)
heads_of (PackedLoad number array from v result_for) ways round before rest n = (tt, tt)

head_at : (rounds : List (Option RoundsOf)) (xs : List Point) (n : StepNumber) (form : RoundsOf) (number next : StepNumber) → AreHeads rounds xs → HasPoint xs n (Begin form number next)
    → slice_get rounds number ≡ Some (Some form)
head_at rounds [] n form number next h is = absurd cc
head_at rounds (x ∷ xs) zero form number next h is = let e : x ≡ Begin form number next = cc in subst (IsHead rounds) e h.0
head_at rounds (x ∷ xs) (suc n) form number next h is = head_at rounds xs n form number next h.1 is

-- ---- steps of rounds

abbrev IsInside : Point → (round : List RoundsOf) → Type 0
IsInside (Turn body) [] = ⊥
IsInside point round = Unit {0}

abbrev AreInside : List Point → (round : List RoundsOf) → Type 0
AreInside [] round = Unit {0}
AreInside (x ∷ xs) round = IsInside x round × AreInside xs (passed x round)

inside_both : (xs ys : List Point) (round : List RoundsOf) → AreInside xs round → AreInside ys (left_by xs round) → AreInside (xs ++ ys) round
inside_both [] ys round h k = k
inside_both (x ∷ xs) ys round h k = (h.0, inside_both xs ys (passed x round) h.1 k)

inside_behind : (first : Stmt) (ways : Ways) (ys : List Point) (round : List RoundsOf) → AreInside (points_of first ways) round → AreInside ys round → AreInside (points_of first ways ++ ys) round
inside_behind first ways ys round h k = inside_both (points_of first ways) ys round h (subst (AreInside ys) (sym (statement_left first ways round)) k)

inside_of : (s : Stmt) (ways : Ways) (round : List RoundsOf) → AreInside (points_of s ways) round
inside_of Empty ways round = tt
inside_of (Then first later) ways round =
    let here = before_step (entry_of later ways.next) ways in
    inside_behind first here (points_of later ways) round (inside_of first here round) (inside_of later ways round)
inside_of (Declare number v e) ways round = (tt, tt)
inside_of (Assign number target e) ways round = (tt, tt)
inside_of (Change number target type op in_type e) ways round = (tt, tt)
inside_of (If number test first other) ways round = (tt, inside_behind first ways (points_of other ways) round (inside_of first ways round) (inside_of other ways round))
inside_of (Loop number test update body) ways round =
    let inside = body_ways (entry_of update number) ways in
    let later = update_ways number ways in
    let last = Branch test (entry_of body (entry_of update number)) ways.next ∷ [] in
    inside_behind body inside (points_of update later ++ last) round (inside_of body inside round) (inside_behind update later last round (inside_of update later round) (tt, tt))
inside_of (BodyFirst number test body) ways round =
    inside_behind body (body_ways number ways) (Branch test (entry_of body number) ways.next ∷ []) round (inside_of body (body_ways number ways) round) (tt, tt)
inside_of (Break number) ways round = (tt, tt)
inside_of (Continue number) ways round = (tt, tt)
inside_of (Return number e) ways round = (tt, tt)
inside_of (Switch number e segments) ways round = (tt, inside_of segments _ round)
inside_of (Segment label body later) ways round =
    let here = before_step (entry_of later ways.next) ways in
    inside_behind body here (points_of later ways) round (inside_of body here round) (inside_of later ways round)
inside_of (ForEach number form body) ways round =
    let inside = round_ways (round_number number body) in
    (tt, inside_behind body inside (Turn (entry_of body (round_number number body)) ∷ []) (form ∷ round) (inside_of body inside (form ∷ round)) (tt, tt))
inside_of (Call number function args result_for) ways round = (tt, tt)
inside_of (Check number e) ways round = (tt, tt)
inside_of (PackedStore number array from e result_for) ways round = (tt, tt)
inside_of (PackedLoad number array from v result_for) ways round = (tt, tt)

turn_at : (xs : List Point) (round : List RoundsOf) (n body : StepNumber) → AreInside xs round → HasPoint xs n (Turn body) → (form : RoundsOf) × (slice_get (told xs round) n ≡ Some (Some form))
turn_at [] round n body h is = absurd cc
turn_at (x ∷ xs) round (suc n) body h is = turn_at xs (passed x round) n body h.1 is
turn_at (x ∷ xs) [] zero body h is = let e : x ≡ Turn body = cc in absurd (subst (λ y. IsInside y []) e h.0)
turn_at (x ∷ xs) (form ∷ outer) zero body h is = let e : x ≡ Turn body = cc in (form, ap (λ y. Some (form_at y (form ∷ outer))) e)

pub have_forms : (f : Function) → IsNumbered 0 f.body → HaveForms (points_in f) (round_forms f)
have_forms f numbered =
    let heads = heads_of f.body (function_ways f) [] [] [] numbered in
    let told_is : told (points_in f ++ []) [] ≡ round_forms f = told_behind f.body (function_ways f) [] [] ∙ append-nil (told (points_in f) []) ∙ function_told f in
    record {
      heads = λ n form number next is. head_at (round_forms f) (points_in f) n form number next (subst (λ rounds. AreHeads rounds (points_in f)) told_is heads) is;
      turns = λ n body is.
          let h = turn_at (points_in f) [] n body (inside_of f.body (function_ways f) []) is in
          (h.0, ap (λ rounds. slice_get rounds n) (sym (function_told f)) ∙ h.1);
    }
