-- Each point leads to steps that stand in the same foreach forms, a form's head also to its rounds, which stand in the form besides; and
-- rounds are those of the innermost form round them.
use Rattle.std.proofs.Common.{◌≡◌, refl, sym, ap, ◌∙◌, subst, ℕ, zero, suc, ◌+◌, ◌<◌, ◌≤◌, List, [], ◌∷◌, ◌++◌, length, Some, slice_index_or, arith}
use Rattle.std.specs.Prelude.{max, fold, map, zip, slice_get}
use Rattle.std.proofs.lemmas.List.{get_or_past, map-append}
use Rattle.std.proofs.Math.ListN.{get_or-map}
use Rattle.gang_model.specs.Types.Tree.{StepNumber, RoundsOf, ResultFor, Nothing, Declares, Assigns, Returns, Stmt, Empty, Then, Declare, Assign, Change, If, Loop, BodyFirst, Break, Continue, Return, Switch, Segment, ForEach, Call, Check, PackedStore, PackedLoad, Function}
use Rattle.gang_model.specs.Running.Step.{steps_of, round_number}
use Rattle.gang_model.specs.Running.RunningOrder.{IsNumbered}
use Rattle.mask_states.specs.Points.{Point, Put, Go, Branch, Choose, Begin, Turn, Enter, Ways, before_step, entry_of, entries_of, body_ways, update_ways, round_ways, after_result, points_of, closing_number, function_ways, points_in}
use Rattle.mask_states.specs.Placed.{HasPoint}
use Rattle.foreach_lowering.specs.Forms.{forms_round, form_at, most_nested}
use Rattle.foreach_lowering.proofs.HeadForms.{have_forms}
use Rattle.machine_states.specs.Nesting.{forms_about, nested_at}
use Rattle.machine_states.specs.RoundNumbers.{NumberedForm, numbered_form, numbered_round, numbered_about, innermost_rounds, rounds_about}
use Rattle.machine_states.proofs.DeclaredLists.{same_some, AreBefore, before_front, before_behind, length-numbered_round, about_after}
use Rattle.machine_states.proofs.DeclaredPoints.{AllPoints, all_behind, all_at, of_way}

-- ---- where points lead

-- steps that stand in these forms
abbrev pub StandIn : (about : StepNumber → List NumberedForm) → (forms : List NumberedForm) → List StepNumber → Type 0
StandIn about forms [] = Unit {0}
StandIn about forms (number ∷ numbers) = (about number ≡ forms) × StandIn about forms numbers

-- a point leads to steps in the forms round its own, a form's head also to a step in the form
abbrev pub LeadsInside : (about : StepNumber → List NumberedForm) → StepNumber → Point → Type 0
LeadsInside about number (Put s next) = about next ≡ about number
LeadsInside about number (Go next) = about next ≡ about number
LeadsInside about number (Branch test yes' no') = (about yes' ≡ about number) × (about no' ≡ about number)
LeadsInside about number (Choose e segments entries next) = StandIn about (about number) entries × (about next ≡ about number)
LeadsInside about number (Begin form rounds next) = (about rounds ≡ numbered_form rounds form ∷ about number) × (about next ≡ about number)
LeadsInside about number (Turn body) = (about body ≡ about number) × ((form : RoundsOf) × (outer : List NumberedForm) × (about number ≡ numbered_form number form ∷ outer))
LeadsInside about number (Enter n args result_for next) = about next ≡ about number

-- the ways of a statement lead to such steps
pub record AreWaysInside (about : StepNumber → List NumberedForm) (forms : List NumberedForm) (ways : Ways) : Type 0 where
  pub next : about ways.next ≡ forms
  pub on_break : (way : StepNumber) → ways.on_break ≡ Some way → about way ≡ forms
  pub on_continue : (way : StepNumber) → ways.on_continue ≡ Some way → about way ≡ forms
  pub on_return : (way : StepNumber) → ways.on_return ≡ Some way → about way ≡ forms

module _ (about : StepNumber → List NumberedForm) where
  at_first : (number n : ℕ) (outer : List NumberedForm) → number ≡ n → about n ≡ outer → about number ≡ outer
  at_first number n outer e h = ap about e ∙ h

  -- a statement's first step stands in the forms round the statement
  entry_inside : (s : Stmt) (n next : ℕ) (outer : List NumberedForm) → IsNumbered n s → AreBefore about n (numbered_round outer s) → about next ≡ outer → about (entry_of s next) ≡ outer
  entry_inside Empty n next outer e h g = g
  entry_inside (Then first rest) n next outer e h g =
      entry_inside first n (entry_of rest next) outer e.0 (before_front about n (numbered_round outer first) (numbered_round outer rest) h)
      (entry_inside rest (n + steps_of first) next outer e.1 (about_after about n first outer (numbered_round outer rest) h) g)
  entry_inside (Declare number v x) n next outer e h g = at_first number n outer e h.0
  entry_inside (Assign number target x) n next outer e h g = at_first number n outer e h.0
  entry_inside (Change number target type op in_type x) n next outer e h g = at_first number n outer e h.0
  entry_inside (If number test first other) n next outer e h g = at_first number n outer e.0 h.0
  entry_inside (Loop number test update body) n next outer e h g =
      let behind = about_after about n body outer (numbered_round outer update ++ outer ∷ []) h in
      at_first number (n + steps_of body + steps_of update) outer e.0 (about_after about (n + steps_of body) update outer (outer ∷ []) behind).0
  entry_inside (BodyFirst number test body) n next outer e h g =
      entry_inside body n number outer e.1 (before_front about n (numbered_round outer body) (outer ∷ []) h)
      (at_first number (n + steps_of body) outer e.0 (about_after about n body outer (outer ∷ []) h).0)
  entry_inside (Break number) n next outer e h g = at_first number n outer e h.0
  entry_inside (Continue number) n next outer e h g = at_first number n outer e h.0
  entry_inside (Return number x) n next outer e h g = at_first number n outer e h.0
  entry_inside (Switch number x segments) n next outer e h g = at_first number n outer e.0 h.0
  entry_inside (Segment label body rest) n next outer e h g =
      entry_inside body n (entry_of rest next) outer e.0 (before_front about n (numbered_round outer body) (numbered_round outer rest) h)
      (entry_inside rest (n + steps_of body) next outer e.1 (about_after about n body outer (numbered_round outer rest) h) g)
  entry_inside (ForEach number form body) n next outer e h g = at_first number n outer e.0 h.0
  entry_inside (Call number function args result_for) n next outer e h g = at_first number n outer e h.0
  entry_inside (Check number x) n next outer e h g = at_first number n outer e h.0
  entry_inside (PackedStore number array from x result_for) n next outer e h g = at_first number n outer e h.0
  entry_inside (PackedLoad number array from v result_for) n next outer e h g = at_first number n outer e h.0

  entries_inside : (s : Stmt) (n next : ℕ) (outer : List NumberedForm) → IsNumbered n s → AreBefore about n (numbered_round outer s) → about next ≡ outer → StandIn about outer (entries_of s next)
  entries_inside (Segment label body rest) n next outer e h g = (
    entry_inside (Segment label body rest) n next outer e h g,
    entries_inside rest (n + steps_of body) next outer e.1 (about_after about n body outer (numbered_round outer rest) h) g,
  )
  entries_inside s n next outer e h g = tt

  same_entries : (numbers : List StepNumber) (n : ℕ) (outer : List NumberedForm) → about n ≡ outer → StandIn about outer numbers → StandIn about (about n) numbers
  same_entries numbers n outer h g = subst (λ forms. StandIn about forms numbers) (sym h) g

  step_inside : (next : StepNumber) (outer : List NumberedForm) (ways : Ways) → AreWaysInside about outer ways → about next ≡ outer → AreWaysInside about outer (before_step next ways)
  step_inside next outer ways g e = record { next = e; on_break = g.on_break; on_continue = g.on_continue; on_return = g.on_return }

  after_inside : (result_for : ResultFor) (outer : List NumberedForm) (ways : Ways) → AreWaysInside about outer ways → about (after_result result_for ways) ≡ outer
  after_inside Nothing outer ways g = g.next
  after_inside (Declares v) outer ways g = g.next
  after_inside (Assigns v) outer ways g = g.next
  after_inside Returns outer ways g = of_way (λ k. about k ≡ outer) ways.on_return ways.next g.next g.on_return

  some_inside : (number : StepNumber) (outer : List NumberedForm) → about number ≡ outer → (way : StepNumber) → Some number ≡ Some way → about way ≡ outer
  some_inside number outer h way e = ap about (sym (same_some number way e)) ∙ h

  points_inside : (s : Stmt) (ways : Ways) (n : ℕ) (outer : List NumberedForm) → IsNumbered n s → AreBefore about n (numbered_round outer s) → AreWaysInside about outer ways
      → AllPoints (LeadsInside about) n (points_of s ways)
  points_inside Empty ways n outer e h g = tt
  points_inside (Then first rest) ways n outer e h g =
      let after = about_after about n first outer (numbered_round outer rest) h in
      let there = step_inside (entry_of rest ways.next) outer ways g (entry_inside rest (n + steps_of first) ways.next outer e.1 after g.next) in
      all_behind (LeadsInside about) n first (before_step (entry_of rest ways.next) ways) (points_of rest ways)
      (points_inside first (before_step (entry_of rest ways.next) ways) n outer e.0 (before_front about n (numbered_round outer first) (numbered_round outer rest) h) there)
      (points_inside rest ways (n + steps_of first) outer e.1 after g)
  points_inside (Declare number v x) ways n outer e h g = (g.next ∙ sym h.0, tt)
  points_inside (Assign number target x) ways n outer e h g = (g.next ∙ sym h.0, tt)
  points_inside (Change number target type op in_type x) ways n outer e h g = (g.next ∙ sym h.0, tt)
  points_inside (If number test first other) ways n outer e h g =
      let first_about = before_front about (n + 1) (numbered_round outer first) (numbered_round outer other) h.1 in
      let other_about = about_after about (n + 1) first outer (numbered_round outer other) h.1 in (
        (
          entry_inside first (n + 1) ways.next outer e.1 first_about g.next ∙ sym h.0,
          entry_inside other (n + 1 + steps_of first) ways.next outer e.2 other_about g.next ∙ sym h.0,
        ),
        all_behind (LeadsInside about) (n + 1) first ways (points_of other ways)
            (points_inside first ways (n + 1) outer e.1 first_about g)
            (points_inside other ways (n + 1 + steps_of first) outer e.2 other_about g),
      )
  points_inside (Loop number test update body) ways n outer e h g =
      let inside = body_ways (entry_of update number) ways in
      let again = update_ways number ways in
      let last = Branch test (entry_of body (entry_of update number)) ways.next ∷ [] in
      let body_about = before_front about n (numbered_round outer body) (numbered_round outer update ++ outer ∷ []) h in
      let behind = about_after about n body outer (numbered_round outer update ++ outer ∷ []) h in
      let update_about = before_front about (n + steps_of body) (numbered_round outer update) (outer ∷ []) behind in
      let test_about = (about_after about (n + steps_of body) update outer (outer ∷ []) behind).0 in
      let test_there : about number ≡ outer = at_first number (n + steps_of body + steps_of update) outer e.0 test_about in
      let update_there : about (entry_of update number) ≡ outer = entry_inside update (n + steps_of body) number outer e.2 update_about test_there in
      let body_there = entry_inside body n (entry_of update number) outer e.1 body_about update_there in
      let out = some_inside ways.next outer g.next in
      let body_good : AreWaysInside about outer inside = record {
        next = update_there;
        on_break = out;
        on_continue = some_inside (entry_of update number) outer update_there;
        on_return = g.on_return;
      } in
      let update_good : AreWaysInside about outer again = record { next = test_there; on_break = out; on_continue = g.on_continue; on_return = g.on_return } in
      all_behind (LeadsInside about) n body inside (points_of update again ++ last) (points_inside body inside n outer e.1 body_about body_good)
      (all_behind (LeadsInside about) (n + steps_of body) update again last (points_inside update again (n + steps_of body) outer e.2 update_about update_good)
      ((body_there ∙ sym test_about, g.next ∙ sym test_about), tt))
  points_inside (BodyFirst number test body) ways n outer e h g =
      let inside = body_ways number ways in
      let body_about = before_front about n (numbered_round outer body) (outer ∷ []) h in
      let test_about = (about_after about n body outer (outer ∷ []) h).0 in
      let test_there : about number ≡ outer = at_first number (n + steps_of body) outer e.0 test_about in
      let good : AreWaysInside about outer inside = record {
        next = test_there;
        on_break = some_inside ways.next outer g.next;
        on_continue = some_inside number outer test_there;
        on_return = g.on_return;
      } in
      all_behind (LeadsInside about) n body inside (Branch test (entry_of body number) ways.next ∷ []) (points_inside body inside n outer e.1 body_about good)
      ((entry_inside body n number outer e.1 body_about test_there ∙ sym test_about, g.next ∙ sym test_about), tt)
  points_inside (Break number) ways n outer e h g = (of_way (λ k. about k ≡ outer) ways.on_break ways.next g.next g.on_break ∙ sym h.0, tt)
  points_inside (Continue number) ways n outer e h g = (of_way (λ k. about k ≡ outer) ways.on_continue ways.next g.next g.on_continue ∙ sym h.0, tt)
  points_inside (Return number x) ways n outer e h g = (of_way (λ k. about k ≡ outer) ways.on_return ways.next g.next g.on_return ∙ sym h.0, tt)
  points_inside (Switch number x segments) ways n outer e h g =
      let good : AreWaysInside about outer (record ways { on_break = Some ways.next }) = record {
        next = g.next;
        on_break = some_inside ways.next outer g.next;
        on_continue = g.on_continue;
        on_return = g.on_return;
      } in (
        (same_entries (entries_of segments ways.next) n outer h.0 (entries_inside segments (n + 1) ways.next outer e.1 h.1 g.next), g.next ∙ sym h.0),
        points_inside segments (record ways { on_break = Some ways.next }) (n + 1) outer e.1 h.1 good,
      )
  points_inside (Segment label body rest) ways n outer e h g =
      let after = about_after about n body outer (numbered_round outer rest) h in
      let there = step_inside (entry_of rest ways.next) outer ways g (entry_inside rest (n + steps_of body) ways.next outer e.1 after g.next) in
      all_behind (LeadsInside about) n body (before_step (entry_of rest ways.next) ways) (points_of rest ways)
      (points_inside body (before_step (entry_of rest ways.next) ways) n outer e.0 (before_front about n (numbered_round outer body) (numbered_round outer rest) h) there)
      (points_inside rest ways (n + steps_of body) outer e.1 after g)
  points_inside (ForEach number form body) ways n outer e h g =
      let rounds = round_number number body in
      let within = numbered_form rounds form ∷ outer in
      let body_about = before_front about (n + 1) (numbered_round within body) (within ∷ []) h.1 in
      let rounds_about : about (n + 1 + steps_of body) ≡ within = (about_after about (n + 1) body within (within ∷ []) h.1).0 in
      let rounds_there : about rounds ≡ within = at_first rounds (n + 1 + steps_of body) within (ap (λ m. m + 1 + steps_of body) e.0) rounds_about in
      let good : AreWaysInside about within (round_ways rounds) = record {
        next = rounds_there;
        on_break = λ way is. absurd cc;
        on_continue = some_inside rounds within rounds_there;
        on_return = λ way is. absurd cc;
      } in (
        (rounds_there ∙ ap (λ forms. numbered_form rounds form ∷ forms) (sym h.0), g.next ∙ sym h.0),
        all_behind (LeadsInside about) (n + 1) body (round_ways rounds) (Turn (entry_of body rounds) ∷ [])
            (points_inside body (round_ways rounds) (n + 1) within e.1 body_about good)
            ((entry_inside body (n + 1) rounds within e.1 body_about rounds_there ∙ sym rounds_about, (form, outer, rounds_about ∙ ap (λ m. numbered_form (m + 1 + steps_of body) form ∷ outer) e.0)), tt),
      )
  points_inside (Call number function args result_for) ways n outer e h g = (after_inside result_for outer ways g ∙ sym h.0, tt)
  points_inside (Check number x) ways n outer e h g = (g.next ∙ sym h.0, tt)
  points_inside (PackedStore number array from x result_for) ways n outer e h g = (after_inside result_for outer ways g ∙ sym h.0, tt)
  points_inside (PackedLoad number array from v result_for) ways n outer e h g = (after_inside result_for outer ways g ∙ sym h.0, tt)

-- ---- functions

abbrev pub form_of : NumberedForm → RoundsOf
form_of numbered = numbered.form

-- they are the forms round each step, without the numbers
forms_are : (s : Stmt) (outer : List NumberedForm) → forms_round (map form_of outer) s ≡ map (map form_of) (numbered_round outer s)
forms_are Empty outer = refl
forms_are (Then first rest) outer = cc (map-append (map form_of) (numbered_round outer first) (numbered_round outer rest), forms_are first outer, forms_are rest outer)
forms_are (Declare number v e) outer = refl
forms_are (Assign number target e) outer = refl
forms_are (Change number target type op in_type e) outer = refl
forms_are (If number test first other) outer = cc (map-append (map form_of) (numbered_round outer first) (numbered_round outer other), forms_are first outer, forms_are other outer)
forms_are (Loop number test update body) outer =
    cc (map-append (map form_of) (numbered_round outer body) (numbered_round outer update ++ outer ∷ []), map-append (map form_of) (numbered_round outer update) (outer ∷ []), forms_are body outer, forms_are update outer)
forms_are (BodyFirst number test body) outer = cc (map-append (map form_of) (numbered_round outer body) (outer ∷ []), forms_are body outer)
forms_are (Break number) outer = refl
forms_are (Continue number) outer = refl
forms_are (Return number e) outer = refl
forms_are (Switch number e segments) outer = cc (forms_are segments outer)
forms_are (Segment label body rest) outer = cc (map-append (map form_of) (numbered_round outer body) (numbered_round outer rest), forms_are body outer, forms_are rest outer)
forms_are (ForEach number form body) outer =
    let inner : List NumberedForm = numbered_form (round_number number body) form ∷ outer in
    cc (map-append (map form_of) (numbered_round inner body) (inner ∷ []), forms_are body inner)
forms_are (Call number function args result_for) outer = refl
forms_are (Check number e) outer = refl
forms_are (PackedStore number array from e result_for) outer = refl
forms_are (PackedLoad number array from v result_for) outer = refl

-- a point at which a form is told is one of rounds
turn_of : (point : Point) (round : List RoundsOf) (form : RoundsOf) → form_at point round ≡ Some form → (body : StepNumber) × (point ≡ Turn body)
turn_of (Turn body) round form e = (body, refl)
turn_of point round form e = absurd cc

turn_told : (points : List Point) (rounds : List (List RoundsOf)) (n : StepNumber) (form : RoundsOf) → slice_get (map (λ at. form_at at.0 at.1) (zip points rounds)) n ≡ Some (Some form)
    → (body : StepNumber) × HasPoint points n (Turn body)
turn_told [] rounds n form e = absurd cc
turn_told (point ∷ points) [] n form e = absurd cc
turn_told (point ∷ points) (round ∷ rounds) zero form e = let turn = turn_of point round form (same_some (form_at point round) (Some form) e) in (turn.0, ap Some turn.1)
turn_told (point ∷ points) (round ∷ rounds) (suc n) form e = turn_told points rounds n form e

module _ (f : Function) where
  pub forms_about-numbered : (number : StepNumber) → forms_about f number ≡ map form_of (numbered_about f number)
  forms_about-numbered number = ap (λ forms. slice_index_or forms number []) (forms_are f.body []) ∙ get_or-map (map form_of) (numbered_round [] f.body) number []

  -- as many stand round one step as round another with the same
  pub nested_alike : (number other : StepNumber) → numbered_about f number ≡ numbered_about f other → nested_at f number ≡ nested_at f other
  nested_alike number other same =
      ap length (forms_about-numbered number ∙ ap (map form_of) same ∙ sym (forms_about-numbered other))

  -- no form stands round the closing brace
  pub closing_outside : (number : StepNumber) → closing_number f ≤ number → numbered_about f number ≡ []
  closing_outside number past = get_or_past (numbered_round [] f.body) number [] (omega (arith, past, length-numbered_round f.body []))

  pub closing_nested : (number : StepNumber) → closing_number f ≤ number → nested_at f number ≡ 0
  closing_nested number past = ap length (forms_about-numbered number ∙ ap (map form_of) (closing_outside number past))

  about_steps : AreBefore (numbered_about f) 0 (numbered_round [] f.body)
  about_steps = before_behind (numbered_round [] f.body) [] []

  at_closing : numbered_about f (closing_number f) ≡ []
  at_closing = closing_outside (closing_number f) (omega arith)

  function_inside : AreWaysInside (numbered_about f) [] (function_ways f)
  function_inside = record {
    next = at_closing;
    on_break = λ way is. absurd cc;
    on_continue = λ way is. absurd cc;
    on_return = some_inside (numbered_about f) (closing_number f) [] at_closing;
  }

  module _ (numbered : IsNumbered 0 f.body) where
    -- nor round the first step
    pub first_nested : nested_at f (entry_of f.body (closing_number f)) ≡ 0
    first_nested =
        nested_alike (entry_of f.body (closing_number f)) (closing_number f) (entry_inside (numbered_about f) f.body 0 (closing_number f) [] numbered about_steps at_closing ∙ sym at_closing)
        ∙ closing_nested (closing_number f) (omega arith)

    pub point_inside : (number : StepNumber) (point : Point) → HasPoint (points_in f) number point → LeadsInside (numbered_about f) number point
    point_inside number point h =
        all_at (LeadsInside (numbered_about f)) (points_in f) number point (points_inside (numbered_about f) f.body (function_ways f) 0 [] numbered about_steps function_inside) h

    -- a form's rounds stand in one more form than its head, so the program has a level for it
    pub begins_nested : (number : StepNumber) (form : RoundsOf) (rounds next : StepNumber) → HasPoint (points_in f) number (Begin form rounds next)
        → nested_at f rounds ≡ suc (nested_at f number)
    begins_nested number form rounds next h =
        ap length (forms_about-numbered rounds ∙ ap (map form_of) (point_inside number (Begin form rounds next) h).0)
        ∙ ap suc (ap length (sym (forms_about-numbered number)))

    pub begins_turn : (number : StepNumber) (form : RoundsOf) (rounds next : StepNumber) → HasPoint (points_in f) number (Begin form rounds next)
        → (body : StepNumber) × HasPoint (points_in f) rounds (Turn body)
    begins_turn number form rounds next h =
        turn_told (points_in f) (forms_round [] f.body) rounds form ((have_forms f numbered).heads number form rounds next h)

    -- rounds are those of the innermost form round them
    pub turns_inside : (number body : StepNumber) → HasPoint (points_in f) number (Turn body) → rounds_about f number ≡ Some number
    turns_inside number body h = ap innermost_rounds (point_inside number (Turn body) h).1.2

    pub turn_nested : (number body : StepNumber) → HasPoint (points_in f) number (Turn body) → 0 < nested_at f number
    turn_nested number body h =
        let inside = (point_inside number (Turn body) h).1 in
        omega (arith, ap length (forms_about-numbered number ∙ ap (map form_of) inside.2))

  -- ---- how many forms

  most_above : (lists : List (List RoundsOf)) (most : ℕ) → most ≤ fold (λ most round. max most (length round)) most lists
  most_above [] most = omega arith
  most_above (forms ∷ lists) most = let h = most_above lists (max most (length forms)) in omega (arith, h)

  one_most : (lists : List (List RoundsOf)) (most : ℕ) (k : ℕ) → length (slice_index_or lists k []) ≤ fold (λ most round. max most (length round)) most lists
  one_most [] most k = omega arith
  one_most (forms ∷ lists) most zero = let h = most_above lists (max most (length forms)) in omega (arith, h)
  one_most (forms ∷ lists) most (suc k) = one_most lists (max most (length forms)) k

  pub nested_within : (number : StepNumber) → nested_at f number ≤ most_nested f
  nested_within number = one_most (forms_round [] f.body) 0 number

  pub begins_within : IsNumbered 0 f.body → (number : StepNumber) (form : RoundsOf) (rounds next : StepNumber) → HasPoint (points_in f) number (Begin form rounds next)
      → suc (nested_at f number) ≤ most_nested f
  begins_within numbered number form rounds next h = omega (arith, begins_nested numbered number form rounds next h, nested_within rounds)
