-- The points of a function have code.
use Rattle.std.proofs.Common.{◌≡◌, refl, sym, ap, subst, ℕ, zero, suc, List, [], ◌∷◌, ◌++◌, map}
use Rattle.std.specs.Prelude.{Option, Some, slice_get}
use Rattle.gang_model.proofs.StandingLaws.{Each, each_join}
use Rattle.gang_model.specs.Running.Step.{round_number}
use Rattle.gang_model.specs.Running.RunningOrder.{IsNumbered, IsNumberedProgram}
use Rattle.gang_model.specs.Types.Tree.{RoundsOf, Stmt, Empty, Then, Declare, Assign, Change, If, Loop, BodyFirst, Break, Continue, Return, Switch, Segment, ForEach, Call, Check, PackedStore, PackedLoad, Function, Program}
use Rattle.mask_states.specs.Placed.{HasPoint}
use Rattle.mask_states.specs.Points.{Point, Put, Go, Branch, Choose, Begin, Turn, Enter, Ways, before_step, body_ways, update_ways, round_ways, entry_of, entries_of, points_of, points_in, function_ways}
use Rattle.foreach_lowering.specs.Forms.{form_at, function_forms, passed}
use Rattle.foreach_lowering.proofs.HeadForms.{have_forms}
use Rattle.foreach_lowering.proofs.NestedForms.{told, function_told}
use Rattle.codegen.specs.Codes.{Fit, HasCode, HaveCode, MovesNoLane}
use Rattle.codegen.proofs.Rows.{fit_both}

-- ---- each point by itself

-- what a point says by itself: its statement moves no lane, a switch knows where its segments begin
abbrev IsMade : Point → Type 0
IsMade (Put s next) = MovesNoLane s
IsMade (Choose e segments entries next) = entries ≡ entries_of segments next
IsMade point = Unit {0}

both_made : (xs ys : List Point) → Each IsMade xs → Each IsMade ys → Each IsMade (xs ++ ys)
both_made = each_join IsMade

statement_made : (s : Stmt) (ways : Ways) → Each IsMade (points_of s ways)
statement_made Empty ways = tt
statement_made (Then first rest) ways =
    let here = before_step (entry_of rest ways.next) ways in
    both_made (points_of first here) (points_of rest ways) (statement_made first here) (statement_made rest ways)
statement_made (Declare number v e) ways = (tt, tt)
statement_made (Assign number target e) ways = (tt, tt)
statement_made (Change number target type op in_type e) ways = (tt, tt)
statement_made (If number test first other) ways = (tt, both_made (points_of first ways) (points_of other ways) (statement_made first ways) (statement_made other ways))
statement_made (Loop number test update body) ways =
    let inside = body_ways (entry_of update number) ways in
    let last = Branch test (entry_of body (entry_of update number)) ways.next ∷ [] in
    both_made (points_of body inside) (points_of update (update_ways number ways) ++ last) (statement_made body inside)
    (both_made (points_of update (update_ways number ways)) last (statement_made update (update_ways number ways)) (tt, tt))
statement_made (BodyFirst number test body) ways =
    both_made (points_of body (body_ways number ways)) (Branch test (entry_of body number) ways.next ∷ []) (statement_made body (body_ways number ways)) (tt, tt)
statement_made (Break number) ways = (tt, tt)
statement_made (Continue number) ways = (tt, tt)
statement_made (Return number e) ways = (tt, tt)
statement_made (Switch number e segments) ways = (refl, statement_made segments _)
statement_made (Segment label body rest) ways =
    let here = before_step (entry_of rest ways.next) ways in
    both_made (points_of body here) (points_of rest ways) (statement_made body here) (statement_made rest ways)
statement_made (ForEach number form body) ways =
    let inside = round_ways (round_number number body) in
    (tt, both_made (points_of body inside) (Turn (entry_of body (round_number number body)) ∷ []) (statement_made body inside) (tt, tt))
statement_made (Call number function args result_for) ways = (tt, tt)
statement_made (Check number e) ways = (tt, tt)
statement_made (PackedStore number array from e result_for) ways = (tt, tt)
statement_made (PackedLoad number array from v result_for) ways = (tt, tt)

-- ---- with the form whose rounds it is

-- rounds are told some form
abbrev AreTold : List Point → (forms : List (Option RoundsOf)) → Type 0
AreTold points forms = (n body : ℕ) → HasPoint points n (Turn body) → (form : RoundsOf) × (slice_get forms n ≡ Some (Some form))

one_coded : (x : Point) (round : List RoundsOf) → IsMade x → ((body : ℕ) → x ≡ Turn body → (form : RoundsOf) × (Some (form_at x round) ≡ Some (Some form))) → HasCode x (form_at x round)
one_coded (Put s next) round made told_is = made
one_coded (Go next) round made told_is = tt
one_coded (Branch test yes' no') round made told_is = tt
one_coded (Choose e segments entries next) round made told_is = made
one_coded (Begin form rounds next) round made told_is = tt
one_coded (Turn body) [] made told_is = let h = told_is body refl in absurd (no_form h.0 h.1)
  where
    no_form : (form : RoundsOf) → Some (form_at (Turn body) []) ≡ Some (Some form) → ⊥
    no_form form e = cc
one_coded (Turn body) (form ∷ outer) made told_is = tt
one_coded (Enter function args result_for next) round made told_is = tt

all_coded : (xs : List Point) (round : List RoundsOf) → Each IsMade xs → AreTold xs (told xs round) → Fit HasCode xs (told xs round)
all_coded [] round made told_is = tt
all_coded (x ∷ xs) round made told_is =
    (one_coded x round made.0 (λ body is. told_is zero body (ap Some is)), all_coded xs (passed x round) made.1 (λ n body is. told_is (suc n) body is))

function_coded : (f : Function) → IsNumbered 0 f.body → HaveCode (points_in f) (function_forms f)
function_coded f numbered =
    subst (λ forms. Fit HasCode (points_in f) forms) (function_told f)
    (all_coded (points_in f) [] (statement_made f.body (function_ways f)) (subst (AreTold (points_in f)) (sym (function_told f)) (have_forms f numbered).turns))

pub program_coded : (p : Program) → IsNumberedProgram p → Fit HaveCode (map points_in p.functions) (map function_forms p.functions)
program_coded p numbered = fit_both HaveCode points_in function_forms p.functions (λ n f is. function_coded f (numbered n f is))
