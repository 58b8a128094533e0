-- Whoever goes over the points of a statement, one after another, is in the forms that stand round each of them.
use Rattle.std.proofs.Common.{◌≡◌, refl, sym, ap, ◌∙◌, List, [], ◌∷◌, ◌++◌, map, length, append_assoc}
use Rattle.std.specs.Prelude.{max, fold, zip, Option}
use Rattle.std.proofs.lemmas.List.{append-nil}
use Rattle.gang_model.specs.Types.Tree.{RoundsOf, Stmt, Empty, Then, Declare, Assign, Change, If, Loop, BodyFirst, Break, Continue, Return, Switch, Segment, ForEach, Call, Check, PackedStore, PackedLoad, Function}
use Rattle.gang_model.specs.Running.Step.{round_number}
use Rattle.mask_states.specs.Points.{Point, Branch, Turn, Ways, before_step, body_ways, update_ways, round_ways, entry_of, function_ways, points_of, points_in}
use Rattle.foreach_lowering.specs.Forms.{forms_round, form_at, round_forms, most_nested, passed}

-- the forms round each of the points that follow
abbrev pub passing : List Point → (round : List RoundsOf) → List (List RoundsOf)
passing [] round = []
passing (x ∷ xs) round = round ∷ passing xs (passed x round)

-- the forms whose rounds they are
abbrev pub told : List Point → (round : List RoundsOf) → List (Option RoundsOf)
told [] round = []
told (x ∷ xs) round = form_at x round ∷ told xs (passed x round)

-- the points of two statements, one after another
two_passed : (first second : Stmt) (ways later : Ways) (round : List RoundsOf) (rest : List Point)
    → ((rest : List Point) → passing (points_of first ways ++ rest) round ≡ forms_round round first ++ passing rest round)
    → ((rest : List Point) → passing (points_of second later ++ rest) round ≡ forms_round round second ++ passing rest round)
    → passing ((points_of first ways ++ points_of second later) ++ rest) round ≡ (forms_round round first ++ forms_round round second) ++ passing rest round
two_passed first second ways later round rest f s =
    ap (λ xs. passing xs round) (append_assoc (points_of first ways) (points_of second later) rest)
    ∙ f (points_of second later ++ rest)
    ∙ ap (λ xs. forms_round round first ++ xs) (s rest)
    ∙ sym (append_assoc (forms_round round first) (forms_round round second) (passing rest round))

-- a point behind those of a statement
one_passed : (first : Stmt) (ways : Ways) (round : List RoundsOf) (x : Point) (rest : List Point)
    → ((rest : List Point) → passing (points_of first ways ++ rest) round ≡ forms_round round first ++ passing rest round)
    → passing ((points_of first ways ++ x ∷ []) ++ rest) round ≡ (forms_round round first ++ round ∷ []) ++ passing rest (passed x round)
one_passed first ways round x rest f =
    ap (λ xs. passing xs round) (append_assoc (points_of first ways) (x ∷ []) rest)
    ∙ f (x ∷ rest)
    ∙ sym (append_assoc (forms_round round first) (round ∷ []) (passing rest (passed x round)))

pub statement_passed : (s : Stmt) (ways : Ways) (round : List RoundsOf) (rest : List Point) → passing (points_of s ways ++ rest) round ≡ forms_round round s ++ passing rest round
statement_passed Empty ways round rest = refl
statement_passed (Then first later) ways round rest =
    two_passed first later (before_step (entry_of later ways.next) ways) ways round rest (statement_passed first (before_step (entry_of later ways.next) ways) round) (statement_passed later ways round)
statement_passed (Declare number v e) ways round rest = refl
statement_passed (Assign number target e) ways round rest = refl
statement_passed (Change number target type op in_type e) ways round rest = refl
statement_passed (If number test first other) ways round rest =
    ap (λ xs. round ∷ xs) (two_passed first other ways ways round rest (statement_passed first ways round) (statement_passed other ways round))
statement_passed (Loop number test update body) ways round rest =
    let test_is : Point = Branch test (entry_of body (entry_of update number)) ways.next in
    ap (λ xs. passing xs round) (append_assoc (points_of body (body_ways (entry_of update number) ways)) (points_of update (update_ways number ways) ++ test_is ∷ []) rest)
    ∙ statement_passed body (body_ways (entry_of update number) ways) round ((points_of update (update_ways number ways) ++ test_is ∷ []) ++ rest)
    ∙ ap (λ xs. forms_round round body ++ xs) (one_passed update (update_ways number ways) round test_is rest (statement_passed update (update_ways number ways) round))
    ∙ sym (append_assoc (forms_round round body) (forms_round round update ++ round ∷ []) (passing rest round))
statement_passed (BodyFirst number test body) ways round rest =
    one_passed body (body_ways number ways) round (Branch test (entry_of body number) ways.next) rest (statement_passed body (body_ways number ways) round)
statement_passed (Break number) ways round rest = refl
statement_passed (Continue number) ways round rest = refl
statement_passed (Return number e) ways round rest = refl
statement_passed (Switch number e segments) ways round rest = ap (λ xs. round ∷ xs) (statement_passed segments _ round rest)
statement_passed (Segment label body later) ways round rest =
    two_passed body later (before_step (entry_of later ways.next) ways) ways round rest (statement_passed body (before_step (entry_of later ways.next) ways) round) (statement_passed later ways round)
statement_passed (ForEach number form body) ways round rest =
    ap (λ xs. round ∷ xs)
    (one_passed body (round_ways (round_number number body)) (form ∷ round) (Turn (entry_of body (round_number number body))) rest
    (statement_passed body (round_ways (round_number number body)) (form ∷ round)))
statement_passed (Call number function args result_for) ways round rest = refl
statement_passed (Check number e) ways round rest = refl
statement_passed (PackedStore number array from e result_for) ways round rest = refl
statement_passed (PackedLoad number array from v result_for) ways round rest = refl

-- the forms round the points of a function
pub function_passed : (f : Function) → passing (points_in f) [] ≡ forms_round [] f.body
function_passed f =
    ap (λ xs. passing xs []) (sym (append-nil (points_in f)))
    ∙ statement_passed f.body (function_ways f) [] []
    ∙ append-nil (forms_round [] f.body)

-- each point beside the forms round it
told_is : (xs : List Point) (round : List RoundsOf) → told xs round ≡ map (λ at. form_at at.0 at.1) (zip xs (passing xs round))
told_is [] round = refl
told_is (x ∷ xs) round = ap (λ forms. form_at x round ∷ forms) (told_is xs (passed x round))

pub function_told : (f : Function) → told (points_in f) [] ≡ round_forms f
function_told f = told_is (points_in f) [] ∙ ap (λ round. map (λ at. form_at at.0 at.1) (zip (points_in f) round)) (function_passed f)

pub function_nested : (f : Function) → fold (λ most round. max most (length round)) 0 (passing (points_in f) []) ≡ most_nested f
function_nested f = ap (fold (λ most round. max most (length round)) 0) (function_passed f)
