-- The steps that enter and leave no frame: what the words become by each, so that they show the masked state after it.
use Rattle.std.proofs.Common.{◌≡◌, refl, ap, ◌∙◌, subst, ℕ, suc, ◌<◌, List, [], ◌∷◌, length, Option, arith}
use Rattle.std.specs.Prelude.{Some, None, Result, Ok, Err, IfOk, if◌then◌else◌}
use Rattle.gang_types.specs.declared.types.IntType.{IntType}
use Rattle.gang_types.specs.declared.faults.FaultName.TheVariants.{Assert}
use Rattle.gang_types.specs.declared.operators.BinaryOp.{BinaryOp}
use Rattle.gang_types.specs.declared.places.VarId.{VarId}
use Rattle.gang_types.specs.Lanes.{Lanes}
use Rattle.gang_types.specs.Values.{converted, binary_result}
use Rattle.gang_model.specs.Types.Tree.{Var, Expr, StepNumber, Scalar, Stmt, Declare, Assign, Change, Return, Check, Function, Program}
use Rattle.gang_model.specs.Running.Lanes.{Fault, ◌>>=◌, each, try_each, at, holds}
use Rattle.gang_model.specs.Running.State.{State, words_in, with_words_in, on_top, seen, declared_words, assigned_words}
use Rattle.gang_model.specs.Running.Value.{value}
use Rattle.gang_model.specs.Running.Step.{initial, run, returned, result_rate, rate_of, ToVar, write}
use Rattle.gang_model.proofs.LaneWords.{Fills, length-each, length-value}
use Rattle.mask_states.specs.Points.{Put, Go, Branch}
use Rattle.mask_states.specs.Masked.{Masked, sent_in, closed}
use Rattle.mask_states.proofs.LaneNumbers.{length-waiting_for}
use Rattle.machine_states.specs.Variables.{Variables, IsScalar, IsOwn}
use Rattle.machine_states.specs.Declared.{IsThere, AreDeclared, declared_before}
use Rattle.machine_states.specs.Regions.{ReturnedOf, NumbersOf, Depth, OfHead, Regions, lanes_in, with_region, OfLevel}
use Rattle.machine_states.specs.Shows.{AreSized, Shows}
use Rattle.machine_states.specs.Effects.{region_of, assigned_region, declared_region, sent_on, declared_in, assigned_in, returned_in}
use Rattle.machine_states.specs.Steps.{IsNext, waiting_in, GoesTo, FailsWith, KeepsBoth}
use Rattle.machine_states.proofs.ChangedRegions.{scalar_depth}
use Rattle.machine_states.proofs.ReturnedResults.{returned_shows}
use Rattle.machine_states.proofs.ScalarRegions.{seen_same}
use Rattle.machine_states.proofs.TopFrame.{length-waiting, waiter, point_goes, point_fails, has_variable}
use Rattle.machine_states.proofs.WrittenVariables.{HasVariable, declared_shows, assigned_shows, scalar_in}

value_fills : (e : Expr) (lanes : Lanes) (state : State) (values : List ℕ) → value e lanes state ≡ Ok values → length values ≡ length lanes
value_fills e lanes state values is = subst (λ r. IfOk r (Fills lanes)) is (length-value e lanes state)

initial_fills : (e : Option Expr) (lanes : Lanes) (state : State) (values : List ℕ) → initial e lanes state ≡ Ok values → length values ≡ length lanes
initial_fills None lanes state values is = subst (λ r. IfOk r (Fills lanes)) is (length-each lanes (λ k. 0))
initial_fills (Some e) lanes state values is = value_fills e lanes state values is

-- an operation in each lane, by a variable's old values and the operand's, and its results as the variable's new values
abbrev pub operated : Lanes → (type : IntType) → BinaryOp → (in_type : IntType) → (old y : List ℕ) → Result (List ℕ) Fault
operated lanes type op in_type old y = try_each lanes (λ k. binary_result op in_type (converted type in_type (at old k)) (at y k))

-- a test holds in each of some lanes, or the fault of the lowest in which it does not
abbrev pub asserted : Lanes → List ℕ → Result (List ℕ) Fault
asserted lanes c = try_each lanes (λ k. if holds c k then Ok 0 else Err Assert)

abbrev pub result_words : Lanes → (type in_type : IntType) → List ℕ → List ℕ
result_words lanes type in_type r = each lanes (λ k. converted in_type type (at r k))

module _ (p : Program) (variables : Variables) (w : ℕ) (regions : Regions) (masked : Masked) (shows : Shows p variables w regions masked) (i level n : ℕ) (f : Function) (number : StepNumber) where
  abbrev lanes : Lanes
  lanes = waiting_in regions i level number

  -- `break` and `continue`
  pub goes : (target : StepNumber) → IsNext p w regions i level n f number (Some (Go target))
      → GoesTo p variables w masked (sent_on i level (waiting_in regions i level number) (λ k. target) regions)
  goes target next = point_goes p variables w regions masked shows i level n f number (Go target) next (λ k. target) masked.state regions (λ top below. refl) shows next.depth

  module _ (test : Expr) (yes' no' : StepNumber) (next : IsNext p w regions i level n f number (Some (Branch test yes' no'))) where
    pub branches : (c : List ℕ) → value test (waiting_in regions i level number) masked.state ≡ Ok c
        → GoesTo p variables w masked (sent_on i level (waiting_in regions i level number) (λ k. if holds c k then yes' else no') regions)
    branches c is =
        point_goes p variables w regions masked shows i level n f number (Branch test yes' no') next (λ k. if holds c k then yes' else no') masked.state regions
        (λ top below. ap (λ r. r >>= (λ c. Ok (record { state = masked.state; levels = closed (sent_in lanes (λ k. if holds c k then yes' else no') top ∷ below) ∷ [] }))) is)
        shows next.depth

    pub branch_fails : (fault : Fault) → value test (waiting_in regions i level number) masked.state ≡ Err fault → FailsWith p masked fault
    branch_fails fault is =
        point_fails p variables w regions masked shows i level n f number (Branch test yes' no') next fault
        (λ top below. ap (λ r. r >>= (λ c. Ok (record { state = masked.state; levels = closed (sent_in lanes (λ k. if holds c k then yes' else no') top ∷ below) ∷ [] }))) is)

  -- ---- statements

  module _ (s : Stmt) (target : StepNumber) (next : IsNext p w regions i level n f number (Some (Put s target))) where
    pub put_goes : (after : State) (new : Regions) → run p s lanes masked.state ≡ Ok after → Shows p variables w new (record { state = after; levels = masked.levels })
        → new Depth ≡ suc i ∷ [] → GoesTo p variables w masked (sent_on i level lanes (λ k. target) new)
    put_goes after new is =
        point_goes p variables w regions masked shows i level n f number (Put s target) next (λ k. target) after new
        (λ top below. ap (λ r. r >>= (λ after. Ok (record { state = after; levels = closed (sent_in lanes (λ k. target) top ∷ below) ∷ [] }))) is)

    -- a statement's fault is the step's
    pub put_fails : (fault : Fault) → run p s (waiting_in regions i level number) masked.state ≡ Err fault → FailsWith p masked fault
    put_fails fault is =
        point_fails p variables w regions masked shows i level n f number (Put s target) next fault
        (λ top below. ap (λ r. r >>= (λ after. Ok (record { state = after; levels = closed (sent_in lanes (λ k. target) top ∷ below) ∷ [] }))) is)

    pub long : length (waiting_in regions i level number) ≡ w
    long = length-waiting p variables w regions masked shows i level n f number (Some (Put s target)) next

    pub some : 0 < w
    some =
        let first = waiter p variables w regions masked shows i level n f number (Put s target) next tt in
        omega (arith, long, first.1, length_numbers)
      where
        length_numbers : length lanes ≡ length (regions (OfLevel i level NumbersOf))
        length_numbers = length-waiting_for number (regions (OfLevel i level NumbersOf))

    depth_kept : (v : VarId) (words : List ℕ) → with_region (region_of i v) words regions Depth ≡ suc i ∷ []
    depth_kept v words = scalar_depth words regions i v ∙ next.depth

  module _ (number' : StepNumber) (x : Var) (e : Option Expr) (target : StepNumber) (next : IsNext p w regions i level n f number (Some (Put (Declare number' x e) target))) where
    abbrev declaring : List ℕ → Result State Fault
    declaring values = Ok (with_words_in masked.state x.id (declared_words x.rate lanes values))

    pub declares : AreSized variables w regions → (k : ℕ) → IsOwn variables n k x → (values : List ℕ) → initial e (waiting_in regions i level number) masked.state ≡ Ok values
        → GoesTo p variables w masked (sent_on i level (waiting_in regions i level number) (λ j. target) (declared_in i x.id x.rate (waiting_in regions i level number) values regions))
    declares sized k own values is =
        put_goes (Declare number' x e) target next (with_words_in masked.state x.id (declared_words x.rate lanes values)) (declared_in i x.id x.rate lanes values regions)
        (ap (λ r. r >>= declaring) is)
        (declared_shows p variables w i n regions masked shows next.depth next.function sized lanes values (long (Declare number' x e) target next) (some (Declare number' x e) target next) k x own)
        (depth_kept (Declare number' x e) target next x.id (declared_region x.rate lanes values (regions (region_of i x.id))))

    pub declaration_fails : (fault : Fault) → initial e (waiting_in regions i level number) masked.state ≡ Err fault → FailsWith p masked fault
    declaration_fails fault is = put_fails (Declare number' x e) target next fault (ap (λ r. r >>= declaring) is)

  module _ (number' : StepNumber) (x : Var) (e : Expr) (target : StepNumber) (next : IsNext p w regions i level n f number (Some (Put (Assign number' (Scalar x) e) target))) where
    abbrev assigning : List ℕ → Result State Fault
    assigning values = Ok (write (ToVar x) lanes values masked.state)

    pub assigns : AreSized variables w regions → IsScalar variables n x → AreDeclared variables p masked
        → IsThere (declared_before variables n f number) x.id
        → (values : List ℕ) → value e (waiting_in regions i level number) masked.state ≡ Ok values
        → GoesTo p variables w masked (sent_on i level (waiting_in regions i level number) (λ j. target) (assigned_in i x.id x.rate (waiting_in regions i level number) values regions))
    assigns sized scalar all there values is =
        let s : Stmt = Assign number' (Scalar x) e in
        put_goes s target next (with_words_in masked.state x.id (assigned_words x.rate lanes values (words_in masked.state x.id))) (assigned_in i x.id x.rate lanes values regions)
        (ap (λ r. r >>= assigning) is)
        (assigned_shows p variables w i n regions masked shows next.depth next.function sized lanes values (long s target next) (value_fills e lanes masked.state values is ∙ long s target next)
        x scalar (has_variable p variables w regions masked shows i level n f number (Put s target) next all x.id there))
        (depth_kept s target next x.id (assigned_region x.rate lanes values (regions (region_of i x.id))))

    pub assignment_fails : (fault : Fault) → value e (waiting_in regions i level number) masked.state ≡ Err fault → FailsWith p masked fault
    assignment_fails fault is = put_fails (Assign number' (Scalar x) e) target next fault (ap (λ r. r >>= assigning) is)

  module _ (number' : StepNumber) (x : Var) (type : IntType) (op : BinaryOp) (in_type : IntType) (e : Expr) (target : StepNumber)
      (next : IsNext p w regions i level n f number (Some (Put (Change number' (Scalar x) type op in_type e) target))) where
    abbrev changing : List ℕ → Result State Fault
    changing r = Ok (write (ToVar x) lanes (result_words lanes type in_type r) masked.state)

    abbrev operating : (y : List ℕ) → Result State Fault
    operating y = operated lanes type op in_type (seen x.rate lanes (words_in masked.state x.id)) y >>= changing

    pub operand_fails : (fault : Fault) → value e (waiting_in regions i level number) masked.state ≡ Err fault → FailsWith p masked fault
    operand_fails fault is = put_fails (Change number' (Scalar x) type op in_type e) target next fault (ap (λ r. r >>= operating) is)

    module _ (sized : AreSized variables w regions) (scalar : IsScalar variables n x) (all : AreDeclared variables p masked)
        (there : IsThere (declared_before variables n f number) x.id)
        (y : List ℕ) (is : value e (waiting_in regions i level number) masked.state ≡ Ok y) where
      abbrev s : Stmt
      s = Change number' (Scalar x) type op in_type e

      has : HasVariable masked.state.frames x.id
      has = has_variable p variables w regions masked shows i level n f number (Put s target) next all x.id there

      run_is : (r : Result (List ℕ) Fault) → operated lanes type op in_type (seen x.rate lanes (regions (region_of i x.id))) y ≡ r → run p s lanes masked.state ≡ (r >>= changing)
      run_is r tried =
          let same : seen x.rate lanes (words_in masked.state x.id) ≡ seen x.rate lanes (regions (region_of i x.id)) =
          seen_same w lanes (long s target next) x.rate (words_in masked.state x.id) (regions (region_of i x.id))
          (scalar_in p variables w i n regions masked shows next.depth next.function sized x scalar has) in
          ap (λ r. r >>= operating) is ∙ ap (λ old. operated lanes type op in_type old y >>= changing) same ∙ ap (λ r. r >>= changing) tried

      pub changes : (r : List ℕ) → operated (waiting_in regions i level number) type op in_type (seen x.rate (waiting_in regions i level number) (regions (region_of i x.id))) y ≡ Ok r
          → GoesTo p variables w masked (sent_on i level (waiting_in regions i level number) (λ j. target) (assigned_in i x.id x.rate (waiting_in regions i level number) (result_words (waiting_in regions i level number) type in_type r) regions))
      changes r tried =
          put_goes s target next (with_words_in masked.state x.id (assigned_words x.rate lanes (result_words lanes type in_type r) (words_in masked.state x.id))) (assigned_in i x.id x.rate lanes (result_words lanes type in_type r) regions)
          (run_is (Ok r) tried)
          (assigned_shows p variables w i n regions masked shows next.depth next.function sized lanes (result_words lanes type in_type r) (long s target next)
          (length-each lanes (λ k. converted in_type type (at r k)) ∙ long s target next) x scalar has)
          (depth_kept s target next x.id (assigned_region x.rate lanes (result_words lanes type in_type r) (regions (region_of i x.id))))

      pub operation_fails : (fault : Fault) → operated (waiting_in regions i level number) type op in_type (seen x.rate (waiting_in regions i level number) (regions (region_of i x.id))) y ≡ Err fault → FailsWith p masked fault
      operation_fails fault tried = put_fails s target next fault (run_is (Err fault) tried)

  module _ (number' : StepNumber) (e : Option Expr) (target : StepNumber) (next : IsNext p w regions i level n f number (Some (Put (Return number' e) target))) where
    abbrev returning : List ℕ → Result State Fault
    returning values = Ok (on_top (λ frame. returned (result_rate p frame) lanes values frame) masked.state)

    pub returns : (values : List ℕ) → initial e (waiting_in regions i level number) masked.state ≡ Ok values
        → (word : ℕ) → KeepsBoth w (waiting_in regions i level number) (lanes_in w regions (OfHead i ReturnedOf)) word
        → GoesTo p variables w masked (sent_on i level (waiting_in regions i level number) (λ j. target) (returned_in i f.result (waiting_in regions i level number) values word regions))
    returns values is word keeps =
        let s : Stmt = Return number' e in
        put_goes s target next (on_top (λ frame. returned (result_rate p frame) lanes values frame) masked.state) (returned_in i f.result lanes values word regions)
        (ap (λ r. r >>= returning) is)
        (returned_shows p variables w i n f lanes values word regions keeps (long s target next) (initial_fills e lanes masked.state values is ∙ long s target next)
        (λ frame. returned (result_rate p frame) lanes values frame) (λ frame is. ap (λ rate. returned rate lanes values frame) (ap rate_of is)) next.function next.is_function masked shows next.depth)
        next.depth

    pub return_fails : (fault : Fault) → initial e (waiting_in regions i level number) masked.state ≡ Err fault → FailsWith p masked fault
    return_fails fault is = put_fails (Return number' e) target next fault (ap (λ r. r >>= returning) is)

  module _ (number' : StepNumber) (e : Expr) (target : StepNumber) (next : IsNext p w regions i level n f number (Some (Put (Check number' e) target))) where
    abbrev checking : List ℕ → Result State Fault
    checking c = asserted lanes c >>= λ passes. Ok masked.state

    pub check_value_fails : (fault : Fault) → value e (waiting_in regions i level number) masked.state ≡ Err fault → FailsWith p masked fault
    check_value_fails fault is = put_fails (Check number' e) target next fault (ap (λ r. r >>= checking) is)

    module _ (c : List ℕ) (value_is : value e (waiting_in regions i level number) masked.state ≡ Ok c) where
      run_checks : (r : Result (List ℕ) Fault) → asserted lanes c ≡ r → run p (Check number' e) lanes masked.state ≡ (r >>= λ passes. Ok masked.state)
      run_checks r is = ap (λ r. r >>= checking) value_is ∙ ap (λ r. r >>= λ passes. Ok masked.state) is

      -- nothing is changed but where the lanes go on
      pub checks : (passes : List ℕ) → asserted (waiting_in regions i level number) c ≡ Ok passes → GoesTo p variables w masked (sent_on i level (waiting_in regions i level number) (λ j. target) regions)
      checks passes is = put_goes (Check number' e) target next masked.state regions (run_checks (Ok passes) is) shows next.depth

      pub check_fails : (fault : Fault) → asserted (waiting_in regions i level number) c ≡ Err fault → FailsWith p masked fault
      check_fails fault is = put_fails (Check number' e) target next fault (run_checks (Err fault) is)
