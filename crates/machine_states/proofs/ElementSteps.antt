-- Assignments to elements of arrays, and parts of arrays that names stand for at the next step.
use Rattle.std.proofs.Common.{◌≡◌, refl, ap, ◌∙◌, ℕ, List, length, Option, Some}
use Rattle.std.specs.Prelude.{Result, Ok, Err, slice_get}
use Rattle.gang_types.specs.declared.operators.BinaryOp.{BinaryOp}
use Rattle.gang_types.specs.declared.types.IntType.{IntType}
use Rattle.gang_types.specs.declared.places.VarId.{VarId}
use Rattle.gang_types.specs.declared.places.VarId.TheVariants.{File, Local}
use Rattle.gang_types.specs.declared.types.Rate.{Rate}
use Rattle.gang_types.specs.Lanes.{Lanes}
use Rattle.gang_model.specs.Types.Tree.{Expr, StepNumber, ElementOf, Stmt, Assign, Change, Function, Program}
use Rattle.gang_model.specs.Running.Lanes.{Fault, ◌>>=◌, at, try_each}
use Rattle.gang_model.specs.Running.State.{State, View, local_view, view_of}
use Rattle.gang_model.specs.Running.Value.{element, value}
use Rattle.gang_model.specs.Running.Step.{ToElements, old_values, run, write}
use Rattle.mask_states.specs.Points.{Point, Put}
use Rattle.mask_states.specs.Masked.{Masked}
use Rattle.machine_states.specs.Variables.{Variables, IsArray, is_array_of, own_of}
use Rattle.machine_states.specs.ArrayParts.{view_at}
use Rattle.machine_states.specs.Regions.{Regions}
use Rattle.machine_states.specs.Shows.{Shows}
use Rattle.machine_states.specs.Effects.{sent_on, stored_in}
use Rattle.machine_states.specs.Steps.{FailsWith, GoesTo, IsNext, waiting_in}
use Rattle.machine_states.proofs.ChangedRegions.{array_depth}
use Rattle.machine_states.proofs.PutSteps.{operated, put_fails, put_goes, result_words}
use Rattle.machine_states.proofs.StoredElements.{stored_shows}
use Rattle.machine_states.proofs.TopFrame.{top_frame}

module _ (p : Program) (variables : Variables) (w : ℕ) (regions : Regions) (masked : Masked) (shows : Shows p variables w regions masked) (i level n : ℕ) (f : Function) (number : StepNumber) where
  abbrev lanes : Lanes
  lanes = waiting_in regions i level number

  -- ---- a name stands for the part of an array that the regions keep
  module _ (point : Option Point) (next : IsNext p w regions i level n f number point) where
    pub array_shown : (a : VarId) → IsArray variables n a → view_of masked.state a ≡ view_at regions i a
    array_shown (File k) array = ap (λ ws. record { array = File k; first = 0; len = length ws }) (shows.memory (File k))
    array_shown (Local k) array =
        let t = top_frame p variables w regions masked shows i level n f number point next in
        ap (λ frames. local_view frames (Local k)) t.frames_are
        ∙ t.shown.views k (ap (λ m. is_array_of (slice_get (own_of variables m) k)) t.function ∙ ap is_array_of array.1 ∙ array.2)

  -- ---- assignments
  module _ (number' : StepNumber) (array : VarId) (rate : Rate) (index e : Expr) (target : StepNumber)
      (next : IsNext p w regions i level n f number (Some (Put (Assign number' (ElementOf array rate index) e) target))) (there : IsArray variables n array) where
    abbrev s : Stmt
    s = Assign number' (ElementOf array rate index) e

    -- what is written to, once the index is evaluated; the values; the old ones
    abbrev from_view : View → (x y : List ℕ) → Result State Fault
    from_view view x y = old_values (ToElements view x) lanes masked.state >>= λ old. Ok (write (ToElements view x) lanes y masked.state)

    run_is : (x : Result (List ℕ) Fault) → value index lanes masked.state ≡ x
        → run p s lanes masked.state ≡ ((x >>= λ x. Ok (ToElements (view_of masked.state array) x)) >>= λ written. value e lanes masked.state >>= λ y. old_values written lanes masked.state >>= λ old. Ok (write written lanes y masked.state))
    run_is x is = ap (λ r. (r >>= λ x. Ok (ToElements (view_of masked.state array) x)) >>= λ written. value e lanes masked.state >>= λ y. old_values written lanes masked.state >>= λ old. Ok (write written lanes y masked.state)) is

    pub index_fails : (fault : Fault) → value index (waiting_in regions i level number) masked.state ≡ Err fault → FailsWith p masked fault
    index_fails fault is = put_fails p variables w regions masked shows i level n f number s target next fault (run_is (Err fault) is)

    module _ (x : List ℕ) (index_is : value index (waiting_in regions i level number) masked.state ≡ Ok x) where
      pub element_value_fails : (fault : Fault) → value e (waiting_in regions i level number) masked.state ≡ Err fault → FailsWith p masked fault
      element_value_fails fault is =
          put_fails p variables w regions masked shows i level n f number s target next fault
          (run_is (Ok x) index_is ∙ ap (λ r. r >>= from_view (view_of masked.state array) x) is)

      module _ (y : List ℕ) (value_is : value e (waiting_in regions i level number) masked.state ≡ Ok y) where
        run_to : (old : Result (List ℕ) Fault) → try_each (waiting_in regions i level number) (λ k. element masked.state (view_at regions i array) (at x k)) ≡ old
            → run p s lanes masked.state ≡ (old >>= λ old. Ok (write (ToElements (view_at regions i array) x) lanes y masked.state))
        run_to old is =
            run_is (Ok x) index_is
            ∙ ap (λ r. r >>= from_view (view_of masked.state array) x) value_is
            ∙ ap (λ view. from_view view x y) (array_shown (Some (Put s target)) next array there)
            ∙ ap (λ r. r >>= λ old. Ok (write (ToElements (view_at regions i array) x) lanes y masked.state)) is

        -- an element is not there
        pub missing_fails : (fault : Fault) → try_each (waiting_in regions i level number) (λ k. element masked.state (view_at regions i array) (at x k)) ≡ Err fault → FailsWith p masked fault
        missing_fails fault is = put_fails p variables w regions masked shows i level n f number s target next fault (run_to (Err fault) is)

        pub stores : (old : List ℕ) → try_each (waiting_in regions i level number) (λ k. element masked.state (view_at regions i array) (at x k)) ≡ Ok old
            → GoesTo p variables w masked (sent_on i level (waiting_in regions i level number) (λ k. target) (stored_in (view_at regions i array) (waiting_in regions i level number) x y regions))
        stores old is =
            put_goes p variables w regions masked shows i level n f number s target next (write (ToElements (view_at regions i array) x) lanes y masked.state)
            (stored_in (view_at regions i array) lanes x y regions) (run_to (Ok old) is)
            (stored_shows p variables w regions masked shows (view_at regions i array) lanes x y)
            (array_depth _ regions (view_at regions i array).array ∙ next.depth)

  -- ---- changes: the index, the operand, the old values, the operation
  module _ (number' : StepNumber) (array : VarId) (rate : Rate) (index : Expr) (type : IntType) (op : BinaryOp) (in_type : IntType) (e : Expr) (target : StepNumber)
      (next : IsNext p w regions i level n f number (Some (Put (Change number' (ElementOf array rate index) type op in_type e) target))) (there : IsArray variables n array) where
    abbrev c : Stmt
    c = Change number' (ElementOf array rate index) type op in_type e

    abbrev written_by : View → (x r : List ℕ) → Result State Fault
    written_by view x r = Ok (write (ToElements view x) lanes (result_words lanes type in_type r) masked.state)

    abbrev operated_from : View → (x y old : List ℕ) → Result State Fault
    operated_from view x y old = operated lanes type op in_type old y >>= written_by view x

    abbrev changed_from : View → (x y : List ℕ) → Result State Fault
    changed_from view x y = old_values (ToElements view x) lanes masked.state >>= operated_from view x y

    change_is : (x : Result (List ℕ) Fault) → value index lanes masked.state ≡ x
        → run p c lanes masked.state ≡ (x >>= λ x. value e lanes masked.state >>= changed_from (view_of masked.state array) x)
    change_is x is = by_index (value index lanes masked.state) ∙ ap (λ r. r >>= λ x. value e lanes masked.state >>= changed_from (view_of masked.state array) x) is
      where
        by_index : (r : Result (List ℕ) Fault)
            → ((r >>= λ x. Ok (ToElements (view_of masked.state array) x)) >>= λ written. value e lanes masked.state >>= λ y. old_values written lanes masked.state >>= λ old.
            operated lanes type op in_type old y >>= λ r. Ok (write written lanes (result_words lanes type in_type r) masked.state))
            ≡ (r >>= λ x. value e lanes masked.state >>= changed_from (view_of masked.state array) x)
        by_index (Ok x) = refl
        by_index (Err fault) = refl

    pub change_index_fails : (fault : Fault) → value index (waiting_in regions i level number) masked.state ≡ Err fault → FailsWith p masked fault
    change_index_fails fault is = put_fails p variables w regions masked shows i level n f number c target next fault (change_is (Err fault) is)

    module _ (x : List ℕ) (index_is : value index (waiting_in regions i level number) masked.state ≡ Ok x) where
      pub change_operand_fails : (fault : Fault) → value e (waiting_in regions i level number) masked.state ≡ Err fault → FailsWith p masked fault
      change_operand_fails fault is =
          put_fails p variables w regions masked shows i level n f number c target next fault
          (change_is (Ok x) index_is ∙ ap (λ r. r >>= changed_from (view_of masked.state array) x) is)

      module _ (y : List ℕ) (value_is : value e (waiting_in regions i level number) masked.state ≡ Ok y) where
        change_to : (old : Result (List ℕ) Fault) → try_each (waiting_in regions i level number) (λ k. element masked.state (view_at regions i array) (at x k)) ≡ old
            → run p c lanes masked.state ≡ (old >>= operated_from (view_at regions i array) x y)
        change_to old is =
            change_is (Ok x) index_is
            ∙ ap (λ r. r >>= changed_from (view_of masked.state array) x) value_is
            ∙ ap (λ view. changed_from view x y) (array_shown (Some (Put c target)) next array there)
            ∙ ap (λ r. r >>= operated_from (view_at regions i array) x y) is

        pub change_missing_fails : (fault : Fault) → try_each (waiting_in regions i level number) (λ k. element masked.state (view_at regions i array) (at x k)) ≡ Err fault → FailsWith p masked fault
        change_missing_fails fault is = put_fails p variables w regions masked shows i level n f number c target next fault (change_to (Err fault) is)

        module _ (old : List ℕ) (old_is : try_each (waiting_in regions i level number) (λ k. element masked.state (view_at regions i array) (at x k)) ≡ Ok old) where
          pub change_operation_fails : (fault : Fault) → operated (waiting_in regions i level number) type op in_type old y ≡ Err fault → FailsWith p masked fault
          change_operation_fails fault is =
              put_fails p variables w regions masked shows i level n f number c target next fault
              (change_to (Ok old) old_is ∙ ap (λ r. r >>= written_by (view_at regions i array) x) is)

          pub element_changes : (r : List ℕ) → operated (waiting_in regions i level number) type op in_type old y ≡ Ok r
              → GoesTo p variables w masked (sent_on i level (waiting_in regions i level number) (λ k. target)
              (stored_in (view_at regions i array) (waiting_in regions i level number) x (result_words (waiting_in regions i level number) type in_type r) regions))
          element_changes r is =
              put_goes p variables w regions masked shows i level n f number c target next (write (ToElements (view_at regions i array) x) lanes (result_words lanes type in_type r) masked.state)
              (stored_in (view_at regions i array) lanes x (result_words lanes type in_type r) regions)
              (change_to (Ok old) old_is ∙ ap (λ r. r >>= written_by (view_at regions i array) x) is)
              (stored_shows p variables w regions masked shows (view_at regions i array) lanes x (result_words lanes type in_type r))
              (array_depth _ regions (view_at regions i array).array ∙ next.depth)
