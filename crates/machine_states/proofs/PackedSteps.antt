-- Packed stores and loads.
use Rattle.std.proofs.Common.{◌≡◌, ap, ◌∙◌, subst, ℕ, List, [], ◌∷◌, length, Option, Some}
use Rattle.std.specs.Prelude.{Result, Ok, Err, IfOk}
use Rattle.gang_types.specs.declared.types.IntType.TheVariants.{Int32}
use Rattle.gang_types.specs.declared.places.VarId.{VarId}
use Rattle.gang_types.specs.declared.places.VarId.TheVariants.{File, Local}
use Rattle.gang_types.specs.Lanes.{Lanes}
use Rattle.gang_model.specs.Types.Tree.{Var, Expr, StepNumber, ResultFor, Nothing, Declares, Assigns, Returns, Stmt, PackedStore, PackedLoad, Function, Program}
use Rattle.gang_model.specs.Running.Lanes.{Fault, ◌>>=◌, each, members, try_each}
use Rattle.gang_model.specs.Running.Library.{rank}
use Rattle.gang_model.specs.Running.State.{Store, Frame, State, View, assigned_words, with_words_in, words_in}
use Rattle.gang_model.specs.Running.Value.{element, value}
use Rattle.gang_model.specs.Running.Step.{ToElements, ToVar, packed, part, run, write}
use Rattle.gang_model.proofs.LaneWords.{Fills, length-try_each}
use Rattle.mask_states.specs.Points.{Put}
use Rattle.mask_states.specs.Masked.{Masked}
use Rattle.machine_states.specs.Variables.{Variables, IsArray, IsScalar}
use Rattle.machine_states.specs.ArrayParts.{array_region, view_at}
use Rattle.machine_states.specs.WellScoped.{ResultWellScoped}
use Rattle.machine_states.specs.Regions.{FunctionOf, OfFile, OfLocal, Region, Regions, with_region}
use Rattle.machine_states.specs.Shows.{AreSized, Shows}
use Rattle.machine_states.specs.Effects.{assigned_in, assigned_region, region_of, sent_on, stored_in, stored_region}
use Rattle.machine_states.specs.Steps.{Delivers, FailsWith, GoesTo, IsNext, waiting_in}
use Rattle.machine_states.proofs.ChangedRegions.{array_depth, array_head, lengths_all, scalar_depth, scalar_head}
use Rattle.machine_states.proofs.DeliveredResults.{delivered_depth, delivered_shows}
use Rattle.machine_states.proofs.ElementSteps.{array_shown}
use Rattle.machine_states.proofs.LeaveSteps.{HasResult}
use Rattle.machine_states.proofs.PutSteps.{long, put_fails, put_goes, some}
use Rattle.machine_states.proofs.StoredElements.{length-stored, stored_shows}
use Rattle.machine_states.proofs.StoreEntries.{with_words_keeps}
use Rattle.machine_states.proofs.WrittenVariables.{HasVariable, assigned_shows}

-- ---- words enough

-- each region has as many words as before
pub sized_kept : (variables : Variables) (w : ℕ) (region : Region) (words : List ℕ) (old : Regions) → length words ≡ length (old region) → AreSized variables w old → AreSized variables w (with_region region words old)
sized_kept variables w region words old same sized = record {
  file = λ k v is well_scoped. lengths_all region words old same (OfFile k) ∙ sized.file k v is well_scoped;
  own = λ index n k v below is. lengths_all region words old same (OfLocal index k) ∙ sized.own index n k v below is;
}

-- ---- what a result is for is still there

variable_kept : (frames : List Frame) (memory : Store) (id v : VarId) (words : List ℕ) → HasVariable frames id → HasVariable (with_words_in (record { memory = memory; frames = frames }) v words).frames id
variable_kept frames memory (File k) v words has = tt
variable_kept [] memory (Local k) v words has = absurd has
variable_kept (frame ∷ frames) memory (Local k) (File m) words has = has
variable_kept (frame ∷ frames) memory (Local k) (Local m) words has = with_words_keeps frame.vars (Local m) words (Local k) has

result_kept : (frames : List Frame) (memory : Store) (for : ResultFor) (v : VarId) (words : List ℕ) → HasResult frames for → HasResult (with_words_in (record { memory = memory; frames = frames }) v words).frames for
result_kept frames memory Nothing v words has = tt
result_kept frames memory (Declares x) v words has = tt
result_kept frames memory (Assigns x) v words has = variable_kept frames memory x.id v words has
result_kept frames memory Returns v words has = tt

module _ (p : Program) (variables : Variables) (w : ℕ) (regions : Regions) (masked : Masked) (shows : Shows p variables w regions masked) (i level n : ℕ) (f : Function) (number : StepNumber) where
  abbrev lanes : Lanes
  lanes = waiting_in regions i level number

  abbrev pub ranks : List ℕ
  ranks = each (waiting_in regions i level number) (rank (waiting_in regions i level number))

  abbrev pub counts : List ℕ
  counts = each (waiting_in regions i level number) (λ k. length (members (waiting_in regions i level number)))

  -- ---- stores
  module _ (number' : StepNumber) (array : VarId) (from : Option Expr) (e : Expr) (for : ResultFor) (target : StepNumber)
      (next : IsNext p w regions i level n f number (Some (Put (PackedStore number' array from e for) target))) (there : IsArray variables n array) where
    abbrev s : Stmt
    s = PackedStore number' array from e for

    abbrev stored_to : View → List ℕ → List ℕ → Result State Fault
    stored_to view x found = Ok (packed p for lanes (write (ToElements view ranks) lanes x masked.state))

    abbrev packed_from : View → List ℕ → Result State Fault
    packed_from view x = try_each lanes (λ k. element masked.state view (rank lanes k)) >>= stored_to view x

    abbrev from_view : View → Result State Fault
    from_view view = value e lanes masked.state >>= packed_from view

    run_is : (view : Result View Fault) → part from (view_at regions i array) (waiting_in regions i level number) masked.state ≡ view → run p s lanes masked.state ≡ (view >>= from_view)
    run_is view is =
        ap (λ v. part from v lanes masked.state >>= from_view) (array_shown p variables w regions masked shows i level n f number (Some (Put s target)) next array there)
        ∙ ap (λ r. r >>= from_view) is

    pub part_fails : (fault : Fault) → part from (view_at regions i array) (waiting_in regions i level number) masked.state ≡ Err fault → FailsWith p masked fault
    part_fails fault is = put_fails p variables w regions masked shows i level n f number s target next fault (run_is (Err fault) is)

    module _ (view : View) (view_is : part from (view_at regions i array) (waiting_in regions i level number) masked.state ≡ Ok view) where
      pub pack_value_fails : (fault : Fault) → value e (waiting_in regions i level number) masked.state ≡ Err fault → FailsWith p masked fault
      pack_value_fails fault is = put_fails p variables w regions masked shows i level n f number s target next fault (run_is (Ok view) view_is ∙ ap (λ r. r >>= packed_from view) is)

      module _ (x : List ℕ) (value_is : value e (waiting_in regions i level number) masked.state ≡ Ok x) where
        pub rank_fails : (fault : Fault) → try_each (waiting_in regions i level number) (λ k. element masked.state view (rank (waiting_in regions i level number) k)) ≡ Err fault → FailsWith p masked fault
        rank_fails fault is =
            put_fails p variables w regions masked shows i level n f number s target next fault
            (run_is (Ok view) view_is ∙ ap (λ r. r >>= packed_from view) value_is ∙ ap (λ r. r >>= stored_to view x) is)

        -- the elements are stored to, and then the count is given
        pub packs : (found : List ℕ) → try_each (waiting_in regions i level number) (λ k. element masked.state view (rank (waiting_in regions i level number) k)) ≡ Ok found
            → AreSized variables w regions → ResultWellScoped variables n for → HasResult masked.state.frames for
            → (delivered : Regions) → Delivers w i f for Int32 (waiting_in regions i level number) counts (stored_in view (waiting_in regions i level number) ranks x regions) delivered
            → GoesTo p variables w masked (sent_on i level (waiting_in regions i level number) (λ k. target) delivered)
        packs found is sized well_scoped has delivered gives =
            let stored : Regions = stored_in view lanes ranks x regions in
            let after : List ℕ = stored_region view lanes ranks x (regions (array_region view.array)) in
            let depth = array_depth after regions view.array ∙ next.depth in
            put_goes p variables w regions masked shows i level n f number s target next (packed p for lanes (write (ToElements view ranks) lanes x masked.state)) delivered
            (run_is (Ok view) view_is ∙ ap (λ r. r >>= packed_from view) value_is ∙ ap (λ r. r >>= stored_to view x) is)
            (delivered_shows p variables w stored (record masked { state = write (ToElements view ranks) lanes x masked.state }) (stored_shows p variables w regions masked shows view lanes ranks x)
            (some p variables w regions masked shows i level n f number s target next) i n f depth (array_head after regions view.array i FunctionOf ∙ next.function) next.is_function
            (sized_kept variables w (array_region view.array) after regions (length-stored 0 lanes _ x (regions (array_region view.array))) sized)
            Int32 lanes counts (long p variables w regions masked shows i level n f number s target next) for delivered well_scoped has gives)
            (delivered_depth w i f for Int32 lanes counts stored delivered gives ∙ depth)

  -- ---- loads
  module _ (number' : StepNumber) (array : VarId) (from : Option Expr) (x : Var) (for : ResultFor) (target : StepNumber)
      (next : IsNext p w regions i level n f number (Some (Put (PackedLoad number' array from x for) target))) (there : IsArray variables n array) where
    abbrev l : Stmt
    l = PackedLoad number' array from x for

    abbrev loaded_to : List ℕ → Result State Fault
    loaded_to found = Ok (packed p for lanes (write (ToVar x) lanes found masked.state))

    abbrev load_from : View → Result State Fault
    load_from view = try_each lanes (λ k. element masked.state view (rank lanes k)) >>= loaded_to

    load_is : (view : Result View Fault) → part from (view_at regions i array) (waiting_in regions i level number) masked.state ≡ view → run p l lanes masked.state ≡ (view >>= load_from)
    load_is view is =
        ap (λ v. part from v lanes masked.state >>= load_from) (array_shown p variables w regions masked shows i level n f number (Some (Put l target)) next array there)
        ∙ ap (λ r. r >>= load_from) is

    pub load_part_fails : (fault : Fault) → part from (view_at regions i array) (waiting_in regions i level number) masked.state ≡ Err fault → FailsWith p masked fault
    load_part_fails fault is = put_fails p variables w regions masked shows i level n f number l target next fault (load_is (Err fault) is)

    module _ (view : View) (view_is : part from (view_at regions i array) (waiting_in regions i level number) masked.state ≡ Ok view) where
      pub load_rank_fails : (fault : Fault) → try_each (waiting_in regions i level number) (λ k. element masked.state view (rank (waiting_in regions i level number) k)) ≡ Err fault → FailsWith p masked fault
      load_rank_fails fault is = put_fails p variables w regions masked shows i level n f number l target next fault (load_is (Ok view) view_is ∙ ap (λ r. r >>= loaded_to) is)

      -- the variable has the elements, and then the count is given
      pub unpacks : (found : List ℕ) → try_each (waiting_in regions i level number) (λ k. element masked.state view (rank (waiting_in regions i level number) k)) ≡ Ok found
          → AreSized variables w regions → IsScalar variables n x → HasVariable masked.state.frames x.id → ResultWellScoped variables n for → HasResult masked.state.frames for
          → length (assigned_region x.rate (waiting_in regions i level number) found (regions (region_of i x.id))) ≡ length (regions (region_of i x.id))
          → (delivered : Regions) → Delivers w i f for Int32 (waiting_in regions i level number) counts (assigned_in i x.id x.rate (waiting_in regions i level number) found regions) delivered
          → GoesTo p variables w masked (sent_on i level (waiting_in regions i level number) (λ k. target) delivered)
      unpacks found is sized scalar there well_scoped has same delivered gives =
          let after : List ℕ = assigned_region x.rate lanes found (regions (region_of i x.id)) in
          let assigned : Regions = assigned_in i x.id x.rate lanes found regions in
          let wide = long p variables w regions masked shows i level n f number l target next in
          let full : length found ≡ w = subst (λ r. IfOk r (Fills lanes)) is (length-try_each lanes (λ k. element masked.state view (rank lanes k))) ∙ wide in
          let depth = scalar_depth after regions i x.id ∙ next.depth in
          put_goes p variables w regions masked shows i level n f number l target next (packed p for lanes (write (ToVar x) lanes found masked.state)) delivered
          (load_is (Ok view) view_is ∙ ap (λ r. r >>= loaded_to) is)
          (delivered_shows p variables w assigned (record { state = write (ToVar x) lanes found masked.state; levels = masked.levels })
          (assigned_shows p variables w i n regions masked shows next.depth next.function sized lanes found wide full x scalar there)
          (some p variables w regions masked shows i level n f number l target next) i n f depth (scalar_head after regions i x.id i FunctionOf ∙ next.function) next.is_function
          (sized_kept variables w (region_of i x.id) after regions same sized)
          Int32 lanes counts wide for delivered well_scoped
          (result_kept masked.state.frames masked.state.memory for x.id (assigned_words x.rate lanes found (words_in masked.state x.id)) has) gives)
          (delivered_depth w i f for Int32 lanes counts assigned delivered gives ∙ depth)
