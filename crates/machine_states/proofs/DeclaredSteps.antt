-- A step keeps what is declared: each frame has all variables that are declared before the steps that its lanes wait for.
use Rattle.std.proofs.Common.{◌≡◌, refl, sym, ap, ◌∙◌, subst, ℕ, zero, suc, ◌<◌, Bool, true, false, List, [], ◌∷◌, ◌++◌, length, slice_get, Option, Some, None, arith}
use Rattle.std.specs.Prelude.{map, slice_index_or, Result, Ok, Err, IfOk, ◌==◌, if◌then◌else◌}
use Rattle.gang_types.specs.declared.types.IntType.{IntType}
use Rattle.gang_types.specs.declared.types.IntType.TheVariants.{Int32}
use Rattle.gang_types.specs.Values.{binary_result, converted}
use Rattle.gang_types.specs.declared.places.VarId.{VarId}
use Rattle.gang_types.specs.declared.places.VarId.TheVariants.{File, Local}
use Rattle.gang_types.specs.declared.faults.FaultName.TheVariants.{CallDepth}
use Rattle.gang_types.specs.Lanes.{Lanes, has, lowest}
use Rattle.gang_model.specs.Running.Lanes.{Fault, ◌>>=◌, at, each, holds, try_each}
use Rattle.gang_model.specs.Types.Tree.{StepNumber, RoundsOf, Scalar, ElementOf, ResultFor, Nothing, Declares, Assigns, Returns, Stmt, Declare, Assign, Change, Return, Call, Check, PackedStore, PackedLoad, Function, Program}
use Rattle.gang_model.specs.Running.State.{Store, Frame, State, view_of, with_words, with_var, with_words_in}
use Rattle.gang_model.specs.Running.Rounds.{Turn as Round, rounds as form_rounds}
use Rattle.gang_model.specs.Running.Value.{value}
use Rattle.gang_model.specs.Running.RunningOrder.{IsNumberedProgram}
use Rattle.gang_model.specs.Running.Step.{Passed, ToElements, old_values, part, passed, write, initial, new_frame, entered, returned_on, deliver, left, leave, run, with_store}
use Rattle.gang_model.proofs.LaneWords.{if_ok_bind, if_ok_after, if_or_ok}
use Rattle.mask_states.specs.Points.{Point, Put, Go, Branch, Choose, Begin, Turn, Enter, entry_of, closing_number, points_in}
use Rattle.mask_states.specs.Placed.{HasPoint}
use Rattle.mask_states.specs.Masked.{Level, Masked, next_in, next_waiting, sent, sent_in, closed, begun, entered_body}
use Rattle.mask_states.specs.MaskedStep.{untasked_frame, untasked, points_at, points_for, Acted, segment_of, chosen, turn_taken, entered_levels, act, past_point, past_call, past_calls, MaskedStepped, Goes, Fails, Over, acted, step_point, step_levels, masked_step}
use Rattle.mask_states.proofs.LaneNumbers.{length-waiting_for}
use Rattle.machine_states.specs.Variables.{Variables}
use Rattle.machine_states.specs.WellScoped.{IsWellScoped, IsWellScopedProgram}
use Rattle.machine_states.specs.Regions.{OpenOf, OfHead, Regions}
use Rattle.machine_states.specs.RoundNumbers.{NumberedForm, numbered_form, numbered_about, innermost_rounds, rounds_about}
use Rattle.machine_states.specs.Awaited.{LevelHolds, EndHolds, LevelsHold}
use Rattle.machine_states.specs.Declared.{own_number, declared_by_result, declared_by_form, declared_by, scalar_parameters, declared_before, HasAll, IsAwaited, FrameDeclared, FramesDeclared, AreDeclared}
use Rattle.machine_states.specs.Levels.{ShowsLevels}
use Rattle.machine_states.specs.Shows.{level_words, ShowsCall, ShowsFrames, Shows}
use Rattle.machine_states.proofs.DeclaredLists.{same_some, IsWithin, before_end}
use Rattle.machine_states.proofs.DeclaredPoints.{IsWellScopedPut, IsWellScopedPoint, well_scoped_point, AreLed, LeadsDeclared, point_leads, first_declared}
use Rattle.machine_states.proofs.StoreEntries.{Keeps, keeps_itself, with_words_keeps, with_words_has, has_all_kept, has_all_within, has_all_both, has_own, passed_has}
use Rattle.machine_states.proofs.NestedPoints.{StandIn, LeadsInside, nested_alike, closing_nested, first_nested, point_inside, begins_nested, begins_turn}
use Rattle.machine_states.proofs.AwaitedLevels.{Waits, waits_below, next_holds, IsNoTurn, point_below, next_inside, sent_inside, begun_inside, EndsAt, ends_at, turned_holds, begun_holds, entered_holds, sent_on_holds, end_kept, levels_kept, closed_holds}
use Rattle.machine_states.proofs.TurnLevels.{own_numbers, IsFormLevel, shown_form_level, IsAtEnd, turn_at_end}

-- ---- a frame that gets variables

-- the top frame is that of the same function, has all variables that it had, and these
pub record Grows (frame : Frame) (frames : List Frame) (d : List ℕ) (after : List Frame) : Type 0 where
  pub top : Frame
  pub are : after ≡ top ∷ frames
  pub function : top.function ≡ frame.function
  pub keeps : Keeps frame.vars top.vars
  pub has_all : HasAll d top.vars

stays : (frame : Frame) (frames : List Frame) → Grows frame frames [] (frame ∷ frames)
stays frame frames = record { top = frame; are = refl; function = refl; keeps = keeps_itself frame.vars; has_all = λ k among. absurd among }

grows_less : (frame : Frame) (frames : List Frame) (d : List ℕ) (after : List Frame) → Grows frame frames d after → Grows frame frames [] after
grows_less frame frames d after g = record { top = g.top; are = g.are; function = g.function; keeps = g.keeps; has_all = λ k among. absurd among }

module _ (memory : Store) (frame : Frame) (frames : List Frame) where
  abbrev state : State
  state = record { memory = memory; frames = frame ∷ frames }

  -- words are set
  words_grow : (v : VarId) (words : List ℕ) → Grows frame frames (own_number v) (with_words_in state v words).frames
  words_grow (File n) words = stays frame frames
  words_grow (Local n) words = record {
    top = with_var (Local n) words frame;
    are = refl;
    function = refl;
    keeps = with_words_keeps frame.vars (Local n) words;
    has_all = has_own (Local n) (with_words frame.vars (Local n) words) (with_words_has frame.vars (Local n) words);
  }

  returned_grows : (f : Option Function) (type : IntType) (lanes : Lanes) (values : List ℕ) → Grows frame frames [] (returned_on f type lanes values frame ∷ frames)
  returned_grows None type lanes values = stays frame frames
  returned_grows (Some f) type lanes values = record { top = _; are = refl; function = refl; keeps = keeps_itself frame.vars; has_all = λ k among. absurd among }

  -- a result is given to the caller
  delivered_grows : (p : Program) (type : IntType) (result_for : ResultFor) (lanes : Lanes) (values : List ℕ) → Grows frame frames (declared_by_result result_for) (deliver p type result_for lanes values state).frames
  delivered_grows p type Nothing lanes values = stays frame frames
  delivered_grows p type (Declares x) lanes values = words_grow x.id _
  delivered_grows p type (Assigns x) lanes values = grows_less frame frames (own_number x.id) _ (words_grow x.id _)
  delivered_grows p type Returns lanes values = returned_grows (slice_get p.functions frame.function) type lanes values

  left_grows : (p : Program) (above : Frame) (f : Function) → slice_get p.functions above.function ≡ Some f → Grows frame frames (declared_by_result above.result_for) (leave p above state).frames
  left_grows p above f is =
      subst (λ o. Grows frame frames (declared_by_result above.result_for) (left p o above state).frames) (sym is)
      (delivered_grows p f.result_type above.result_for above.lanes _)

-- a variable has words, and then a result is given
loaded_grows : (memory : Store) (frame : Frame) (frames : List Frame) (p : Program) (v : VarId) (words : List ℕ) (result_for : ResultFor) (lanes : Lanes) (values : List ℕ)
    → Grows frame frames (declared_by_result result_for) (deliver p Int32 result_for lanes values (with_words_in (record { memory = memory; frames = frame ∷ frames }) v words)).frames
loaded_grows memory frame frames p (File n) words result_for lanes values = delivered_grows _ frame frames p Int32 result_for lanes values
loaded_grows memory frame frames p (Local n) words result_for lanes values =
    let later = delivered_grows memory (with_var (Local n) words frame) frames p Int32 result_for lanes values in
    record {
      top = later.top;
      are = later.are;
      function = later.function;
      keeps = λ v h. later.keeps v (with_words_keeps frame.vars (Local n) words v h);
      has_all = later.has_all;
    }

-- several variables have words
store_grows : (store memory : Store) (frame : Frame) (frames : List Frame)
    → Grows frame frames (own_numbers store) (with_store store (record { memory = memory; frames = frame ∷ frames })).frames
store_grows [] memory frame frames = stays frame frames
store_grows ((File n, words) ∷ store) memory frame frames = store_grows store (with_words memory (File n) words) frame frames
store_grows ((Local n, words) ∷ store) memory frame frames =
    let now : Store = with_words frame.vars (Local n) words in
    let later = store_grows store memory (with_var (Local n) words frame) frames in
    record {
      top = later.top;
      are = later.are;
      function = later.function;
      keeps = λ v h. later.keeps v (with_words_keeps frame.vars (Local n) words v h);
      has_all = has_all_both (n ∷ []) (own_numbers store) later.top.vars
          (has_all_kept (n ∷ []) now later.top.vars later.keeps (has_own (Local n) now (with_words_has frame.vars (Local n) words))) later.has_all;
    }

module _ (memory : Store) (frame : Frame) (frames : List Frame) where
  abbrev under_way : State
  under_way = record { memory = memory; frames = frame ∷ frames }

  -- a statement is done
  run_grows : (variables : Variables) (m : ℕ) (p : Program) (s : Stmt) (lanes : Lanes) → IsWellScopedPut variables m s → IfOk (run p s lanes under_way) (λ after. Grows frame frames (declared_by s) after.frames)
  run_grows variables m p (Declare number x e) lanes well_scoped = if_ok_after _ (initial e lanes under_way) _ (λ values. words_grow memory frame frames x.id _)
  run_grows variables m p (Assign number (Scalar x) e) lanes well_scoped =
      if_ok_after _ (value e lanes under_way) _ (λ values. grows_less frame frames (own_number x.id) _ (words_grow memory frame frames x.id _))
  run_grows variables m p (Assign number (ElementOf array rate index) e) lanes well_scoped = by_index (value index lanes under_way)
    where
      by_index : (r : Result (List ℕ) Fault) → IfOk ((r >>= λ x. Ok (ToElements (view_of under_way array) x)) >>= λ written. value e lanes under_way >>= λ y. old_values written lanes under_way >>= λ old. Ok (write written lanes y under_way)) (λ after. Grows frame frames [] after.frames)
      by_index (Ok x) = if_ok_after _ (value e lanes under_way) _ (λ y. if_ok_after _ (try_each lanes _) _ (λ old. stays frame frames))
      by_index (Err fault) = tt
  run_grows variables m p (Change number (Scalar x) type op in_type e) lanes well_scoped =
      if_ok_after _ (value e lanes under_way) _ (λ y. if_ok_after _ (try_each lanes _) _ (λ values. grows_less frame frames (own_number x.id) _ (words_grow memory frame frames x.id _)))
  run_grows variables m p (Change number (ElementOf array rate index) type op in_type e) lanes well_scoped = by_index (value index lanes under_way)
    where
      by_index : (r : Result (List ℕ) Fault) → IfOk ((r >>= λ x. Ok (ToElements (view_of under_way array) x)) >>= λ written. value e lanes under_way >>= λ y. old_values written lanes under_way >>= λ old.
          try_each lanes (λ k. binary_result op in_type (converted type in_type (at old k)) (at y k)) >>= λ z. Ok (write written lanes (each lanes (λ k. converted in_type type (at z k))) under_way)) (λ after. Grows frame frames [] after.frames)
      by_index (Ok x) = if_ok_after _ (value e lanes under_way) _ (λ y. if_ok_after _ (try_each lanes _) _ (λ old. if_ok_after _ (try_each lanes _) _ (λ z. stays frame frames)))
      by_index (Err fault) = tt
  run_grows variables m p (Return number e) lanes well_scoped = if_ok_after _ (initial e lanes under_way) _ (λ values.
      record { top = _; are = refl; function = refl; keeps = keeps_itself frame.vars; has_all = λ k among. absurd among })
  run_grows variables m p (Check number e) lanes well_scoped = if_ok_after _ (value e lanes under_way) _ (λ c. if_ok_after _ (try_each lanes _) _ (λ passes. stays frame frames))
  run_grows variables m p (PackedStore number array from e result_for) lanes well_scoped =
      if_ok_after _ (part from (view_of under_way array) lanes under_way) _ (λ view. if_ok_after _ (value e lanes under_way) _ (λ x. if_ok_after _ (try_each lanes _) _
      (λ there. delivered_grows _ frame frames p Int32 result_for lanes _)))
  run_grows variables m p (PackedLoad number array from v result_for) lanes well_scoped =
      if_ok_after _ (part from (view_of under_way array) lanes under_way) _ (λ view. if_ok_after _ (try_each lanes _) _ (λ x. loaded_grows memory frame frames p v.id _ result_for lanes _))
  run_grows variables m p s lanes well_scoped = absurd well_scoped

-- no frame is left
none_words : (memory : Store) (v : VarId) (words : List ℕ) → (with_words_in (record { memory = memory; frames = [] }) v words).frames ≡ []
none_words memory (File n) words = refl
none_words memory (Local n) words = refl

none_delivered : (p : Program) (memory : Store) (type : IntType) (result_for : ResultFor) (lanes : Lanes) (values : List ℕ) → (deliver p type result_for lanes values (record { memory = memory; frames = [] })).frames ≡ []
none_delivered p memory type Nothing lanes values = refl
none_delivered p memory type (Declares x) lanes values = none_words memory x.id _
none_delivered p memory type (Assigns x) lanes values = none_words memory x.id _
none_delivered p memory type Returns lanes values = refl

none_left : (p : Program) (memory : Store) (above : Frame) (f : Option Function) → (left p f above (record { memory = memory; frames = [] })).frames ≡ []
none_left p memory above None = refl
none_left p memory above (Some f) = none_delivered p memory f.result_type above.result_for above.lanes _

-- ---- steps

-- what holds of the state that a step leads to
abbrev pub IfGoes : MaskedStepped → (Masked → Type 0) → Type 0
IfGoes (Goes masked) P = P masked
IfGoes (Fails fault) P = Unit {0}
IfGoes Over P = Unit {0}

pub goes_at : (P : Masked → Type 0) (stepped : MaskedStepped) (next : Masked) → stepped ≡ Goes next → IfGoes stepped P → P next
goes_at P stepped next e h = subst (λ z. IfGoes z P) e h

module _ (variables : Variables) (most : ℕ) (p : Program) (well_scoped : IsWellScopedProgram variables most p) (numbered : IsNumberedProgram p) where
  -- a frame by its function
  pub frame_declared : (frame : Frame) (levels : List Level) (n : ℕ) (f : Function) → slice_get p.functions n ≡ Some f → frame.function ≡ n
      → LevelsHold (IsAwaited variables n f frame.vars) f levels → FrameDeclared variables p frame levels
  frame_declared frame levels n f is same h g is_g =
      let g_is : slice_get p.functions n ≡ Some g = subst (λ m. slice_get p.functions m ≡ Some g) same is_g in
      let equal : f ≡ g = same_some f g (sym is ∙ g_is) in
      subst (λ m. LevelsHold (IsAwaited variables m g frame.vars) g levels) (sym same)
      (subst (λ z. LevelsHold (IsAwaited variables n z frame.vars) z levels) equal h)

  -- past the closing brace nothing more is declared than at it, and no form stands round either
  pub closing_awaited : (n : ℕ) (f : Function) (vars : Store) → EndsAt (IsAwaited variables n f vars 0) (closing_number f)
  closing_awaited n f vars number past awaited = record {
    has_all = subst (λ d. HasAll d vars) (before_end variables n f number past ∙ sym (before_end variables n f (closing_number f) (omega arith))) awaited.has_all;
    nested = closing_nested f (closing_number f) (omega arith);
  }

  -- a body begins for some lanes, of a frame with the parameters
  pub entered_awaited : (n : ℕ) (f : Function) → slice_get p.functions n ≡ Some f → (vars : Store) → HasAll (scalar_parameters variables n) vars → (lanes : Lanes)
      → (k : ℕ) → has lanes k ≡ true → k < length lanes → LevelsHold (IsAwaited variables n f vars) f (entered_body f lanes ∷ [])
  entered_awaited n f is vars parameters lanes k in_lanes within =
      let before : StepNumber → List ℕ = declared_before variables n f in
      let first : IsAwaited variables n f vars 0 (entry_of f.body (closing_number f)) = record {
        has_all = has_all_within (before (entry_of f.body (closing_number f))) (scalar_parameters variables n) vars (first_declared variables n f (numbered n f is)) parameters;
        nested = first_nested f (numbered n f is);
      } in
      (entered_holds (IsAwaited variables n f vars 0) f lanes (closing_awaited n f vars) k in_lanes within first, refl, tt)

  -- frames without their tasks
  untasked_declared : (frames : List Frame) (rest : List (List Level)) → FramesDeclared variables p frames rest → FramesDeclared variables p (map untasked_frame frames) rest
  untasked_declared [] rest h = tt
  untasked_declared (frame ∷ frames) [] h = tt
  untasked_declared (frame ∷ frames) (levels ∷ rest) h = (h.0, untasked_declared frames rest h.1)

  -- the lanes of a frame's next step go on
  module _ (frame : Frame) (f : Function) (is : slice_get p.functions frame.function ≡ Some f) (level : Level) (below : List Level) where
    abbrev before : StepNumber → List ℕ
    before = declared_before variables frame.function f

    abbrev IsAwaitedWith : Store → (depth : ℕ) → StepNumber → Type 0
    IsAwaitedWith = IsAwaited variables frame.function f

    abbrev HoldsHere : Type 0
    HoldsHere = LevelsHold (IsAwaitedWith frame.vars) f (level ∷ below)

    more_awaited : (more : Store) → Keeps frame.vars more → (depth : ℕ) (number : StepNumber) → IsAwaitedWith frame.vars depth number → IsAwaitedWith more depth number
    more_awaited more keeps depth number h = record { has_all = has_all_kept (before number) frame.vars more keeps h.has_all; nested = h.nested }

    -- past a body's end
    past_awaited : (more : Store) (lower : List Level) → lower ≡ [] → EndsAt (IsAwaitedWith more (length lower)) (closing_number f)
    past_awaited more lower none = subst (λ ls. EndsAt (IsAwaitedWith more (length ls)) (closing_number f)) (sym none) (closing_awaited frame.function f more)

    -- what holds of the levels of the frame that gets variables
    frame_after : (frames after : List Frame) (rest : List (List Level)) (d : List ℕ) (g : Grows frame frames d after) (levels : List Level) → LevelsHold (IsAwaitedWith g.top.vars) f levels
        → FramesDeclared variables p frames rest → FramesDeclared variables p after (closed levels ∷ rest)
    frame_after frames after rest d g levels holds lower =
        subst (λ fs. FramesDeclared variables p fs (closed levels ∷ rest)) (sym g.are)
        (frame_declared g.top (closed levels) frame.function f is g.function (closed_holds (IsAwaitedWith g.top.vars) f levels holds), lower)

    -- at a point that is no round the lanes are sent to steps in the same forms, before which no more is declared than there is
    sent_levels : (point : Point) → HasPoint (points_in f) (next_in level) point → IsNoTurn point → HoldsHere → (more : Store) → Keeps frame.vars more → (target : ℕ → StepNumber)
        → ((j : ℕ) → HasAll (before (target j)) more) → ((j : ℕ) → numbered_about f (target j) ≡ numbered_about f (next_in level))
        → LevelsHold (IsAwaitedWith more) f (sent_in (next_waiting level) target level ∷ below)
    sent_levels point h unturned declared more keeps target has inside =
        let Old : ℕ → StepNumber → Type 0 = IsAwaitedWith frame.vars in
        let New : ℕ → StepNumber → Type 0 = IsAwaitedWith more in
        let kept = more_awaited more keeps in
        let low : next_in level < level.end = point_below (Old (length below)) f level below point declared.1 unturned h in
        let now : IsAwaitedWith frame.vars (length below) (next_in level) = next_holds (Old (length below)) level declared.0 in
        let new : (j : ℕ) → IsAwaitedWith more (length below) (target j) =
        λ j. record { has_all = has j; nested = nested_alike f (target j) (next_in level) (inside j) ∙ now.nested } in
        let end = end_kept Old New f kept level below declared.1 in (
          sent_on_holds (Old (length below)) (New (length below)) level target (ends_at (New (length below)) f level below end (past_awaited more below)) low declared.0 (kept (length below)) new,
          end_sent (next_waiting level) target (λ j. ap innermost_rounds (inside j)) low below end,
          levels_kept Old New f kept below declared.2,
        )
      where
        end_sent : (lanes : Lanes) (target : ℕ → StepNumber) → ((j : ℕ) → rounds_about f (target j) ≡ rounds_about f (next_in level)) → next_in level < level.end
            → (lower : List Level) → EndHolds (IsAwaitedWith more (length lower)) f level lower → EndHolds (IsAwaitedWith more (length lower)) f (sent_in lanes target level) lower
        end_sent lanes target same low [] end = end
        end_sent lanes target same low (next ∷ lower) end =
            (end.0, end.1, sent_inside f level level.turns lanes target end.2 (λ j. same j ∙ next_inside f level end.2 low))

    moves_on : (point : Point) → HasPoint (points_in f) (next_in level) point → IsNoTurn point → HoldsHere
        → (frames after : List Frame) (rest : List (List Level)) (d : List ℕ) (target : ℕ → StepNumber) → Grows frame frames d after
        → ((j : ℕ) → IsWithin (before (target j)) (d ++ before (next_in level))) → ((j : ℕ) → numbered_about f (target j) ≡ numbered_about f (next_in level))
        → FramesDeclared variables p frames rest → FramesDeclared variables p after (closed (sent_in (next_waiting level) target level ∷ below) ∷ rest)
    moves_on point h unturned declared frames after rest d target g within inside lower =
        let now = more_awaited g.top.vars g.keeps (length below) (next_in level) (next_holds (IsAwaitedWith frame.vars (length below)) level declared.0) in
        frame_after frames after rest d g (sent_in (next_waiting level) target level ∷ below)
        (sent_levels point h unturned declared g.top.vars g.keeps target
        (λ j. has_all_within (before (target j)) (d ++ before (next_in level)) g.top.vars (within j) (has_all_both d (before (next_in level)) g.top.vars g.has_all now.has_all)) inside) lower

    -- a form begins in a level of its own, in which all lanes wait for its rounds
    begins : (form : RoundsOf) (rounds next : StepNumber) → HasPoint (points_in f) (next_in level) (Begin form rounds next) → HoldsHere
        → (turns : List Round) (frames : List Frame) (rest : List (List Level))
        → LeadsDeclared before (numbered_about f) (next_in level) (Begin form rounds next) → LeadsInside (numbered_about f) (next_in level) (Begin form rounds next)
        → FramesDeclared variables p frames rest
        → FramesDeclared variables p (frame ∷ frames) (closed (begun rounds turns level.numbers ∷ sent_in (next_waiting level) (λ k. next) level ∷ below) ∷ rest)
    unfolding stays
    begins form rounds next h declared turns frames rest leads inside lower =
        let now : IsAwaitedWith frame.vars (length below) (next_in level) = next_holds (IsAwaitedWith frame.vars (length below)) level declared.0 in
        let sent = sent_in (next_waiting level) (λ k. next) level in
        let waits : IsAwaitedWith frame.vars (length (sent ∷ below)) rounds = record {
          has_all = has_all_within (before rounds) (before (next_in level)) frame.vars leads.0 now.has_all;
          nested = begins_nested f (numbered frame.function f is) (next_in level) form rounds next h ∙ ap suc now.nested;
        } in
        frame_after frames (frame ∷ frames) rest [] (stays frame frames) (begun rounds turns level.numbers ∷ sent ∷ below) (
          begun_holds (IsAwaitedWith frame.vars (length (sent ∷ below))) rounds turns level.numbers waits,
          (waits, begins_turn f (numbered frame.function f is) (next_in level) form rounds next h, begun_inside f rounds turns level.numbers),
          sent_levels (Begin form rounds next) h tt declared frame.vars (keeps_itself frame.vars) (λ k. next)
              (λ j. has_all_within (before next) (before (next_in level)) frame.vars leads.1 now.has_all) (λ j. inside.1),
        ) lower

    -- the next round begins: its lanes go to the body with its index variables
    turns_on : (body : StepNumber) → HasPoint (points_in f) (next_in level) (Turn body) → HoldsHere → ((next : Level) (under : List Level) → below ≡ next ∷ under → IsFormLevel (points_in f) level)
        → (memory : Store) (frames : List Frame) (rest : List (List Level))
        → LeadsDeclared before (numbered_about f) (next_in level) (Turn body) → LeadsInside (numbered_about f) (next_in level) (Turn body)
        → FramesDeclared variables p frames rest → (turns : List Round) → level.turns ≡ turns
        → FramesDeclared variables p (turn_taken body turns (state memory frame frames) level below).state.frames ((turn_taken body turns (state memory frame frames) level below).levels ++ rest)
    turns_on body h declared in_form memory frames rest leads inside lower [] none = (frame_declared frame (level ∷ below) frame.function f is refl declared, lower)
    turns_on body h declared in_form memory frames rest leads inside lower (first ∷ later) turns_are =
        let numbers = numbered frame.function f is in
        let here : IsAtEnd level below = turn_at_end variables frame.function f frame.vars numbers level below declared body h in
        let form : IsFormLevel (points_in f) level = in_form here.next here.under here.below_are in
        let about : numbered_about f (next_in level) ≡ numbered_form level.end form.form ∷ numbered_about f form.head =
        ap (numbered_about f) here.at_end ∙ (point_inside f numbers form.head (Begin form.form level.end form.next) form.begins).0 in
        let g : Grows frame frames (own_numbers first.indices) (with_store first.indices (state memory frame frames)).frames = store_grows first.indices memory frame frames in
        let now : IsAwaitedWith g.top.vars (length below) (next_in level) =
        more_awaited g.top.vars g.keeps (length below) (next_in level) (next_holds (IsAwaitedWith frame.vars (length below)) level declared.0) in
        let new : IsAwaitedWith g.top.vars (length below) body = record {
          has_all = has_all_within (before body) (declared_by_form form.form ++ before (next_in level)) g.top.vars
              (leads (numbered_form level.end form.form) (numbered_about f form.head) about)
              (has_all_both (declared_by_form form.form) (before (next_in level)) g.top.vars (subst (λ d. HasAll d g.top.vars) (form.declares first later turns_are) g.has_all) now.has_all);
          nested = nested_alike f body (next_in level) inside.0 ∙ now.nested;
        } in
        let kept = more_awaited g.top.vars g.keeps in
        let end = end_kept (IsAwaitedWith frame.vars) (IsAwaitedWith g.top.vars) f kept level below declared.1 in
        let old : LevelHolds (IsAwaitedWith g.top.vars (length below)) level = (levels_kept (IsAwaitedWith frame.vars) (IsAwaitedWith g.top.vars) f kept (level ∷ below) declared).0 in
        frame_after frames (with_store first.indices (state memory frame frames)).frames rest (own_numbers first.indices) g
        (record level { turns = later; numbers = sent first.lanes (λ k. body) level.numbers } ∷ below) (
          turned_holds (IsAwaitedWith g.top.vars (length below)) level later first.lanes body old (subst (IsAwaitedWith g.top.vars (length below)) here.at_end now) new,
          end_turned g.top.vars below end here.below_are (ap innermost_rounds (inside.0 ∙ about)),
          levels_kept (IsAwaitedWith frame.vars) (IsAwaitedWith g.top.vars) f kept below declared.2,
        ) lower
      where
        end_turned : (vars : Store) (under : List Level) → EndHolds (IsAwaitedWith vars (length under)) f level under → {next : Level} {others : List Level} → under ≡ next ∷ others
            → rounds_about f body ≡ Some level.end
            → EndHolds (IsAwaitedWith vars (length under)) f (record level { turns = later; numbers = sent first.lanes (λ k. body) level.numbers }) under
        end_turned vars [] end e same = absurd cc
        end_turned vars (next ∷ under) end e same = (end.0, end.1, sent_inside f level later first.lanes (λ k. body) end.2 (λ j. same))

    -- a frame begins for the lanes of a call
    enters : (number : StepNumber) (result_for : ResultFor) (n : ℕ) (o : Option Function) → slice_get p.functions n ≡ o → (a : Passed) → HasAll (scalar_parameters variables n) a.vars
        → next_in level < level.end → HoldsHere
        → (memory : Store) (frames : List Frame) (rest : List (List Level)) → FramesDeclared variables p frames rest
        → IfOk (entered o n number result_for a (next_waiting level) (record { memory = memory; frames = frame ∷ frames }))
        (λ after. FramesDeclared variables p (untasked after).frames ((entered_levels o (next_waiting level) ++ (level ∷ below) ∷ []) ++ rest))
    enters number result_for n None o_is a has_all low declared memory frames rest lower =
        (frame_declared frame (level ∷ below) frame.function f is refl declared, untasked_declared frames rest lower)
    enters number result_for n (Some g) o_is a has_all low declared memory frames rest lower =
        let lanes : Lanes = next_waiting level in
        let w : Waits level = waits_below level low in
        let long : w.lane < length lanes = omega (arith, w.within, length-waiting_for (next_in level) level.numbers) in
        let begun = entered_awaited n g o_is a.vars has_all lanes w.lane w.waiting long in
        if_or_ok _ (length (frame ∷ frames) == 64) (record { name = CallDepth; lane = lowest lanes }) _ (
          frame_declared (untasked_frame (new_frame n g lanes (Some number) result_for a)) (entered_body g lanes ∷ []) n g o_is refl begun,
          (frame_declared frame (level ∷ below) frame.function f is refl declared, untasked_declared frames rest lower),
        )

    branch_within : (b : Bool) (yes' no' : StepNumber) (d : List ℕ) → IsWithin (before yes') d → IsWithin (before no') d → IsWithin (before (if b then yes' else no')) d
    branch_within true yes' no' d y n = y
    branch_within false yes' no' d y n = n

    branch_inside : (b : Bool) (yes' no' : StepNumber) (forms : List NumberedForm) → numbered_about f yes' ≡ forms → numbered_about f no' ≡ forms → numbered_about f (if b then yes' else no') ≡ forms
    branch_inside true yes' no' forms y n = y
    branch_inside false yes' no' forms y n = n

    -- a lane goes to the entry of a segment, or behind the switch
    entry_within : (d : List ℕ) (entries : List StepNumber) (i : ℕ) (next : StepNumber) → AreLed before d entries → IsWithin (before next) d → IsWithin (before (slice_index_or entries i next)) d
    entry_within d [] i next led past = past
    entry_within d (entry ∷ entries) zero next led past = led.0
    entry_within d (entry ∷ entries) (suc i) next led past = entry_within d entries i next led.1 past

    chosen_within : (d : List ℕ) (entries : List StepNumber) (next : StepNumber) (segment : Option ℕ) → AreLed before d entries → IsWithin (before next) d
        → IsWithin (before (chosen entries next segment)) d
    chosen_within d entries next None led past = past
    chosen_within d entries next (Some i) led past = entry_within d entries i next led past

    entry_inside : (forms : List NumberedForm) (entries : List StepNumber) (i : ℕ) (next : StepNumber) → StandIn (numbered_about f) forms entries → numbered_about f next ≡ forms
        → numbered_about f (slice_index_or entries i next) ≡ forms
    entry_inside forms [] i next stand past = past
    entry_inside forms (entry ∷ entries) zero next stand past = stand.0
    entry_inside forms (entry ∷ entries) (suc i) next stand past = entry_inside forms entries i next stand.1 past

    chosen_inside : (forms : List NumberedForm) (entries : List StepNumber) (next : StepNumber) (segment : Option ℕ) → StandIn (numbered_about f) forms entries → numbered_about f next ≡ forms
        → numbered_about f (chosen entries next segment) ≡ forms
    chosen_inside forms entries next None stand past = past
    chosen_inside forms entries next (Some i) stand past = entry_inside forms entries i next stand past

    -- what a point does
    acts : (point : Point) → HasPoint (points_in f) (next_in level) point → HoldsHere
        → (memory : Store) (frames : List Frame) (rest : List (List Level)) → FramesDeclared variables p frames rest
        → LeadsDeclared before (numbered_about f) (next_in level) point → LeadsInside (numbered_about f) (next_in level) point → IsWellScopedPoint variables frame.function (next_in level) point
        → ((next : Level) (under : List Level) → below ≡ next ∷ under → IsFormLevel (points_in f) level)
        → IfOk (act p (next_in level) point (next_waiting level) (record { memory = memory; frames = frame ∷ frames }) level below)
        (λ a. FramesDeclared variables p a.state.frames (a.levels ++ rest))
    acts (Put s next) h declared memory frames rest lower leads inside well_scoped_point in_form =
        if_ok_bind (λ after. Grows frame frames (declared_by s) after.frames) _ (run p s (next_waiting level) (state memory frame frames)) _
        (run_grows memory frame frames variables frame.function p s (next_waiting level) well_scoped_point)
        (λ after g. moves_on (Put s next) h tt declared frames after.frames rest (declared_by s) (λ k. next) g (λ k. leads) (λ k. inside) lower)
    acts (Go next) h declared memory frames rest lower leads inside well_scoped_point in_form =
        moves_on (Go next) h tt declared frames (frame ∷ frames) rest [] (λ k. next) (stays frame frames) (λ k. leads) (λ k. inside) lower
    acts (Branch test yes' no') h declared memory frames rest lower leads inside well_scoped_point in_form =
        if_ok_after _ (value test (next_waiting level) (state memory frame frames)) _
        (λ c. moves_on (Branch test yes' no') h tt declared frames (frame ∷ frames) rest [] (λ k. if holds c k then yes' else no') (stays frame frames)
        (λ k. branch_within (holds c k) yes' no' (before (next_in level)) leads.0 leads.1)
        (λ k. branch_inside (holds c k) yes' no' (numbered_about f (next_in level)) inside.0 inside.1) lower)
    acts (Choose e segments entries next) h declared memory frames rest lower leads inside well_scoped_point in_form =
        if_ok_after _ (value e (next_waiting level) (state memory frame frames)) _
        (λ x. moves_on (Choose e segments entries next) h tt declared frames (frame ∷ frames) rest [] (λ k. chosen entries next (segment_of segments (at x k))) (stays frame frames)
        (λ k. chosen_within (before (next_in level)) entries next (segment_of segments (at x k)) leads.0 leads.1)
        (λ k. chosen_inside (numbered_about f (next_in level)) entries next (segment_of segments (at x k)) inside.0 inside.1) lower)
    acts (Begin form rounds next) h declared memory frames rest lower leads inside well_scoped_point in_form =
        if_ok_after _ (form_rounds form (next_waiting level) (state memory frame frames)) _ (λ turns. begins form rounds next h declared turns frames rest leads inside lower)
    acts (Turn body) h declared memory frames rest lower leads inside well_scoped_point in_form =
        turns_on body h declared in_form memory frames rest leads inside lower level.turns refl
    acts (Enter n args result_for next) h declared memory frames rest lower leads inside well_scoped_point in_form =
        let s : State = state memory frame frames in
        let lanes : Lanes = next_waiting level in
        let low : next_in level < level.end = point_below (IsAwaitedWith frame.vars (length below)) f level below (Enter n args result_for next) declared.1 tt h in
        let run_enters : IfOk (run p (Call (next_in level) n args result_for) lanes s)
        (λ after. FramesDeclared variables p (untasked after).frames ((entered_levels (slice_get p.functions n) lanes ++ (level ∷ below) ∷ []) ++ rest)) =
        if_ok_bind (λ a. HasAll (scalar_parameters variables n) a.vars) _ (passed args lanes s) _
        (passed_has variables frame.function n lanes s args well_scoped_point.0)
        (λ a has_all. enters (next_in level) result_for n (slice_get p.functions n) refl a has_all low declared memory frames rest lower) in
        if_ok_bind (λ after. FramesDeclared variables p (untasked after).frames ((entered_levels (slice_get p.functions n) lanes ++ (level ∷ below) ∷ []) ++ rest)) _
        (run p (Call (next_in level) n args result_for) lanes s) _ run_enters (λ after d. d)

  if_acted : (r : Result Acted Fault) (rest : List (List Level)) → IfOk r (λ a. FramesDeclared variables p a.state.frames (a.levels ++ rest)) → IfGoes (acted r rest) (AreDeclared variables p)
  if_acted (Ok a) rest h = h
  if_acted (Err fault) rest h = tt

  -- a frame is left: the lanes of its call go on
  module _ (above : Frame) (f : Function) (is : slice_get p.functions above.function ≡ Some f) (memory : Store) where
    caller_declared : (caller : Frame) (others : List Frame) (g : Function) (level : Level) (below : List Level) (more : List (List Level)) → slice_get p.functions caller.function ≡ Some g
        → ShowsCall p above (caller ∷ others) ((level ∷ below) ∷ more) → FramesDeclared variables p (caller ∷ others) ((level ∷ below) ∷ more)
        → FramesDeclared variables p (leave p above (record { memory = memory; frames = caller ∷ others })).frames
        (past_call (points_for p caller.function) (level ∷ below) ∷ more)
    caller_declared caller others g level below more g_is call h =
        let point : Point = Enter above.function call.1 above.result_for call.0 in
        let has : HasPoint (points_in g) (next_in level) point = ap (λ o. slice_get (points_at o) (next_in level)) (sym g_is) ∙ call.3 in
        let leads : LeadsDeclared (declared_before variables caller.function g) (numbered_about g) (next_in level) point =
        point_leads variables caller.function g (numbered caller.function g g_is) (next_in level) point has in
        let inside : LeadsInside (numbered_about g) (next_in level) point = point_inside g (numbered caller.function g g_is) (next_in level) point has in
        let past : past_call (points_for p caller.function) (level ∷ below) ≡ closed (sent_in (next_waiting level) (λ k. call.0) level ∷ below) =
        ap (λ o. past_point o level below) call.3 in
        subst (λ ls. FramesDeclared variables p (leave p above (state memory caller others)).frames (ls ∷ more)) (sym past)
        (moves_on caller g g_is level below point has tt (h.0 g g_is) others (leave p above (state memory caller others)).frames more (declared_by_result above.result_for) (λ k. call.0)
        (left_grows memory caller others p above f is) (λ k. leads) (λ k. inside) h.1)

    leaves : (regions : Regions) (w : ℕ) (frames : List Frame) (rest : List (List Level)) → ShowsCall p above frames rest → ShowsFrames p variables w regions frames rest
        → FramesDeclared variables p frames rest → FramesDeclared variables p (leave p above (record { memory = memory; frames = frames })).frames (past_calls p frames rest)
    leaves regions w [] rest call shown h = subst (λ fs. FramesDeclared variables p fs rest) (sym (none_left p memory above (slice_get p.functions above.function))) tt
    leaves regions w (caller ∷ others) [] call shown h = absurd call
    leaves regions w (caller ∷ others) ([] ∷ more) call shown h = absurd call
    leaves regions w (caller ∷ others) ((level ∷ below) ∷ more) call shown h = caller_declared caller others shown.0.function level below more shown.0.is_function call h

  -- the step of a frame
  module _ (regions : Regions) (w : ℕ) (memory : Store) (frame : Frame) (frames : List Frame) (rest : List (List Level)) where
    steps_at : (f : Function) → slice_get p.functions frame.function ≡ Some f → (level : Level) (below : List Level) → LevelsHold (IsAwaited variables frame.function f frame.vars) f (level ∷ below)
        → ((next : Level) (under : List Level) → below ≡ next ∷ under → IsFormLevel (points_in f) level)
        → ShowsCall p frame frames rest → ShowsFrames p variables w regions frames rest → FramesDeclared variables p frames rest
        → (o : Option Point) → slice_get (points_in f) (next_in level) ≡ o → IfGoes (step_point p memory frames frame o level below rest) (AreDeclared variables p)
    steps_at f is level below declared in_form call shown lower None o_is = leaves frame f is memory regions w frames rest call shown lower
    steps_at f is level below declared in_form call shown lower (Some point) o_is =
        let body : IsWellScoped variables frame.function f.body = (well_scoped.functions frame.function f is).body in
        if_acted (act p (next_in level) point (next_waiting level) (state memory frame frames) level below) rest
        (acts frame f is level below point o_is declared memory frames rest lower
        (point_leads variables frame.function f (numbered frame.function f is) (next_in level) point o_is)
        (point_inside f (numbered frame.function f is) (next_in level) point o_is)
        (well_scoped_point variables frame.function f body (next_in level) point o_is) in_form)

    steps : (level : Level) (below : List Level) → ShowsFrames p variables w regions (frame ∷ frames) ((level ∷ below) ∷ rest)
        → FramesDeclared variables p (frame ∷ frames) ((level ∷ below) ∷ rest) → IfGoes (step_levels p memory (frame ∷ frames) ((level ∷ below) ∷ rest)) (AreDeclared variables p)
    steps level below shown h =
        let f : Function = shown.0.function in
        let is = shown.0.is_function in
        subst (λ o. IfGoes (step_point p memory frames frame (slice_get (points_at o) (next_in level)) level below rest) (AreDeclared variables p)) (sym is)
        (steps_at f is level below (h.0 f is) (in_form f shown.0.waits) shown.1 shown.2 h.1 (slice_get (points_in f) (next_in level)) refl)
      where
        in_form : (f : Function) → ShowsLevels (points_in f) w (level_words regions (length frames)) (regions (OfHead (length frames) OpenOf)) (closing_number f) (level ∷ below)
            → (next : Level) (under : List Level) → below ≡ next ∷ under → IsFormLevel (points_in f) level
        in_form f waits next under e =
            shown_form_level (points_in f) w (level_words regions (length frames)) (closing_number f) (regions (OfHead (length frames) OpenOf)) level next under
            (subst (λ ls. ShowsLevels (points_in f) w (level_words regions (length frames)) (regions (OfHead (length frames) OpenOf)) (closing_number f) (level ∷ ls)) e waits)

  steps_declared : (regions : Regions) (w : ℕ) (memory : Store) (frames : List Frame) (levels : List (List Level)) → ShowsFrames p variables w regions frames levels → FramesDeclared variables p frames levels
      → IfGoes (step_levels p memory frames levels) (AreDeclared variables p)
  steps_declared regions w memory [] levels shown h = tt
  steps_declared regions w memory (frame ∷ frames) [] shown h = tt
  steps_declared regions w memory (frame ∷ frames) ([] ∷ rest) shown h = tt
  steps_declared regions w memory (frame ∷ frames) ((level ∷ below) ∷ rest) shown h = steps regions w memory frame frames rest level below shown h

  -- after a step each frame has what is declared where its lanes wait
  pub step_declared : (regions : Regions) (w : ℕ) (masked next : Masked) → Shows p variables w regions masked → AreDeclared variables p masked → masked_step p masked ≡ Goes next → AreDeclared variables p next
  step_declared regions w masked next shown h e =
      goes_at (AreDeclared variables p) (masked_step p masked) next e (steps_declared regions w masked.state.memory masked.state.frames masked.levels shown.frames h)
