-- How a step ends: the words of a variable may be written, and its lanes are sent on.
use Rattle.std.proofs.Common.{ℕ, suc, ◌+◌, ◌*◌, ◌<◌, ◌≤◌, Bool, true, false, cond, ◌≡◌, refl, sym, ◌∙◌, ap, subst, arith, List, [], ◌∷◌, length, Some}
use Rattle.std.specs.Prelude.{Result, Err, replicate}
use Rattle.std.proofs.lemmas.List.{get_or-replicate}
use Rattle.gang_types.specs.declared.masks.Mask.{Mask}
use Rattle.gang_types.specs.declared.places.VarId.{VarId}
use Rattle.gang_types.specs.declared.places.VarId.TheVariants.{File, Local}
use Rattle.gang_types.specs.declared.types.Rate.{Rate}
use Rattle.gang_types.specs.Lanes.{Lanes, has, no_lane}
use Rattle.gang_types.specs.Masks.{IsGangWidth, lanes_of}
use Rattle.gang_types.specs.MaskLaws.{gang_width-le}
use Rattle.gang_model.specs.Types.Tree.{StepNumber, Var, Variable, Function}
use Rattle.gang_model.specs.Running.Lanes.{at, each, merged}
use Rattle.gang_model.proofs.LaneWords.{length-each}
use Rattle.cross_lane.specs.EachLaws.{each_same, lane_kept}
use Rattle.undo_log.specs.History.{History}
use Rattle.undo_log.specs.declared.timeline.Undone.TheVariants as undone
use Rattle.debug_traits.specs.declared.machine.Fault.{Fault}
use Rattle.debug_traits.specs.Machines.{fault_view}
use Rattle.mask_states.specs.Points.{Point}
use Rattle.mask_states.specs.Masked.{Masked, sent}
use Rattle.machine_states.specs.Cells.{words_set}
use Rattle.machine_states.specs.Variables.{IsScalar, Variables, variable_of}
use Rattle.machine_states.specs.Regions.{NumbersOf, Region, Regions, with_region, OfLevel}
use Rattle.gang_model.specs.Running.State.{words_for}
use Rattle.machine_states.specs.Shows.{AreSized}
use Rattle.machine_states.specs.Effects.{region_of, sent_on}
use Rattle.machine_states.specs.Steps.{FailsWith, waiting_in}
use Rattle.machine_words.specs.declared.words.MachineWords.{MachineWords}
use Rattle.machine_words.specs.Words.{AreLaid, Writes, left_of, regions_in}
use Rattle.frame_steps.specs.declared.active.Active.{Active}
use Rattle.frame_steps.specs.declared.compiled.CompiledProgram.{CompiledProgram}
use Rattle.frame_steps.specs.Compiled.{program_of, variables_of}
use Rattle.frame_steps.specs.Standing.{AreSound, Begins, EndsAs, IsActive}
use Rattle.frame_steps.specs.Written.{MaySend, Sets}
use Rattle.frame_steps.proofs.Heads.{alike, regions_after}
use Rattle.frame_steps.proofs.Standings.{IsUnderWay, begun, active_numbers, frame_below, lanes_long, may_write, set_more, sized, step_within, wrote}
use Rattle.frame_steps.proofs.GangLanes.{words_few}

-- ---- lanes

chosen : (b : Bool) (x y z : ℕ) → (b ≡ true → x ≡ y) → cond b x z ≡ cond b y z
chosen true x y z h = h refl
chosen false x y z h = refl

-- only the new values in the lanes of the set count
merged_alike : (lanes : Lanes) (new other old : List ℕ) → length new ≡ length lanes → length other ≡ length lanes
    → ((k : ℕ) → k < length lanes → has lanes k ≡ true → at new k ≡ at other k) → merged lanes new old ≡ merged lanes other old
merged_alike [] new other old e f h = refl
merged_alike (b ∷ lanes) [] other old e f h = absurd (omega arith)
merged_alike (b ∷ lanes) (x ∷ new) [] old e f h = absurd (omega arith)
merged_alike (b ∷ lanes) (x ∷ new) (y ∷ other) [] e f h = refl
merged_alike (b ∷ lanes) (x ∷ new) (y ∷ other) (z ∷ old) e f h =
    ap (λ w. w ∷ merged lanes new old) (chosen b x y z (h 0 (omega arith)))
    ∙ ap (λ ws. cond b y z ∷ ws) (merged_alike lanes new other old (omega arith) (omega arith) (λ k below here. h (suc k) (omega arith) here))

sent_is : (width : ℕ) (lanes : Lanes) (values : List ℕ) (target : ℕ → StepNumber) (numbers : List StepNumber) → length lanes ≡ width → length values ≡ width
    → ((k : ℕ) → k < width → at values k ≡ target k) → merged lanes values numbers ≡ sent lanes target numbers
sent_is width lanes values target numbers wide long h =
    merged_alike lanes values (each lanes target) numbers (long ∙ sym wide) (length-each lanes target)
    (λ k below here. h k (omega (arith, wide, below)) ∙ sym (lane_kept lanes target k here))

-- lanes are sent to the same steps, over regions that are the same
sent_alike : (frame level : ℕ) (lanes : Lanes) (target other : ℕ → StepNumber) → ((k : ℕ) → k < length lanes → target k ≡ other k) → (regions others : Regions) → ((r : Region) → regions r ≡ others r)
    → (r : Region) → sent_on frame level lanes target regions r ≡ sent_on frame level lanes other others r
sent_alike frame level lanes target other to regions others same r =
    alike (OfLevel frame level NumbersOf) (sent lanes target (regions (OfLevel frame level NumbersOf))) (sent lanes other (others (OfLevel frame level NumbersOf))) regions others r
    (ap (λ ws. merged lanes ws (regions (OfLevel frame level NumbersOf))) (each_same (length lanes) lanes target other refl (λ k below here. to k below))
    ∙ ap (sent lanes other) (same (OfLevel frame level NumbersOf)))
    (same r)

pub sent_same : (frame level : ℕ) (lanes : Lanes) (target : ℕ → StepNumber) (regions others : Regions) → ((r : Region) → regions r ≡ others r) → (r : Region)
    → sent_on frame level lanes target regions r ≡ sent_on frame level lanes target others r
sent_same frame level lanes target regions others same r = sent_alike frame level lanes target target (λ k below. refl) regions others same r

-- one number for all lanes
pub target_at : (width : ℕ) (target : StepNumber) (k : ℕ) → k < width → at (replicate width target) k ≡ target
target_at width target k h = get_or-replicate width k target 0 h

-- ---- scalars

-- a scalar's region has room for its words, and has at most one for each lane
abbrev pub HasPlace : (width : ℕ) → Rate → List ℕ → Type 0
HasPlace width rate words = (words_for width rate ≤ length words) × (length words ≤ width)

module _ (variables : Variables) (width : ℕ) (gang : IsGangWidth width) (regions : Regions) (sizes : AreSized variables width regions) (index n : ℕ) (there : index < 64) where
  place_of : (id : VarId) (v : Variable) → variable_of variables n id ≡ Some v → v.is_array ≡ false → HasPlace width v.rate (regions (region_of index id))
  place_of (File k) v e well_scoped =
      let long = sizes.file k v e well_scoped in
      let most = words_few width gang v.rate in
      (omega (arith, long), omega (arith, long, most))
  place_of (Local k) v e well_scoped =
      let long = sizes.own index n k v there e in
      let most = words_few width gang v.rate in
      (omega (arith, long, most), omega (arith, long))

  pub scalar_place : (x : Var) → IsScalar variables n x → HasPlace width x.rate (regions (region_of index x.id))
  scalar_place x scalar =
      subst (λ rate. HasPlace width rate (regions (region_of index x.id))) (sym (ap (λ y. y.rate) scalar.3)) (place_of x.id scalar.0 scalar.1 scalar.2)

-- ---- the writes of a step

-- lanes of a level of a frame were sent on
abbrev pub Sends : {T : Type 0} → (history : T → History) → (left : T → ℕ) → (width frame level : ℕ) → Mask → (target : ℕ → StepNumber) → (old new : MachineWords T) → Type 0
Sends history left width frame level mask target old new = Sets history left width (sent_on frame level (lanes_of width mask) target (regions_in history width old)) width old new

module _ {T : Type 0} (history : T → History) (left : T → ℕ) (width frame level : ℕ) (mask : Mask) (old new : MachineWords T) where
  -- their numbers were written
  pub sends : (targets : List ℕ) → length targets ≡ width
      → Writes history left width (OfLevel frame level NumbersOf) (merged (lanes_of width mask) targets (regions_in history width old (OfLevel frame level NumbersOf))) width old new
      → Sends history left width frame level mask (at targets) old new
  sends targets long made =
      let place : Region = OfLevel frame level NumbersOf in
      let numbers : List ℕ = regions_in history width old place in
      record {
        regions_are = λ r. regions_after history left width old new place (merged (lanes_of width mask) targets numbers) width made r
            ∙ ap (λ ws. with_region place ws (regions_in history width old) r) (sent_is width (lanes_of width mask) targets (at targets) numbers (lanes_long width mask) long (λ k below. refl));
        layout = made.layout;
        laid = made.laid;
        rest = made.rest;
        few = made.few;
      }

  -- the same, said by other steps that are the same for each lane
  pub sends_to : (target other : ℕ → StepNumber) → ((k : ℕ) → k < width → target k ≡ other k) → Sends history left width frame level mask target old new → Sends history left width frame level mask other old new
  sends_to target other to sets = record {
    regions_are = λ r. sets.regions_are r
        ∙ sent_alike frame level (lanes_of width mask) target other (λ k below. to k (omega (arith, below, lanes_long width mask))) (regions_in history width old) (regions_in history width old) (λ q. refl) r;
    layout = sets.layout;
    laid = sets.laid;
    rest = sets.rest;
    few = sets.few;
  }

-- what is asked where a scalar of a region is written
abbrev pub MayPut : {T : Type 0} → (history : T → History) → (left : T → ℕ) → (width : ℕ) → Rate → Region → Mask → MachineWords T → Type 0
MayPut history left width rate region mask machine =
    (width * 8 < 9223372036854775808) × (IsGangWidth width × (AreLaid history width machine × ((words_for width rate ≤ length (regions_in history width machine region))
    × ((length (regions_in history width machine region) ≤ width) × ((no_lane (lanes_of width mask) ≡ false) × (width ≤ left_of history left machine))))))

-- a region is written, said by other words for the region and for what is made of its words
pub wrote_so : {T : Type 0} (history : T → History) (left : T → ℕ) (width : ℕ) (regions : Regions) (writes : ℕ) (old mid new : MachineWords T)
    → IsUnderWay history left width undone.Step regions writes old mid → (region other : Region) → region ≡ other → (make others : List ℕ → List ℕ) → ((ws : List ℕ) → make ws ≡ others ws)
    → (more : ℕ) → Writes history left width region (make (regions_in history width mid region)) more mid new
    → IsUnderWay history left width undone.Step (with_region other (others (regions other)) regions) (writes + more) old new
wrote_so history left width regions writes old mid new so_far region other same make others alike more made =
    subst (λ r. IsUnderWay history left width undone.Step (with_region r (others (regions r)) regions) (writes + more) old new) same
    (subst (λ ws. IsUnderWay history left width undone.Step (with_region region ws regions) (writes + more) old new) (alike (regions region))
    (wrote history left width undone.Step regions writes old mid so_far new region make more made))

module _ {T : Type 0} (history : T → History) (left : T → ℕ) (width : ℕ) (compiled : CompiledProgram) (old : MachineWords T) (sound : AreSound history width compiled old) (active : Active)
    (f : Function) (point : Point) (is_active : IsActive width compiled (regions_in history width old) active f (Some point)) where
  abbrev lanes : Lanes
  lanes = waiting_in (regions_in history width old) active.frame active.level active.step

  module _ (regions : Regions) (writes : ℕ) (mid : MachineWords T) (so_far : IsUnderWay history left width undone.Step regions writes old mid) (few : writes + width ≤ words_set width point) where
    wide : width * 8 < 9223372036854775808
    wide = omega (arith, gang_width-le width sound.lie.gang)

    still : width ≤ left_of history left mid
    still = may_write history left width undone.Step regions writes old mid so_far width (omega (arith, few, step_within history width compiled old sound.lie active f point is_active))

    pub may_send : no_lane (lanes_of width active.lanes) ≡ false → MaySend history left width active.frame active.level active.lanes mid
    may_send some = record {
      gang = sound.lie.gang;
      laid = so_far.laid;
      numbered = active_numbers history width compiled old sound active f (Some point) is_active mid so_far.layout so_far.laid;
      some = some;
      room = still;
    }

    pub may_put : no_lane (lanes_of width active.lanes) ≡ false → (x : Var) → IsScalar (variables_of compiled) active.function x → (region : Region) → region ≡ region_of active.frame x.id
        → MayPut history left width x.rate region active.lanes mid
    may_put some x scalar region is =
        let there = frame_below history width compiled old sound active f (Some point) is_active in
        let place : HasPlace width x.rate (regions_in history width mid region) =
        subst (λ r. HasPlace width x.rate (regions_in history width mid r)) (sym is)
        (scalar_place (variables_of compiled) width sound.lie.gang (regions_in history width mid) (sized history width compiled old mid sound.lie so_far.layout so_far.laid) active.frame active.function there x scalar) in
        (wide, (sound.lie.gang, (so_far.laid, (place.0, (place.1, (some, still))))))

    -- the lanes are sent on
    pub sent_so : (new : MachineWords T) (target : ℕ → StepNumber) → Sends history left width active.frame active.level active.lanes target mid new
        → IsUnderWay history left width undone.Step (sent_on active.frame active.level (waiting_in (regions_in history width old) active.frame active.level active.step) target regions) (writes + width) old new
    sent_so new target sets =
        set_more history left width undone.Step regions writes old mid so_far new (sent_on active.frame active.level (lanes_of width active.lanes) target (regions_in history width mid))
        (sent_on active.frame active.level lanes target regions)
        (λ r. sent_same active.frame active.level (lanes_of width active.lanes) target (regions_in history width mid) regions so_far.regions_are r
        ∙ ap (λ l. sent_on active.frame active.level l target regions r) is_active.lanes)
        width sets

    -- a variable is written
    pub put_so : (put : MachineWords T) (region : Region) (id : VarId) → region ≡ region_of active.frame id → (make : Lanes → List ℕ → List ℕ)
        → Writes history left width region (make (lanes_of width active.lanes) (regions_in history width mid region)) width mid put
        → IsUnderWay history left width undone.Step
        (with_region (region_of active.frame id) (make (waiting_in (regions_in history width old) active.frame active.level active.step) (regions (region_of active.frame id))) regions) (writes + width) old put
    put_so put region id is make made =
        wrote_so history left width regions writes old mid put so_far region (region_of active.frame id) is
        (make (lanes_of width active.lanes)) (make lanes) (λ ws. ap (λ l. make l ws) is_active.lanes) width made

  -- a step that writes a scalar and then sends its lanes on
  module _ (x : Var) (scalar : IsScalar (variables_of compiled) active.function x) (both : width + width ≤ words_set width point) (mid : MachineWords T) (begins : Begins history left width undone.Step old mid)
      (region : Region) (region_is : region ≡ region_of active.frame x.id) where
    opened : IsUnderWay history left width undone.Step (regions_in history width old) 0 old mid
    opened = begun history left width compiled undone.Step old mid sound.lie begins

    pub may_put_first : no_lane (lanes_of width active.lanes) ≡ false → MayPut history left width x.rate region active.lanes mid
    may_put_first some = may_put (regions_in history width old) 0 mid opened (omega (arith, both)) some x scalar region region_is

    module _ (make : Lanes → List ℕ → List ℕ) (put : MachineWords T) (made : Writes history left width region (make (lanes_of width active.lanes) (regions_in history width mid region)) width mid put) where
      abbrev with_put : Regions
      with_put = with_region (region_of active.frame x.id) (make lanes (regions_in history width old (region_of active.frame x.id))) (regions_in history width old)

      is_put : IsUnderWay history left width undone.Step with_put (0 + width) old put
      is_put = put_so (regions_in history width old) 0 mid opened (omega (arith, both)) put region x.id region_is make made

      pub may_send_then : no_lane (lanes_of width active.lanes) ≡ false → MaySend history left width active.frame active.level active.lanes put
      may_send_then = may_send with_put (0 + width) put is_put (omega (arith, both))

      pub sent_then : (new : MachineWords T) (next : StepNumber) → Sends history left width active.frame active.level active.lanes (λ k. next) put new
          → IsUnderWay history left width undone.Step
          (sent_on active.frame active.level (waiting_in (regions_in history width old) active.frame active.level active.step) (λ k. next)
          (with_region (region_of active.frame x.id) (make (waiting_in (regions_in history width old) active.frame active.level active.step) (regions_in history width old (region_of active.frame x.id))) (regions_in history width old)))
          (0 + width + width) old new
      sent_then new next sets = sent_so with_put (0 + width) put is_put (omega (arith, both)) new (λ k. next) sets

-- ---- faults

pub ends_with_fault : {T : Type 0} (history : T → History) (width : ℕ) (compiled : CompiledProgram) (masked : Masked) (old : MachineWords T) (result : Result (Unit {0}) Fault) (fault : Fault)
    → result ≡ Err fault → FailsWith (program_of compiled) masked (fault_view fault) → EndsAs history width compiled masked old result old
ends_with_fault history width compiled masked old result fault is fails = subst (λ r. EndsAs history width compiled masked old r old) (sym is) (fails, refl)
