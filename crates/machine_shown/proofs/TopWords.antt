-- At a depth past all frames the words of the top frame are found and set.
use Rattle.std.proofs.Common.{◌≡◌, sym, ap, ◌∙◌, subst, ℕ, ◌-◌, ◌≤◌, inl, inr, false, [], ◌∷◌, length, drop, min, nat_lt, Option, None, arith}
use Rattle.std.specs.Prelude.{slice_index, take, if◌then◌else◌}
use Rattle.std.proofs.lemmas.Bool.Decides.{nat_tests}
use Rattle.gang_types.specs.declared.places.Spot.{Spot}
use Rattle.gang_types.specs.declared.places.VarId.{VarId}
use Rattle.gang_types.specs.declared.places.VarId.TheVariants.{File, Local}
use Rattle.undo_log.specs.History.{History}
use Rattle.gang_model.specs.Types.Tree.{Function, Variable}
use Rattle.gang_model.specs.Debugger.Debugger.{bad_part, shown_words}
use Rattle.gang_model.specs.Debugger.Events.{InFrame, Poked, poked}
use Rattle.gang_model.specs.Debugger.Frames.{under}
use Rattle.gang_model.specs.Debugger.Positions.{call_at}
use Rattle.mask_states.specs.Points.{Point}
use Rattle.mask_states.specs.Masked.{Masked, masked_spot}
use Rattle.machine_states.specs.Regions.{Depth, Regions}
use Rattle.machine_words.specs.declared.words.MachineWords.{MachineWords}
use Rattle.machine_words.specs.Words.{regions_in}
use Rattle.frame_steps.specs.declared.active.Active.{Active}
use Rattle.frame_steps.specs.declared.compiled.CompiledProgram.{CompiledProgram}
use Rattle.frame_steps.specs.Standing.{AreSound, IsActive}
use Rattle.machine_shown.specs.Frames.{masked_spot_at, regions_up_to}
use Rattle.machine_shown.specs.Seen.{IsPartAt, IsPartOf, IsSeen, IsSeenAt, IsSeenOf}
use Rattle.machine_shown.specs.ShownWords.{HasNoWords, HasWords, IsSetAt, IsSetIn, WordsShown}
use Rattle.machine_shown.proofs.WordsRoom.{shown_of_up_to}

module _ {T : Type 0} (history : T → History) (width : ℕ) (compiled : CompiledProgram) (words : MachineWords T) (sound : AreSound history width compiled words) where
  -- there are at most 64 frames
  same_depth : regions_up_to 64 (regions_in history width words) Depth ≡ regions_in history width words Depth
  same_depth =
      let all : slice_index (regions_in history width words Depth) 0 ≡ length sound.masked.state.frames = ap (λ ws. slice_index ws 0) sound.shown.shows.depth in
      let least : min 64 (slice_index (regions_in history width words Depth) 0) ≡ length sound.masked.state.frames = omega (arith, all, sound.shown.shows.few) in
      ap (λ n. n ∷ []) least ∙ sym sound.shown.shows.depth

  active_top : (active : Active) (f : Function) (point : Option Point) → IsActive width compiled (regions_in history width words) active f point
      → IsActive width compiled (regions_up_to 64 (regions_in history width words)) active f point
  active_top active f point is = record {
    next = record {
      depth = same_depth ∙ is.next.depth;
      function = is.next.function;
      is_function = is.next.is_function;
      innermost = is.next.innermost;
      least_number = is.next.least_number;
      is_point = is.next.is_point;
    };
    lanes = is.lanes;
  }

  found_top : (id : VarId) (shown : WordsShown) → HasWords width compiled (regions_in history width words) id shown
      → HasWords width compiled (regions_up_to 64 (regions_in history width words)) id shown
  found_top (File k) shown has = has
  found_top (Local k) shown has = record {
    active = has.active;
    f = has.f;
    active_is = active_top has.active has.f _ has.active_is;
    variable = has.variable;
    is_variable = has.is_variable;
    shown_is = shown_of_up_to 64 (regions_in history width words) has.active.frame (Local k) has.variable shown has.shown_is;
  }

  none_top : (id : VarId) → HasNoWords width compiled (regions_in history width words) id → HasNoWords width compiled (regions_up_to 64 (regions_in history width words)) id
  none_top (File k) none = none
  none_top (Local k) (inl ended) = inl (same_depth ∙ ended)
  none_top (Local k) (inr (active, none)) = inr (active, record { f = none.f; active_is = active_top active none.f _ none.active_is; none = none.none })

  -- what is set there
  pub set_top : (id : VarId) (part : Option ℕ) (word : ℕ) (new : Regions) → IsSetAt width compiled 64 id part word (regions_in history width words) new
      → IsSetIn width compiled id part word (regions_in history width words) new
  set_top id part word new set = record {
    there = λ shown has. set.there shown (found_top id shown has);
    none = λ none. set.none (none_top id none);
  }

-- ---- the masked state

module _ (masked : Masked) (few : length masked.state.frames ≤ 64) where
  none_above : length masked.state.frames - 64 ≡ 0
  none_above = omega (arith, few)

  spot_top : masked_spot_at 64 masked ≡ masked_spot masked
  spot_top =
      let past : nat_lt 64 (length masked.state.frames) ≡ false = grind (arith, nat_tests, few) in
      ap (λ b. if b then call_at 65 masked.state.frames else masked_spot masked) past

  pub seen_top : (compiled : CompiledProgram) (v : Variable) → IsSeen compiled masked v → IsSeenAt compiled 64 masked v
  seen_top compiled v seen = subst (λ (spot : Option Spot). IsSeenOf compiled spot v) (sym spot_top) seen

  pub part_top : (v : Variable) (part : Option ℕ) → IsPartOf masked v part → IsPartAt 64 masked v part
  part_top v part set =
      subst (λ n. bad_part false part v.is_array v.rate (length (shown_words (record masked.state { frames = drop n masked.state.frames }) v)) ≡ None) (sym none_above) set

  pub poked_top : (what : Poked) (word : ℕ) → poked (InFrame 64 what) word masked.state ≡ poked what word masked.state
  poked_top what word =
      let frames = masked.state.frames in ap (λ n. under (take n frames) (poked what word (record masked.state { frames = drop n frames }))) none_above
