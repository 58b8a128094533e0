-- A value that is set.
use Rattle.std.proofs.Common.{◌≡◌, refl, sym, ap, ap₂, subst, ◌∙◌, ℕ, zero, suc, ◌-◌, ◌⊎◌, inl, inr, false, List, [], ◌∷◌, ◌++◌, length, drop, Option}
use Rattle.std.specs.Prelude.{take}
use Rattle.gang_types.specs.declared.places.VarId.{VarId}
use Rattle.gang_types.specs.declared.places.VarId.TheVariants.{File, Local}
use Rattle.undo_log.specs.declared.timeline.Undone.TheVariants as undone
use Rattle.undo_log.specs.History.{History}
use Rattle.gang_model.specs.Types.Tree as t
use Rattle.gang_model.specs.Types.Tree.{Variable}
use Rattle.gang_model.specs.Running.State.{Frame, State, with_first, with_var, with_words_in}
use Rattle.gang_model.specs.Debugger.Debugger.{Debugger, Setting, bad_part, moved, now, poked_by}
use Rattle.gang_model.specs.Debugger.Events.{ElementAt, InFrame, LaneOf, Poke, Poked, WholeOf, poked}
use Rattle.gang_model.specs.Debugger.Positions.{scope_now, scope_of, spot_now, standing_of, top_spot}
use Rattle.debug_traits.specs.Frames.{IsShownAt, state_at}
use Rattle.debug_traits.specs.Machines.{IsOneOf, IsPart, IsShown, file_variables as variables_of_file}
use Rattle.debug_traits.specs.declared.machine.Shown.{Shown}
use Rattle.mask_states.specs.Masked.{Masked}
use Rattle.typed_tree.specs.Views.{program_view}
use Rattle.machine_words.specs.declared.words.MachineWords.{MachineWords}
use Rattle.frame_steps.specs.declared.compiled.CompiledProgram.{CompiledProgram}
use Rattle.frame_steps.specs.Standing.{IsShown as WordsShow, Records}
use Rattle.machine_shown.specs.Seen.{IsPartAt, IsPartOf, IsSeen, IsSeenAt}
use Rattle.gang_machine.specs.Machines.{IsMachine}
use Rattle.gang_machine.specs.Standings.{SeenStands, ShowsWords, masked_at, view_of}
use Rattle.gang_machine.proofs.Keeping.{stands_moved}
use Rattle.gang_machine.proofs.Recording.{limit_is, past_is}
use Rattle.gang_machine.proofs.PokedLengths.{poked_long}
use Rattle.gang_machine.proofs.Seeing.{is_seen, is_seen_at, shown_here, shown_same, shown_same_at}

-- ---- where the program stands

top_kept : (p : t.Program) (v : VarId) (words : List ℕ) (frames : List Frame) → top_spot p (with_first (with_var v words) frames) ≡ top_spot p frames
top_kept p v words [] = refl
top_kept p v words (frame ∷ frames) = refl

words_kept : (p : t.Program) (v : VarId) (words : List ℕ) (state : State) → spot_now p (with_words_in state v words) ≡ spot_now p state
words_kept p (File n) words state = refl
words_kept p (Local n) words state = top_kept p (Local n) words state.frames

-- frames above others hide them
spot_under : (p : t.Program) (n : ℕ) (frames below : List Frame) → top_spot p below ≡ top_spot p (drop n frames) → top_spot p (take n frames ++ below) ≡ top_spot p frames
spot_under p zero frames below same = same
spot_under p (suc n) [] below same = same
spot_under p (suc n) (frame ∷ frames) below same = refl

-- a value that is set leaves it
spot_kept : (p : t.Program) (what : Poked) (word : ℕ) (state : State) → spot_now p (poked what word state) ≡ spot_now p state
spot_kept p (WholeOf v) word state = words_kept p v _ state
spot_kept p (LaneOf v k) word state = words_kept p v _ state
spot_kept p (ElementAt v k) word state = refl
spot_kept p (InFrame deep what) word state =
    spot_under p (length state.frames - deep) state.frames (poked what word (state_at deep state)).frames (spot_kept p what word (state_at deep state))

scope_kept : (p : t.Program) (what : Poked) (word : ℕ) (state : State) → scope_now p (poked what word state) ≡ scope_now p state
scope_kept p what word state = ap (λ spot. scope_of (standing_of p spot)) (spot_kept p what word state)

-- ---- where a machine stands

module _ {T : Type 0} (history : T → History) (w entry : ℕ) (compiled : CompiledProgram) (lines : List ℕ) (old new : MachineWords T) (machine : IsMachine history w compiled old) (s : Setting) (d : Debugger)
    (stands : SeenStands (view_of w entry compiled.program lines old.layout (history old.store.timeline)) s d) (records : Records history w undone.Poke old new) where
  abbrev masked : Masked
  masked = masked_at w entry (program_view compiled.program) stands.rows d.events

  -- a value that is recorded, and that the words show
  stands_set : (what : Poked) (word : ℕ) → WordsShow history w compiled new (record masked { state = poked what word masked.state })
      → SeenStands (view_of w entry compiled.program lines new.layout (history new.store.timeline)) s (moved (Poke what word) d)
  stands_set what word now_shown =
      let p = compiled.program in
      let h = history new.store.timeline in
      let event = Poke what word in
      let words : ShowsWords w p new.layout h.words (masked_at w entry (program_view p) stands.rows (event ∷ d.events)) = record { shows = now_shown.shows; declared = now_shown.declared } in
      subst (λ l. SeenStands (view_of w entry p lines l h) s (moved event d)) (sym records.layout)
      (stands_moved w entry p old.layout lines (history old.store.timeline) s d stands event h
      (subst (λ l. ShowsWords w p l h.words (masked_at w entry (program_view p) stands.rows (event ∷ d.events))) records.layout words)
      (past_is history w compiled old new undone.Poke records) (limit_is history w compiled old new undone.Poke records))

  module _ (v : Variable) (shown : Shown) (at : Option ℕ) (word : ℕ) (part : IsPart at shown) where
    -- ---- of the top frame

    module _ (is : IsShown s d v shown) where
      set : IsPartOf masked v at
      set =
          ap (λ ws. bad_part false at v.is_array v.rate (length ws)) (sym (shown_same history w entry compiled lines old machine s d stands v))
          ∙ ap (λ n. bad_part false at v.is_array v.rate n) is.count
          ∙ ap₂ (λ b r. bad_part false at b r shown.count) is.is_array is.rate ∙ part

      pub stands_poked : ((masked : Masked) (u : Variable) → WordsShow history w compiled old masked → IsSeen compiled masked u → u.id ≡ shown.id → IsPartOf masked u at
          → WordsShow history w compiled new (record masked { state = poked (poked_by u at) word masked.state }))
          → SeenStands (view_of w entry compiled.program lines new.layout (history new.store.timeline)) s (moved (Poke (poked_by v at) word) d)
      stands_poked shows =
          stands_set (poked_by v at) word
          (shows masked v (shown_here history w entry compiled lines old machine s d stands) (is_seen history w entry compiled lines old machine s d stands v is.there) is.id set)

      abbrev after : Debugger
      after = moved (Poke (poked_by v at) word) d

      there : IsOneOf (scope_now s.program (now s d)) v ⊎ IsOneOf (variables_of_file s) v → IsOneOf (scope_now s.program (now s after)) v ⊎ IsOneOf (variables_of_file s) v
      there (inl local) = inl (subst (λ vs. IsOneOf vs v) (sym (scope_kept s.program (poked_by v at) word (now s d))) local)
      there (inr file) = inr file

      -- as many words can be shown as before
      pub shown_poked : IsShown s (moved (Poke (poked_by v at) word) d) v shown
      shown_poked = record {
        there = there is.there;
        id = is.id;
        type = is.type;
        rate = is.rate;
        is_array = is.is_array;
        is_constant = is.is_constant;
        count = poked_long (poked_by v at) word (now s d) v ∙ is.count;
      }

    -- ---- of the frame at a depth

    module _ (deep : ℕ) (is : IsShownAt s d deep v shown) where
      set_at : IsPartAt deep masked v at
      set_at =
          ap (λ ws. bad_part false at v.is_array v.rate (length ws)) (sym (shown_same_at history w entry compiled lines old machine s d stands deep v))
          ∙ ap (λ n. bad_part false at v.is_array v.rate n) is.count
          ∙ ap₂ (λ b r. bad_part false at b r shown.count) is.is_array is.rate ∙ part

      pub stands_poked_at : ((masked : Masked) (u : Variable) → WordsShow history w compiled old masked → IsSeenAt compiled deep masked u → u.id ≡ shown.id → IsPartAt deep masked u at
          → WordsShow history w compiled new (record masked { state = poked (InFrame deep (poked_by u at)) word masked.state }))
          → SeenStands (view_of w entry compiled.program lines new.layout (history new.store.timeline)) s (moved (Poke (InFrame deep (poked_by v at)) word) d)
      stands_poked_at shows =
          stands_set (InFrame deep (poked_by v at)) word
          (shows masked v (shown_here history w entry compiled lines old machine s d stands) (is_seen_at history w entry compiled lines old machine s d stands deep v is.there) is.id set_at)
