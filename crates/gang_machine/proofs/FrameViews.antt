-- What is shown of the frame at a depth, and where it stands, is the same of the masked state.
use Rattle.std.proofs.Common.{◌≡◌, ℕ, suc, ◌-◌, List, drop, length, map, nat_lt, ap, ap₂, sym, ◌∙◌, Option}
use Rattle.std.specs.Prelude.{if◌then◌else◌}
use Rattle.std.proofs.lemmas.List.{drop-map, length-map}
use Rattle.undo_log.specs.History.{History}
use Rattle.gang_types.specs.declared.places.Spot.{Spot}
use Rattle.gang_model.specs.Running.State.{State}
use Rattle.gang_model.specs.Types.Tree.{Variable}
use Rattle.gang_model.specs.Debugger.Debugger.{Debugger, Setting, now, shown_words}
use Rattle.gang_model.specs.Debugger.Positions.{call_at, spot_now, standing_of}
use Rattle.debug_traits.specs.Frames.{spot_at, state_at}
use Rattle.typed_tree.specs.declared.program.Program.{Program}
use Rattle.typed_tree.specs.Views.{program_view}
use Rattle.gang_memory.specs.declared.layout.Layout.{Layout}
use Rattle.mask_states.specs.Masked.{Masked}
use Rattle.mask_states.specs.MaskedStep.{untasked, untasked_frame}
use Rattle.mask_states.specs.Stands.{AreLowerable}
use Rattle.machine_shown.specs.Frames.{masked_spot_at}
use Rattle.gang_machine.specs.Standings.{SeenStands, view_of}
use Rattle.gang_machine.proofs.Agreeing.{agrees, frames_alike, masked_now, spot_is, untasked_shown}

pub untasked_at : (deep : ℕ) (state : State) → untasked (state_at deep state) ≡ state_at deep (untasked state)
untasked_at deep state =
    ap (λ frames. record state { frames = frames })
    (sym (drop-map untasked_frame (length state.frames - deep) state.frames)
    ∙ ap (λ n. drop (n - deep) (map untasked_frame state.frames)) (sym (length-map state.frames untasked_frame)))

module _ (w entry : ℕ) (program : Program) (lines : List ℕ) (layout : Layout) (h : History) (lowerable : AreLowerable (program_view program)) (s : Setting) (d : Debugger)
    (stands : SeenStands (view_of w entry program lines layout h) s d) (deep : ℕ) where
  abbrev masked : Masked
  masked = masked_now w entry program lines layout h lowerable s d stands

  pub spot_at_is : spot_at s.program deep (now s d) ≡ masked_spot_at deep (masked_now w entry program lines layout h lowerable s d stands)
  spot_at_is =
      ap (λ n. if nat_lt deep n then call_at (suc deep) (now s d).frames else spot_now s.program (now s d)) (frames_alike w entry program lines layout h lowerable s d stands)
      ∙ ap (λ call. if nat_lt deep (length masked.state.frames) then call else spot_now s.program (now s d)) ((agrees w entry program lines layout h lowerable s d stands).0.calls (suc deep))
      ∙ ap (λ spot. if nat_lt deep (length masked.state.frames) then call_at (suc deep) masked.state.frames else spot) (spot_is w entry program lines layout h lowerable s d stands)

  -- how the frame stands in the source
  pub standing_at_is : (o : Option Spot) → masked_spot_at deep (masked_now w entry program lines layout h lowerable s d stands) ≡ o
      → standing_of s.program (spot_at s.program deep (now s d)) ≡ standing_of (program_view program) o
  standing_at_is o is = ap₂ standing_of stands.program (spot_at_is ∙ is)

  pub shown_at_are : (v : Variable) → shown_words (state_at deep (now s d)) v ≡ shown_words (state_at deep (masked_now w entry program lines layout h lowerable s d stands).state) v
  shown_at_are v =
      sym (untasked_shown (state_at deep (now s d)) v)
      ∙ ap (λ state. shown_words state v) (untasked_at deep (now s d) ∙ ap (state_at deep) (agrees w entry program lines layout h lowerable s d stands).0.words)
