-- Texts that a line is to watch: those that can be watched, and those that cannot.
use Rattle.std.proofs.Common.{◌≡◌, refl, sym, subst, ap, ◌∙◌, ℕ, Bool, true, false, List, [], length, Option, Some, None}
use Rattle.std.specs.Prelude.{◌&&◌, nat_lt, if◌then◌else◌}
use Rattle.gang_types.specs.declared.places.Spot.{Spot}
use Rattle.gang_model.specs.Debugger.Debugger.{Debugger, Setting}
use Rattle.debug_session.specs.declared.session.Session.{Session}
use Rattle.debug_session.specs.Sessions.{StandsFor}
use Rattle.command_lists.specs.Lists.{HasDone}
use Rattle.command_lists.proofs.DoneLists.{done_nothing}
use Rattle.placed_expressions.specs.declared.answers.ExpressionRefusal.{ExpressionRefusal}
use Rattle.placed_expressions.specs.declared.answers.ExpressionRefusal.TheVariants as refusal
use Rattle.expression_watches.specs.Meanings.{IsDenied, is_meant}
use Rattle.prompt_scenes.specs.Conditions.{made_so}
use Rattle.prompt_scenes.specs.FrameWatches.{with_expression}
use Rattle.prompt_scenes.specs.Holding.{Held}
use Rattle.prompt_scenes.specs.SelectedFrame.{depth_of}
use Rattle.prompt_stops.specs.Breaking.{DoesWatch, Watches, can_watch, means_at, numbered, spot_of, taken, watch_made}

neither : (b : Bool) → (b && false) ≡ false
neither true = refl
neither false = refl

module _ (s : Setting) (d : Debugger) (h : Held) (text : List ℕ) where
  -- where there is no room
  pub no_room : nat_lt (length h.frames) 16 ≡ false → can_watch s d h text ≡ false
  no_room full = ap (λ room. room && means_at s.program text (spot_of s d h)) full

  by_step : (spot : Option Spot) → spot_of s d h ≡ spot → can_watch s d h text ≡ (nat_lt (length h.frames) 16 && means_at s.program text spot)
  by_step spot at = ap (λ spot. nat_lt (length h.frames) 16 && means_at s.program text spot) at

  -- where the frame stands at no step
  pub no_step : spot_of s d h ≡ None → can_watch s d h text ≡ false
  no_step none = by_step None none ∙ neither (nat_lt (length h.frames) 16)

  -- where it means nothing
  pub no_meaning : (spot : Spot) → spot_of s d h ≡ Some spot → is_meant s.program spot text ≡ false → can_watch s d h text ≡ false
  no_meaning spot at none = by_step (Some spot) at ∙ ap (λ meant. nat_lt (length h.frames) 16 && meant) none ∙ neither (nat_lt (length h.frames) 16)

  -- where there is room, and it means something
  pub can : (spot : Spot) → nat_lt (length h.frames) 16 ≡ true → spot_of s d h ≡ Some spot → is_meant s.program spot text ≡ true → can_watch s d h text ≡ true
  can spot room at meant = by_step (Some spot) at ∙ ap (λ room. room && is_meant s.program spot text) room ∙ meant

  module _ {M : Type 0} (stands : M → Setting → Debugger → Type 0) (condition : Option (List ℕ)) (session : Session M) where
    -- what the watch of it holds then
    abbrev then_held : (watched : Bool) → Held
    then_held watched = if watched then made_so (taken s d) condition (with_expression (watch_made (taken s d) (depth_of s d h) (spot_of s d h) text) h) else h

    -- one that cannot be watched
    pub not_watched : can_watch s d h text ≡ false → StandsFor stands session s d → DoesWatch stands s d h None (Some text) condition false session h
    not_watched none st =
        (subst (λ watched. HasDone stands s (if watched then numbered s d else []) d session) (sym none) (done_nothing stands s d session st), sym (ap then_held none))

    -- one that is watched
    pub is_watched : (new : Held) → can_watch s d h text ≡ true → HasDone stands s (numbered s d) d session
        → new ≡ made_so (taken s d) condition (with_expression (watch_made (taken s d) (depth_of s d h) (spot_of s d h) text) h) → DoesWatch stands s d h None (Some text) condition false session new
    is_watched new meant done holds =
        (subst (λ watched. HasDone stands s (if watched then numbered s d else []) d session) (sym meant) done, holds ∙ sym (ap then_held meant))

    -- one that is refused where the frame stands
    pub refused : (spot : Spot) (why : ExpressionRefusal) → spot_of s d h ≡ Some spot → IsDenied text s.program spot why → StandsFor stands session s d
        → Watches stands s d h None (Some text) condition session h
    refused spot refusal.Memory at is st = record { refused = true; does = (done_nothing stands s d session st, refl) }
    refused spot (refusal.NoTokens r) at is st = record { refused = false; does = not_watched (no_meaning spot at is.0) st }
    refused spot (refusal.NoExpression r) at is st = record { refused = false; does = not_watched (no_meaning spot at is.0) st }
    refused spot (refusal.NoValue r) at is st = record { refused = false; does = not_watched (no_meaning spot at is.0) st }
    refused spot (refusal.CallsFunction place) at is st = record { refused = false; does = not_watched (no_meaning spot at is.0) st }
