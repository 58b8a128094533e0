use Rattle.std.proofs.Common.{◌≡◌, ◌-◌, ℕ, zero, suc, refl, subst, ap, ◌∙◌}
use Rattle.gang_model.specs.Debugger.Debugger.{Debugger, Setting, depth, now}
use Rattle.debug_prompt.specs.Listing.{IsCallLine, IsPlaceBelow}
use Rattle.debug_prompt.proofs.listing.place_below.Goals as goal

-- a frame that is not the top one stands at its call
below : (s : Setting) (d : Debugger) (frame top line : ℕ) → (frame ≡ 0 → ⊥) → IsCallLine s d (depth (now s d) - frame) top line → IsPlaceBelow s d frame top line
below s d zero top line is call = absurd (is refl)
below s d (suc frame) top line is call = call

pub returns-else-frame-eq0 : goal.returns-else-frame-eq0
returns-else-frame-eq0 g c s d st deep =
    let call = subst (λ n. IsCallLine s d n c.args.top c.called_on.result) (c.saturating_sub.ensures ∙ ap (λ n. n - c.args.frame) deep) (c.called_on.ensures s d st) in
    below s d c.args.frame c.args.top c.called_on.result c.if-frame-eq0.false call
