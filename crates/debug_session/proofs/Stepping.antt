-- Backward moves, event by event.
use Rattle.std.proofs.Common.{◌≡◌, refl, sym, subst, ap, ◌∙◌, ℕ, suc, ◌-◌, ◌+◌, ◌<◌, List, ◌∷◌, length, take, drop, arith}
use Rattle.std.specs.Prelude.{filter}
use Rattle.undo_log.specs.declared.timeline.Undone.TheVariants as undone
use Rattle.gang_model.specs.Debugger.Events.{Event, Step, Poke, Poked}
use Rattle.debug_traits.specs.Machines.{kind_of}
use Rattle.gang_model.specs.Debugger.Debugger.{Debugger, is_step, kept_steps, stepped_back, taken_back, to_last_step}

-- a debugger with its events and how many of them are kept
abbrev with_events : Debugger → List Event → ℕ → Debugger
with_events d events kept = record d { events = events; kept = kept }

no_steps : (events : List Event) → 0 < length (filter is_step (take 0 events)) → ⊥
no_steps events h = omega (arith, h)

-- no step is kept where nothing is
pub kept_some : (d : Debugger) → d.kept ≡ 0 → 0 < kept_steps d → ⊥
kept_some d none h = no_steps d.events (subst (λ k. 0 < length (filter is_step (take k d.events))) none h)

-- where the last event is a step, taking it back is the backward move
pub back_by_step : (d : Debugger) (events : List Event) → d.events ≡ Step ∷ events → taken_back d ≡ stepped_back d
back_by_step d events is = ap (λ n. with_events d (drop n d.events) (d.kept - n)) (sym (ap to_last_step is))

-- where it is a poke, the backward move goes on after taking it back
pub back_by_poke : (d : Debugger) (what : Poked) (word : ℕ) (events : List Event) → d.events ≡ Poke what word ∷ events → stepped_back (taken_back d) ≡ stepped_back d
back_by_poke d what word events is =
    let here : to_last_step d.events ≡ suc (to_last_step events) = ap to_last_step is in
    let one : drop 1 d.events ≡ events = ap (drop 1) is in
    let before : stepped_back (taken_back d) ≡ with_events d (drop (to_last_step events) events) ((d.kept - 1) - to_last_step events) =
    ap (λ es. with_events d (drop (to_last_step es) es) ((d.kept - 1) - to_last_step es)) one in
    let after : stepped_back d ≡ with_events d (drop (to_last_step events) events) (d.kept - suc (to_last_step events)) =
    ap (λ n. with_events d (drop n d.events) (d.kept - n)) here ∙ ap (λ es. with_events d (drop (suc (to_last_step events)) es) (d.kept - suc (to_last_step events))) is in
    let less : (d.kept - 1) - to_last_step events ≡ d.kept - suc (to_last_step events) = omega arith in
    before ∙ ap (with_events d (drop (to_last_step events) events)) less ∙ sym after

-- and as many steps are kept
pub steps_by_poke : (d : Debugger) (what : Poked) (word : ℕ) (events : List Event) (kept : ℕ) → d.events ≡ Poke what word ∷ events → d.kept ≡ kept + 1 → kept_steps (taken_back d) ≡ kept_steps d
steps_by_poke d what word events kept is some =
    let one : drop 1 d.events ≡ events = ap (drop 1) is in
    let less : d.kept - 1 ≡ kept = omega arith in
    let more : d.kept ≡ suc kept = omega arith in
    ap (λ es. length (filter is_step (take (d.kept - 1) es))) one ∙ ap (λ n. length (filter is_step (take n events))) less
    ∙ sym (ap (λ es. length (filter is_step (take d.kept es))) is ∙ ap (λ n. length (filter is_step (take n (Poke what word ∷ events)))) more)

-- what was taken back as a poke is one
pub poke_of : (event : Event) → undone.Poke ≡ kind_of event → (what : Poked) × (word : ℕ) × (event ≡ Poke what word)
poke_of Step e = cc e
poke_of (Poke what word) e = (what, word, refl)

-- and what was taken back as a step
pub step_of : (event : Event) → undone.Step ≡ kind_of event → event ≡ Step
step_of Step e = refl
step_of (Poke what word) e = cc e
