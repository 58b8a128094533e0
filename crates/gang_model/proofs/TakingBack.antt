-- What taking back does: the last event goes, and a backward move is as many of these as there are pokes since the last step, and
-- one more.
use Rattle.std.proofs.Common.{◌≡◌, refl, ap, ℕ, suc, ◌-◌, List, ◌∷◌, arith}
use Rattle.std.specs.Prelude.{drop}
use Rattle.gang_model.specs.Debugger.Events.{Event, Step, Poke, Poked}
use Rattle.gang_model.specs.Debugger.Debugger.{Stop, Debugger, Setting, now, moved, taken_back, to_last_step, stepped_back}

-- after an event is taken back the state is that before it
pub taken_back-moved : (s : Setting) (event : Event) (d : Debugger) → now s (taken_back (moved event d)) ≡ now s d
taken_back-moved s event d = refl

less_two : (kept n : ℕ) → kept - suc n ≡ kept - 1 - n
less_two kept n = omega arith

-- a backward move over a step is to take back that step
pub stepped_back-step : (events : List Event) (kept history : ℕ) (stops : List (ℕ × Stop)) (next : ℕ) →
    stepped_back (record { events = Step ∷ events; kept = kept; history = history; stops = stops; next = next })
    ≡ taken_back (record { events = Step ∷ events; kept = kept; history = history; stops = stops; next = next })
stepped_back-step events kept history stops next = refl

-- a backward move over a poke is to take back the poke and then to move backward
pub stepped_back-poke : (what : Poked) (word : ℕ) (events : List Event) (kept history : ℕ) (stops : List (ℕ × Stop)) (next : ℕ) →
    stepped_back (record { events = Poke what word ∷ events; kept = kept; history = history; stops = stops; next = next })
    ≡ stepped_back (taken_back (record { events = Poke what word ∷ events; kept = kept; history = history; stops = stops; next = next }))
stepped_back-poke what word events kept history stops next =
    ap (λ k. record { events = drop (to_last_step events) events; kept = k; history = history; stops = stops; next = next })
    (less_two kept (to_last_step events))
