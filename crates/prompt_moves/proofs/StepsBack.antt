-- Single steps that are taken back event by event, and where they lead.
use Rattle.std.proofs.Common.{◌≡◌, ◌≤◌, ◌<◌, ◌+◌, ◌-◌, ℕ, suc, zero, Bool, true, false, List, [], ◌∷◌, replicate, refl, sym, subst, ap, ◌∙◌, arith}
use Rattle.std.specs.Prelude.{◌==◌, if◌then◌else◌, filter, length, take, drop, Some}
use Rattle.std.proofs.lemmas.Bool.{true≢false}
use Rattle.std.proofs.lemmas.Bool.Decides.{nat_tests}
use Rattle.gang_model.specs.Debugger.Events.{Event, Step, Poke}
use Rattle.gang_model.specs.Debugger.Debugger as model
use Rattle.gang_model.specs.Debugger.Debugger.{Debugger, DoReverseStep, DoUndo, Moves, NoHistory, Setting, UndoneStep, backward, do_command, is_step, kept_steps, now, outermost_refusal, refused, reply, stepped_back, taken_back, undone, unless_refused}
use Rattle.debug_answers.specs.declared.answer.Answer.{Answer}
use Rattle.debug_answers.specs.declared.answer.Answer.TheVariants as answer
use Rattle.debug_answers.specs.Meanings.{Means}
use Rattle.debug_session.proofs.Stepping.{back_by_poke, back_by_step, kept_some, steps_by_poke}
use Rattle.prompt_scenes.specs.Given as given
use Rattle.prompt_moves.specs.Moments.{led}
use Rattle.prompt_moves.proofs.MomentLaws.{led_again}

-- whether a step was taken back
abbrev pub is_undone_step : model.Answer → Bool
is_undone_step UndoneStep = true
is_undone_step meant = false

pub is_undone_step-means : (s : Setting) (d : Debugger) (told : Answer) (meant : model.Answer) → Means s d told meant → given.is_undone_step told ≡ is_undone_step meant
is_undone_step-means s d answer.Here meant is = sym (ap is_undone_step is)
is_undone_step-means s d (answer.AtBreakpoint n) meant is = sym (ap is_undone_step is)
is_undone_step-means s d (answer.AtWatch n) meant is = sym (ap is_undone_step is)
is_undone_step-means s d (answer.AtFault fault) meant is = sym (ap is_undone_step is)
is_undone_step-means s d answer.HistoryEnd meant is = sym (ap is_undone_step is)
is_undone_step-means s d answer.StepLimit meant is = sym (ap is_undone_step is)
is_undone_step-means s d answer.UndoneStep meant is = sym (ap is_undone_step is)
is_undone_step-means s d answer.UndonePoke meant is = sym (ap is_undone_step is)
is_undone_step-means s d (answer.Shows target shown) meant (v, is, inside, found) = sym (ap is_undone_step is)
is_undone_step-means s d (answer.BreaksAt n line) meant is = sym (ap is_undone_step is)
is_undone_step-means s d (answer.Watches n target) meant is = sym (ap is_undone_step is)
is_undone_step-means s d (answer.Deleted n) meant is = sym (ap is_undone_step is)
is_undone_step-means s d answer.ListsStops meant is = sym (ap is_undone_step is)
is_undone_step-means s d answer.ListsLocals meant is = sym (ap is_undone_step is)
is_undone_step-means s d answer.ListsFrames meant is = sym (ap is_undone_step is)
is_undone_step-means s d (answer.KeepsHistory n) meant is = sym (ap is_undone_step is)
is_undone_step-means s d answer.Silent meant is = sym (ap is_undone_step is)
is_undone_step-means s d (answer.Refused r) meant is = sym (ap is_undone_step is)

-- a single step back takes back what a backward move does
back_one : (s : Setting) (d : Debugger) → 0 < kept_steps d → 0 < d.kept → (do_command s (DoReverseStep 1) d).next ≡ stepped_back d
back_one s d some kept =
    let none : (kept_steps d == 0) ≡ false = grind (arith, nat_tests) in
    let more : d.kept ≡ suc (d.kept - 1) = omega (arith, kept) in
    ap (λ b. (unless_refused (if b then Some NoHistory else outermost_refusal false (now s d)) d (backward d.kept s (Moves 1))).next) none
    ∙ ap (λ k. (backward k s (Moves 1) d).next) more

-- where a step is kept, an event is
pub some_kept : (d : Debugger) → 0 < kept_steps d → 0 < d.kept
some_kept d some = go d.kept refl
  where
    go : (k : ℕ) → d.kept ≡ k → 0 < d.kept
    go zero is = absurd (kept_some d is some)
    go (suc k) is = omega (arith, is)

-- what the last event is taken back to
pub undo_is : (s : Setting) (d : Debugger) → 0 < d.kept → do_command s DoUndo d ≡ reply (undone d.events) (taken_back d)
undo_is s d some =
    let kept : (d.kept == 0) ≡ false = grind (arith, nat_tests) in
    ap (λ b. if b then refused NoHistory d else reply (undone d.events) (taken_back d)) kept

fewer_steps : (d : Debugger) (events : List Event) (kept : ℕ) → d.events ≡ Step ∷ events → d.kept ≡ suc kept → kept_steps d ≡ suc (kept_steps (taken_back d))
fewer_steps d events kept is some =
    let less : d.kept - 1 ≡ kept = omega (arith, some) in
    let here : kept_steps d ≡ suc (length (filter is_step (take kept events))) = ap (λ es. length (filter is_step (take d.kept es))) is ∙ ap (λ n. length (filter is_step (take n (Step ∷ events)))) some in
    let after : kept_steps (taken_back d) ≡ length (filter is_step (take kept events)) = ap (λ es. length (filter is_step (take (d.kept - 1) es))) (ap (drop 1) is) ∙ ap (λ n. length (filter is_step (take n events))) less in
    here ∙ ap suc (sym after)

-- a step that is taken back is one of the single steps
pub undone_step : (s : Setting) (left : ℕ) (d : Debugger) → 0 < left → left ≤ kept_steps d → is_undone_step (undone d.events) ≡ true
    → (led s (replicate left (DoReverseStep 1)) d ≡ led s (replicate (left - 1) (DoReverseStep 1)) (taken_back d)) × (left - 1 ≤ kept_steps (taken_back d))
undone_step s left d some few told = go d.events refl
  where
    go : (events : List Event) → d.events ≡ events
        → (led s (replicate left (DoReverseStep 1)) d ≡ led s (replicate (left - 1) (DoReverseStep 1)) (taken_back d)) × (left - 1 ≤ kept_steps (taken_back d))
    go [] is = absurd (true≢false (sym told ∙ ap (λ es. is_undone_step (undone es)) is))
    go (Poke what word ∷ events) is = absurd (true≢false (sym told ∙ ap (λ es. is_undone_step (undone es)) is))
    go (Step ∷ events) is =
        let steps : 0 < kept_steps d = omega (arith, some, few) in
        let kept = some_kept d steps in
        let more : d.kept ≡ suc (d.kept - 1) = omega (arith, kept) in
        let fewer = fewer_steps d events (d.kept - 1) is more in (
          led_again s (DoReverseStep 1) left d some ∙ ap (led s (replicate (left - 1) (DoReverseStep 1))) (back_one s d steps kept ∙ sym (back_by_step d events is)),
          omega (arith, few, fewer),
        )

-- none of no events is a step
none_of_none : (k : ℕ) → 0 < length (filter is_step (take k [])) → ⊥
none_of_none zero h = omega (arith, h)
none_of_none (suc k) h = omega (arith, h)

-- a value that is taken back is a part of the next of them
pub undone_poke : (s : Setting) (left : ℕ) (d : Debugger) → 0 < left → left ≤ kept_steps d → is_undone_step (undone d.events) ≡ false
    → (led s (replicate left (DoReverseStep 1)) d ≡ led s (replicate left (DoReverseStep 1)) (taken_back d)) × (left ≤ kept_steps (taken_back d))
undone_poke s left d some few told = go d.events refl
  where
    go : (events : List Event) → d.events ≡ events
        → (led s (replicate left (DoReverseStep 1)) d ≡ led s (replicate left (DoReverseStep 1)) (taken_back d)) × (left ≤ kept_steps (taken_back d))
    go [] is = absurd (none_of_none d.kept (subst (λ es. 0 < length (filter is_step (take d.kept es))) is (omega (arith, some, few))))
    go (Step ∷ events) is = absurd (true≢false (sym (ap (λ es. is_undone_step (undone es)) is) ∙ told))
    go (Poke what word ∷ events) is =
        let steps : 0 < kept_steps d = omega (arith, some, few) in
        let kept = some_kept d steps in
        let more : d.kept ≡ (d.kept - 1) + 1 = omega (arith, kept) in
        let same = steps_by_poke d what word events (d.kept - 1) is more in
        let more_left : 0 < kept_steps (taken_back d) = omega (arith, steps, same) in
        let on = back_one s d steps kept ∙ sym (back_by_poke d what word events is) ∙ sym (back_one s (taken_back d) more_left (some_kept (taken_back d) more_left)) in (
          led_again s (DoReverseStep 1) left d some ∙ ap (led s (replicate (left - 1) (DoReverseStep 1))) on ∙ sym (led_again s (DoReverseStep 1) left (taken_back d) some),
          omega (arith, few, same),
        )

-- where no event is kept, no step is left to be taken back
pub none_left : (d : Debugger) (left : ℕ) → d.kept ≤ 0 → left ≤ kept_steps d → left ≤ 0
none_left d zero none few = omega arith
none_left d (suc left) none few =
    let some : 0 < kept_steps d = omega (arith, few) in
    let kept = some_kept d some in
    absurd (never d.kept none kept)
  where
    never : (k : ℕ) → k ≤ 0 → 0 < k → ⊥
    never k none some = omega arith
