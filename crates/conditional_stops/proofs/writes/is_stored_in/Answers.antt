use Rattle.std.proofs.Common.{◌≡◌, sym, ap, ◌∙◌, Bool, true, false, length, true≢false}
use Rattle.std.specs.Prelude.{◌&&◌}
use Rattle.gang_model.specs.Debugger.Debugger.{now, shown_words}
use Rattle.gang_model.specs.Running.State.{same_id}
use Rattle.debug_session.specs.Sessions.{bare}
use Rattle.debug_traits.specs.Frames.{state_at}
use Rattle.frame_expressions.specs.Stores.{stores_to}
use Rattle.conditional_stops.specs.Writes.{count_of, first_of}
use Rattle.conditional_stops.proofs.writes.is_stored_in.Goals as goal
use Rattle.conditional_stops.proofs.writes.is_stored_in.Goals.{then-shown, else-shown}

both : (a b c d : Bool) → a ≡ true → b ≡ true → c ≡ d → c ≡ (a && (b && d))
both a b c d at bt cd = cd ∙ sym (ap (λ a. a && (b && d)) at ∙ ap (λ b. true && (b && d)) bt)

pub returns-then-is_same : goal.returns-then-is_same
returns-then-is_same g c s d v st is =
    let a = c.args in
    let deep = a.watch.now.depth in
    let p = a.watch.now.place.part in
    let array : v.is_array ≡ true = elim c.if-shown.branch [
      | then-shown w ↦ is.is_array ∙ w.if-shown.true
      | else-shown w ↦ is.is_array ∙ (sym w.value-is ∙ c.if-is_same.true)
    ] in
    let same : same_id v.id a.watch.now.place.id ≡ true = elim c.if-shown.branch [
      | then-shown w ↦ ap (λ x. same_id x a.watch.now.place.id) is.id ∙ (sym w.is_same.ensures ∙ (sym w.value-is ∙ c.if-is_same.true))
      | else-shown w ↦ absurd (true≢false (sym c.if-is_same.true ∙ (w.value-is ∙ w.if-shown.false)))
    ] in
    let stored = c.stores_to.ensures s (bare d) v st is array in
    both v.is_array (same_id v.id a.watch.now.place.id) c.stores_to.result
    (stores_to s.program deep v.id (first_of p) (count_of p (length (shown_words (state_at deep (now s d)) v))) (now s d))
    array same
    (stored ∙ ap (λ n. stores_to s.program deep v.id n c.count.result (now s d)) c.first.ensures
    ∙ ap (λ n. stores_to s.program deep v.id (first_of p) n (now s d)) (c.count.ensures ∙ ap (count_of p) (sym is.count)))
