use Rattle.std.proofs.Common.{◌≡◌, ℕ, Bool, List, ◌++◌, [], map, take, ap, ◌∙◌}
use Rattle.std.specs.Prelude.{filter}
use Rattle.conditional_stops.specs.declared.watches.Watch.{Watch}
use Rattle.conditional_stops.specs.Watches.{watch_number}
use Rattle.debug_answers.specs.declared.stops.NumberedStop.{NumberedStop}
use Rattle.prompt_lines.specs.Numbers.{names_number}
use Rattle.prompt_stops.proofs.Numbered.{added_on, numbers_are}
use Rattle.prompt_stops.proofs.numbers.numbers_named.Goals as goal

pub returns : goal.returns
returns g c s d st =
    let named : ℕ → Bool = λ n. names_number n c.args.text.now in
    let number : NumberedStop → ℕ = λ e. e.number in
    let own : Watch → ℕ = watch_number in
    let frames = map own c.args.holding.now.frames.items in
    let given = c.args.session.now.stops.items in
    let stops : List ℕ = map number given in
    let first : c.add_stops.new.numbers.items ≡ take 80 (filter named stops) =
    c.add_stops.ensures.items ∙ ap (λ xs. take 80 (xs ++ filter named (map number c.stops.result.now))) c.new-numbers.ensures ∙ ap (λ xs. take 80 (filter named (map number xs))) c.stops.ensures in
    let second : c.add_frames.new.numbers.items ≡ take 80 (c.add_stops.new.numbers.items ++ filter named frames) =
    c.add_frames.ensures.items ∙ ap (λ xs. take 80 (c.add_stops.new.numbers.items ++ filter named (map own xs))) c.as_slice.ensures.value in
    added_on named [] c.add_stops.new.numbers.items c.add_frames.new.numbers.items stops frames first second
    ∙ ap (λ xs. take 80 (filter named (xs ++ frames))) (numbers_are s given d.stops st.stops)
