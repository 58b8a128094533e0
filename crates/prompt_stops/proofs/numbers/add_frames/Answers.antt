use Rattle.std.proofs.Common.{◌≡◌, ℕ, Bool, ◌<◌, ◌++◌, ◌∷◌, [], get_or, length, map, take, sym, ap, ◌∙◌, rules, append-nil, take_all}
use Rattle.std.specs.Prelude.{filter}
use Rattle.conditional_stops.specs.declared.watches.Watch.{Watch}
use Rattle.conditional_stops.specs.Watches.{watch_number}
use Rattle.prompt_lines.specs.Numbers.{names_number}
use Rattle.prompt_stops.proofs.Numbered.{added_next}
use Rattle.prompt_stops.proofs.numbers.add_frames.Goals as goal

pub loop-watch-init : goal.loop-watch-init
loop-watch-init c = (
  sym (ap (take 80) (append-nil c.args.numbers.now.items) ∙ take_all 80 c.args.numbers.now.items c.requires),
  c.requires,
)

pub loop-watch-preserved : goal.loop-watch-preserved
loop-watch-preserved c =
    let all = c.args.frames.now in
    let i = c.loop-watch.watch-index in
    let named : ℕ → Bool = λ n. names_number n c.args.text.now in
    let number : Watch → ℕ = watch_number in
    let old = c.args.numbers.now.items in
    let now = c.loop-watch.numbers.items in
    let new = c.add_if_named.new.numbers.items in
    let x = c.watch-item.result in
    let inside : i < length all = search rules in
    let one : new ≡ take 80 (now ++ filter named (number (get_or all i x) ∷ [])) =
    c.add_if_named.ensures.items ∙ ap (λ n. take 80 (now ++ filter named (n ∷ []))) c.number.ensures ∙ ap (λ w. take 80 (now ++ filter named (number w ∷ []))) c.watch-item.is in (
      added_next named number all i x old now new inside c.loop-watch.invariant.0 one,
      c.add_if_named.ensures.few,
    )

pub returns-clause-items : goal.returns-clause-items
returns-clause-items c =
    let number : Watch → ℕ = watch_number in
    c.loop-watch.invariant.0
    ∙ ap (λ xs. take 80 (c.args.numbers.now.items ++ filter (λ n. names_number n c.args.text.now) (map number xs))) (take_all c.loop-watch.watch-index c.args.frames.now c.loop-watch-test.false)
