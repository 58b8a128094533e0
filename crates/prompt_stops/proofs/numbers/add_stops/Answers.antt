use Rattle.std.proofs.Common.{ℕ, Bool, ◌<◌, ◌++◌, length, map, take, sym, ap, ◌∙◌, rules, append-nil, take_all}
use Rattle.std.specs.Prelude.{filter}
use Rattle.debug_answers.specs.declared.stops.NumberedStop.{NumberedStop}
use Rattle.prompt_lines.specs.Numbers.{names_number}
use Rattle.prompt_stops.proofs.Numbered.{added_next}
use Rattle.prompt_stops.proofs.numbers.add_stops.Goals as goal

pub loop-entry-init : goal.loop-entry-init
loop-entry-init c = (
  sym (ap (take 80) (append-nil c.args.numbers.now.items) ∙ take_all 80 c.args.numbers.now.items c.requires),
  c.requires,
)

pub loop-entry-preserved : goal.loop-entry-preserved
loop-entry-preserved c =
    let all = c.args.stops.now in
    let i = c.loop-entry.entry-index in
    let named : ℕ → Bool = λ n. names_number n c.args.text.now in
    let number : NumberedStop → ℕ = λ e. e.number in
    let old = c.args.numbers.now.items in
    let now = c.loop-entry.numbers.items in
    let new = c.add_if_named.new.numbers.items in
    let inside : i < length all = search rules in (
      added_next named number all i _ old now new inside c.loop-entry.invariant.0 c.add_if_named.ensures.items,
      c.add_if_named.ensures.few,
    )

pub returns-clause-items : goal.returns-clause-items
returns-clause-items c =
    let number : NumberedStop → ℕ = λ e. e.number in
    c.loop-entry.invariant.0
    ∙ ap (λ xs. take 80 (c.args.numbers.now.items ++ filter (λ n. names_number n c.args.text.now) (map number xs))) (take_all c.loop-entry.entry-index c.args.stops.now c.loop-entry-test.false)
