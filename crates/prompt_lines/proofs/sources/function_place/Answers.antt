use Rattle.std.proofs.Common.{◌≡◌, ◌<◌, ℕ, List, true, false, length, get_or, sym, ap, ◌∙◌, arith}
use Rattle.std.specs.Prelude.{◌==◌, ◌&&◌}
use Rattle.prompt_lines.specs.Sources.{begins_function, count_before, declares}
use Rattle.prompt_lines.proofs.Places.{at_most_one, count_next, passed, reached}
use Rattle.prompt_lines.proofs.sources.function_place.Goals as goal

-- whether a place declares, by what is counted
by_counts : (text name : List ℕ) (place opened closed : ℕ) → opened ≡ count_before 123 text place → closed ≡ count_before 125 text place
    → declares text name place ≡ ((opened == closed) && begins_function text name place)
by_counts text name place opened closed o c =
    ap (λ k. (k == count_before 125 text place) && begins_function text name place) (sym o) ∙ ap (λ k. (opened == k) && begins_function text name place) (sym c)

pub returns-then-declares-clause-place : goal.returns-then-declares-clause-place
returns-then-declares-clause-place c =
    let text = c.args.text.now in
    let name = c.args.name.now in
    let l = c.loop-place in
    let (o, k, few, fewer, first) = l.invariant in
    let inside : l.place < length text = omega (arith, c.loop-place-test.true) in
    let here : declares text name l.place ≡ true = by_counts text name l.place l.opened l.closed o k ∙ sym c.declares.ensures ∙ c.if-declares.true in
    sym (first ∙ reached (declares text name) (length text) l.place inside here)

pub loop-place-preserved : goal.loop-place-preserved
loop-place-preserved c =
    let text = c.args.text.now in
    let name = c.args.name.now in
    let l = c.loop-place in
    let (o, k, few, fewer, first) = l.invariant in
    let inside : l.place < length text = omega (arith, c.loop-place-test.true) in
    let none : declares text name l.place ≡ false = by_counts text name l.place l.opened l.closed o k ∙ sym c.declares.ensures ∙ c.if-declares.false in (
      omega (arith, o, c.count_at-opened.ensures, count_next 123 text l.place inside),
      omega (arith, k, c.count_at-closed.ensures, count_next 125 text l.place inside),
      omega (arith, few, c.count_at-opened.ensures, at_most_one (get_or text l.place 0 == 123)),
      omega (arith, fewer, c.count_at-closed.ensures, at_most_one (get_or text l.place 0 == 125)),
      first ∙ passed (declares text name) (length text) l.place inside none,
    )
