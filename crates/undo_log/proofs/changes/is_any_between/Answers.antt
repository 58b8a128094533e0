use Rattle.std.proofs.Common.{◌≡◌, ◌∙◌, ◌-◌, ◌++◌, ◌||◌, Bool, ap, arith, drop, false, length, refl, sym, take, true}
use Rattle.std.specs.List.{list_any}
use Rattle.std.proofs.lemmas.List.Folds.{list_any-append}
use Rattle.circular_buffer.specs.Buffer.{keep_last}
use Rattle.undo_log.proofs.Deltas.{is_between}
use Rattle.undo_log.proofs.Halves.{last_of_both}
use Rattle.undo_log.proofs.changes.is_any_between.Goals as goal

either : (a b : Bool) → b ≡ true → (a || b) ≡ true
either true b h = refl
either false b h = h

neither : (a b : Bool) → b ≡ false → (a || b) ≡ a
neither true b h = refl
neither false b h = h

pub returns-then-is_one_between : goal.returns-then-is_one_between
returns-then-is_one_between c =
    let front = c.as_slices.result.0.now in
    let back = c.as_slices.result.1.now in
    let i = c.min-in_front.result in
    let j = c.saturating_sub-in_back.result in
    let older = take (length front - i) (drop i front) in
    let newer = take (length back - j) (drop j back) in
    let test = is_between c.args.first c.args.end in
    let parts : keep_last c.args.count c.args.changes.now.items ≡ older ++ newer =
    last_of_both c.args.count i j front back c.args.changes.now.items c.as_slices.ensures
    (omega (arith, c.min-in_front.ensures, c.saturating_sub-oldest.ensures, c.len.ensures.len)) c.saturating_sub-in_back.ensures in
    c.if-is_one_between.true
    ∙ sym (ap (list_any test) parts ∙ (list_any-append test older newer ∙ either (list_any test older) (list_any test newer) (sym c.is_one_between.ensures ∙ c.if-is_one_between.true)))

pub returns-else-is_one_between : goal.returns-else-is_one_between
returns-else-is_one_between c =
    let front = c.as_slices.result.0.now in
    let back = c.as_slices.result.1.now in
    let i = c.min-in_front.result in
    let j = c.saturating_sub-in_back.result in
    let older = take (length front - i) (drop i front) in
    let newer = take (length back - j) (drop j back) in
    let test = is_between c.args.first c.args.end in
    let parts : keep_last c.args.count c.args.changes.now.items ≡ older ++ newer =
    last_of_both c.args.count i j front back c.args.changes.now.items c.as_slices.ensures
    (omega (arith, c.min-in_front.ensures, c.saturating_sub-oldest.ensures, c.len.ensures.len)) c.saturating_sub-in_back.ensures in
    c.is_one_between-else-is_one_between.ensures
    ∙ sym (ap (list_any test) parts
    ∙ (list_any-append test older newer ∙ neither (list_any test older) (list_any test newer) (sym c.is_one_between.ensures ∙ c.if-is_one_between.false)))
