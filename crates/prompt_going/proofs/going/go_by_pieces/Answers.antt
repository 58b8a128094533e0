use Rattle.std.proofs.Common.{◌≡◌, ◌≤◌, ◌<◌, ◌+◌, ◌*◌, true, false, refl, sym, subst, ◌∙◌, arith}
use Rattle.conditional_stops.specs.Going.{GoesOn, Passes, command_of}
use Rattle.conditional_stops.specs.Views.{table_of}
use Rattle.prompt_going.specs.GoingOn.{is_most, most}
use Rattle.prompt_going.proofs.StopPieces.{few_passed, piece_ends, piece_passes, pieces_pass}
use Rattle.prompt_going.proofs.going.go_by_pieces.Goals as goal

pub loop-piece-init : goal.loop-piece-init
loop-piece-init g c s d st = (d, st, (refl, refl))

pub loop-piece-preserved : goal.loop-piece-preserved
loop-piece-preserved g c s d st =
    let stands = g.M.RecordedMachine.stands in
    let way = c.args.direction in
    let a = c.loop-piece.piece * 10000 in
    let table = table_of c.args.conditions.now in
    let middle = table_of c.loop-piece.conditions in
    let new = table_of c.continue_on-moved.new.conditions in
    let moved = c.continue_on-moved.result in
    let session = c.continue_on-moved.new.session in
    let (at, there, passes) = c.loop-piece.invariant s d st in
    let all_passed : is_most moved.end ≡ true = sym c.is_most.ensures ∙ c.if-is_most.true in
    let (to, then, all) = piece_passes stands s way a 10000 d at table middle new moved session passes (c.continue_on-moved.ensures.moved s at there) all_passed in
    let one : a + 10000 ≡ (c.loop-piece.piece + 1) * 10000 = omega arith in
    (to, then, subst (λ n. Passes n s (command_of way) d table to new) one all)

pub returns-else-is_most : goal.returns-else-is_most
returns-else-is_most g c s d st =
    let stands = g.M.RecordedMachine.stands in
    let way = c.args.direction in
    let a = c.loop-piece.piece * 10000 in
    let table = table_of c.args.conditions.now in
    let middle = table_of c.loop-piece.conditions in
    let new = table_of c.continue_on-moved.new.conditions in
    let moved = c.continue_on-moved.result in
    let session = c.continue_on-moved.new.session in
    let (at, there, passes) = c.loop-piece.invariant s d st in
    let goes = c.continue_on-moved.ensures.moved s at there in
    let other : is_most moved.end ≡ false = sym c.is_most.ensures ∙ c.if-is_most.false in
    let few : a + 10000 ≤ 1000000 = omega (arith, c.loop-piece-test.true) in
    let within : moved.passed < 10000 = few_passed stands s way 10000 at middle new moved session goes other in
    let so : a + moved.passed ≡ c.saturating_add.result = omega (arith, few, within, c.saturating_mul.ensures, c.saturating_add.ensures) in
    subst (λ n. GoesOn stands s way most d table (record { end = moved.end; passed = n }) session new) so
    (piece_ends stands s way a 10000 d at table middle new moved session 1000000 few passes goes other)

pub returns : goal.returns
returns g c s d st =
    let way = c.args.direction in
    let table = table_of c.args.conditions.now in
    let new = table_of c.loop-piece.conditions in
    let (at, there, passes) = c.loop-piece.invariant s d st in
    let all : c.loop-piece.piece * 10000 ≡ 1000000 = omega (arith, c.loop-piece-test.false, c.loop-piece.auto.piece-end) in
    pieces_pass g.M.RecordedMachine.stands s way most d at table new c.loop-piece.session there (subst (λ n. Passes n s (command_of way) d table at new) all passes)
