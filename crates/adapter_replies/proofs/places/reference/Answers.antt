use Rattle.std.proofs.Common.{◌≡◌, ◌*◌, ◌+◌, ◌/◌, ◌%◌, ◌∙◌, sym, ap, true, false, nat_lt, if◌then◌else◌, arith}
use Rattle.std.specs.Prelude.{◌&&◌}
use Rattle.adapter_replies.specs.declared.places.Place.TheVariants as place
use Rattle.adapter_replies.specs.References.{has_room, numbered}
use Rattle.adapter_replies.proofs.ActiveLanes.{is_below, is_past}
use Rattle.adapter_replies.proofs.places.reference.Goals as goal

pub returns-then-number-lt-NUMBERS : goal.returns-then-number-lt-NUMBERS
returns-then-number-lt-NUMBERS c =
    let kind = c.args.kind in
    let deep = c.args.depth in
    let number = c.args.number in
    let few = c.requires in
    let shallow = c.if-depth-lt-DEPTHS.true in
    let low = c.if-number-lt-NUMBERS.true in
    let n = number * 1000 + deep * 10 + kind in
    let small : nat_lt 2147483647 n ≡ false = is_past 2147483647 n (omega (arith, few, shallow, low)) in
    let last : n % 10 ≡ kind = omega (arith, few) in
    let middle : n / 10 % 100 ≡ deep = omega (arith, few, shallow) in
    let front : n / 1000 ≡ number = omega (arith, few, shallow) in
    let room : has_room deep number ≡ true = ap (λ b. b && nat_lt number 2147483) (is_below deep 100 shallow) ∙ is_below number 2147483 low in
    ap (λ b. if b then place.Nothing else numbered (n % 10) (n / 10 % 100) (n / 1000)) small
    ∙ ap (λ k. numbered k (n / 10 % 100) (n / 1000)) last
    ∙ ap (λ k. numbered kind k (n / 1000)) middle
    ∙ ap (numbered kind deep) front
    ∙ ap (λ b. if b then numbered kind deep number else place.Nothing) (sym room)
