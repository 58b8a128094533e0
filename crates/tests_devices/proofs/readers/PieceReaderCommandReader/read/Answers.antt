use Rattle.std.proofs.Common.{◌≡◌, ◌<◌, ◌++◌, length, take, drop, sym, ap, ◌∙◌, arith, length-append, length-drop, length-take}
use Rattle.std.proofs.lemmas.List.{take_at, take-append-drop, drop_all}
use Rattle.tests_devices.proofs.readers.PieceReaderCommandReader.read.Goals as goal

pub returns-clause-bytes : goal.returns-clause-bytes
returns-clause-bytes g c =
    let rest = c.args.self.now.rest.now in
    let n = c.min-n.result in
    let copied : c.copy_from_slice.new.self ≡ take n rest = c.copy_from_slice.ensures.after ∙ c.split_at.ensures.front in
    let count : length c.copy_from_slice.new.self ≡ n = omega (arith, ap length copied, length-take n rest) in
    let front = take_at c.copy_from_slice.new.self (drop n c.args.into.now) n count in (
      sym (take-append-drop n rest) ∙ ap (λ l. l ++ drop n rest) (sym copied ∙ sym front) ∙ ap (λ l. take n (c.copy_from_slice.new.self ++ drop n c.args.into.now) ++ l) (sym c.split_at.ensures.back),
      λ none some.
          let room : 0 < length c.args.into.now = omega (arith, length-append c.copy_from_slice.new.self (drop n c.args.into.now), length-drop n c.args.into.now) in
          let empty : length rest ≡ 0 = omega arith in
          c.split_at.ensures.back ∙ drop_all n rest (omega arith),
    )
