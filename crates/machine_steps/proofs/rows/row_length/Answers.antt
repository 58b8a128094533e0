use Rattle.std.proofs.Common.{◌≡◌, ap, sym, ◌∙◌, length, arith}
use Rattle.std.specs.Prelude.{option_map}
use Rattle.machine_steps.proofs.RowLengths.{found_long, words_long}
use Rattle.machine_steps.proofs.rows.row_length.Goals as goal

pub returns-in-Some : goal.returns-in-Some
returns-in-Some c given are arrays =
    (let size : c.len.result ≡ length c.in-Some.row.now.values.items = omega (arith, c.len.ensures) in size)
    ∙ ap words_long (ap (option_map (λ row. row.now)) (sym c.in-Some.is) ∙ c.row_of.ensures) ∙ found_long given c.args.rows.now c.args.number are arrays

pub returns-in-None : goal.returns-in-None
returns-in-None c given are arrays =
    ap words_long (ap (option_map (λ row. row.now)) (sym c.in-None.is) ∙ c.row_of.ensures) ∙ found_long given c.args.rows.now c.args.number are arrays
