use Rattle.std.proofs.Common.{ℕ, List, ap, ◌∙◌, take_all}
use Rattle.arrayvec.specs.ArrayVec.{ArrayVec}
use Rattle.prompt_stops.proofs.lists.copy_of.Goals as goal

pub returns : goal.returns
returns c =
    let made : List ℕ → ArrayVec ℕ = λ xs. record { items = xs } in
    ap made (c.held_line.ensures.text ∙ take_all 257 c.as_slice.result.now c.as_slice.ensures.fits ∙ c.as_slice.ensures.value)
