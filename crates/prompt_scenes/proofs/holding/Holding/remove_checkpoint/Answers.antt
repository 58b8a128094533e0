use Rattle.std.proofs.Common.{◌≡◌, ℕ, List, map, sym, ap, ◌∙◌, rules}
use Rattle.std.specs.Prelude.{◌==◌, filter, not}
use Rattle.arrayvec.proofs.ArrayVecLemmas.{filter-from_retain}
use Rattle.prompt_scenes.specs.declared.holding.Checkpoint.{Checkpoint}
use Rattle.prompt_scenes.specs.Changes.{without_checkpoint}
use Rattle.prompt_scenes.specs.Holding.{Held, held, noted_of}
use Rattle.prompt_scenes.proofs.Entries.{without_noted}
use Rattle.prompt_scenes.proofs.holding.Holding.remove_checkpoint.Goals as goal

pub returns-in-Some : goal.returns-in-Some
returns-in-Some c =
    let old = c.args.self.now in
    let n = c.in-Some.number in
    let left : List (ℕ × ℕ) → Held = λ checkpoints. record (held old) { checkpoints = checkpoints } in
    let kept : c.retain.new.self.items ≡ filter (λ (e : Checkpoint). not (e.number == n)) old.checkpoints.items =
    filter-from_retain _ _ _ (λ x b f' y called. search rules) _ _ c.retain.ensures.filtered in
    ap (λ xs. left (map noted_of xs)) kept ∙ ap left (without_noted n old.checkpoints.items) ∙ ap (without_checkpoint (held old)) (sym c.in-Some.is)
