use Rattle.std.proofs.Common.{◌≡◌, ℕ, List, map, sym, ap, ◌∙◌, rules}
use Rattle.std.specs.Prelude.{◌==◌, filter, not}
use Rattle.arrayvec.proofs.ArrayVecLemmas.{filter-from_retain}
use Rattle.prompt_scenes.specs.declared.holding.Displayed.{Displayed}
use Rattle.prompt_scenes.specs.Changes.{without_display}
use Rattle.prompt_scenes.specs.Holding.{Held, entry_of, held}
use Rattle.prompt_scenes.proofs.Entries.{without_entries}
use Rattle.prompt_scenes.proofs.holding.Holding.remove_display.Goals as goal

pub returns-in-Some : goal.returns-in-Some
returns-in-Some c =
    let old = c.args.self.now in
    let n = c.in-Some.number in
    let left : List (ℕ × List ℕ) → Held = λ displays. record (held old) { displays = displays } in
    let kept : c.retain.new.self.items ≡ filter (λ (e : Displayed). not (e.number == n)) old.displays.items =
    filter-from_retain _ _ _ (λ x b f' y called. search rules) _ _ c.retain.ensures.filtered in
    ap (λ xs. left (map entry_of xs)) kept ∙ ap left (without_entries n old.displays.items) ∙ ap (without_display (held old)) (sym c.in-Some.is)
