use Rattle.std.proofs.Common.{◌∷◌, [], ◌++◌, ◌+◌, ◌∙◌, sym, ap, zero-add}
use Rattle.std.specs.Prelude.{cond}
use Rattle.std.proofs.lemmas.List.FromFn.{filter_of_map_range_with_len_more}
use Rattle.adapter_replies.specs.Locations.{has_place}
use Rattle.adapter_replies.proofs.locations.places_among.Goals as goal

pub loop-index-preserved : goal.loop-index-preserved
loop-index-preserved g c s d st =
    let first = c.args.first in
    let index = c.loop-index.index in
    let line = first + index in
    c.in_ok-push_place.ensures s d st
    ∙ ap (λ old. old ++ cond (has_place s.program line) (line ∷ []) []) (c.loop-index.invariant s d st)
    ∙ sym (filter_of_map_range_with_len_more (has_place s.program) (λ n. first + n) 0 index index (zero-add index))
