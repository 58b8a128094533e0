use Rattle.std.proofs.Common.{◌≡◌, ◌∙◌, sym, ap, ap₂, length, map, Some, arith}
use Rattle.std.proofs.lemmas.List.{length-map}
use Rattle.adapter_requests.specs.declared.request.Filter.TheVariants as filter
use Rattle.adapter_requests.specs.declared.request.Page.{Page}
use Rattle.adapter_replies.specs.Frames.{frame_view}
use Rattle.adapter_replies.proofs.PageRanges.{map_paged}
use Rattle.adapter_replies.proofs.frames.frames_reply.Goals as goal

pub returns : goal.returns
returns c =
    let page : Page = record { start = c.args.start; count = c.args.levels; filter = filter.All } in
    let made = c.args.all.items in
    let count : c.len-total.result ≡ length made = omega (arith, c.len-total.ensures, c.args.all.ok.0) in
    ap₂ (λ told total. Some (told, total))
    (ap (map frame_view) c.in_ok-paged.ensures ∙ map_paged frame_view page made)
    (count ∙ sym (length-map made frame_view))
