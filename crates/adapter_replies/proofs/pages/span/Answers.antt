use Rattle.std.proofs.Common.{◌∙◌, sym, ap, ◌+◌, ◌-◌}
use Rattle.std.specs.Prelude.{min}
use Rattle.std.specs.List.{range_with_len}
use Rattle.adapter_replies.specs.Pages.{page_count}
use Rattle.adapter_replies.proofs.PageRanges.{paged_range}
use Rattle.adapter_replies.proofs.pages.span.Goals as goal

pub returns-clause-places : goal.returns-clause-places
returns-clause-places c =
    let page = c.args.page in
    let first = c.args.first in
    let count = c.args.count in
    let skipped = c.min-skipped.ensures ∙ ap (λ n. min n count) c.start_of.ensures in
    ap (range_with_len (first + c.min-skipped.result)) c.count_of.ensures.count
    ∙ ap (λ k. range_with_len (first + k) (page_count page.count (count - k))) skipped
    ∙ sym (paged_range page first count)
