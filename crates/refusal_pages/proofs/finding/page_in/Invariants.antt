-- the headings before this one do not have the name
use Rattle.std.proofs.Common.{◌≡◌, drop, map}
use Rattle.std.specs.Prelude.{find}
use Rattle.refusal_pages.specs.Pages.{heading_view, is_named}
use Rattle.refusal_pages.proofs.finding.page_in.Given as goal

abbrev pub invariant-loop-heading : goal.invariant-loop-heading
invariant-loop-heading l = find (is_named l.name) (map heading_view (drop l.heading-index l.headings)) ≡ find (is_named l.name) (map heading_view l.headings)
