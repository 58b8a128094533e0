use Rattle.std.proofs.Common.{ℕ, ◌≡◌, ◌<◌, ◌∙◌, true, refl, sym, ap, subst, arith, length}
use Rattle.std.specs.Prelude.{◌&&◌, nat_lt}
use Rattle.std.proofs.lemmas.Bool.{and_parts, ltb-true}
use Rattle.std.proofs.lemmas.Option.{slice_get_read}
use Rattle.gang_memory.specs.declared.layout.Layout.{Layout}
use Rattle.gang_memory.specs.Layouts.{IsRangeOfFrame}
use Rattle.machine_states.specs.Regions.{Head, OfHead}
use Rattle.machine_words.specs.Ranges.{has_part, is_there, levels_of, range_of}
use Rattle.machine_words.specs.Views.{head_view, region_view}
use Rattle.machine_words.proofs.Apart.{part_below}
use Rattle.machine_words.proofs.Found.{depth_found, entry_found, file_found, head_found, local_found}
use Rattle.machine_words.proofs.Plans.{plan_of}
use Rattle.machine_words.proofs.ranges.range.Goals as goal

pub index-requires-in-Depth : goal.index-requires-in-Depth
index-requires-in-Depth g c =
    let layout = c.args.layout.now in
    let plan = plan_of g.row.W layout c.requires.planned in
    omega (arith, plan.own_long, layout.machine.ok)

part_there : (layout : Layout) (frame : ℕ) (part : Head) → is_there layout (OfHead frame part) ≡ true → (has_part (levels_of layout) part ≡ true) × (nat_lt frame layout.frames.count ≡ true)
part_there layout frame part h = and_parts (has_part (levels_of layout) part) (nat_lt frame layout.frames.count) h

pub head-requires-clause-part : goal.head-requires-clause-part
head-requires-clause-part g c =
    let plan = plan_of g.row.W c.args.layout.now c.requires.planned in
    omega (
      arith,
      c.part.ensures,
      plan.head_long,
      part_below (levels_of c.args.layout.now) (head_view c.in-Head.part) (part_there c.args.layout.now c.in-Head.frame (head_view c.in-Head.part)
          (sym (ap (λ r. is_there c.args.layout.now (region_view r)) c.in-Head.is) ∙ c.requires.there)).0,
    )

pub head-requires-clause-small : goal.head-requires-clause-small
head-requires-clause-small g c =
    let plan = plan_of g.row.W c.args.layout.now c.requires.planned in
    subst (λ n. n < 18446744073709551616) plan.end c.requires.small

pub variable-requires-clause-small : goal.variable-requires-clause-small
variable-requires-clause-small g c =
    let plan = plan_of g.row.W c.args.layout.now c.requires.planned in
    subst (λ n. n < 18446744073709551616) plan.end c.requires.small

pub returns-in-File : goal.returns-in-File
returns-in-File g c =
    let layout = c.args.layout.now in
    let files = layout.file.items in
    let number = c.in-File.number in
    let there : nat_lt number (length files) ≡ true = sym (ap (λ r. is_there layout (region_view r)) c.in-File.is) ∙ c.requires.there in
    ap (λ r. range_of g.row.W layout (region_view r)) c.in-File.is
    ∙ file_found g.row.W layout c.index.result.now number
    (slice_get_read files (length files) number c.index.result.now refl (ltb-true number (length files) there) c.index.ensures)

pub returns-in-Entry : goal.returns-in-Entry
returns-in-Entry g c =
    let layout = c.args.layout.now in
    let entries = layout.entry.items in
    let number = c.in-Entry.number in
    let there : nat_lt number (length entries) ≡ true = sym (ap (λ r. is_there layout (region_view r)) c.in-Entry.is) ∙ c.requires.there in
    ap (λ r. range_of g.row.W layout (region_view r)) c.in-Entry.is
    ∙ entry_found g.row.W layout c.index-in-Entry.result.now number
    (slice_get_read entries (length entries) number c.index-in-Entry.result.now refl (ltb-true number (length entries) there) c.index-in-Entry.ensures)

pub returns-in-Depth : goal.returns-in-Depth
returns-in-Depth g c =
    let layout = c.args.layout.now in
    let own = layout.machine.items in
    let plan = plan_of g.row.W layout c.requires.planned in
    ap (λ r. range_of g.row.W layout (region_view r)) c.in-Depth.is
    ∙ depth_found g.row.W layout c.index-in-Depth.result.now
    (slice_get_read own (length own) 0 c.index-in-Depth.result.now refl (omega (arith, plan.own_long)) c.index-in-Depth.ensures)

pub returns-in-Head : goal.returns-in-Head
returns-in-Head g c =
    let layout = c.args.layout.now in
    let frame = c.in-Head.frame in
    let there = part_there layout frame (head_view c.in-Head.part) (sym (ap (λ r. is_there layout (region_view r)) c.in-Head.is) ∙ c.requires.there) in
    ap (λ r. range_of g.row.W layout (region_view r)) c.in-Head.is
    ∙ head_found g.row.W layout c.head.result frame (head_view c.in-Head.part) there.0 (ltb-true frame layout.frames.count there.1)
    (subst (λ n. IsRangeOfFrame g.row.W layout.frames frame n c.head.result) c.part.ensures c.head.ensures)

pub returns-in-Local : goal.returns-in-Local
returns-in-Local g c =
    let layout = c.args.layout.now in
    let frame = c.in-Local.frame in
    let number = c.in-Local.number in
    let there : (nat_lt frame layout.frames.count && nat_lt number layout.frames.variables) ≡ true = sym (ap (λ r. is_there layout (region_view r)) c.in-Local.is) ∙ c.requires.there in
    let both = and_parts (nat_lt frame layout.frames.count) (nat_lt number layout.frames.variables) there in
    ap (λ r. range_of g.row.W layout (region_view r)) c.in-Local.is
    ∙ local_found g.row.W layout c.variable.result frame number (ltb-true frame layout.frames.count both.0) (ltb-true number layout.frames.variables both.1) c.variable.ensures
