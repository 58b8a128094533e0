use Rattle.std.proofs.Common.{◌∙◌, ◌<◌, refl, sym, ap, length}
use Rattle.std.proofs.lemmas.Option.{slice_get_read, slice_get_within}
use Rattle.lane_meetings.specs.Partings.{is_of}
use Rattle.lane_meetings.proofs.Counting.{one_row, rows_more}
use Rattle.lane_meetings.proofs.rows.Rows.add.Goals as goal

pub returns-in-Some-clause-counts : goal.returns-in-Some-clause-counts
returns-in-Some-clause-counts c measure chosen fits =
    let rows = c.args.self.now.rows.items in
    let number = c.in-Some.number in
    let found = c.in-Some.ensures in
    let old = c.index_mut.result.now in
    let within : number < length rows = slice_get_within rows number found.0 found.1 in
    let same = one_row found.0 old (sym found.1 ∙ slice_get_read rows (length rows) number old refl within c.index_mut.ensures.value) in
    rows_more measure chosen rows number c.args.ended.line c.args.ended.between c.args.ended.meets_at old c.add.new.self within (sym c.index_mut.ensures.value)
    (ap (is_of c.args.ended.line c.args.ended.meets_at) (sym same) ∙ found.2) c.add.ensures.line c.add.ensures.meets_at c.add.ensures.times c.add.ensures.between fits
