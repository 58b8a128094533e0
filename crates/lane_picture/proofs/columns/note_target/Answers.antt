use Rattle.std.proofs.Common.{◌∙◌, sym}
use Rattle.debug_commands.specs.Views.{target_view}
use Rattle.lane_picture.proofs.Watching.{ok_more, part_noted, refused_noted, whole_noted}
use Rattle.lane_picture.proofs.columns.note_target.Goals as goal

pub returns-in-None : goal.returns-in-None
returns-in-None g c = record {
  noted = ok_more c.note_words.result
      (whole_noted g.M.RecordedMachine.stands c.args.machine.now (target_view c.args.target) c.in-Some.shown c.in-Some.ensures _ c.args.values.now.items c.note_words.new.values.items c.in-None.is
      c.min.ensures) c.note_words.ensures.noted;
}

pub returns-in-Some-at : goal.returns-in-Some-at
returns-in-Some-at g c = record {
  noted = ok_more c.note_words-in-Some-at.result
      (part_noted g.M.RecordedMachine.stands c.args.machine.now (target_view c.args.target) c.in-Some.shown c.in-Some.ensures c.in-Some-at.index c.args.values.now.items
      c.note_words-in-Some-at.new.values.items c.in-Some-at.is (sym c.has_part.ensures.shown ∙ c.if-has_part.true) (c.has_part.ensures.inside c.if-has_part.true)) c.note_words-in-Some-at.ensures.noted;
}

pub returns-in-Some-2 : goal.returns-in-Some-2
returns-in-Some-2 g c = record {
  noted = refused_noted g.M.RecordedMachine.stands c.args.machine.now (target_view c.args.target) c.in-Some.shown c.in-Some.ensures c.in-Some-at.index c.args.values.now.items c.in-Some-at.is
      (sym c.has_part.ensures.shown ∙ c.if-has_part.false);
}
