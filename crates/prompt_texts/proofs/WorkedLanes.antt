-- What is told of the share of the active lanes, computed.
use Rattle.std.proofs.Common.{◌≡◌, refl}
use Rattle.std.specs.Prelude.{None, codes}
use Rattle.std.specs.Fmt.{digits}
use Rattle.prompt_texts.specs.declared.lanes.LaneShare.{LaneShare}
use Rattle.prompt_texts.specs.LaneShares.{lanes_text, line_text, function_text}

-- 2 of 16 places are taken by four steps of a gang of 4
few : LaneShare
few = record { steps = 4; share = 125; lost = 14 }

none : LaneShare
none = record { steps = 0; share = 1000; lost = 0 }

run_row : lanes_text 4 None few ≡ codes "lanes so far, of 4           steps   share       lost\n  run                            4   12.5%         14\n"
unfolding few digits
run_row = refl

no_step_row : lanes_text 16 None none ≡ codes "no step has been made yet\n"
unfolding none
no_step_row = refl

line_row : line_text 12 none ≡ codes "  line 12                no step yet\n"
unfolding none digits
line_row = refl

-- a long name moves the columns
long_row : function_text (codes "a_name_of_more_than_its_room") few ≡ codes "  a_name_of_more_than_its_room         4   12.5%         14\n"
unfolding few digits
long_row = refl
