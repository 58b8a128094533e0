use Rattle.std.proofs.Common.{◌+◌, ◌≤◌, sym, ap, subst, arith, [], ◌∷◌}
use Rattle.std.specs.Prelude.{◌-◌, slice_set}
use Rattle.undo_log.specs.declared.timeline.Undone.TheVariants as undone
use Rattle.machine_states.specs.Regions.{Depth, with_region}
use Rattle.machine_words.specs.Words.{AreLaid, Writes, left_of, regions_in, words_of}
use Rattle.machine_words.proofs.Sizes.{depth_words}
use Rattle.frame_steps.proofs.Standings.{begun, ends_well, leaving_within}
use Rattle.machine_steps.specs.Leaving.{behind_call}
use Rattle.machine_steps.proofs.LeftFrames.{begun_closing, begun_laid, begun_shown, begun_sized, depth_set, goes_nowhere, goes_past, past_under_way}
use Rattle.machine_steps.proofs.leaving.leave.Goals.{else-active-gt0, then-active-gt0}
use Rattle.machine_steps.proofs.leaving.leave.Goals as goal

pub set-requires-clause-laid : goal.set-requires-clause-laid
set-requires-clause-laid g c =
    let history = g.T.Timeline.history in
    let left = g.T.Timeline.left in
    let w = g.row.W in
    let compiled = c.args.compiled.now in
    let old = c.args.words.now in
    let mid = c.begin.new.words in
    let laid : AreLaid history w c.if-active-gt0.words =
    elim c.if-active-gt0.branch [
      | then-active-gt0 b ↦
          let closing = begun_closing history left w compiled old mid c.requires.sound c.begin.ensures c.args.active c.requires.closing in
          subst (λ words. AreLaid history w words) (sym b.words-is) (b.go_past_call.ensures closing.0 closing.1).laid
      | else-active-gt0 b ↦ subst (λ words. AreLaid history w words) (sym b.words-is) (begun_laid history left w compiled old mid c.requires.sound c.begin.ensures)
    ] in
    laid

pub set-requires-clause-within : goal.set-requires-clause-within
set-requires-clause-within g c =
    let history = g.T.Timeline.history in
    let words = c.if-active-gt0.words in
    let laid : AreLaid history g.row.W words = set-requires-clause-laid g c in
    omega (arith, depth_words g.row.W words.layout (words_of history words) laid)

pub set-requires-clause-left : goal.set-requires-clause-left
set-requires-clause-left g c =
    let history = g.T.Timeline.history in
    let left = g.T.Timeline.left in
    let w = g.row.W in
    let compiled = c.args.compiled.now in
    let old = c.args.words.now in
    let mid = c.begin.new.words in
    let room = leaving_within history w compiled old c.requires.sound.lie in
    let begins = c.begin.ensures.left_is in
    let enough : 1 ≤ left_of history left c.if-active-gt0.words =
    elim c.if-active-gt0.branch [
      | then-active-gt0 b ↦
          let closing = begun_closing history left w compiled old mid c.requires.sound c.begin.ensures c.args.active c.requires.closing in
          let gone = b.go_past_call.ensures closing.0 closing.1 in
          omega (arith, room, begins, gone.few, ap (left_of history left) b.words-is)
      | else-active-gt0 b ↦ omega (arith, room, begins, ap (left_of history left) b.words-is)
    ] in
    enough

pub returns : goal.returns
returns g c = λ masked shown.
    let history = g.T.Timeline.history in
    let left = g.T.Timeline.left in
    let w = g.row.W in
    let compiled = c.args.compiled.now in
    let active = c.args.active in
    let sound = c.requires.sound in
    let old = c.args.words.now in
    let mid = c.begin.new.words in
    let new = c.set.new.self in
    elim c.if-active-gt0.branch [
      | then-active-gt0 b ↦
          let closing = begun_closing history left w compiled old mid sound c.begin.ensures active c.requires.closing in
          let gone = b.go_past_call.ensures closing.0 closing.1 in
          let past = b.go_past_call.new.words in
          let set : Writes history left w Depth (slice_set (regions_in history w past Depth) 0 active.frame) 1 past new =
          subst (λ words. Writes history left w Depth (slice_set (regions_in history w words Depth) 0 active.frame) 1 words new) b.words-is c.set.ensures in
          let before = regions_in history w mid in
          let below = active.frame - 1 in
          let regions = behind_call before below gone.level gone.g gone.next gone.delivered in
          let done = depth_set history left w regions (w + w + 1) old past (past_under_way history left w compiled old mid sound c.begin.ensures active.frame closing.0 past gone) new active.frame set in
          ends_well history left w compiled masked (with_region Depth (active.frame ∷ []) regions) (w + w + 1 + 1) old new done
          (goes_past history left w sound.lie.gang compiled sound.lie.compiled_is active closing.0 masked mid
          (begun_shown history left w compiled old mid sound c.begin.ensures masked shown) closing.1 past (begun_sized history left w compiled old mid sound c.begin.ensures) b.if-active-gt0.true gone)
      | else-active-gt0 b ↦
          let closing = c.requires.closing in
          let set : Writes history left w Depth (slice_set (regions_in history w mid Depth) 0 active.frame) 1 mid new =
          subst (λ words. Writes history left w Depth (slice_set (regions_in history w words Depth) 0 active.frame) 1 words new) b.words-is c.set.ensures in
          let regions = regions_in history w old in
          let done = depth_set history left w regions 0 old mid (begun history left w compiled undone.Step old mid sound.lie c.begin.ensures) new active.frame set in
          ends_well history left w compiled masked (with_region Depth (active.frame ∷ []) regions) (0 + 1) old new done
          (goes_nowhere history left w sound.lie.gang compiled sound.lie.compiled_is active closing.0 masked old shown closing.1 (omega (arith, b.if-active-gt0.false)))
    ]
