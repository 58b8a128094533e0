use Rattle.std.proofs.Common.{◌≡◌, ◌≤◌, ◌<◌, length, get_or, sym, ap, ◌∙◌, rules, append-nil, take_all}
use Rattle.prompt_lines.specs.Words.{held_text}
use Rattle.prompt_lines.proofs.HeldTexts.{held_byte, held_full, held_more}
use Rattle.prompt_lines.proofs.reading.hold.Goals as goal
use Rattle.prompt_lines.proofs.reading.hold.Goals.{then-not-is_full, else-not-is_full}

pub loop-byte-init : goal.loop-byte-init
loop-byte-init c = (
  sym (ap held_text (append-nil c.args.held.now.items) ∙ take_all 257 c.args.held.now.items c.requires),
  c.requires,
)

pub loop-byte-preserved : goal.loop-byte-preserved
loop-byte-preserved c =
    let bytes = c.args.bytes.now in
    let i = c.loop-byte.byte-index in
    let held = c.loop-byte.held.items in
    let b = get_or bytes i 0 in
    let inside : i < length bytes = search rules in
    elim c.if-not-is_full.branch [
      | then-not-is_full w ↦
          let room : length held < 257 = search rules in
          let few : length w.push.new.self.items ≤ 257 = search rules in
          rw w.held-is (held_byte c.args.held.now.items held w.push.new.self.items bytes i inside c.loop-byte.invariant.0 (held_more held w.push.new.self.items b room w.push.ensures.items), few)
      | else-not-is_full w ↦
          let full : length held ≡ 257 = search rules in
          rw w.held-is (held_byte c.args.held.now.items held held bytes i inside c.loop-byte.invariant.0 (held_full held b full), c.loop-byte.invariant.1)
    ]
