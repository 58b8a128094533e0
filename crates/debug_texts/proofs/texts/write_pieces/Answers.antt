use Rattle.std.proofs.Common.{rules, ◌<◌, ◌+◌, List, ℕ, map, length, drop, sym, subst}
use Rattle.std.proofs.lemmas.Result.{err_from_is_err_and}
use Rattle.std.proofs.KnownBytes.{Appends-trans}
use Rattle.std.specs.Io.KnownBytes.{Appends}
use Rattle.std.specs.List.{concat}
use Rattle.std.specs.Borrow.{Bor}
use Rattle.debug_traits.proofs.Writing.{Broke, writes_err}
use Rattle.debug_texts.proofs.Writing.{broke_early, broke_late}
use Rattle.debug_texts.proofs.Pieces.{pieces_more, pieces_at}
use Rattle.debug_texts.proofs.texts.write_pieces.Goals as goal

pub returns-in_err-write_all : goal.returns-in_err-write_all
returns-in_err-write_all g c =
    let (y, is, _) = err_from_is_err_and c.from_residual.result c.from_residual.ensures.1 in
    let (wrote, works) = c.loop-piece.invariant in
    let inside : c.loop-piece.piece-index < length c.args.pieces.now = search rules in
    let written = g.O.AnswerWriter.written in
    let early = broke_early _ (concat (map (λ p. p.now) (drop (c.loop-piece.piece-index + 1) c.args.pieces.now))) _ _ _ c.in_err-write_all.ensures in
    let late = broke_late _ _ _ _ _ _ wrote early in
    writes_err _ _ _ _ c.from_residual.result y is
    (subst (λ t. Broke t (written c.args.writer.now) (written c.write_all.new.self) (g.O.AnswerWriter.has_failed c.write_all.new.self)) (sym (pieces_at (λ (p : Bor (List ℕ)). p.now) c.args.pieces.now c.loop-piece.piece-index _ inside)) late)

pub loop-piece-preserved : goal.loop-piece-preserved
loop-piece-preserved g c =
    let (wrote, works) = c.loop-piece.invariant in
    let inside : c.loop-piece.piece-index < length c.args.pieces.now = search rules in
    let written = g.O.AnswerWriter.written in
    let both = Appends-trans _ _ _ _ _ wrote c.in_ok-write_all.ensures.0 in (
      subst (Appends (written c.args.writer.now) (written c.write_all.new.self)) (sym (pieces_more (λ (p : Bor (List ℕ)). p.now) c.args.pieces.now c.loop-piece.piece-index _ inside)) both,
      c.in_ok-write_all.ensures.1,
    )
