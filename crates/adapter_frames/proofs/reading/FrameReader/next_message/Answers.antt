use Rattle.std.proofs.Common.{◌≡◌, Ok, Err, refl, sym, ap, ◌∙◌, subst}
use Rattle.std.specs.Io.KnownBytes.{Keeps}
use Rattle.std.proofs.lemmas.Result.{err_from_is_err_and}
use Rattle.adapter_frames.specs.Frames.{IsUnfinished}
use Rattle.adapter_frames.specs.Reading.{IsReadBack, Takes, kept, reader_of, unread}
use Rattle.adapter_frames.proofs.FramesReadBack.{ended_back, fault_back, given_back, piece_back, stays}
use Rattle.adapter_frames.proofs.UnreadBytes.{end_fails, message_given, still_unread, taking_fails}
use Rattle.adapter_frames.proofs.reading.FrameReader.next_message.Goals as goal

pub returns-in_err-message-clause-read_back : goal.returns-in_err-message-clause-read_back
returns-in_err-message-clause-read_back g c =
    let left = g.R.Read.remaining in
    let start = unread left c.args.self.now in
    let new = c.taken.new.self in
    let (fault, err, same) = err_from_is_err_and c.from_residual.result c.from_residual.ensures.1 in
    let told : c.from_residual.result ≡ Err c.in_err-message.field-0.0 = err ∙ ap (λ x. Err x) same in
    let took = subst (Takes (kept c.loop.self) (kept new)) c.in_err-message.was c.taken.ensures.taken in
    let fails = taking_fails left start c.loop.self new c.in_err-message.field-0.0 c.loop.invariant took c.taken.ensures.reader in
    subst (IsReadBack start (unread left new)) (sym told) (fault_back start (unread left new) (kept new) (left (reader_of new)) c.in_err-message.field-0.0 refl fails)

pub returns-in-Some-clause-read_back : goal.returns-in-Some-clause-read_back
returns-in-Some-clause-read_back g c = λ written rest fits is.
    let left = g.R.Read.remaining in
    let start = unread left c.args.self.now in
    let cut = subst (Takes (kept c.loop.self) (kept c.taken.new.self)) (c.in_ok-message.was ∙ ap (λ x. Ok x) c.in-Some.is) c.taken.ensures.taken in
    given_back start (unread left c.taken.new.self) c.in-Some.message.items written rest
    (message_given left start c.loop.self c.taken.new.self c.in-Some.message.items c.loop.invariant cut c.taken.ensures.reader) fits is

pub returns-in_err-read_piece-clause-read_back : goal.returns-in_err-read_piece-clause-read_back
returns-in_err-read_piece-clause-read_back g c =
    let left = g.R.Read.remaining in
    let start = unread left c.args.self.now in
    let new = c.read_piece.new.self in
    let (fault, err, same) = err_from_is_err_and c.from_residual-in_err-read_piece.result c.from_residual-in_err-read_piece.ensures.1 in
    let told : c.from_residual-in_err-read_piece.result ≡ Err c.in_err-read_piece.field-0.0 = err ∙ ap (λ x. Err x) same in
    let took = subst (Takes (kept c.loop.self) (kept c.taken.new.self)) (c.in_ok-message.was ∙ ap (λ x. Ok x) c.in_default.is) c.taken.ensures.taken in
    let keeps = still_unread left start c.loop.self c.taken.new.self new c.loop.invariant took.0 c.taken.ensures.reader c.in_err-read_piece.ensures.keeps in
    subst (IsReadBack start (unread left new)) (sym told) (λ written rest fits is. piece_back start (unread left new) c.in_err-read_piece.field-0.0 c.in_err-read_piece.ensures.fault keeps written rest is)

pub returns-then-branch-eq0-clause-fault : goal.returns-then-branch-eq0-clause-fault
returns-then-branch-eq0-clause-fault g c =
    let left = g.R.Read.remaining in
    let took = subst (Takes (kept c.loop.self) (kept c.taken.new.self)) (c.in_ok-message.was ∙ ap (λ x. Ok x) c.in_default.is) c.taken.ensures.taken in
    let ends = c.in_ok-read_piece.ensures.end c.if-branch-eq0.true in
    end_fails (unread left c.args.self.now) (unread left c.read_piece.new.self) (kept c.read_piece.new.self) (left (reader_of c.read_piece.new.self)) c.ended.result c.ended.ensures
    (still_unread left (unread left c.args.self.now) c.loop.self c.taken.new.self c.read_piece.new.self c.loop.invariant took.0 c.taken.ensures.reader c.in_ok-read_piece.ensures.keeps)
    ends.1 (subst IsUnfinished (sym (ends.0 ∙ took.0)) took.1)

pub returns-then-branch-eq0-clause-read_back : goal.returns-then-branch-eq0-clause-read_back
returns-then-branch-eq0-clause-read_back g c =
    let left = g.R.Read.remaining in
    let took = subst (Takes (kept c.loop.self) (kept c.taken.new.self)) (c.in_ok-message.was ∙ ap (λ x. Ok x) c.in_default.is) c.taken.ensures.taken in
    let ends = c.in_ok-read_piece.ensures.end c.if-branch-eq0.true in
    ended_back (unread left c.args.self.now) (unread left c.read_piece.new.self) (kept c.read_piece.new.self) (left (reader_of c.read_piece.new.self)) c.ended.result refl c.ended.ensures
    (still_unread left (unread left c.args.self.now) c.loop.self c.taken.new.self c.read_piece.new.self c.loop.invariant took.0 c.taken.ensures.reader c.in_ok-read_piece.ensures.keeps)
    ends.1 (subst IsUnfinished (sym (ends.0 ∙ took.0)) took.1)

pub returns-clause-read_back : goal.returns-clause-read_back
returns-clause-read_back g c = λ written rest fits is.
    let left = g.R.Read.remaining in
    stays (unread left c.loop.self) _ (subst (λ known. Keeps known (unread left c.loop.self)) is c.loop.invariant)
