use Rattle.std.proofs.Common.{rules, ◌≡◌, ◌<◌, ◌≢◌, ℕ, ◌-◌, length, List, [], ◌++◌, take, drop, sym, ap, ◌∙◌, append_assoc, append-nil, subst, take-append-drop}
use Rattle.std.proofs.lemmas.List.{take_rest}
use Rattle.std.proofs.lemmas.Result.{err_from_is_err_and}
use Rattle.std.specs.Io.KnownBytes.{Appends}
use Rattle.std.proofs.KnownBytes.{Appends-trans, Appends-kept}
use Rattle.debug_traits.proofs.Writing.{broke_at, writes_err, took_none, took_some}
use Rattle.debug_traits.proofs.devices.AnswerWriter.write_all.Goals as goal

moves_front : (all done rest : List ℕ) (n : ℕ) → all ≡ done ++ rest → all ≡ (done ++ take n rest) ++ take (length rest - n) (drop n rest)
moves_front all done rest n e =
    e ∙ ap (λ l. done ++ l) (sym (take-append-drop n rest)) ∙ sym (append_assoc done (take n rest) (drop n rest)) ∙ ap (λ l. (done ++ take n rest) ++ l) (sym (take_rest rest n))

pub returns-in_err-n : goal.returns-in_err-n
returns-in_err-n g c =
    let (done, split, wrote, works) = c.loop-rest.invariant in
    let (y, is, _) = err_from_is_err_and c.from_residual.result c.from_residual.ensures.1 in
    let more : 0 < length c.loop-rest.rest.now = search rules in
    writes_err _ _ _ _ c.from_residual.result y is
    (broke_at _ done c.loop-rest.rest.now _ _ _ split more (Appends-kept _ _ _ done wrote c.in_err-n.ensures.taken) c.in_err-n.ensures.failed)

pub returns-in-0 : goal.returns-in-0
returns-in-0 g c =
    let (done, split, wrote, works) = c.loop-rest.invariant in
    let more : 0 < length c.loop-rest.rest.now = search rules in
    let none : Appends (g.Self.AnswerWriter.written c.loop-rest.self) (g.Self.AnswerWriter.written c.write.new.self) [] = subst (λ n. Appends (g.Self.AnswerWriter.written c.loop-rest.self) (g.Self.AnswerWriter.written c.write.new.self) (take n c.loop-rest.rest.now)) c.in-0.is c.in_ok-n.ensures.taken in
    broke_at _ done c.loop-rest.rest.now _ _ _ split more (subst (Appends _ _) (append-nil done) (Appends-trans _ _ _ done [] wrote none)) (took_none _ _ _ c.in_ok-n.ensures.failed c.in-0.is more)

pub loop-rest-preserved : goal.loop-rest-preserved
loop-rest-preserved g c =
    let (done, split, wrote, works) = c.loop-rest.invariant in
    let rest = c.loop-rest.rest.now in
    let n = c.in_ok-n.n in
    let some : n ≢ 0 = search rules in
    (done ++ take n rest, moves_front _ done rest n split, Appends-trans _ _ _ _ _ wrote c.in_ok-n.ensures.taken, took_some _ _ _ c.in_ok-n.ensures.failed some)
