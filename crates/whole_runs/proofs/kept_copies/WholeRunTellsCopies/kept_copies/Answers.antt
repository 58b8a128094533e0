use Rattle.std.proofs.Common.{◌≡◌, ◌∙◌, ap, arith, length, subst, suc, sym, ◌*◌}
use Rattle.whole_runs.specs.Copies.{KeptMoments, kept_words}
use Rattle.whole_runs.specs.Runs.{moments_of}
use Rattle.whole_runs.proofs.KeptWords.{words_of_all}
use Rattle.whole_runs.proofs.kept_copies.WholeRunTellsCopies.kept_copies.Goals as goal

pub returns-clause-memory : goal.returns-clause-memory
returns-clause-memory g c =
    let m = c.self.inside in
    let kept : KeptMoments = record { start = m.start.items; copies = m.copies.all.items; most = m.copies.plan.most } in
    let together = words_of_all g.M.BeginsAgain.can_have g.M.CopiesOver.word_count g.met.M.CopiesOver.are_as_many m.inner kept c.self.invariant in
    let count : c.len.result ≡ length m.copies.all.items = omega (arith, c.len.ensures) in
    let words : c.len-2.result ≡ length m.start.items = omega (arith, c.len-2.ensures) in
    subst (λ run. kept_words (moments_of run) ≡ suc c.len.result * c.len-2.result) c.self.view_is
    (together ∙ ap (λ n. suc n * length m.start.items) (sym count) ∙ ap (λ n. suc c.len.result * n) (sym words))
