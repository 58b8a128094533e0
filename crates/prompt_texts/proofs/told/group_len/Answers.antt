use Rattle.std.proofs.Common.{◌≡◌, ◌≤◌, drop, length, subst, arith}
use Rattle.std.specs.Prelude.{◌==◌, slice_index}
use Rattle.std.specs.List.{prefix_len}
use Rattle.std.proofs.lemmas.List.{length-drop}
use Rattle.prompt_texts.proofs.Groups.{first_folded, first_single, rest_from}
use Rattle.prompt_texts.proofs.told.group_len.Goals as goal

pub returns-then-repeats-count : goal.returns-then-repeats-count
returns-then-repeats-count c =
    let a = c.args in
    let words = a.words.now in
    let n = c.equal_len-count.result in
    let same : n ≡ prefix_len (λ other. other == slice_index words 0) (drop 1 words) =
    subst (λ l. n ≡ prefix_len (λ other. other == slice_index words 0) l) (rest_from words 1) c.equal_len-count.ensures.run in
    let within : n ≤ length (drop 1 words) = subst (λ l. n ≤ length l) (rest_from words 1) c.equal_len-count.ensures.within in record {
      group = first_folded a.repeats n words c.requires same c.if-repeats-count.true;
      some = omega arith;
      within = omega (arith, length-drop 1 words, within, c.requires);
    }

pub returns-else-repeats-count : goal.returns-else-repeats-count
returns-else-repeats-count c =
    let a = c.args in
    let words = a.words.now in
    let n = c.equal_len-count.result in
    let same : n ≡ prefix_len (λ other. other == slice_index words 0) (drop 1 words) =
    subst (λ l. n ≡ prefix_len (λ other. other == slice_index words 0) l) (rest_from words 1) c.equal_len-count.ensures.run in record {
      group = first_single a.repeats n words c.requires same c.if-repeats-count.false;
      some = omega arith;
      within = omega (arith, c.requires);
    }
