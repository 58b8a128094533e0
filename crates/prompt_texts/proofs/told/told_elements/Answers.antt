use Rattle.std.proofs.Common.{◌≡◌, ◌∙◌, ◌+◌, ◌-◌, ◌<◌, ◌≤◌, ◌++◌, ◌∷◌, [], ap, sym, drop, drop_of_length-le, get_or, length, refl, subst, arith}
use Rattle.std.proofs.lemmas.List.{drop-drop, get_or-drop, length-drop}
use Rattle.prompt_texts.specs.Items.{are_cut, element_item, groups, kept, placed, weight}
use Rattle.prompt_texts.proofs.Groups.{ends_cut, ends_whole, goes_on, rest_from}
use Rattle.prompt_texts.proofs.told.told_elements.Goals as goal

pub loop-at-preserved : goal.loop-at-preserved
loop-at-preserved c =
    let a = c.args in
    let r = a.layout.repeats in
    let words = a.words.now in
    let at = c.loop-at.at in
    let left = c.loop-at.left in
    let items = c.loop-at.items.items in
    let count = c.group_len-count.result in
    let word = get_or words at 0 in
    let next = a.from + (at + count) in
    let fewer = left - weight r (word, count) in
    let rest = groups r (drop (at + count) words) in
    let same : at + 0 ≡ at = omega arith in
    let there : get_or (drop at words) 0 0 ≡ word = get_or-drop at words 0 0 ∙ ap (λ i. get_or words i 0) same in
    let left_from = rest_from words at in
    let of_rest : groups r (drop at words) ≡ (get_or (drop at words) 0 0, count) ∷ groups r (drop count (drop at words)) =
    subst (λ l. groups r l ≡ (get_or l 0 0, count) ∷ groups r (drop count l)) left_from c.group_len-count.ensures.group in
    let within : count ≤ length (drop at words) = subst (λ l. count ≤ length l) left_from c.group_len-count.ensures.within in
    let group : groups r (drop at words) ≡ (word, count) ∷ rest =
    of_rest ∙ ap (λ w. (w, count) ∷ groups r (drop count (drop at words))) there ∙ ap (λ l. (word, count) ∷ groups r l) (drop-drop count at words) in
    let both = goes_on r (a.from + at) count next left word items (drop at words) (drop (at + count) words) c.if-left-eq0.false (omega arith) group in
    let pushed = c.in_ok-push.ensures.items ∙ ap (λ x. items ++ x ∷ []) c.element_item.ensures in
    let left_is = c.saturating_sub-left.ensures ∙ ap (λ n. left - n) (c.weight.ensures word) in (
      omega (arith, within, length-drop at words, c.loop-at.invariant.0),
      c.loop-at.invariant.1 ∙ both.0 ∙ ap (λ n. (items ++ element_item (a.from + at) (word, count) ∷ []) ++ placed next (kept r n rest)) (sym left_is)
          ∙ ap (λ l. l ++ placed next (kept r c.saturating_sub-left.result rest)) (sym pushed),
      c.loop-at.invariant.2 ∙ both.1 ∙ ap (λ n. are_cut r n rest) (sym left_is),
    )

pub loop-at-init : goal.loop-at-init
loop-at-init c =
    let a = c.args in
    let r = a.layout.repeats in
    let first : a.from ≡ a.from + 0 = omega arith in
    let all = kept r a.layout.elements (groups r a.words.now) in
    (omega arith, ap (λ n. placed n all) first ∙ ap (λ l. l ++ placed (a.from + 0) all) (sym c.new-items.ensures.items), refl)

pub returns-then-left-eq0 : goal.returns-then-left-eq0
returns-then-left-eq0 c = λ lanes.
    let a = c.args in
    let words = a.words.now in
    let at = c.loop-at.at in
    let some : 0 < length (drop at words) = omega (arith, length-drop at words, c.loop-at-test.true) in
    let ends = ends_cut a.layout.repeats (a.from + at) c.loop-at.left c.loop-at.items.items (drop at words) c.if-left-eq0.true some in record {
      type_is = refl;
      items_are = sym (c.loop-at.invariant.1 ∙ ends.0);
      cut = sym (c.loop-at.invariant.2 ∙ ends.1);
    }

pub returns : goal.returns
returns c = λ lanes.
    let a = c.args in
    let words = a.words.now in
    let at = c.loop-at.at in
    let past : length words ≤ at = omega (arith, c.loop-at-test.false) in
    let ends = ends_whole a.layout.repeats (a.from + at) c.loop-at.left c.loop-at.items.items (drop at words) (drop_of_length-le words {i = at} past) in record {
      type_is = refl;
      items_are = sym (c.loop-at.invariant.1 ∙ ends.0);
      cut = sym (c.loop-at.invariant.2 ∙ ends.1);
    }
