use Rattle.std.proofs.Common.{rules, ◌≡◌, length}
use Rattle.debug_commands.proofs.WordLists.{one_more, too_many, all_words}
use Rattle.debug_commands.proofs.words.words_of.Goals as goal

pub returns : goal.returns
returns c = all_words _ _ _ c.in_default.ensures c.loop-word.invariant

pub loop-word-preserved : goal.loop-word-preserved
loop-word-preserved c = one_more _ _ _ _ _ _ c.push.ensures.items c.in-Some.ensures c.loop-word.invariant

pub returns-then-is_full : goal.returns-then-is_full
returns-then-is_full c =
    let full : length c.loop-word.words.items ≡ 8 = search rules in
    too_many _ _ _ _ _ full c.in-Some.ensures c.loop-word.invariant
