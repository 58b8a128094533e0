use Rattle.std.proofs.Common.{◌≡◌, ◌∷◌, [], ◌++◌, length, map, sym, ap, ◌∙◌, arith}
use Rattle.std.proofs.lemmas.List.{length_push, length-map, map_push, take_all}
use Rattle.std.proofs.lemmas.List.Elements.{All-push}
use Rattle.undo_log.specs.History.{limited}
use Rattle.undo_log.specs.Snapshots.{moments}
use Rattle.undo_log.proofs.Snapshots.{keep_last-all, moments-append, length_seen, items_of, seen}
use Rattle.undo_log.proofs.snapshot_ring.SnapshotRing.grow.Goals as goal

pub loop-self-preserved : goal.loop-self-preserved
loop-self-preserved c =
    let l = c.loop-self in
    let a = l.self-inside in
    let i = l.invariant in
    let v = c.in_ok-list.list in
    let longer = length_push a.lists.items v in
    let copy : length v.items ≡ length a.words.items = sym v.ok.0 ∙ (c.in_ok-list.ensures.cases.1 ∙ a.words.ok.0) in
    rw (c.push_back.ensures.items, keep_last-all a.lists.capacity (a.lists.items ++ v ∷ []) (omega arith)) record {
      good = record {
        some = i.good.some;
        full = (omega arith, omega arith);
        events = i.good.events;
        long = All-push (λ w. length w.items ≡ length a.words.items) a.lists.items v i.good.long copy;
        steps = i.good.steps;
      };
      same = ap (seen a.words.items a.limit) (ap (moments a.events.items) (map_push items_of a.lists.items v) ∙ moments-append a.events.items (map items_of a.lists.items) (v.items ∷ []) (rw length-map (omega arith))) ∙ i.same;
      lists = i.lists;
      events = i.events;
    }

pub returns-clause-ok : goal.returns-clause-ok
returns-clause-ok c =
    let a = c.loop-self.self-inside in
    let i = c.loop-self.invariant in
    let past = moments a.events.items (map items_of a.lists.items) in
    let same : a.limit ≡ c.args.self.now.limit = ap (λ h. h.limit) i.same in
    let r = c.requires.0 in
    let few = length_seen a.events.items a.lists.items (omega arith) in
    ap (seen a.words.items c.args.larger) (sym (take_all c.args.larger past (omega arith))) ∙ ap (limited c.args.larger) i.same
