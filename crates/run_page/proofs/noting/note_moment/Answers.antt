use Rattle.std.proofs.Common.{refl, ◌≡◌, ◌∙◌, ◌++◌, ap, sym, subst, drop, length, map, rules, take}
use Rattle.std.proofs.lemmas.List.{take_rest}
use Rattle.gang_model.specs.Debugger.Debugger.{now}
use Rattle.run_page.specs.declared.moments.Moment.{Moment}
use Rattle.run_page.specs.Recording.{sights_of}
use Rattle.run_page.specs.Rows.{Adds, AreConsistent, AreRowsOf, IsNew, sight_view}
use Rattle.run_page.proofs.Differing.{all_told, before_consistent, rows_of_stay}
use Rattle.gang_model.specs.Texts.Text.{where_text}
use Rattle.run_page.specs.Calls.{NotesWidth, StandsNamed}
use Rattle.run_page.specs.Moments.{Stands}
use Rattle.run_page.specs.Names.{names_view}
use Rattle.run_page.proofs.CallsKept.{calls_noted}
use Rattle.run_page.proofs.RecordKept.{has_own}
use Rattle.run_page.proofs.noting.note_moment.Goals as goal

pub returns-clause-changes : goal.returns-clause-changes
returns-clause-changes g c s d before st distinct are =
    let most = c.args.most_words in
    let p = s.program in
    let old = sights_of c.args.noted.now in
    let new = map sight_view c.read_rows.new.variables.items in
    let rows = c.args.told.now.rows.items in
    let more = c.in_ok-rows.rows.items in
    let first = c.args.noted.now.changes.items in
    let last = c.note_changes.new.changes.items in
    let grows = c.in_ok-rows.ensures.grows in
    let apart = c.in_ok-rows.ensures.distinct distinct in
    let olds : AreRowsOf new most p before rows = rows_of_stay most p before old new grows rows are in
    let news = c.in_ok-rows.ensures.rows s d st in
    let one : AreConsistent c.as_slice-4.result.now = subst AreConsistent (sym c.as_slice-4.ensures.value) (before_consistent new apart most p before rows olds) in
    let adds : Adds (IsNew rows more) first last =
    subst (λ more. Adds (IsNew rows more) first last) c.as_slice-5.ensures.value (subst (λ rows. Adds (IsNew rows c.as_slice-5.result.now) first last) c.as_slice-4.ensures.value (c.in_ok-note_changes.ensures one)) in
    let moment : Moment = record {
      taken = c.args.taken;
      stand = c.in_ok-stand.stand;
      kept_calls = c.common_front-kept_calls.result;
      first_call = c.len-first_call.result;
      end_of_calls = c.len.result;
      first_change = c.len-first_change.result;
      end_of_changes = c.len-2.result;
    } in
    let from : moment.first_change ≡ length first = search rules in
    let to : moment.end_of_changes ≡ length last = search rules in
    record {
      moment = moment;
      behind = c.in_ok-push.ensures.items;
      taken_is = refl;
      has = has_own p most new first adds.more last before (now s d) moment adds.behind from to (all_told new apart most p before (now s d) rows more olds news adds.more adds.sound adds.complete);
      sights = grows;
      more = adds.more;
      changes = adds.behind;
      rows_of = news;
    }

pub returns-clause-calls : goal.returns-clause-calls
returns-clause-calls g c s d st =
    let first = c.args.noted.now.calls.items in
    let last = c.extend_from_slice.new.self.items in
    let calls = c.in_ok-calls.calls.items in
    let kept = c.common_front-kept_calls.result in
    let told = c.args.told.now.calls.items in
    let moment : Moment = record {
      taken = c.args.taken;
      stand = c.in_ok-stand.stand;
      kept_calls = kept;
      first_call = c.len-first_call.result;
      end_of_calls = c.len.result;
      first_change = c.len-first_change.result;
      end_of_changes = c.len-2.result;
    } in
    let from : moment.first_call ≡ length first = search rules in
    let to : moment.end_of_calls ≡ length last = search rules in
    let same : take kept told ≡ take kept calls =
    subst (λ xs. take kept xs ≡ take kept calls) c.as_slice.ensures.value (subst (λ xs. take kept c.as_slice.result.now ≡ take kept xs) c.as_slice-2.ensures.value c.common_front-kept_calls.ensures.same) in
    let all : last ≡ first ++ drop kept calls = c.in_ok-extend_from_slice.ensures.items ∙ ap (λ xs. first ++ xs) (take_rest c.as_slice-3.result.now kept) ∙ ap (λ xs. first ++ drop kept xs) c.as_slice-3.ensures.value in
    let stands : StandsNamed (names_view c.stand_of.new.functions.items) (where_text s.program (now s d)) moment.stand = subst (λ text. StandsNamed (names_view c.stand_of.new.functions.items) text moment.stand) (sym (c.position-position.ensures.place s d st)) c.in_ok-stand.ensures.named in
    calls_noted s d c.args.taken told c.args.noted.now _ calls moment (names_view c.stand_of.new.functions.items) c.in_ok-push.ensures.items refl c.in_ok-stand.ensures.grows c.in_ok-calls.ensures.grows stands (c.in_ok-calls.ensures.calls s d st) same all from to

pub returns-clause-moment : goal.returns-clause-moment
returns-clause-moment g c s d st =
    let moment : Moment = record {
      taken = c.args.taken;
      stand = c.in_ok-stand.stand;
      kept_calls = c.common_front-kept_calls.result;
      first_call = c.len-first_call.result;
      end_of_calls = c.len.result;
      first_change = c.len-first_change.result;
      end_of_changes = c.len-2.result;
    } in
    (moment, c.in_ok-push.ensures.items, refl, subst (λ text. Stands text moment.stand) (sym (c.position-position.ensures.place s d st)) c.in_ok-stand.ensures.stands)

pub returns-clause-width : goal.returns-clause-width
returns-clause-width g c s d st = subst (λ text. NotesWidth text c.args.noted.now.width c.width_at-noted.result) (sym (c.position-position.ensures.place s d st)) c.width_at-noted.ensures
