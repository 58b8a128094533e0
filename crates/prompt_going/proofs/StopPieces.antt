-- On to a stop that counts, in pieces of so many stops that are passed.
use Rattle.std.proofs.Common.{◌≡◌, refl, sym, subst, ℕ, zero, suc, ◌+◌, ◌<◌, ◌≤◌, true, false, arith}
use Rattle.std.proofs.lemmas.Bool.{true≢false}
use Rattle.gang_model.specs.Debugger.Debugger.{Command, Debugger, Setting, do_command}
use Rattle.debug_session.specs.declared.session.Session.{Session}
use Rattle.debug_session.specs.Sessions.{StandsFor}
use Rattle.conditional_stops.specs.declared.going.Direction.{Direction}
use Rattle.conditional_stops.specs.declared.going.MoveEnd.{MoveEnd}
use Rattle.conditional_stops.specs.declared.going.MoveEnd.TheVariants as end
use Rattle.conditional_stops.specs.declared.going.Moved.{Moved}
use Rattle.conditional_stops.specs.Going.{EndsBy, EndsMove, GoesOn, Passes, command_of}
use Rattle.conditional_stops.specs.Tables.{Table}
use Rattle.conditional_stops.proofs.Passing.{all_done, ends_move, passes_lead}
use Rattle.prompt_going.specs.GoingOn.{is_most}

-- stops that are passed, and more of them from where they lead
passes_join : (s : Setting) (command : Command) (a b : ℕ) (d at to : Debugger) (table middle new : Table) → Passes a s command d table at middle → Passes b s command at middle to new
    → Passes (a + b) s command d table to new
passes_join s command zero b d at to table middle new (same, left) more =
    let none : b ≡ zero + b = omega arith in
    subst (λ n. Passes n s command d table to new) none (subst (λ x. Passes b s command x table to new) same (subst (λ t. Passes b s command at t to new) left more))
passes_join s command (suc a) b d at to table middle new (between, first, others) more =
    let one : suc (a + b) ≡ suc a + b = omega arith in
    subst (λ n. Passes n s command d table to new) one (between, first, passes_join s command a b (do_command s command d).next at to between middle new others more)

module _ {M : Type 0} (stands : M → Setting → Debugger → Type 0) (s : Setting) where
  -- a move that something else ended than that so many stops were passed
  ended_by : (command : Command) (most passed : ℕ) (at : Debugger) (table new : Table) (ended : MoveEnd) (session : Session M) → is_most ended ≡ false → EndsMove stands s command most passed at table ended session new
      → (passed < most) × EndsBy stands s command at table ended session new
  ended_by command most passed at table new (end.Stopped counted) session other ends = ends
  ended_by command most passed at table new (end.Answered given) session other ends = ends
  ended_by command most passed at table new end.MostPassed session other ends = absurd (true≢false other)
  ended_by command most passed at table new end.NoMemory session other ends = ends

  -- a move in which so many stops were passed
  all_passed : (command : Command) (most passed : ℕ) (at : Debugger) (table new : Table) (ended : MoveEnd) (session : Session M) → is_most ended ≡ true → EndsMove stands s command most passed at table ended session new
      → (passed ≡ most) × StandsFor stands session s at × (new ≡ table)
  all_passed command most passed at table new (end.Stopped counted) session so ends = absurd (true≢false (sym so))
  all_passed command most passed at table new (end.Answered given) session so ends = absurd (true≢false (sym so))
  all_passed command most passed at table new end.MostPassed session so ends = ends
  all_passed command most passed at table new end.NoMemory session so ends = absurd (true≢false (sym so))

  -- a piece that something else ended passed fewer stops
  pub few_passed : (way : Direction) (most : ℕ) (d : Debugger) (table new : Table) (moved : Moved) (session : Session M) → GoesOn stands s way most d table moved session new → is_most moved.end ≡ false → moved.passed < most
  few_passed way most d table new moved session goes other = (ended_by (command_of way) most moved.passed goes.at goes.before new moved.end session other goes.ends).0

  module _ (way : Direction) (a piece : ℕ) (d at : Debugger) (table middle new : Table) (moved : Moved) (session : Session M) where
    -- a piece ended the move
    pub piece_ends : (most : ℕ) → a + piece ≤ most → Passes a s (command_of way) d table at middle → GoesOn stands s way piece at middle moved session new → is_most moved.end ≡ false
        → GoesOn stands s way most d table (record { end = moved.end; passed = a + moved.passed }) session new
    piece_ends most few passes goes other =
        let command = command_of way in
        let (within, by) = ended_by command piece moved.passed goes.at goes.before new moved.end session other goes.ends in
        let all = passes_join s command a moved.passed d at goes.at table middle goes.before passes goes.passes in
        let inside : a + moved.passed < most = omega (arith, few, within) in
        record {
          at = goes.at;
          before = goes.before;
          passes = all;
          ends = ends_move stands s command most (a + moved.passed) goes.at goes.before new moved.end session inside by;
          done = all_done stands s command (a + moved.passed) d goes.at table goes.before new moved.end session all by;
        }

    -- all stops of a piece were passed
    pub piece_passes : Passes a s (command_of way) d table at middle → GoesOn stands s way piece at middle moved session new → is_most moved.end ≡ true
        → (to : Debugger) × StandsFor stands session s to × Passes (a + piece) s (command_of way) d table to new
    piece_passes passes goes so =
        let command = command_of way in
        let (same, there, stays) = all_passed command piece moved.passed goes.at goes.before new moved.end session so goes.ends in
        let all = passes_join s command a moved.passed d at goes.at table middle goes.before passes goes.passes in (
          goes.at,
          there,
          subst (λ t. Passes (a + piece) s command d table goes.at t) (sym stays) (subst (λ n. Passes (a + n) s command d table goes.at goes.before) same all),
        )

  -- all pieces were passed
  pub pieces_pass : (way : Direction) (most : ℕ) (d at : Debugger) (table new : Table) (session : Session M) → StandsFor stands session s at → Passes most s (command_of way) d table at new
      → GoesOn stands s way most d table (record { end = end.MostPassed; passed = most }) session new
  pieces_pass way most d at table new session there passes = record {
    at = at;
    before = new;
    passes = passes;
    ends = (refl, there, refl);
    done = record { after = at; leads = passes_lead s (command_of way) most d at table new passes; there = there };
  }
