-- Breakpoints and watches that a line names by their numbers, one after another.
use Rattle.std.proofs.Common.{◌≡◌, ◌<◌, ◌≤◌, ◌+◌, ℕ, zero, suc, Bool, true, false, List, [], ◌∷◌, ◌++◌, length, map, take, get_or, refl, sym, ap, ◌∙◌, inl, inr, append_assoc, append-nil, take_all, arith, length-append}
use Rattle.std.specs.Prelude.{filter, Some, if◌then◌else◌}
use Rattle.std.proofs.lemmas.Bool.{cases_Bool}
use Rattle.std.proofs.lemmas.List.{map-append, take_at, take_more}
use Rattle.gang_model.specs.Debugger.Debugger.{Command, Debugger, Setting, Stop}
use Rattle.command_lists.specs.Lists.{HasDone}
use Rattle.command_lists.proofs.DoneLists.{done_nothing}
use Rattle.debug_answers.specs.declared.stops.NumberedStop.{NumberedStop}
use Rattle.debug_answers.specs.Meanings.{AreStops}
use Rattle.debug_session.specs.declared.session.Session.{Session}
use Rattle.debug_session.specs.Sessions.{StandsFor}
use Rattle.prompt_scenes.specs.Holding.{Held}
use Rattle.prompt_moves.proofs.DoneCommands.{list_then}
use Rattle.prompt_stops.specs.Breaking.{deletes, deletes_each}
use Rattle.prompt_stops.specs.Numbers.{after_deleted, deleted_each}

-- ---- those that are deleted

module _ {M : Type 0} (stands : M → Setting → Debugger → Type 0) (s : Setting) (d : Debugger) (numbers : List ℕ) (h : Held) where
  -- those before the ones that are left were deleted
  pub record DeletedSo (left : List ℕ) (session : Session M) (now : Held) : Type 0 where
    pub commands : List Command
    pub done : HasDone stands s commands d session
    pub same : commands ++ deletes_each now left ≡ deletes_each h numbers
    pub held : deleted_each left now ≡ deleted_each numbers h

  abbrev pub none_deleted : (session : Session M) → StandsFor stands session s d → DeletedSo numbers session h
  none_deleted session there = record { commands = []; done = done_nothing stands s d session there; same = refl; held = refl }

  abbrev pub one_deleted : (x : ℕ) (left : List ℕ) (middle new : Session M) (now later : Held) (so : DeletedSo (x ∷ left) middle now)
      → ((e : Debugger) → StandsFor stands middle s e → HasDone stands s (deletes now (Some (Some x))) e new × (later ≡ after_deleted x now)) → DeletedSo left new later
  one_deleted x left middle new now later so step =
      let (one, is) = step so.done.after so.done.there in
      record {
        commands = so.commands ++ deletes now (Some (Some x));
        done = list_then stands s d so.commands (deletes now (Some (Some x))) middle new so.done (λ e there. (step e there).0);
        same = append_assoc so.commands (deletes now (Some (Some x))) (deletes_each later left)
            ∙ ap (λ held. so.commands ++ (deletes now (Some (Some x)) ++ deletes_each held left)) is ∙ so.same;
        held = ap (deleted_each left) is ∙ so.held;
      }

-- ---- those that are named

take_again : (n : ℕ) (front rest : List ℕ) → take n (take n front ++ rest) ≡ take n (front ++ rest)
take_again zero front rest = refl
take_again (suc n) [] rest = refl
take_again (suc n) (x ∷ front) rest = ap (λ l. x ∷ l) (take_again n front rest)

-- where 80 are there, no other is added
pub full_stays : (old : List ℕ) (n : ℕ) → length old ≡ 80 → old ≡ take 80 (old ++ n ∷ [])
full_stays old n full = sym (take_at old (n ∷ []) 80 full)

-- where fewer are, it is
pub one_more : (old new : List ℕ) (n : ℕ) → length old < 80 → new ≡ old ++ n ∷ [] → new ≡ take 80 (old ++ n ∷ [])
one_more old new n few is = is ∙ sym (take_all 80 (old ++ n ∷ []) (omega (arith, few, length-append old (n ∷ []))))

module _ (named : ℕ → Bool) where
  filter-append : (xs ys : List ℕ) → filter named (xs ++ ys) ≡ filter named xs ++ filter named ys
  filter-append [] ys = refl
  filter-append (x ∷ xs) ys = elim (cases_Bool (named x)) [
    | inl e ↦ rw e (ap (λ l. x ∷ l) (filter-append xs ys))
    | inr e ↦ rw e (filter-append xs ys)
  ]

  -- some more are added
  pub added_on : (old now new front more : List ℕ) → now ≡ take 80 (old ++ filter named front) → new ≡ take 80 (now ++ filter named more) → new ≡ take 80 (old ++ filter named (front ++ more))
  added_on old now new front more is added =
      added ∙ ap (λ l. take 80 (l ++ filter named more)) is ∙ take_again 80 (old ++ filter named front) (filter named more)
      ∙ ap (take 80) (append_assoc old (filter named front) (filter named more) ∙ ap (λ l. old ++ l) (sym (filter-append front more)))

  -- one of a list is
  pub added_next : {X : Type 0} (number : X → ℕ) (xs : List X) (i : ℕ) (x : X) (old now new : List ℕ) → i < length xs → now ≡ take 80 (old ++ filter named (map number (take i xs)))
      → new ≡ take 80 (now ++ filter named (number (get_or xs i x) ∷ [])) → new ≡ take 80 (old ++ filter named (map number (take (i + 1) xs)))
  added_next number xs i x old now new inside is added =
      added_on old now new (map number (take i xs)) (number (get_or xs i x) ∷ []) is added
      ∙ ap (λ l. take 80 (old ++ filter named l)) (sym (map-append number (take i xs) (get_or xs i x ∷ [])) ∙ ap (map number) (sym (take_more xs i x inside)))

  pub is_added : (n : ℕ) (old : List ℕ) → named n ≡ true → take 80 (old ++ n ∷ []) ≡ take 80 (old ++ filter named (n ∷ []))
  is_added n old is = ap (λ b. take 80 (old ++ (if b then n ∷ [] else []))) (sym is)

  pub is_not : (n : ℕ) (old : List ℕ) → named n ≡ false → length old ≤ 80 → old ≡ take 80 (old ++ filter named (n ∷ []))
  is_not n old is few = sym (take_all 80 old few) ∙ ap (take 80) (sym (append-nil old)) ∙ ap (λ b. take 80 (old ++ (if b then n ∷ [] else []))) (sym is)

-- the numbers that are given are those that are meant
pub numbers_are : (s : Setting) (given : List NumberedStop) (meant : List (ℕ × Stop)) → AreStops s given meant → map (λ (entry : NumberedStop). entry.number) given ≡ map (λ (entry : ℕ × Stop). entry.0) meant
numbers_are s [] [] are = refl
numbers_are s [] (entry ∷ meant) are = absurd are
numbers_are s (first ∷ given) [] are = absurd are
numbers_are s (first ∷ given) (entry ∷ meant) (number, stop, others) =
    ap (λ n. n ∷ map (λ (entry : NumberedStop). entry.number) given) number ∙ ap (λ ns. entry.0 ∷ ns) (numbers_are s given meant others)
