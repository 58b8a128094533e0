-- Rows that are read, one after another.
use Rattle.std.proofs.Common.{◌≡◌, refl, sym, ap, ◌∙◌, subst, ℕ, zero, suc, ◌<◌, List, [], ◌∷◌, ◌++◌, length, max, true, false, Option, Some, None, arith}
use Rattle.std.specs.Prelude.{slice_get, ◌==◌}
use Rattle.std.proofs.lemmas.Bool.Decides.{nat_tests}
use Rattle.std.specs.List.{AllZip}
use Rattle.std.proofs.lemmas.List.{append-nil, append_assoc}
use Rattle.gang_model.specs.Types.Tree.{Variable}
use Rattle.gang_model.specs.Running.State.{State}
use Rattle.gang_model.specs.Debugger.Debugger.{Debugger, Setting, depth, has_ended, now}
use Rattle.debug_traits.specs.declared.machine.NamedVariable.{NamedVariable}
use Rattle.debug_traits.specs.Frames.{ShowsNamedAt}
use Rattle.debug_traits.specs.Machines.{ShowsNamed, file_variables}
use Rattle.run_page.specs.declared.views.Row.{Row}
use Rattle.run_page.specs.Rows.{AddsRows, AreRows, Grows, IsRow, ShowsNamedIn, named_sight}
use Rattle.run_page.specs.Sights.{Sight, sight_of}
use Rattle.run_page.proofs.Numbers.{stays}

-- one element more on each side
pub zip_push : {A B : Type 0} (R : A → B → Type 0) (xs : List A) (ys : List B) (x : A) (y : B) → AllZip R xs ys → R x y → AllZip R (xs ++ x ∷ []) (ys ++ y ∷ [])
zip_push R [] [] x y are is = (is, tt)
zip_push R [] (b ∷ ys) x y are is = absurd are
zip_push R (a ∷ xs) [] x y are is = absurd are
zip_push R (a ∷ xs) (b ∷ ys) x y are is = (are.0, zip_push R xs ys x y are.1 is)

module _ (most : ℕ) (state : State) where
  -- rows are still those of the same variables where there are more with numbers
  pub rows_stay : (old new : List Sight) → Grows old new → (rows : List Row) (seen : List (ℕ × Variable)) → AreRows old most state rows seen → AreRows new most state rows seen
  rows_stay old new grows [] [] are = are
  rows_stay old new grows [] (x ∷ seen) are = are
  rows_stay old new grows (row ∷ rows) [] are = are
  rows_stay old new grows (row ∷ rows) (x ∷ seen) (is, are) =
      (record { number = stays old new grows row.variable (sight_of x.0 state x.1) is.number; words = is.words }, rows_stay old new grows rows seen are)

  -- one row more
  pub row_added : (old new : List Sight) → Grows old new → (rows more : List Row) (row : Row) (x : ℕ × Variable) → more ≡ rows ++ row ∷ [] → IsRow new most state row x → AddsRows old new most state rows more (x ∷ [])
  row_added old new grows rows more row x is own before are =
      subst (λ rows. AreRows new most state rows (before ++ x ∷ [])) (sym is) (zip_push (IsRow new most state) rows before row x (rows_stay old new grows rows before are) own)

  -- rows of some, and then of others
  pub rows_on : (a b c : List Sight) (xs ys zs : List Row) (some others : List (ℕ × Variable)) → AddsRows a b most state xs ys some → AddsRows b c most state ys zs others → AddsRows a c most state xs zs (some ++ others)
  rows_on a b c xs ys zs some others first second before are =
      subst (AreRows c most state zs) (append_assoc before some others) (second (before ++ some) (first before are))

  -- rows of some of the variables that are to be read, and what is left of them
  pub record SoFar (old new : List Sight) (rows more : List Row) (all rest : List (ℕ × Variable)) : Type 0 where
    pub done : List (ℕ × Variable)
    pub parts : all ≡ done ++ rest
    pub added : AddsRows old new most state rows more done

  pub so_none : (sights : List Sight) (rows : List Row) (all : List (ℕ × Variable)) → SoFar sights sights rows rows all all
  so_none sights rows all = record { done = []; parts = refl; added = λ before are. subst (AreRows sights most state rows) (sym (append-nil before)) are }

  pub so_more : (a b c : List Sight) (xs ys zs : List Row) (all rest left : List (ℕ × Variable)) (x : ℕ × Variable) → rest ≡ x ∷ left → SoFar a b xs ys all rest → AddsRows b c most state ys zs (x ∷ []) → SoFar a c xs zs all left
  so_more a b c xs ys zs all rest left x is so adds = record {
    done = so.done ++ x ∷ [];
    parts = so.parts ∙ ap (λ xs. so.done ++ xs) is ∙ sym (append_assoc so.done (x ∷ []) left);
    added = rows_on a b c xs ys zs so.done (x ∷ []) so.added adds;
  }

  pub so_all : (a b : List Sight) (xs ys : List Row) (all rest : List (ℕ × Variable)) → rest ≡ [] → SoFar a b xs ys all rest → AddsRows a b most state xs ys all
  so_all a b xs ys all rest none so = subst (AddsRows a b most state xs ys) (sym (so.parts ∙ ap (λ xs. so.done ++ xs) none ∙ append-nil so.done)) so.added

-- ---- what a machine tells of its variables

module _ (s : Setting) (d : Debugger) where
  -- a variable is seen as it was told
  pub told_sight : (deep : ℕ) (v : Variable) (named : NamedVariable) → ShowsNamedIn s d deep v named → named_sight deep named ≡ sight_of deep (now s d) v
  told_sight zero v named (name, shows) = rw (name, sym shows.id, sym shows.type, sym shows.rate, sym shows.is_array, sym shows.is_constant, sym shows.count) refl
  told_sight (suc below) v named (name, shows) = rw (name, sym shows.id, sym shows.type, sym shows.rate, sym shows.is_array, sym shows.is_constant, sym shows.count) refl

  -- the variable of a frame
  pub of_frame : (deep : ℕ) (v : Variable) (named : NamedVariable) → 0 < deep → ShowsNamedAt s d deep v named → ShowsNamedIn s d deep v named
  of_frame zero v named some shows = absurd (omega (arith, some))
  of_frame (suc below) v named some shows = shows

  -- the variable of the file of a number
  pub of_file : (number : ℕ) (named : NamedVariable) → ShowsNamed s d (slice_get (file_variables s) number) (Some named) → (v : Variable) × (slice_get (file_variables s) number ≡ Some v) × ShowsNamedIn s d 0 v named
  of_file number named shows = go (slice_get (file_variables s) number) refl shows
    where
      go : (o : Option Variable) → slice_get (file_variables s) number ≡ o → ShowsNamed s d o (Some named) → (v : Variable) × (slice_get (file_variables s) number ≡ Some v) × ShowsNamedIn s d 0 v named
      go None is shows = absurd shows
      go (Some v) is shows = (v, is, shows)

  -- the file has no variable of a number
  pub no_file : (number : ℕ) → ShowsNamed s d (slice_get (file_variables s) number) None → slice_get (file_variables s) number ≡ None
  no_file number shows = go (slice_get (file_variables s) number) shows
    where
      go : (o : Option Variable) → ShowsNamed s d o None → o ≡ None
      go None shows = refl
      go (Some v) shows = absurd shows

-- how many frames there are
pub no_frames : (state : State) → has_ended state ≡ true → 0 ≡ length state.frames
no_frames state ended = grind (arith, nat_tests, ended)

pub some_frames : (state : State) (deep : ℕ) → has_ended state ≡ false → depth state ≡ deep → deep ≡ length state.frames
some_frames state deep goes is = go (length state.frames) goes is
  where
    go : (n : ℕ) → (n == 0) ≡ false → max 1 n ≡ deep → deep ≡ n
    go zero goes is = absurd (cc (goes))
    go (suc n) goes is = omega (arith, is)

-- the variables of the file, of the frames before, and of one frame more
pub frame_more : (sights : List Sight) (most : ℕ) (state : State) (rows : List Row) (file before parameters locals : List (ℕ × Variable))
    → AreRows sights most state rows (((file ++ before) ++ parameters) ++ locals) → AreRows sights most state rows (file ++ (before ++ (parameters ++ locals)))
frame_more sights most state rows file before parameters locals are =
    subst (AreRows sights most state rows) (append_assoc (file ++ before) parameters locals ∙ append_assoc file before (parameters ++ locals)) are
