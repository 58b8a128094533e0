-- What more variables leave as it is.
use Rattle.std.proofs.Common.{ℕ, suc, ◌+◌, ◌≤◌, ◌≡◌, List, [], ◌∷◌, ◌++◌, Option, Some, None, refl, sym, ap, ◌∙◌, subst, arith, length, map, append_assoc, append-nil, length-append}
use Rattle.std.specs.List.{All}
use Rattle.std.proofs.lemmas.List.{map-append}
use Rattle.std.proofs.lemmas.List.Elements.{All-append, All-push, All-weaker, All-head, All-tail, All-nil}
use Rattle.gang_types.specs.declared.places.Place.{Place}
use Rattle.gang_types.specs.declared.places.VarId.TheVariants.{Local}
use Rattle.gang_model.specs.Names.Scope.{Binding, bound, Environment, NameStanding, unhidden, listed}
use Rattle.ispc_names_table.specs.declared.table.Declaration.{Declaration}
use Rattle.ispc_names_table.specs.declared.table.Standing.{Standing}
use Rattle.ispc_names_table.specs.Scopes.{newest_first, linked, in_scope, standing_view}
use Rattle.ispc_names_table.proofs.Links.{newest_first-push, length-newest_first, linked-none, linked-here, linked-beside}
use Rattle.ispc_names_steps.specs.Sites.{numbered, Declares, LeadsBelow, Reaches, Lists}

-- ---- numbers

pub numbered-length : (k : ℕ) (ds : List Declaration) → length (numbered k ds) ≡ length ds
numbered-length k [] = refl
numbered-length k (d ∷ ds) = ap suc (numbered-length (suc k) ds)

pub numbered-append : (k : ℕ) (ds more : List Declaration) → numbered k (ds ++ more) ≡ numbered k ds ++ numbered (k + length ds) more
numbered-append k [] more = ap (λ n. numbered n more) (omega arith)
numbered-append k (d ∷ ds) more =
    ap (λ bs. bound d.name.items (Local k) ∷ bs) (numbered-append (suc k) ds more ∙ ap (λ n. numbered (suc k) ds ++ numbered n more) (omega arith))

pub declares-length : (before after : List Declaration) (bindings : List Binding) → Declares before after bindings → length after ≡ length before + length bindings
declares-length before after bindings d =
    ap length d.behind ∙ length-append before d.added ∙ ap (λ n. length before + n) (sym (numbered-length (length before) d.added) ∙ ap length d.named)

pub declares-none : (ds : List Declaration) → Declares ds ds []
declares-none ds = record { added = []; behind = sym (append-nil ds); named = refl }

pub declares-join : (a b c : List Declaration) (xs ys : List Binding) → Declares a b xs → Declares b c ys → Declares a c (xs ++ ys)
declares-join a b c xs ys p q = record {
  added = p.added ++ q.added;
  behind = q.behind ∙ ap (λ z. z ++ q.added) p.behind ∙ append_assoc a p.added q.added;
  named =
      let n : length b ≡ length a + length p.added = ap length p.behind ∙ length-append a p.added in
      numbered-append (length a) p.added q.added ∙ ap (λ z. z ++ numbered (length a + length p.added) q.added) p.named ∙ ap (λ m. xs ++ numbered m q.added) (sym n) ∙ ap (λ z. xs ++ z) q.named;
}

-- ---- what is in scope

below-more : (i : Option ℕ) (m n : ℕ) → m ≤ n → LeadsBelow m i → LeadsBelow n i
below-more None m n le h = tt
below-more (Some k) m n le h = omega arith

linked-append : (newer older : List Declaration) (i : Option ℕ) → LeadsBelow (length older) i → linked (newer ++ older) i ≡ linked older i
linked-append [] older i h = refl
linked-append (d ∷ newer) older None h = sym (linked-none older)
linked-append (d ∷ newer) older (Some k) h = linked-beside d (newer ++ older) k (omega (arith, length-append newer older)) ∙ linked-append newer older (Some k) h

newest_first-append : (ds more : List Declaration) → newest_first (ds ++ more) ≡ newest_first more ++ newest_first ds
newest_first-append [] more = sym (append-nil (newest_first more))
newest_first-append (d ∷ ds) more = ap (λ xs. xs ++ d ∷ []) (newest_first-append ds more) ∙ append_assoc (newest_first more) (newest_first ds) (d ∷ [])

pub in_scope-more : (ds more : List Declaration) (i : Option ℕ) → LeadsBelow (length ds) i → in_scope (ds ++ more) i ≡ in_scope ds i
in_scope-more ds more i h =
    ap (λ xs. linked xs i) (newest_first-append ds more)
    ∙ linked-append (newest_first more) (newest_first ds) i (subst (λ n. LeadsBelow n i) (sym (length-newest_first ds)) h)

module _ (before after : List Declaration) (bindings : List Binding) (d : Declares before after bindings) where
  longer : length before ≤ length after
  longer = omega (arith, declares-length before after bindings d)

  same_scope : (i : Option ℕ) → LeadsBelow (length before) i → in_scope after i ≡ in_scope before i
  same_scope i h = ap (λ xs. in_scope xs i) d.behind ∙ in_scope-more before d.added i h

  -- what is in scope from a variable on
  pub reaches-more : (i : Option ℕ) (environment : Environment) → Reaches before i environment → Reaches after i environment
  reaches-more i environment r = record { below = below-more i (length before) (length after) longer r.below; local = r.local ∙ sym (same_scope i r.below) }

  same_names : (ss : List Standing) → All (λ s. LeadsBelow (length before) s.innermost) ss → map (standing_view after) ss ≡ map (standing_view before) ss
  same_names [] h = refl
  same_names (s ∷ ss) h =
      let first = ap (λ (e : Environment). record { place = s.place; names = unhidden e }) (same_scope s.innermost (All-head (λ (x : Standing). LeadsBelow (length before) x.innermost) s ss h)) in
      ap (λ x. x ∷ map (standing_view after) ss) first ∙ ap (λ xs. standing_view before s ∷ xs) (same_names ss (All-tail (λ (x : Standing). LeadsBelow (length before) x.innermost) s ss h))

  -- what is listed at steps
  pub lists-more : (ss : List Standing) (steps : List NameStanding) → Lists before ss steps → Lists after ss steps
  lists-more ss steps l = record {
    below = All-weaker (λ (x : Standing). LeadsBelow (length before) x.innermost) (λ (x : Standing). LeadsBelow (length after) x.innermost)
        (λ x h. below-more x.innermost (length before) (length after) longer h) ss l.below;
    names = same_names ss l.below ∙ l.names;
  }

-- ---- one more variable

pub declares-one : (ds after : List Declaration) (d : Declaration) → after ≡ ds ++ d ∷ [] → Declares ds after (bound d.name.items (Local (length ds)) ∷ [])
declares-one ds after d e = record { added = d ∷ []; behind = e; named = refl }

pub reaches-one : (ds after : List Declaration) (d : Declaration) (i : Option ℕ) (environment : Environment) → after ≡ ds ++ d ∷ [] → d.outside ≡ i → Reaches ds i environment
    → Reaches after (Some (length ds)) (bound d.name.items (Local (length ds)) ∷ environment)
reaches-one ds after d i environment e out r = record {
  below = omega (arith, ap length e, length-append ds (d ∷ []));
  local =
      let own = bound d.name.items (Local (length ds)) in
      let here : in_scope after (Some (length ds)) ≡ own ∷ in_scope ds i =
      ap (λ xs. linked xs (Some (length ds))) (ap newest_first e ∙ newest_first-push ds d)
      ∙ linked-here d (newest_first ds) (length ds) (sym (length-newest_first ds))
      ∙ ap (λ j. own ∷ linked (newest_first ds) j) out in
      ap (λ xs. own ∷ xs) r.local ∙ sym here;
}

-- ---- more steps

pub lists-append : (ds : List Declaration) (ss ts : List Standing) (xs ys : List NameStanding) → Lists ds ss xs → Lists ds ts ys → Lists ds (ss ++ ts) (xs ++ ys)
lists-append ds ss ts xs ys p q = record {
  below = All-append (λ (x : Standing). LeadsBelow (length ds) x.innermost) ss ts p.below q.below;
  names = map-append (standing_view ds) ss ts ∙ ap (λ z. z ++ map (standing_view ds) ts) p.names ∙ ap (λ z. xs ++ z) q.names;
}

pub lists-none : (ds : List Declaration) → Lists ds [] []
lists-none ds = record { below = All-nil (λ (x : Standing). LeadsBelow (length ds) x.innermost); names = refl }

pub lists-one : (ds : List Declaration) (i : Option ℕ) (place : Place) (environment : Environment) (ss : List Standing) (steps : List NameStanding)
    → Reaches ds i environment → Lists ds ss steps → Lists ds (ss ++ record { place = place; innermost = i } ∷ []) (steps ++ record { place = place; names = listed environment } ∷ [])
lists-one ds i place environment ss steps r l = record {
  below = All-push (λ (x : Standing). LeadsBelow (length ds) x.innermost) ss (record { place = place; innermost = i }) l.below r.below;
  names =
      map-append (standing_view ds) ss (record { place = place; innermost = i } ∷ [])
      ∙ ap (λ z. z ++ standing_view ds (record { place = place; innermost = i }) ∷ []) l.names
      ∙ ap (λ (e : Environment). steps ++ record { place = place; names = unhidden e } ∷ []) (sym r.local);
}
