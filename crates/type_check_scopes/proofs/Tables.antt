-- What the bindings of names declare by a table: the innermost of a name, and what is left when a scope ends.
use Rattle.std.proofs.Common.{◌≡◌, ℕ, zero, suc, ◌+◌, ◌-◌, ◌≤◌, ◌<◌, List, [], ◌∷◌, ◌++◌, Bool, true, false, length, take, drop, reverse, refl, sym, ap, ◌∙◌, arith, Option, Some, None, Bor}
use Rattle.std.specs.Prelude.{option_map, if◌then◌else◌}
use Rattle.std.specs.List.{slice_get}
use Rattle.std.specs.Option.{option_copied}
use Rattle.std.specs.Slice.{IsItemAt}
use Rattle.std.proofs.lemmas.Option.{slice_get_past, slice_get_read}
use Rattle.std.proofs.lemmas.List.{reverse-append, reverse-reverse, length-reverse, take-append-drop, length-append, length-drop}
use Rattle.std.proofs.Math.Seq.{drop-append_seam}
use Rattle.gang_model.specs.Source.Names.{same_text}
use Rattle.gang_model.specs.Source.Parsed.{Name}
use Rattle.gang_model.specs.Names.Scope.{Environment}
use Rattle.gang_model.specs.Types.Typing as typing
use Rattle.gang_model.proofs.SameTexts.{same_text-equal}
use Rattle.ispc_names_scopes.specs.Scopes.{position_of}
use Rattle.type_check_scopes.specs.declared.entries.Declared.{Declared}
use Rattle.type_check_scopes.specs.Entries.{declared_view}
use Rattle.type_check_scopes.specs.Tables.{entries_of}

length-entries_of : (env : Environment) (ds : List Declared) → length env ≡ length ds → length (entries_of env ds) ≡ length ds
length-entries_of [] [] h = refl
length-entries_of [] (d ∷ ds) h = h
length-entries_of (b ∷ env) [] h = refl
length-entries_of (b ∷ env) (d ∷ ds) h = omega (arith, length-entries_of env ds (omega arith))

-- ---- the innermost of a name

-- what a list has at a position
abbrev pub at_position : {A : Type 0} → List A → Option ℕ → Option A
at_position xs None = None
at_position xs (Some n) = slice_get xs n

-- what is read from a table
pub copied-item : {A : Type 0} (xs : List A) (n : ℕ) (r : Option (Bor A)) → IsItemAt xs n r → option_copied r ≡ slice_get xs n
copied-item xs n None h = sym (slice_get_past xs n h.3)
copied-item xs n (Some x) h = sym (slice_get_read xs (length xs) n x.now refl h.3.0 h.1)

slice_get-seam : {A : Type 0} (xs : List A) (x : A) (n : ℕ) → n ≡ length xs → slice_get (xs ++ x ∷ []) n ≡ Some x
slice_get-seam [] x n h = ap (slice_get (x ∷ [])) h
slice_get-seam (y ∷ xs) x zero h = absurd (none h)
  where
    none : 0 ≡ suc (length xs) → ⊥
    none e = omega arith
slice_get-seam (y ∷ xs) x (suc n) h = slice_get-seam xs x n (omega arith)

slice_get-before : {A : Type 0} (xs : List A) (x : A) (n : ℕ) → n < length xs → slice_get (xs ++ x ∷ []) n ≡ slice_get xs n
slice_get-before [] x n h = absurd (none h)
  where
    none : n < 0 → ⊥
    none e = omega arith
slice_get-before (y ∷ xs) x zero h = refl
slice_get-before (y ∷ xs) x (suc n) h = slice_get-before xs x n (omega arith)

-- a table with one more declaration says the same of the bindings that stood before
at_position-more : {A : Type 0} (env : Environment) (name : Name) (xs : List A) (x : A) → length env ≤ length xs
    → at_position (xs ++ x ∷ []) (position_of env name) ≡ at_position xs (position_of env name)
at_position-more [] name xs x h = refl
at_position-more (b ∷ env) name xs x h = by (same_text b.name name) (at_position-more env name xs x (omega arith))
  where
    by : (t : Bool) → at_position (xs ++ x ∷ []) (position_of env name) ≡ at_position xs (position_of env name)
        → at_position (xs ++ x ∷ []) (if t then Some (length env) else position_of env name) ≡ at_position xs (if t then Some (length env) else position_of env name)
    by true later = slice_get-before xs x (length env) (omega arith)
    by false later = later

reverse-cons : {A : Type 0} (x : A) (xs : List A) → reverse (x ∷ xs) ≡ reverse xs ++ x ∷ []
reverse-cons x xs = reverse-append (x ∷ []) xs

found-innermost : (env : Environment) (ds : List Declared) (name : Name) → length env ≡ length ds
    → option_map (declared_view name) (at_position (reverse ds) (position_of env name)) ≡ typing.entry_of (entries_of env ds) name
found-innermost [] ds name h = refl
found-innermost (b ∷ env) [] name h = absurd (by h)
  where
    by : suc (length env) ≡ 0 → ⊥
    by e = omega arith
found-innermost (b ∷ env) (d ∷ ds) name h = by (same_text b.name name) refl (found-innermost env ds name (omega arith))
  where
    same : length env ≡ length (reverse ds)
    same = omega (arith, length-reverse ds)

    by : (t : Bool) → same_text b.name name ≡ t → option_map (declared_view name) (at_position (reverse ds) (position_of env name)) ≡ typing.entry_of (entries_of env ds) name
        → option_map (declared_view name) (at_position (reverse (d ∷ ds)) (if t then Some (length env) else position_of env name))
        ≡ (if t then Some (declared_view b.name d) else typing.entry_of (entries_of env ds) name)
    by true e later =
        ap (λ xs. option_map (declared_view name) (slice_get xs (length env))) (reverse-cons d ds)
        ∙ (ap (option_map (declared_view name)) (slice_get-seam (reverse ds) d (length env) same)
        ∙ ap (λ n. Some (declared_view n d)) (sym (same_text-equal b.name name e)))
    by false e later =
        ap (λ xs. option_map (declared_view name) (at_position xs (position_of env name))) (reverse-cons d ds)
        ∙ (ap (option_map (declared_view name)) (at_position-more env name (reverse ds) d (omega (arith, same))) ∙ later)

-- ---- what is left

entries_of-drop : (n : ℕ) (env : Environment) (ds : List Declared) → length env ≡ length ds → entries_of (drop n env) (drop n ds) ≡ drop n (entries_of env ds)
entries_of-drop zero env ds h = refl
entries_of-drop (suc n) [] ds h = refl
entries_of-drop (suc n) (b ∷ env) [] h = absurd (by h)
  where
    by : suc (length env) ≡ 0 → ⊥
    by e = omega arith
entries_of-drop (suc n) (b ∷ env) (d ∷ ds) h = entries_of-drop n env ds (omega arith)

-- what stands first in a table is what is left of it, the innermost first
reverse-take : {A : Type 0} (n : ℕ) (xs : List A) → reverse (take n xs) ≡ drop (length xs - n) (reverse xs)
reverse-take n xs =
    let parts : reverse xs ≡ reverse (drop n xs) ++ reverse (take n xs) = ap reverse (sym (take-append-drop n xs)) ∙ reverse-append (take n xs) (drop n xs) in
    let count : length xs - n ≡ length (reverse (drop n xs)) = sym (length-reverse (drop n xs) ∙ length-drop n xs) in
    sym (ap (drop (length xs - n)) parts ∙ (ap (λ k. drop k (reverse (drop n xs) ++ reverse (take n xs))) count ∙ drop-append_seam (reverse (drop n xs)) (reverse (take n xs))))

-- ---- a table with the innermost declaration last

pub count-entries : (env : Environment) (ds : List Declared) → length env ≡ length ds → length (entries_of env (reverse ds)) ≡ length ds
count-entries env ds h = length-entries_of env (reverse ds) (h ∙ sym (length-reverse ds)) ∙ length-reverse ds

pub found-in_table : (env : Environment) (ds : List Declared) (name : Name) → length env ≡ length ds
    → option_map (declared_view name) (at_position ds (position_of env name)) ≡ typing.entry_of (entries_of env (reverse ds)) name
found-in_table env ds name h =
    ap (λ xs. option_map (declared_view name) (at_position xs (position_of env name))) (sym (reverse-reverse ds))
    ∙ found-innermost env (reverse ds) name (h ∙ sym (length-reverse ds))

-- so many declarations as there are bindings left
pub length-left : {A B : Type 0} (n : ℕ) (xs : List A) (ys : List B) → length xs ≡ length ys → length (drop (length xs - n) xs) ≡ length (take n ys)
length-left n xs ys h =
    let parts : length (take n ys) + length (drop n ys) ≡ length ys = sym (length-append (take n ys) (drop n ys)) ∙ ap length (take-append-drop n ys) in
    omega (arith, h, parts, length-drop n ys, length-drop (length xs - n) xs)

pub entries_of-left : (n : ℕ) (env : Environment) (ds : List Declared) → length env ≡ length ds
    → entries_of (drop (length env - n) env) (reverse (take n ds)) ≡ drop (length (entries_of env (reverse ds)) - n) (entries_of env (reverse ds))
entries_of-left n env ds h =
    let same : length env ≡ length (reverse ds) = h ∙ sym (length-reverse ds) in
    ap (entries_of (drop (length env - n) env)) (reverse-take n ds ∙ ap (λ k. drop (k - n) (reverse ds)) (sym h))
    ∙ (entries_of-drop (length env - n) env (reverse ds) same
    ∙ ap (λ k. drop (k - n) (entries_of env (reverse ds))) (h ∙ sym (count-entries env ds h)))
