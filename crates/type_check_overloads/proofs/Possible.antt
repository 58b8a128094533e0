-- The functions that a call may mean, one by one, and the one that beats every other.
use Rattle.std.proofs.Common.{ℕ, ◌≡◌, ◌∙◌, ◌+◌, refl, sym, ap, suc, Bool, true, false, List, [], ◌∷◌, ◌++◌, append_assoc, append-nil, Option, Some, None, map}
use Rattle.std.proofs.Math.Numerals.{add-one}
use Rattle.std.specs.Prelude.{option_map, find, nat_le, if◌then◌else◌, ◌&&◌}
use Rattle.std.specs.List.{list_all, zip}
use Rattle.gang_model.specs.Source.Names.{same_text}
use Rattle.gang_model.specs.Source.Parsed.{Name, ParsedFunction}
use Rattle.gang_model.specs.Types.Typing.{Passing}
use Rattle.gang_model.specs.Types.Overloads.{Candidate, candidate, candidates, costs, no_dearer, beats, best_of}
use Rattle.std.specs.Borrow.{Bor}
use Rattle.type_check_overloads.specs.Candidates.{candidate_view}
use Rattle.type_check_overloads.specs.declared.overloads.Candidate.{Candidate as Found}

-- the costs in a function of this name
abbrev pub costs_in : ParsedFunction → Name → List Passing → Option (List ℕ)
costs_in f name given = if same_text f.name name then costs given f.params else None

first_apart : (k : ℕ) (f : ParsedFunction) (o : Option (List ℕ)) (rest : List Candidate) → candidate k f o rest ≡ candidate k f o [] ++ rest
first_apart k f None rest = refl
first_apart k f (Some prices) rest = refl

pub candidates_step : (all : List Candidate) (k : ℕ) (functions later : List ParsedFunction) (f : ParsedFunction) (name : Name) (given : List Passing) (found found' : List Candidate)
    (o : Option (List ℕ)) → functions ≡ f ∷ later → o ≡ costs_in f name given → found' ≡ found ++ candidate k f o []
    → found ++ candidates k functions name given ≡ all → found' ++ candidates (k + 1) later name given ≡ all
candidates_step all k functions later f name given found found' o e priced pushed h =
    ap (λ n. found' ++ candidates n later name given) (add-one k)
    ∙ (ap (λ xs. xs ++ candidates (suc k) later name given) pushed
    ∙ (append_assoc found (candidate k f o []) (candidates (suc k) later name given)
    ∙ (ap (λ xs. found ++ xs) (sym (first_apart k f o (candidates (suc k) later name given)))
    ∙ (ap (λ p. found ++ candidate k f p (candidates (suc k) later name given)) priced
    ∙ (sym (ap (λ fs. found ++ candidates k fs name given) e) ∙ h)))))

pub candidates_end : (all : List Candidate) (k : ℕ) (functions : List ParsedFunction) (name : Name) (given : List Passing) (found : List Candidate)
    → functions ≡ [] → found ++ candidates k functions name given ≡ all → found ≡ all
candidates_end all k functions name given found e h = sym (append-nil found) ∙ (sym (ap (λ fs. found ++ candidates k fs name given) e) ∙ h)

-- a test of all images
pub all_images : {A B : Type 0} (p : B → Bool) (f : A → B) (xs : List A) → list_all p (map f xs) ≡ list_all (λ x. p (f x)) xs
all_images p f [] = refl
all_images p f (x ∷ xs) = ap (λ b. p (f x) && b) (all_images p f xs)

found_or : {A B : Type 0} (f : A → B) (b : Bool) (x : A) (o : Option A) (later : Option B) → option_map f o ≡ later
    → option_map f (if b then Some x else o) ≡ (if b then Some (f x) else later)
found_or f true x o later e = refl
found_or f false x o later e = e

-- what is found among images is the image of what is found
pub found_image : {A B : Type 0} (p : A → Bool) (q : B → Bool) (f : A → B) (xs : List A) → ((x : A) → p x ≡ q (f x)) → option_map f (find p xs) ≡ find q (map f xs)
found_image p q f [] h = refl
found_image p q f (x ∷ xs) h =
    ap (λ b. option_map f (if b then Some x else find p xs)) (h x) ∙ found_or f (q (f x)) x (find p xs) (find q (map f xs)) (found_image p q f xs h)

-- one by one, no cost is more than the other
pub no_dearer_pairs : (prices others : List ℕ) → list_all (λ p. nat_le p.0 p.1) (zip prices others) ≡ no_dearer prices others
no_dearer_pairs [] others = refl
no_dearer_pairs (price ∷ prices) [] = refl
no_dearer_pairs (price ∷ prices) (other ∷ others) = ap (λ b. nat_le price other && b) (no_dearer_pairs prices others)

two_views : (r : Option (Bor Found)) → option_map (λ c. candidate_view c.now) r ≡ option_map candidate_view (option_map (λ c. c.now) r)
two_views None = refl
two_views (Some c) = refl

-- what is found by the tests of all is the best one
pub best_image : (xs : List Found) (r : Option (Bor Found)) → option_map (λ c. c.now) r ≡ find (λ x. list_all (λ other. beats (candidate_view x) (candidate_view other)) xs) xs
    → option_map (λ c. candidate_view c.now) r ≡ best_of (map candidate_view xs)
best_image xs r e =
    two_views r
    ∙ (ap (option_map candidate_view) e
    ∙ found_image (λ x. list_all (λ other. beats (candidate_view x) (candidate_view other)) xs) (λ d. list_all (beats d) (map candidate_view xs)) candidate_view xs
    (λ x. sym (all_images (beats (candidate_view x)) candidate_view xs)))
