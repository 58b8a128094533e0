-- Rows of the limits of a source (S13).
use Rattle.std.specs.Prelude.{◌≡◌, refl, ℕ, zero, suc, true, false, List, [], ◌∷◌, ◌++◌, Some, None, codes, decimal}
use Rattle.gang_types.specs.declared.types.Rate.TheVariants.{Uniform}
use Rattle.gang_types.specs.declared.types.IntType.TheVariants as t
use Rattle.gang_model.specs.declared.forms.GlobalForm.TheVariants.{Array}
use Rattle.gang_model.specs.declared.refusals.RefusalNumber.TheVariants.{S13}
use Rattle.gang_model.specs.Source.Parsed.{ParsedNumber, ParsedEmpty, ParsedDeclare, ParsedForEach, ParsedStmts, ParsedLast, ParsedNext, ParsedItem}
use Rattle.gang_model.specs.Source.Limits.{limit_refusal}
use Rattle.tests_transcripts.proofs.Forms.{at, spec, dimension, parameter, function, file_variable}
use Rattle.tests_refusals.proofs.Wanted.{refused, accepted}

-- so many lines `int vN;`, from line N on
abbrev declarations : (count line : ℕ) → ParsedStmts → ParsedStmts
declarations zero line rest = rest
declarations (suc count) line rest =
    ParsedNext (ParsedDeclare (at line 1) (spec false false false false None (Some t.Int32)) (at line 5) (codes "v" ++ decimal line) None) (declarations count (suc line) rest)

-- `export void go() {` in line 1, with these statements
abbrev entry : ParsedStmts → ParsedItem
entry body = function (at 1 13) (codes "go") (spec true false false false None None) [] body (at 300 1)

-- `uniform int NAME[LENGTH];`, with the name in this line and column
abbrev array : (line col : ℕ) → List ℕ → ℕ → ParsedItem
array line col name n = file_variable (at line col) name (spec false false false false (Some Uniform) (Some t.Int32)) (Array n)

-- uniform int a[1048577]; export void go() { }
row_0 : limit_refusal (array 1 13 (codes "a") 1048577 ∷ entry ParsedLast ∷ []) ≡ refused S13 1 13
row_0 = refl

-- uniform int a[1048576]; export void go() { }
row_1 : limit_refusal (array 1 13 (codes "a") 1048576 ∷ entry ParsedLast ∷ []) ≡ accepted
row_1 = refl

-- uniform int a[1048576];
-- uniform int b[0];
-- uniform int c[1];
-- uniform int d[1];
-- (the words of all arrays together, and the first array that passes the limit)
row_2 : limit_refusal (array 1 13 (codes "a") 1048576 ∷ array 2 13 (codes "b") 0 ∷ array 3 13 (codes "c") 1 ∷ array 4 13 (codes "d") 1 ∷ []) ≡ refused S13 3 13
row_2 = refl

-- export void go() {
-- (and 256 variables in lines 2 to 257)
row_3 : limit_refusal (entry (declarations 256 2 ParsedLast) ∷ []) ≡ accepted
row_3 = refl

-- (and 257 variables in lines 2 to 258)
row_4 : limit_refusal (entry (declarations 257 2 ParsedLast) ∷ []) ≡ refused S13 258 5
row_4 = refl

-- void f(int p) {
-- (and 256 variables: parameters are variables)
row_5 : limit_refusal (function (at 1 6) (codes "f") (spec false false false false None None) (parameter (at 1 12) (codes "p") (spec false false false false None (Some t.Int32)) false ∷ []) (declarations 256 2 ParsedLast) (at 258 1) ∷ [])
    ≡ refused S13 257 5
row_5 = refl

-- (256 variables in each of two functions)
row_6 : limit_refusal (entry (declarations 256 2 ParsedLast) ∷ function (at 301 6) (codes "f") (spec false false false false None None) [] (declarations 256 302 ParsedLast) (at 600 1) ∷ []) ≡ accepted
row_6 = refl

-- (255 variables in lines 2 to 256, then in line 257)
-- foreach (i = 0 ... 1, j = 0 ... 1) ;
-- (and in line 301)
-- uniform int a[1048577];
-- (index variables are variables; the first limit in the order of the source)
row_7 : limit_refusal (
    entry (declarations 255 2 (ParsedNext (ParsedForEach (at 257 1) false
    (dimension (at 257 10) (codes "i") (ParsedNumber (at 257 14) 0 false false) (ParsedNumber (at 257 20) 1 false false)
    ∷ dimension (at 257 23) (codes "j") (ParsedNumber (at 257 27) 0 false false) (ParsedNumber (at 257 33) 1 false false) ∷ []) ParsedEmpty) ParsedLast))
    ∷ array 301 13 (codes "a") 1048577 ∷ []) ≡ refused S13 257 23
row_7 = refl
