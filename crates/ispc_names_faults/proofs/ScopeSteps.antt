-- What statements and declarations do to the scopes, and that leaving a scope takes back what was declared in it.
use Rattle.std.proofs.Common.{◌≡◌, ℕ, ◌+◌, ◌-◌, ◌≤◌, List, [], ◌∷◌, ◌++◌, length, drop, refl, sym, ap, subst, ◌∙◌, arith, append_assoc, length-append}
use Rattle.gang_model.specs.Source.Parsed.{Name, ParsedDim, ParsedParam, ParsedStmt, ParsedEmpty, ParsedBlock, ParsedDeclare, ParsedAssign, ParsedChange, ParsedIncrement, ParsedDoCall, ParsedBreak, ParsedContinue, ParsedReturn, ParsedIf, ParsedIfElse, ParsedWhile, ParsedDo, ParsedFor, ParsedSwitch, ParsedForEach, ParsedForEachActive, ParsedForEachUnique, ParsedStmts, ParsedLast, ParsedNext}
use Rattle.gang_model.specs.Names.Scope.{Binding, Environment, Site, with_name, with_dims, with_params, enclosed, after, after_all, locals_in, locals_in_all}
use Rattle.gang_model.proofs.ScopeLaws.{after-next, after_all-next}
use Rattle.ispc_names_scopes.specs.Scopes.{Scoped, site}
use Rattle.ispc_names_faults.specs.Moved.{moved}
use Rattle.gang_model.proofs.StandingLaws.{with_dims-next}
use Rattle.std.proofs.Math.Seq.{drop-append_seam}

-- some declarations inside others
abbrev pub Extends : Environment → Environment → Type 0
Extends outer env = (inner : List Binding) × (env ≡ inner ++ outer)

extends_refl : (env : Environment) → Extends env env
extends_refl env = ([], refl)

extends_trans : (a b c : Environment) → Extends a b → Extends b c → Extends a c
extends_trans a b c h k =
    (k.0 ++ h.0, k.1 ∙ (ap (λ x. k.0 ++ x) h.1 ∙ sym (append_assoc k.0 h.0 a)))

extends_by : (a b c : Environment) → Extends a b → c ≡ b → Extends a c
extends_by a b c h e = (h.0, e ∙ h.1)

extends_after : (s : ParsedStmt) (t : Site) → Extends t.environment (after s t).environment
extends_after ParsedEmpty t = ([], refl)
extends_after (ParsedBlock ss) t = ([], refl)
extends_after (ParsedDeclare p spec at name e) t = (_ ∷ [], refl)
extends_after (ParsedAssign p target e) t = ([], refl)
extends_after (ParsedChange p target op e) t = ([], refl)
extends_after (ParsedIncrement p target op) t = ([], refl)
extends_after (ParsedDoCall p name args) t = ([], refl)
extends_after (ParsedBreak p) t = ([], refl)
extends_after (ParsedContinue p) t = ([], refl)
extends_after (ParsedReturn p e) t = ([], refl)
extends_after (ParsedIf p e a) t = ([], refl)
extends_after (ParsedIfElse p e a b) t = ([], refl)
extends_after (ParsedWhile p e body) t = ([], refl)
extends_after (ParsedDo body p e) t = ([], refl)
extends_after (ParsedFor p start e update body) t = ([], refl)
extends_after (ParsedSwitch p e segments) t = ([], refl)
extends_after (ParsedForEach p is_tiled dims body) t = ([], refl)
extends_after (ParsedForEachActive p at name body) t = ([], refl)
extends_after (ParsedForEachUnique p at name e body) t = ([], refl)

extends_after_all : (ss : ParsedStmts) (t : Site) → Extends t.environment (after_all ss t).environment
extends_after_all ParsedLast t = ([], refl)
extends_after_all (ParsedNext s ss) t =
    extends_trans t.environment (after s t).environment (after_all ss (after s t)).environment (extends_after s t) (extends_after_all ss (after s t))

extends_name : (name : Name) (t : Site) → Extends t.environment (with_name name t).environment
extends_name name t = (_ ∷ [], refl)

extends_dims : (dims : List ParsedDim) (t : Site) → Extends t.environment (with_dims dims t).environment
extends_dims [] t = ([], refl)
extends_dims (d ∷ dims) t =
    extends_trans t.environment (with_name d.name t).environment (with_dims dims (with_name d.name t)).environment (extends_name d.name t) (extends_dims dims (with_name d.name t))

extends_params : (params : List ParsedParam) (t : Site) → Extends t.environment (with_params params t).environment
extends_params [] t = ([], refl)
extends_params (p ∷ params) t =
    extends_trans t.environment (with_name p.name t).environment (with_params params (with_name p.name t)).environment (extends_name p.name t) (extends_params params (with_name p.name t))

-- ---- what is taken back

pub no_fewer : (outer env : Environment) → Extends outer env → length outer ≤ length env
no_fewer outer env h = omega (arith, ap length h.1, length-append h.0 outer)

taken_back : (outer env : Environment) → Extends outer env → drop (length env - length outer) env ≡ outer
taken_back outer env h =
    let count : length env - length outer ≡ length h.0 = omega (arith, ap length h.1, length-append h.0 outer) in
    ap (λ n. drop n env) count ∙ (ap (drop (length h.0)) h.1 ∙ drop-append_seam h.0 outer)

same_scopes : (a b : Scoped) → a.environment ≡ b.environment → a.outside ≡ b.outside → a.next ≡ b.next → a ≡ b
same_scopes a b e o n =
    ap (λ (x : Environment). record { environment = x; outside = a.outside; next = a.next }) e
    ∙ (ap (λ (x : ℕ). record { environment = b.environment; outside = x; next = a.next }) o
    ∙ ap (λ (x : ℕ). record { environment = b.environment; outside = b.outside; next = x }) n)

-- a mark that was set at an outer scope
pub record IsMarkOf (outer : Scoped) (declared outside : ℕ) : Type 0 where
  pub declared_is : declared ≡ length outer.environment
  pub outside_is : outside ≡ outer.outside

-- the scopes after they were left for a mark
pub record IsLeft (inner left : Scoped) (declared outside : ℕ) : Type 0 where
  pub environment_is : left.environment ≡ drop (length inner.environment - declared) inner.environment
  pub outside_is : left.outside ≡ outside
  pub next_is : left.next ≡ inner.next

-- scopes with more declarations, and so many more variables
pub record Reaches (outer inner : Scoped) (n : ℕ) : Type 0 where
  pub extends : Extends outer.environment inner.environment
  pub next_is : inner.next ≡ outer.next + n

pub marked_within : (outer inner : Scoped) (n declared outside : ℕ) → IsMarkOf outer declared outside → Reaches outer inner n → declared ≤ length inner.environment
marked_within outer inner n declared outside m r = omega (arith, m.declared_is, no_fewer outer.environment inner.environment r.extends)

pub extends_within : (outer inner : Environment) (declared : ℕ) → declared ≡ length outer → Extends outer inner → declared ≤ length inner
extends_within outer inner declared m r = omega (arith, m, no_fewer outer inner r)

pub environment_left : (outer inner left : Scoped) (declared outside : ℕ) → declared ≡ length outer.environment → Extends outer.environment inner.environment
    → IsLeft inner left declared outside → left.environment ≡ outer.environment
environment_left outer inner left declared outside m r l =
    l.environment_is ∙ (ap (λ d. drop (length inner.environment - d) inner.environment) m ∙ taken_back outer.environment inner.environment r)

pub left_for : (outer inner left : Scoped) (n declared outside : ℕ) → IsMarkOf outer declared outside → Reaches outer inner n → IsLeft inner left declared outside
    → left ≡ moved n outer
left_for outer inner left n declared outside m r l =
    same_scopes left (moved n outer) (environment_left outer inner left declared outside m.declared_is r.extends l) (l.outside_is ∙ m.outside_is) (l.next_is ∙ r.next_is)

-- ---- how far statements and declarations reach

pub reach_entered : (s t : Scoped) → site t ≡ enclosed (site s) → Reaches s t 0
reach_entered s t e = record {
  extends = extends_by s.environment s.environment t.environment (extends_refl s.environment) (ap (λ x. x.environment) e);
  next_is = ap (λ x. x.next) e ∙ omega arith;
}

pub reach_begun : (s t : Scoped) → site t ≡ record { environment = s.environment; here = []; next = 0 } → Extends s.environment t.environment
reach_begun s t e = extends_by s.environment s.environment t.environment (extends_refl s.environment) (ap (λ x. x.environment) e)

pub reach_after : (s t u : Scoped) (x : ParsedStmt) (n : ℕ) → Reaches s t n → site u ≡ after x (site t) → Reaches s u (n + locals_in x)
reach_after s t u x n r e = record {
  extends = extends_trans s.environment t.environment u.environment r.extends
      (extends_by t.environment (after x (site t)).environment u.environment (extends_after x (site t)) (ap (λ y. y.environment) e));
  next_is = omega (arith, ap (λ y. y.next) e, after-next x (site t), r.next_is);
}

pub reach_after_all : (s t u : Scoped) (xs : ParsedStmts) (n : ℕ) → Reaches s t n → site u ≡ after_all xs (site t) → Reaches s u (n + locals_in_all xs)
reach_after_all s t u xs n r e = record {
  extends = extends_trans s.environment t.environment u.environment r.extends
      (extends_by t.environment (after_all xs (site t)).environment u.environment (extends_after_all xs (site t)) (ap (λ y. y.environment) e));
  next_is = omega (arith, ap (λ y. y.next) e, after_all-next xs (site t), r.next_is);
}

pub reach_moved : (s t u : Scoped) (m n : ℕ) → Reaches s t n → u ≡ moved m t → Reaches s u (n + m)
reach_moved s t u m n r e = record {
  extends = extends_by s.environment t.environment u.environment r.extends (ap (λ y. y.environment) e);
  next_is = omega (arith, ap (λ y. y.next) e, r.next_is);
}

pub reach_dims : (s u v : Scoped) (dims : List ParsedDim) (x : ParsedStmt) → site u ≡ with_dims dims (enclosed (site s)) → v ≡ moved (locals_in x) u
    → Reaches s v (length dims + locals_in x)
reach_dims s u v dims x declared e =
    reach_moved s u v (locals_in x) (length dims)
    (record {
      extends = extends_by s.environment (with_dims dims (enclosed (site s))).environment u.environment (extends_dims dims (enclosed (site s))) (ap (λ y. y.environment) declared);
      next_is = ap (λ y. y.next) declared ∙ with_dims-next dims (enclosed (site s));
    }) e

pub reach_params : (s t u : Scoped) (params : List ParsedParam) → Extends s.environment t.environment → site u ≡ with_params params (site t) → Extends s.environment u.environment
reach_params s t u params r e =
    extends_trans s.environment t.environment u.environment r
    (extends_by t.environment (with_params params (site t)).environment u.environment (extends_params params (site t)) (ap (λ y. y.environment) e))

pub reach_body : (s t u : Scoped) (xs : ParsedStmts) → Extends s.environment t.environment → site u ≡ after_all xs (site t) → Extends s.environment u.environment
reach_body s t u xs r e =
    extends_trans s.environment t.environment u.environment r
    (extends_by t.environment (after_all xs (site t)).environment u.environment (extends_after_all xs (site t)) (ap (λ y. y.environment) e))

pub reach_block : (s u : Scoped) (xs : ParsedStmts) → site u ≡ after_all xs (enclosed (site s)) → Reaches s u (locals_in_all xs)
reach_block s u xs e = record {
  extends = extends_by s.environment (after_all xs (enclosed (site s))).environment u.environment (extends_after_all xs (enclosed (site s))) (ap (λ y. y.environment) e);
  next_is = ap (λ y. y.next) e ∙ after_all-next xs (enclosed (site s));
}

pub reach_same : (s t : Scoped) (m n : ℕ) → m ≡ n → Reaches s t m → Reaches s t n
reach_same s t m n e r = subst (Reaches s t) e r

pub reach_here : (s t : Scoped) (x : ParsedStmt) → site t ≡ after x (site s) → Reaches s t (locals_in x)
reach_here s t x e = record {
  extends = extends_by s.environment (after x (site s)).environment t.environment (extends_after x (site s)) (ap (λ y. y.environment) e);
  next_is = ap (λ y. y.next) e ∙ after-next x (site s);
}

pub reach_inner : (s t u : Scoped) (x : ParsedStmt) → site t ≡ enclosed (site s) → site u ≡ after x (site t) → Reaches s u (locals_in x)
reach_inner s t u x entered e = reach_same s u (0 + locals_in x) (locals_in x) (omega arith) (reach_after s t u x 0 (reach_entered s t entered) e)

pub reach_rounds : (s u v : Scoped) (name : Name) (x : ParsedStmt) → site u ≡ with_name name (enclosed (site s)) → v ≡ moved (locals_in x) u
    → Reaches s v (1 + locals_in x)
reach_rounds s u v name x declared e =
    reach_moved s u v (locals_in x) 1
    (record {
      extends = extends_by s.environment (with_name name (enclosed (site s))).environment u.environment (extends_name name (enclosed (site s))) (ap (λ y. y.environment) declared);
      next_is = omega (arith, ap (λ y. y.next) declared);
    }) e

pub moved_twice : (s t u : Scoped) (m n : ℕ) → t ≡ moved m s → u ≡ moved n t → u ≡ moved (m + n) s
moved_twice s t u m n e f =
    let sum : (s.next + m) + n ≡ s.next + (m + n) = omega arith in
    f ∙ (ap (moved n) e ∙ ap (λ (k : ℕ). record s { next = k }) sum)
