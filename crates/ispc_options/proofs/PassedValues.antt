-- What a parse that succeeds found of the options of a command that has no subcommands.
use Rattle.std.proofs.Common.{zero, suc, ◌≡◌, ◌⊎◌, ◌∙◌, ◌<◌, ◌≤◌, ◌&&◌, ◌||◌, ℕ, Bool, true, false, true≢false, not, List, [], ◌∷◌, length, Option, Some, None, is_some, refl, sym, ap, subst, inl, inr, arith}
use Rattle.std.specs.List.{All, list_all, list_any, slice_index_or}
use Rattle.std.specs.Str.{bytes_eq}
use Rattle.std.specs.Prelude.{IfSome, codes, map, option_and_then, option_map, slice_get}
use Rattle.std.specs.Borrow.{Bor}
use Rattle.std.proofs.lemmas.List.{length-map}
use Rattle.std.proofs.lemmas.Slice.Eq.{bytes_eq-Decides}
use Rattle.clap.specs.Facts.{args_of, groups_of, least_values, unwrap_or_range}
use Rattle.clap.specs.Texts.{items_of}
use Rattle.clap.specs.Built.{IsAuto, IsParsedFrom, IsPlain}
use Rattle.clap.specs.Matches.{first_value, found_of, matched_of, one_text}
use Rattle.clap.specs.Values.{Accepts, read_as, reading_of}
use Rattle.clap.specs.Walk.{Rule, Text, rule_of}
use Rattle.clap.specs.Simple.{App, IsSimple, app_of, is_ready, is_ready_leaf}
use Rattle.clap.specs.declared.builder.action.ArgAction.TheVariants.{Set}
use Rattle.clap.specs.declared.builder.arg.Arg.{Arg}
use Rattle.clap.specs.declared.builder.command.Command.{Command}
use Rattle.clap.specs.declared.builder.value_parser.Reading.{Reading}
use Rattle.clap.specs.declared.builder.value_parser.Reading.TheVariants.{AsWritten}
use Rattle.clap.specs.declared.builder.value_parser.ValueParser.{ValueParser}
use Rattle.clap.specs.declared.builder.value_parser.ValueParser.TheVariants as parser
use Rattle.clap.specs.declared.parser.matches.ArgMatches.{ArgMatches}
use Rattle.clap.specs.declared.parser.matches.Found.{Found}
use Rattle.clap.specs.declared.parser.matches.MatchedArg.{MatchedArg}
use Rattle.clap.proofs.CallerLemmas.{default_present, required_has_value}
use Rattle.clap.proofs.FaultLemmas.{free_args}
use Rattle.clap.proofs.SimpleLemmas.{all_simple, ready_simple, simple_groups}
use Rattle.clap.proofs.WalkLemmas.{both, list_any-map}
use Rattle.ispc_options.specs.Asked.{AreWidths, command_of, option_or, up_to, width_text}
use Rattle.ispc_options.specs.Passed.{HasNumber}
use Rattle.ispc_options.specs.declared.options.Width.{Width}
use Rattle.ispc_options.specs.declared.options.Width.TheVariants.{Four, Eight, Sixteen}
use Rattle.ispc_options.proofs.Given.{entry_found, has_values, values_pass, values_read}

rule_at : (xs : List Arg) (k : ℕ) (d : Arg) → k < length xs → rule_of (slice_index_or xs k d) ≡ slice_index_or (map rule_of xs) k (rule_of d)
rule_at [] k d lt = absurd (omega arith)
rule_at (x ∷ xs) zero d lt = refl
rule_at (x ∷ xs) (suc k) d lt = rule_at xs k d (omega arith)

same_length : (xs : List Arg) → length (map rule_of xs) ≡ length xs
same_length [] = refl
same_length (x ∷ xs) = ap suc (same_length xs)

-- only the k-th rule has the id
abbrev is_only : Text → ℕ → List Rule → Bool
is_only id k [] = true
is_only id zero (r ∷ rs) = list_all (λ s. not (bytes_eq s.id id)) rs
is_only id (suc k) (r ∷ rs) = not (bytes_eq r.id id) && is_only id k rs

-- and it is no id that the parser adds itself
abbrev is_own : Text → Bool
is_own id = not (bytes_eq id []) && (not (bytes_eq id (codes "help")) && not (bytes_eq id (codes "version")))

not_both : (b : Bool) → not b ≡ true → b ≡ true → ⊥
not_both true n e = true≢false (sym n)
not_both false n e = true≢false (sym e)

none_has : (id : Text) (rs : List Rule) (j : ℕ) (e : Rule) → list_all (λ s. not (bytes_eq s.id id)) rs ≡ true → j < length rs
    → bytes_eq (slice_index_or rs j e).id id ≡ true → ⊥
none_has id [] j e none lt hit = omega arith
none_has id (r ∷ rs) zero e none lt hit = not_both _ (both _ _ none).0 hit
none_has id (r ∷ rs) (suc j) e none lt hit = none_has id rs j e (both _ _ none).1 (omega arith) hit

only_one : (id : Text) (k : ℕ) (rs : List Rule) (j : ℕ) (e : Rule) → is_only id k rs ≡ true → j < length rs
    → bytes_eq (slice_index_or rs j e).id id ≡ true → j ≡ k
only_one id k [] j e only lt hit = absurd (omega arith)
only_one id zero (r ∷ rs) zero e only lt hit = refl
only_one id zero (r ∷ rs) (suc j) e only lt hit = absurd (none_has id rs j e only (omega arith) hit)
only_one id (suc k) (r ∷ rs) zero e only lt hit = absurd (not_both _ (both _ _ only).0 hit)
only_one id (suc k) (r ∷ rs) (suc j) e only lt hit = ap suc (only_one id k rs j e (both _ _ only).1 (omega arith) hit)

-- the first of some values, as it is and as it is read
first_is : (vs : List (Bor Text)) (how : Reading) → 0 < length vs → (P : Text → Type 0) → All (λ v. P v.now) vs
    → (t : Text) × (option_map (λ s. s.now) (slice_get vs 0) ≡ Some t) × (option_map (λ s. read_as how s.now) (slice_get vs 0) ≡ Some (read_as how t)) × P t
first_is [] how lt P all = absurd (omega arith)
first_is (v ∷ vs) how lt P all = (v.now, refl, refl, all 0 v (omega arith))

-- and where it is read as it is written, if there is one
first_plain : (vs : List (Bor Text)) (how : Reading) → how ≡ AsWritten → (P : Text → Type 0) → All (λ v. P v.now) vs
    → (option_map (λ s. read_as how s.now) (slice_get vs 0) ≡ option_map (λ s. s.now) (slice_get vs 0))
    × IfSome (option_map (λ s. s.now) (slice_get vs 0)) P
first_plain [] how plain P all = (refl, tt)
first_plain (v ∷ vs) how plain P all = (ap (λ h. Some (read_as h v.now)) plain, all 0 v (omega arith))

-- a text that is one of the widths
which_width : (t : Text) → list_any (λ n. bytes_eq n t) (codes "4" ∷ codes "8" ∷ codes "16" ∷ []) ≡ true → (w : Width) × (t ≡ width_text w)
which_width t one = go (bytes_eq (codes "4") t) (bytes_eq (codes "8") t) (bytes_eq (codes "16") t) refl refl refl one
  where
    same : (s : Text) → bytes_eq s t ≡ true → t ≡ s
    same s e = sym ((bytes_eq-Decides s t).0 e)

    go : (a b c : Bool) → bytes_eq (codes "4") t ≡ a → bytes_eq (codes "8") t ≡ b → bytes_eq (codes "16") t ≡ c
        → (a || (b || (c || false))) ≡ true → (w : Width) × (t ≡ width_text w)
    go true b c is_4 is_8 is_16 one = (Four, same _ is_4)
    go false true c is_4 is_8 is_16 one = (Eight, same _ is_8)
    go false false true is_4 is_8 is_16 one = (Sixteen, same _ is_16)
    go false false false is_4 is_8 is_16 one = absurd (true≢false (sym one))

which_flag : (t : Text) → (bytes_eq t (codes "true") || bytes_eq t (codes "false")) ≡ true → (t ≡ codes "true") ⊎ (t ≡ codes "false")
which_flag t one = go (bytes_eq t (codes "true")) refl one
  where
    go : (b : Bool) → bytes_eq t (codes "true") ≡ b → (b || bytes_eq t (codes "false")) ≡ true → (t ≡ codes "true") ⊎ (t ≡ codes "false")
    go true is one = inl ((bytes_eq-Decides t (codes "true")).0 is)
    go false is one = inr ((bytes_eq-Decides t (codes "false")).0 one)

pub which_flags : (o : Option Text) → IfSome o (Accepts false parser.Bool) → IfSome o (λ t. (t ≡ codes "true") ⊎ (t ≡ codes "false"))
which_flags None one = tt
which_flags (Some t) one = which_flag t one

-- a text that passed among the widths
pub one_of_the_widths : (widths : Bor (List (Bor Text))) → AreWidths widths → (t : Text) → Accepts false (parser.Names widths) t → (w : Width) × (t ≡ width_text w)
one_of_the_widths widths are t passed = which_width t
    (sym (ap (list_any (λ n. bytes_eq n t)) are) ∙ (sym (list_any-map (λ n. bytes_eq n t) (λ (s : Bor Text). s.now) widths.now) ∙ passed))

some_text : (o : Option Text) → is_some o ≡ true → (t : Text) × (o ≡ Some t)
some_text (Some t) is = (t, refl)
some_text None is = absurd (true≢false (sym is))

module _ (name : Text) (rules : List Rule) (ready : is_ready (command_of name rules).top ≡ true) (all : all_simple rules ≡ true)
    (free : list_all (λ (r : Rule). r.is_free) rules ≡ true) (old : Command) (app : app_of old ≡ command_of name rules) (m : ArgMatches)
    (p : IsParsedFrom old m) where
  simple : IsSimple old
  simple = ready_simple old (ap (λ (a : App). is_ready a.top) app ∙ ready) (ap (λ (a : App). list_all is_ready_leaf a.subs) app)

  rules_are : map rule_of (args_of old) ≡ rules
  rules_are = ap (λ (a : App). a.top.rules) app

  all_groups : All (λ (a : Arg). a.groups.items ≡ []) (args_of old)
  all_groups = simple_groups old (ap (λ (a : App). all_simple a.top.rules) app ∙ all)

  no_groups : groups_of p.built ≡ []
  no_groups = (p.from.same_groups all_groups).1 ∙ simple.groups

  count_is : length (args_of old) ≡ length rules
  count_is = sym (same_length (args_of old)) ∙ ap length rules_are

  -- the k-th argument has the k-th rule
  rule_is : (k : ℕ) (d : Arg) → k < length rules → rule_of (slice_index_or (args_of old) k d) ≡ slice_index_or rules k (rule_of d)
  rule_is k d lt = rule_at (args_of old) k d (omega (arith, count_is)) ∙ ap (λ rs. slice_index_or rs k (rule_of d)) rules_are

  -- no argument excludes another
  plain : IsPlain old
  plain = (
    λ k d lt.
        let apart = free_args old simple (ap (λ (a : App). list_all (λ (r : Rule). r.is_free) a.top.rules) app ∙ free) k d lt in
        (apart.exclusive, apart.conflicts, (simple.args k d lt).overrides, all_groups k d lt),
    simple.groups,
  )

  some_arg : (xs : List Arg) → 0 < length xs → Arg
  some_arg [] lt = absurd (omega arith)
  some_arg (x ∷ xs) lt = x

  -- an argument by its place, of which only the rule is known
  module _ (k : ℕ) (rule : Rule) (low : k < length rules) (is : (d : Rule) → slice_index_or rules k d ≡ rule)
      (only : is_only rule.id k rules ≡ true) (named : is_own rule.id ≡ true) where
    first_arg : Arg
    first_arg = some_arg (args_of old) (omega (arith, count_is))

    abbrev asked : Arg
    asked = slice_index_or (args_of old) k first_arg

    abbrev found : Found
    found = found_of m

    lt : k < length (args_of old)
    lt = omega (arith, count_is)

    asked_is : rule_of asked ≡ rule
    asked_is = rule_is k first_arg low ∙ is (rule_of first_arg)

    id_is : asked.id.now ≡ rule.id
    id_is = ap (λ (r : Rule). r.id) asked_is

    unique : (j : ℕ) (e : Arg) → j < length (args_of old) → bytes_eq (slice_index_or (args_of old) j e).id.now asked.id.now ≡ true → j ≡ k
    unique j e below hit =
        let in_rules : j < length rules = omega (arith, count_is) in
        let other : (slice_index_or (args_of old) j e).id.now ≡ (slice_index_or rules j (rule_of e)).id = ap (λ (r : Rule). r.id) (rule_is j e in_rules) in
        only_one rule.id k rules j (rule_of e) only in_rules
        (subst (λ (t : Text). bytes_eq t rule.id ≡ true) other (subst (λ (t : Text). bytes_eq (slice_index_or (args_of old) j e).id.now t ≡ true) id_is hit))

    is_not : (t : Text) → not (bytes_eq rule.id t) ≡ true → asked.id.now ≡ t → ⊥
    is_not t differs same = not_both _ differs ((bytes_eq-Decides rule.id t).1 (sym id_is ∙ same))

    has_name : asked.id.now ≡ [] → ⊥
    has_name = is_not [] (both _ _ named).0

    own : IsAuto asked → ⊥
    own (inl help) = is_not _ (both _ _ (both _ _ named).1).0 help
    own (inr version) = is_not _ (both _ _ (both _ _ named).1).1 version

    action_is : rule.action ≡ Some Set → asked.action ≡ Some Set
    action_is set = ap (λ (r : Rule). r.action) asked_is ∙ set

    takes_one : rule.range ≡ None → 1 ≤ least_values asked
    takes_one range = subst (λ o. 1 ≤ (unwrap_or_range o).start_inclusive) (sym (ap (λ (r : Rule). r.range) asked_is ∙ range)) (omega arith)

    -- a word that has to be there is there
    pub required_given : rule.required ≡ true → rule.action ≡ Some Set → rule.range ≡ None
        → (t : Text) × (first_value found rule.id ≡ Some t)
    required_given required set range =
        let arg = simple.args k first_arg lt in
        let has = required_has_value old m p plain simple.globals (ap (λ (a : App). a.top.subcommand_negates_reqs) app) k first_arg lt
        (ap (λ (r : Rule). r.required) asked_is ∙ required) (action_is set) arg.delimiter (takes_one range) unique has_name own in
        some_text _ (subst (λ t. is_some (first_value found t) ≡ true) id_is has)

    module _ (q : ValueParser) (read_by : rule.parser ≡ Some q) where
      parser_is : asked.value_parser ≡ Some q
      parser_is = ap (λ (r : Rule). r.parser) asked_is ∙ read_by

      passes : (x : MatchedArg) → matched_of found asked.id.now ≡ Some x → All (λ v. Accepts rule.ignore_case q v.now) x.vals.items
      passes x there = subst (λ b. All (λ v. Accepts b q v.now) x.vals.items) (ap (λ (r : Rule). r.ignore_case) asked_is)
          (values_pass old m p simple.globals no_groups k first_arg lt unique has_name own q parser_is x there)

      reads : (x : MatchedArg) → matched_of found asked.id.now ≡ Some x → x.reading ≡ reading_of q
      reads = values_read old m p simple.globals no_groups k first_arg lt unique has_name own q parser_is

      -- an option with a default has a value, which passed
      pub value_passed : rule.action ≡ Some Set → rule.range ≡ None → 0 < length rule.defaults
          → (t : Text) × (first_value found rule.id ≡ Some t) × (one_text found rule.id ≡ Some (read_as (reading_of q) t)) × Accepts rule.ignore_case q t
      value_passed set range defaults =
          let arg = simple.args k first_arg lt in
          let some_default : 0 < length (items_of asked.default_vals) = omega (arith, defaults, ap (λ (r : Rule). length r.defaults) asked_is, length-map (items_of asked.default_vals) (λ (s : Bor Text). s.now)) in
          let entry = entry_found found.entries.items asked.id.now (default_present old m p simple.globals k first_arg lt (arg.default_ifs, some_default)) in
          let filled = has_values old m p simple.globals no_groups k first_arg lt unique has_name own (action_is set) arg.delimiter (takes_one range) entry.0 entry.1 in
          let first = first_is entry.0.vals.items entry.0.reading filled (λ t. Accepts rule.ignore_case q t) (passes entry.0 entry.1) in
          let value : first_value found asked.id.now ≡ Some first.0 =
          ap (option_and_then (λ (a : MatchedArg). option_map (λ s. s.now) (slice_get a.vals.items 0))) entry.1 ∙ first.1 in
          let read : one_text found asked.id.now ≡ Some (read_as entry.0.reading first.0) =
          ap (option_and_then (λ (a : MatchedArg). option_map (λ s. read_as a.reading s.now) (slice_get a.vals.items 0))) entry.1 ∙ first.2 in (
            first.0,
            subst (λ t. first_value found t ≡ Some first.0) id_is value,
            subst (λ how. one_text found rule.id ≡ Some (read_as how first.0)) (reads entry.0 entry.1)
                (subst (λ t. one_text found t ≡ Some (read_as entry.0.reading first.0)) id_is read),
            first.3,
          )

      -- the value of a flag passed, if it has one
      pub flag_passed : reading_of q ≡ AsWritten → (one_text found rule.id ≡ first_value found rule.id)
          × IfSome (first_value found rule.id) (Accepts rule.ignore_case q)
      flag_passed as_written = subst (λ t. (one_text found t ≡ first_value found t) × IfSome (first_value found t) (Accepts rule.ignore_case q)) id_is
          (go (matched_of found asked.id.now) refl)
        where
          go : (o : Option MatchedArg) → matched_of found asked.id.now ≡ o
              → (option_and_then (λ (a : MatchedArg). option_map (λ s. read_as a.reading s.now) (slice_get a.vals.items 0)) o
              ≡ option_and_then (λ (a : MatchedArg). option_map (λ s. s.now) (slice_get a.vals.items 0)) o)
              × IfSome (option_and_then (λ (a : MatchedArg). option_map (λ s. s.now) (slice_get a.vals.items 0)) o) (Accepts rule.ignore_case q)
          go None none = (refl, tt)
          go (Some x) there = first_plain x.vals.items x.reading (reads x there ∙ as_written) (Accepts rule.ignore_case q) (passes x there)

  -- a number with a default is there, and in its range
  pub number_passed : (k : ℕ) (id : Text) (most : ℕ) (default : Text) → k < length rules
      → ((d : Rule) → slice_index_or rules k d ≡ option_or id (up_to most) default)
      → is_only id k rules ≡ true → is_own id ≡ true → HasNumber most (found_of m) id
  number_passed k id most default low is only named =
      let got = value_passed k (option_or id (up_to most) default) low is only named (up_to most) refl refl refl (omega arith) in
      (got.0, got.1, got.2, got.3)
