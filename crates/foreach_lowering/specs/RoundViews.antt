-- What a form under way keeps, and its rounds, as the definitions have them.
use Rattle.std.specs.Prelude.{◌≡◌, ℕ, Bool, not, List, [], ◌∷◌, length, Option, Some, None}
use Rattle.gang_types.specs.Masks.{lanes_of}
use Rattle.gang_model.specs.Running.Rounds.{Turn}
use Rattle.gang_model.specs.Running.State.{Store}
use Rattle.gang_model.specs.Types.Tree.{Dimension, Expr, Var, RoundsOf, Rows, Tiles, EachLane, EachValue}
use Rattle.mask_states.specs.Masked.{no_turn}
use Rattle.foreach_lowering.specs.declared.rounds.RoundsLeft.{RoundsLeft}
use Rattle.foreach_lowering.specs.declared.rounds.RoundsLeft.TheVariants.{Domain as DomainLeft, EachLane as LanesLeft, EachValue as ValuesLeft}
use Rattle.foreach_lowering.specs.declared.rounds.Indices.{Indices}
use Rattle.foreach_lowering.specs.declared.rounds.Indices.TheVariants.{Varying, Uniform}
use Rattle.foreach_lowering.specs.declared.rounds.Round.{Round}
use Rattle.foreach_lowering.specs.Grids.{IsLeft}
use Rattle.foreach_lowering.specs.Kept.{Kept, turns_left, Takes, kept_lanes}
use Rattle.foreach_lowering.specs.Views.{bounds_view, grid_view}
use Rattle.foreach_lowering.specs.DomainViews.{form_by, domain_grid, domain_kept, stored}

abbrev pub kept_view : (width : ℕ) → RoundsLeft width → Kept
kept_view width (DomainLeft domain left) = domain_kept domain (grid_view left)
kept_view width (LanesLeft lanes) = kept_lanes (lanes_of width lanes) []
kept_view width (ValuesLeft lanes values) = kept_lanes (lanes_of width lanes) values

-- what is kept is kept by this form
abbrev pub IsFormOf : (width : ℕ) → RoundsOf → RoundsLeft width → Type 0
IsFormOf width form (DomainLeft domain left) = (ds : List Dimension) × (form ≡ form_by domain.order ds) × (length ds ≡ length (bounds_view domain.bounds))
IsFormOf width form (LanesLeft lanes) = (i : Var) × (form ≡ EachLane i)
IsFormOf width form (ValuesLeft lanes values) = (v : Var) × (e : Expr) × (form ≡ EachValue v e)

-- of a grid no more is left than there is
abbrev pub AreLeft : (width : ℕ) → RoundsLeft width → Type 0
AreLeft width (DomainLeft domain left) = IsLeft (domain_grid width domain) (grid_view left)
AreLeft width left = Unit {0}

-- the words of a form's index variables
abbrev pub index_store : (width : ℕ) → RoundsOf → Indices width → Store
index_store width (Rows ds) (Varying words) = stored ds words
index_store width (Tiles ds) (Varying words) = stored ds words
index_store width (EachLane i) (Uniform word) = (i.id, word ∷ []) ∷ []
index_store width (EachValue v e) (Uniform word) = (v.id, word ∷ []) ∷ []
index_store width form indices = []

abbrev pub round_turn : (width : ℕ) → RoundsOf → Round width → Turn
round_turn width form round = record { lanes = lanes_of width round.lanes; indices = index_store width form round.indices }

-- what is left behind a round has the domain, or the values, of what was left before it
abbrev pub GoesOn : (width : ℕ) → (before behind : RoundsLeft width) → Type 0
GoesOn width (DomainLeft domain left) (DomainLeft other later) = other ≡ domain
GoesOn width (LanesLeft lanes) (LanesLeft later) = Unit {0}
GoesOn width (ValuesLeft lanes values) (ValuesLeft later others) = others ≡ values
GoesOn width before behind = ⊥

-- a round is the next of those that are left of a form, which goes on with what is left behind it; none where there is none
abbrev pub IsNextRound : (width : ℕ) → RoundsLeft width → Option (Round width) → Type 0
IsNextRound width left None = (form : RoundsOf) → IsFormOf width form left → turns_left form width (kept_view width left) ≡ []
IsNextRound width left (Some round) =
    ((form : RoundsOf) → IsFormOf width form left → Takes form width (kept_view width left) (round_turn width form round) (kept_view width round.left) × IsFormOf width form round.left)
    × AreLeft width round.left × GoesOn width left round.left

-- that a round is left is said exactly where the rounds that are left are not the empty list
abbrev pub SaysAnyLeft : (width : ℕ) → RoundsLeft width → Bool → Type 0
SaysAnyLeft width left said = (form : RoundsOf) → IsFormOf width form left → said ≡ not (no_turn (turns_left form width (kept_view width left)))
