-- The tests of an edit that come before its literal is read, by the type and the value of a
-- version.
use Rattle.std.specs.Prelude.{ℕ, ◌≡◌, nat_le, Ok}
use Rattle.ssz_schema.specs.Types.{SszType, Options}
use Rattle.ssz_schema.specs.Sizes.{option_count}
use Rattle.ssz_schema.specs.Paths.{Path, path_type}
use Rattle.ssz_schema.specs.Unfolding.{Types, type_of}
use Rattle.ssz_value.specs.Values.{SszValue}
use Rattle.ssz_value.specs.Parts.{part}
use Rattle.ssz_arena.specs.declared.node.NodeId.{NodeId}
use Rattle.ssz_arena.specs.Content.{ArenaContent as Nodes, tree_of}
use Rattle.ssz_places.specs.PlaceLaws.{IsTreeOf}
use Rattle.ssz_places.specs.EditLaws.{count_of}
use Rattle.ssz_script.specs.declared.reply.TheConstants.Reply.{BAD_PATH, ABSENT, NOT_THAT, FULL, BAD_SELECTOR}
use Rattle.ssz_machine.specs.Rules.{Outcome, ◌>>=◌, ◌>>◌, need, refuse}
use Rattle.ssz_machine.specs.Editing.{element_of, ends_beside, limit_of, options_of}

-- what is said of the part at a path, where there is one
abbrev pub at_part : {X : Type 0} → SszType → SszValue → Path → (SszType → SszValue → Outcome X)
    → Outcome X
at_part t v path rest =
    need BAD_PATH (path_type t path) >>= (λ u. need ABSENT (part t v path) >>= rest u)

-- the type of the part that is set
abbrev pub settable : SszType → SszValue → Path → Outcome SszType
settable t v path = at_part t v path (λ u w. refuse NOT_THAT (ends_beside path) >> Ok u)

-- the type of the element that is appended
abbrev pub appendable : SszType → SszValue → Path → Outcome SszType
appendable t v path = at_part t v path (λ u w. need NOT_THAT (element_of u)
    >>= (λ element. refuse FULL (nat_le (limit_of u) (count_of w)) >> Ok element))

-- the options of the union, of which this one is chosen
abbrev pub choosable : SszType → SszValue → Path → ℕ → Outcome Options
choosable t v path k = at_part t v path (λ u w. need NOT_THAT (options_of u)
    >>= (λ os. refuse BAD_SELECTOR (nat_le (option_count os) k) >> Ok os))

-- the tests of each value of a type whose tree the node has come to this
abbrev pub ComesTo : {X : Type 0} → Types → Nodes → ℕ → NodeId → (SszType → SszValue → Outcome X)
    → Outcome X → Type 0
ComesTo types arena id node tests end =
    (v : SszValue) → IsTreeOf (type_of types id) v (tree_of arena node)
    → tests (type_of types id) v ≡ end
