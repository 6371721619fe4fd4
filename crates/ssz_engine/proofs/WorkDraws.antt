-- The walk over nodes, as the walk over the version that the nodes stand for.
use Rattle.std.proofs.Common.{ℕ, ◌≡◌, [], Option, Some, None, refl, sym, subst}
use Rattle.std.specs.Prelude.{IfSome}
use Rattle.ssz_arena.specs.Content.{ArenaContent as Nodes, tree_of}
use Rattle.ssz_schema.specs.Types.{SszType}
use Rattle.ssz_schema.specs.Unfolding.{Types, type_of}
use Rattle.ssz_script.specs.declared.statement.Statement.{Statement}
use Rattle.ssz_script.specs.declared.statement.Statement.TheVariants.{Set, Append, Pop, Choose}
use Rattle.ssz_value.specs.Values.{Fits}
use Rattle.ssz_value.specs.Trees.{tree}
use Rattle.ssz_versions.specs.Content.{Held}
use Rattle.ssz_machine.specs.State.{Version}
use Rattle.ssz_machine.specs.Drawing.{Walk, drawn_walk}
use Rattle.ssz_draws.specs.Walked.{IsEditStatement, IsWalked}
use Rattle.ssz_decisions.specs.Standing.{Match}
use Rattle.ssz_engine.specs.Works.{Draws, IsOfWork}

-- over the nodes of an entry
pub draws_there : (types : Types) (arena : Nodes) (held : Held) (version : Option Version)
    (x next : ℕ) (edit : Option Statement) → Match types arena (Some held) version
    → IsWalked (type_of types held.0) (tree_of arena held.1) x next edit
    → Draws version x next edit
draws_there types arena held None x next edit is walked = absurd is
draws_there types arena held (Some version) x next edit is walked =
    let way : Walk = record { edit = edit; seed = next } in
    subst (λ (t : SszType). drawn_walk t version.value [] x ≡ way) is.type
    (walked version.value (record {
      fits = subst (λ (t : SszType). Fits t version.value) (sym is.type) is.fits;
      is = subst (λ (t : SszType). tree_of arena held.1 ≡ tree t version.value) (sym is.type)
          is.tree;
    }))

-- where there is no entry, there is no version
pub draws_none : (types : Types) (arena : Nodes) (version : Option Version) (x : ℕ)
    → Match types arena None version → Draws version x x None
draws_none types arena None x is = refl
draws_none types arena (Some version) x is = absurd is

-- an edit that is drawn is a statement of a work
edits_work : (statement : Statement) → IsEditStatement statement → IsOfWork statement
edits_work (Set v path literal) is = tt
edits_work (Append v path literal) is = tt
edits_work (Pop v path) is = tt
edits_work (Choose v path k literal) is = tt
edits_work other is = absurd is

pub some_edits_work : (edit : Option Statement) → IfSome edit IsEditStatement → IfSome edit IsOfWork
some_edits_work None is = is
some_edits_work (Some statement) is = edits_work statement is
