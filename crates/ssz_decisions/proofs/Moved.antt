-- What the entries stand for that a compaction moved.
use Rattle.std.proofs.Common.{◌≡◌, ◌∙◌, Option, Some, None, refl, ap, subst, arith}
use Rattle.ssz_schema.specs.Unfolding.{Types, type_of}
use Rattle.ssz_arena.specs.Content.{ArenaContent as Nodes}
use Rattle.ssz_arena.specs.Compacted.{IsSameNode}
use Rattle.ssz_versions.specs.Content.{Entries, Held, held_at}
use Rattle.ssz_versions.specs.Compacted.{HasNodes, IsCompacted, IsMoved}
use Rattle.ssz_machine.specs.State.{Version}
use Rattle.ssz_decisions.specs.Standing.{AreVersions, IsSomeVersion, IsVersion}
use Rattle.ssz_decisions.proofs.Entries.{some_held}

-- a moved node stands for the version for which the old one stood
pub version-moved : (types : Types) (before after : Nodes) (old new : Held) (version : Version)
    → new.0 ≡ old.0 → IsSameNode before after old.1 new.1 → IsVersion types before old version
    → IsVersion types after new version
version-moved types before after old new version same moved is = record {
  known = let known = is.known in omega arith;
  node = moved.node;
  type = ap (type_of types) same ∙ is.type;
  fits = is.fits;
  tree = moved.tree ∙ is.tree;
}

-- an entry that is there was there, and stood for some version
some-moved : (types : Types) (before after : Nodes) (old new : Option Held) (held : Held)
    → IsMoved before after old new
    → ((was : Held) → old ≡ Some was → IsSomeVersion types before was) → new ≡ Some held
    → IsSomeVersion types after held
some-moved types before after None None held moved stood there = absurd (no-held held there)
  where
    no-held : (held : Held) → None ≡ Some held → ⊥
    no-held held e = cc
some-moved types before after None (Some new) held moved stood there = absurd moved
some-moved types before after (Some old) None held moved stood there = absurd moved
some-moved types before after (Some old) (Some new) held moved stood there =
    let was = stood old refl in
    subst (IsSomeVersion types after) (some_held new held there) (
      was.0,
      version-moved types before after old new was.0 moved.0 moved.1 was.1,
    )

-- the nodes of all entries are nodes
pub have-nodes : (types : Types) (arena : Nodes) (entries : Entries)
    → AreVersions types arena entries → HasNodes entries arena
have-nodes types arena entries all writer name held there =
    (all.each writer name held there).1.node

-- each entry stands for some version afterwards
pub are-moved : (types : Types) (before after : Nodes) (old new : Entries)
    → AreVersions types before old → IsCompacted old new before after
    → AreVersions types after new
are-moved types before after old new all is = record {
  each = λ writer name held. some-moved types before after (held_at old writer name)
      (held_at new writer name) held (is.entries writer name) (all.each writer name);
}
