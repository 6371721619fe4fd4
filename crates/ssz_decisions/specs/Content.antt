-- What contracts see of a store.
use Rattle.std.specs.Prelude.{◌≡◌, ℕ}
use Rattle.ssz_schema.specs.Unfolding.{Types, known_in}
use Rattle.ssz_arena.specs.Content.{ArenaContent as Nodes, KeepsNodes}
use Rattle.ssz_proof.specs.Calculation.{PairOf}
use Rattle.std.specs.Coded.{Coded}
use Rattle.std.specs.FinMap as finite
use Rattle.ssz_versions.specs.Content.{Entries, held_code}
use Rattle.ssz_versions.specs.Keys.{key_code}
use Rattle.ssz_machine.specs.Rules.{Rules}

-- a code of entries, by which a proof tells two of them apart
abbrev pub entries_code : Coded Entries
entries_code = finite.code key_code held_code

-- the types of its schema, the most bytes of a value's text, the nodes, what each writer holds
-- under each name, and the hasher's count when the zero trees had been hashed
pub record EngineContent : Type 0 where
  pub types : Types
  pub most : ℕ
  pub arena : Nodes
  pub entries : Entries
  pub base : ℕ

-- the rules of the machine by which its statements are done
abbrev pub rules_of : PairOf → EngineContent → Rules
rules_of pair_of store = record {
  type_named = known_in store.types;
  max_bytes = store.most;
  pair_of = pair_of;
}

-- All is the same but for nodes that are new and roots that are known: each node is there, with the
-- same tree and no more to be hashed.
pub record Grows (old new : EngineContent) : Type 0 where
  pub types : new.types ≡ old.types
  pub most : new.most ≡ old.most
  pub base : new.base ≡ old.base
  pub entries : new.entries ≡ old.entries
  pub nodes : KeepsNodes old.arena new.arena

-- all is the same but for the entries
pub record SameNodes (old new : EngineContent) : Type 0 where
  pub types : new.types ≡ old.types
  pub most : new.most ≡ old.most
  pub base : new.base ≡ old.base
  pub arena : new.arena ≡ old.arena

-- what no statement changes: the types, the limit and the base
pub record KeepsEngine (old new : EngineContent) : Type 0 where
  pub types : new.types ≡ old.types
  pub most : new.most ≡ old.most
  pub base : new.base ≡ old.base
