-- What a compaction leaves: all stand for what they stood for.
use Rattle.std.proofs.lemmas.Bool.{false≢true}
use Rattle.std.proofs.Common.{◌≡◌, ◌++◌, ℕ, List, Option, Some, None, refl, sym, ap, subst, arith}
use Rattle.ssz_outside.specs.Content.{Content as Files}
use Rattle.ssz_schema.specs.Unfolding.{Types}
use Rattle.ssz_arena.specs.Content.{ArenaContent as Nodes, KeepsNodes}
use Rattle.ssz_arena.proofs.Keeping.{keeps_same}
use Rattle.ssz_proof.specs.Calculation.{PairOf}
use Rattle.ssz_script.specs.Texts.{reply_line}
use Rattle.ssz_script.specs.declared.reply.Reply.TheVariants.{Done}
use Rattle.ssz_script.specs.declared.statement.Statement.TheVariants.{Compact}
use Rattle.ssz_versions.specs.Content.{Held, held_at}
use Rattle.ssz_versions.specs.Compacted.{IsCompacted, IsMoved}
use Rattle.ssz_machine.specs.declared.place.Place.{Place}
use Rattle.ssz_machine.specs.State.{Name, Version, Versions, version_of}
use Rattle.ssz_machine.specs.Changes.{nothing, puts}
use Rattle.ssz_decisions.specs.Content.{EngineContent, KeepsEngine}
use Rattle.ssz_engine.specs.Lines.{type_held}
use Rattle.ssz_decisions.specs.Outside.{FilesHold}
use Rattle.ssz_decisions.specs.Standing.{Match, StandsForVersions, StandsForWriter}
use Rattle.ssz_engine.specs.Steps.{DoesStep}
use Rattle.ssz_decisions.specs.declared.outcome.Outcome.TheVariants.{Accepted}
use Rattle.ssz_decisions.proofs.Moved.{version-moved}
use Rattle.ssz_engine.proofs.Found.{no-files}
use Rattle.ssz_engine.proofs.Leaving.{stands-with}

-- what matched a version matches it where it was moved to
match-moved : (types : Types) (before after : Nodes) (old new : Option Held)
    (version : Option Version) → IsMoved before after old new → Match types before old version
    → Match types after new version
match-moved types before after None None None moved is = tt
match-moved types before after None None (Some version) moved is = absurd is
match-moved types before after None (Some new) version moved is = absurd moved
match-moved types before after (Some old) None version moved is = absurd moved
match-moved types before after (Some old) (Some new) None moved is = absurd is
match-moved types before after (Some old) (Some new) (Some version) moved is =
    version-moved types before after old new version moved.0 moved.1 is

-- a moved entry has its type
pub type-moved : (before after : Nodes) (old new : Option Held) → IsMoved before after old new
    → type_held new ≡ type_held old
type-moved before after None None moved = refl
type-moved before after None (Some new) moved = absurd moved
type-moved before after (Some old) None moved = absurd moved
type-moved before after (Some old) (Some new) moved = ap (λ (id : ℕ). Some id) moved.0

-- what is there where nothing was changed
pub kept-whole : (old new : EngineContent) → new ≡ old → KeepsNodes old.arena new.arena
kept-whole old new same =
    keeps_same old.arena new.arena (ap (λ (engine : EngineContent). engine.arena.nodes) same)

-- some content that files may have, the told one where they tell it
files-held : Option Files → Files
files-held None = no-files
files-held (Some told) = told

holds-them : (told : Option Files) → FilesHold told (files-held told)
unfolding files-held
holds-them None = tt
holds-them (Some told) = refl

nothing-puts : (P : Type 0) (name : Name) → nothing ≡ puts name → P
nothing-puts P name e = cc

module _ (first new : EngineContent) (keeps : KeepsEngine first new)
    (is : IsCompacted first.entries new.entries first.arena new.arena) where
  -- a writer's entries stand for the versions for which they stood
  stand-moved : (writer : ℕ) (versions : Versions) → StandsForWriter first writer versions
      → StandsForWriter new writer versions
  stand-moved writer versions stand =
      subst (λ (types : Types). StandsForVersions types new.arena new.entries writer versions)
      (sym keeps.types) (record {
        sorted = stand.sorted;
        each = λ name. match-moved first.types first.arena new.arena
            (held_at first.entries writer name) (held_at new.entries writer name)
            (version_of name versions) (is.entries writer name) (stand.each name);
      })

  -- so a compaction is the step of the machine
  pub compact-step : (pair_of : PairOf) (place : Place) (writer line count : ℕ)
      (told : Option Files) (out_old out_new : List ℕ) → out_new ≡ out_old ++ reply_line Done
      → DoesStep pair_of place writer line Compact first new count count told told out_old out_new
      Accepted
  compact-step pair_of place writer line count told out_old out_new text = record {
    files = files-held told;
    tells = holds-them told;
    leaves = λ versions stands. record {
      outcome = refl;
      text = text;
      versions = record {
        each = stands-with (StandsForWriter new) writer versions (versions writer)
            (stand-moved writer (versions writer) (stands.each writer))
            (λ other apart. stand-moved other (versions other) (stands.each other));
      };
      files = holds-them told;
    };
    spends = λ versions stands. let less = is.unhashed in omega arith;
    edits = λ versions stands name was now puts ok there after. nothing-puts _ name puts;
    anew = λ versions stands name is some does ok now. nothing-puts _ name does;
    few = λ versions stands other. absurd (false≢true (sym other));
  }
