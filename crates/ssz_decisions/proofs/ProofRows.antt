-- What `prove` says of a version, from the tree of its node.
use Rattle.std.proofs.Common.{inl, inr, ◌≡◌, ◌∙◌, ◌&&◌, ℕ, Bool, true, false, not, List, [], ◌∷◌, Option, Some, None, Result, Ok, Err, IfOk, is_some, refl, sym, ap, arith}
use Rattle.std.specs.Prelude.{is_none, nat_eq, Contains}
use Rattle.std.specs.declared.alloc.AllocError.{AllocError}
use Rattle.std.specs.List.{list_any, AllByRecursion}
use Rattle.std.proofs.lemmas.Bool.{and_parts, eqb-false, false≢true, false_from_ne_true, not-true, not_from_false}
use Rattle.std.proofs.lemmas.List.Elements.{All-from_recursion}
use Rattle.std.proofs.lemmas.List.Folds.{list_any_at, list_any_none}
use Rattle.ssz_chunk.specs.Tree.{Tree}
use Rattle.ssz_chunk.specs.Index.{at}
use Rattle.ssz_gindex.specs.Helpers.{is_within, AreFlat, AreNested}
use Rattle.ssz_gindex.specs.Laws.{IsIn}
use Rattle.ssz_schema.specs.Types.{SszType}
use Rattle.ssz_schema.specs.Unfolding.{type_of}
use Rattle.ssz_arena.specs.Content.{tree_of}
use Rattle.ssz_line.specs.declared.index.Index.{Index}
use Rattle.ssz_proof.specs.Calculation.{Known, PairOf, indices_of}
use Rattle.ssz_proof.specs.Judgement.{are_flat, is_below_one}
use Rattle.ssz_proof.specs.Laws.{HasChunk}
use Rattle.ssz_proof.specs.Multiproof.{Multiproof}
use Rattle.ssz_proof.specs.Text.{multiproof_text}
use Rattle.ssz_proof.proofs.Judging.{flat-from}
use Rattle.ssz_prove.specs.Faults.{AreIn}
use Rattle.ssz_prove.specs.Proved.{IsProofIn}
use Rattle.ssz_prove.specs.Taken.{TakesRoots}
use Rattle.ssz_script.specs.declared.reply.Reply.TheVariants.{Proof}
use Rattle.ssz_script.specs.declared.reply.TheConstants.Reply.{NO_VERSION, BAD_PATH, NO_NODE, NESTED}
use Rattle.ssz_value.specs.Trees.{tree}
use Rattle.ssz_versions.specs.Content.{Held, held_at}
use Rattle.ssz_machine.specs.State.{Name, Version, Versions}
use Rattle.ssz_machine.specs.Rules.{Rules, Row, Outcome, ◌>>=◌, ◌>>◌, coded, need, refuse, says_reply}
use Rattle.ssz_machine.specs.Asking.{proof_of, ascending, asked_indices, prove}
use Rattle.ssz_machine.proofs.Ascents.{all-at}
use Rattle.ssz_decisions.specs.Content.{EngineContent, rules_of}
use Rattle.ssz_machine.specs.Changes.{nothing}
use Rattle.ssz_decisions.specs.Standing.{StandsForWriter}
use Rattle.ssz_decisions.specs.Decisions.{AnswersRow, AnswersWith}
use Rattle.ssz_decisions.specs.Proving.{IsNowhere, Proves, proved}
use Rattle.ssz_decisions.specs.declared.decision.Decision.{Decision}
use Rattle.ssz_decisions.specs.declared.decision.Decision.TheVariants as decision
use Rattle.ssz_decisions.specs.declared.decision.Decision.TheVariants.{Said, Refused}
use Rattle.ssz_decisions.proofs.AscendingOnce.{all-there}
use Rattle.ssz_decisions.proofs.Brought.{refused-answers}
use Rattle.ssz_decisions.proofs.ProofsMade.{all-parts, proof-made}
use Rattle.ssz_decisions.proofs.Showing.{held-there}

-- where the tree has a node at each, and none is above another
flat-all : (asked : List ℕ) → AreFlat asked → are_flat asked ≡ true
flat-all asked flat =
    not_from_false _ (list_any_none (is_below_one asked) asked
    (All-from_recursion (λ b. is_below_one asked b ≡ false) asked
    (all-there (λ b. is_below_one asked b ≡ false) asked none-above)))
  where
    apart : (a b : ℕ) → Contains asked a → Contains asked b
        → (is_within a b && not (nat_eq a b)) ≡ false
    apart a b upper lower = false_from_ne_true _ (λ above.
        let parts = and_parts (is_within a b) (not (nat_eq a b)) above in
        flat a b (record {
          upper = upper;
          lower = lower;
          within = parts.0;
          apart = eqb-false a b (not-true _ parts.1);
        }))

    none-above : (b : ℕ) → Contains asked b → is_below_one asked b ≡ false
    none-above b lower =
        list_any_none (λ a. is_within a b && not (nat_eq a b)) asked
        (All-from_recursion (λ a. (is_within a b && not (nat_eq a b)) ≡ false) asked
        (all-there (λ a. (is_within a b && not (nat_eq a b)) ≡ false) asked
        (λ a upper. apart a b upper lower)))

some-there : (o : Option Tree) → is_some o ≡ true → is_none o ≡ false
some-there None some = absurd (false≢true some)
some-there (Some node) some = refl

module _ (t : Tree) where
  abbrev misses : ℕ → Bool
  misses g = is_none (at t g)

  none-missing : (asked : List ℕ) → ((g : ℕ) → Contains asked g → misses g ≡ false)
      → list_any misses asked ≡ false
  none-missing asked each =
      list_any_none misses asked (All-from_recursion (λ g. misses g ≡ false) asked
      (all-there (λ g. misses g ≡ false) asked each))

  -- a node at each leaf
  leaves-there : (pair_of : PairOf) (leaves : Known) → AllByRecursion (HasChunk pair_of t) leaves
      → AllByRecursion (λ g. misses g ≡ false) (indices_of leaves)
  leaves-there pair_of [] all = tt
  leaves-there pair_of (entry ∷ leaves) all =
      (ap is_none all.0.found, leaves-there pair_of leaves all.1)

  module _ (pair_of : PairOf) (versions : Versions) (asked : List ℕ) where
    -- one index at which there is no node
    pub proved-missing : (g : ℕ) → Contains asked g → at t g ≡ None
        → proved pair_of t versions asked ≡ Err (coded NO_NODE)
    proved-missing g given none =
        ap (λ (b : Bool). refuse NO_NODE b >> (refuse NESTED (not (are_flat asked))
        >> says_reply versions (Proof (multiproof_text (proof_of pair_of t (ascending asked))))))
        (list_any_at misses asked given.0 g given.1 (ap misses given.2 ∙ ap is_none none))

    -- one above another
    pub proved-nested : (a b : ℕ) → AreIn t asked → AreNested asked a b
        → proved pair_of t versions asked ≡ Err (coded NESTED)
    proved-nested a b inside nested =
        let there : list_any misses asked ≡ false = none-missing asked (λ g has.
        some-there (at t g) (all-at (IsIn t) asked g inside has).node) in
        let test : are_flat asked ≡ false =
        false_from_ne_true _ (λ flat. flat-from asked flat a b nested) in
        ap (λ (b : Bool). refuse NO_NODE b >> (refuse NESTED (not (are_flat asked))
        >> says_reply versions
        (Proof (multiproof_text (proof_of pair_of t (ascending asked)))))) there
        ∙ ap (λ (b : Bool). refuse NESTED (not b)
        >> says_reply versions
        (Proof (multiproof_text (proof_of pair_of t (ascending asked))))) test

    -- a proof in the tree
    pub proved-says : (proof : Multiproof) → IsProofIn pair_of t asked proof
        → proved pair_of t versions asked ≡ says_reply versions (Proof (multiproof_text proof))
    proved-says proof is =
        let leaves = (all-parts (HasChunk pair_of t) proof.leaves proof.nodes is.chunks).0 in
        let there : list_any misses asked ≡ false = none-missing asked (λ g has.
        all-at (λ k. misses k ≡ false) (indices_of proof.leaves) g
        (leaves-there pair_of proof.leaves leaves) (is.leaves.back g has)) in
        let test : are_flat asked ≡ true = flat-all asked (λ a b nested. is.ordered.is.flat a b
        (record {
          upper = is.leaves.back a nested.upper;
          lower = is.leaves.back b nested.lower;
          within = nested.within;
          apart = nested.apart;
        })) in
        ap (λ (b : Bool). refuse NO_NODE b >> (refuse NESTED (not (are_flat asked))
        >> says_reply versions
        (Proof (multiproof_text (proof_of pair_of t (ascending asked)))))) there
        ∙ ap (λ (b : Bool). refuse NESTED (not b)
        >> says_reply versions
        (Proof (multiproof_text (proof_of pair_of t (ascending asked))))) test
        ∙ ap (λ (p : Multiproof). says_reply versions (Proof (multiproof_text p)))
        (sym (proof-made pair_of t asked proof is))

module _ (pair_of : PairOf) (store : EngineContent) (writer : ℕ) (v : Name) (indices : List Index)
    (held : Held) (there : held_at store.entries writer v ≡ Some held) where
  -- the row, from the entry that stands for the version
  pub prove-row : (outcome : Outcome (List ℕ)) (row : Versions → Row)
      → outcome ≡ asked_indices (type_of store.types held.0) indices
      → ((versions : Versions) → (outcome >>= proved pair_of (tree_of store.arena held.1) versions)
      ≡ row versions)
      → (versions : Versions) → StandsForWriter store writer versions
      → prove (rules_of pair_of store) versions v indices ≡ row versions
  prove-row outcome row asked is versions stand =
      let h = held-there store.types store.arena held _ _ there (stand.each v) in
      ap (λ (o : Option Version). need NO_VERSION o >>= (λ version.
      asked_indices version.type indices
      >>= proved pair_of (tree version.type version.value) versions))
      h.is
      ∙ ap (λ (t : Tree). asked_indices h.version.type indices >>= proved pair_of t versions)
      (sym h.stands.tree)
      ∙ ap (λ (t : SszType). asked_indices t indices
      >>= proved pair_of (tree_of store.arena held.1) versions) (sym h.stands.type)
      ∙ ap (λ (o : Outcome (List ℕ)). o >>= proved pair_of (tree_of store.arena held.1) versions)
      (sym asked)
      ∙ is versions

-- a decision that says a proof, as ssz_prove made it
pub says-proof : (pair_of : PairOf) (t : Tree) (asked : List ℕ) (proof : Multiproof)
    (text : List ℕ) → IsProofIn pair_of t asked proof → text ≡ multiproof_text proof
    → Proves pair_of t asked (Said (Proof text))
says-proof pair_of t asked proof text is printed = λ versions.
    proved-says t pair_of versions asked proof is
    ∙ ap (λ (line : List ℕ). says_reply versions (Proof line)) (sym printed)

-- What is answered, by the entry.
module _ (pair_of : PairOf) (store : EngineContent) (writer : ℕ) (v : Name) (indices : List Index)
    (held : Held) (there : held_at store.entries writer v ≡ Some held) where
  abbrev t : Tree
  t = tree_of store.arena held.1

  abbrev row : Rules → Versions → Row
  row rules versions = prove rules versions v indices

  -- no node, by the type
  pub nowhere-answers : (code : ℕ) → IsNowhere (type_of store.types held.0) indices code
      → AnswersWith pair_of row nothing writer store store (Refused code)
  nowhere-answers code (inl (is, bad)) = refused-answers pair_of row nothing writer store code
      (prove-row pair_of store writer v indices held there (Err (coded BAD_PATH))
      (λ versions. Err (coded code)) (sym bad) (λ versions. ap (λ c. Err (coded c)) (sym is)))
  nowhere-answers code (inr (is, none)) = refused-answers pair_of row nothing writer store code
      (prove-row pair_of store writer v indices held there (Ok none.numbers)
      (λ versions. Err (coded code)) none.asked
      (λ versions. proved-missing t pair_of versions none.numbers 0 none.zero refl
      ∙ ap (λ c. Err (coded c)) (sym is)))

  -- what is said of the numbers, with the roots that were taken
  pub proves-answers : (new : EngineContent) (asked : List ℕ) (count after : ℕ) (made : Decision)
      → Ok asked ≡ asked_indices (type_of store.types held.0) indices
      → Proves pair_of t asked made → TakesRoots store.arena new.arena count after
      → AnswersRow pair_of row nothing writer store new count after made
  proves-answers new asked count after (decision.Refused code) found proves takes = record {
    can = tt;
    of = tt;
    comes = prove-row pair_of store writer v indices held there (Ok asked)
        (λ versions. Err (coded code)) found proves;
    spends = λ versions stand. omega (arith, takes.counts.at_most, takes.falls);
    few = λ versions stand. takes.same;
  }
  proves-answers new asked count after (decision.Said reply) found proves takes = record {
    can = tt;
    of = refl;
    comes = prove-row pair_of store writer v indices held there (Ok asked)
        (λ versions. says_reply versions reply) found proves;
    spends = λ versions stand. omega (arith, takes.counts.at_most, takes.falls);
    few = λ versions stand. takes.same;
  }
  proves-answers new asked count after (decision.BadBytes f) found proves takes = absurd proves
  proves-answers new asked count after (decision.BadJson f) found proves takes = absurd proves
  proves-answers new asked count after (decision.Made n id node room) found proves takes =
      absurd proves
  proves-answers new asked count after (decision.Edited n node) found proves takes = absurd proves
  proves-answers new asked count after (decision.Dropped n) found proves takes = absurd proves
  proves-answers new asked count after (decision.Saved n bytes) found proves takes = absurd proves

  -- the same of what failed or was done
  pub proves-ok : (new : EngineContent) (asked : List ℕ) (count after : ℕ)
      (r : Result Decision AllocError)
      → Ok asked ≡ asked_indices (type_of store.types held.0) indices
      → IfOk r (Proves pair_of t asked) → TakesRoots store.arena new.arena count after
      → IfOk r (AnswersRow pair_of row nothing writer store new count after)
  proves-ok new asked count after (Ok made) found proves takes =
      proves-answers new asked count after made found proves takes
  proves-ok new asked count after (Err fault) found proves takes = tt
