use Rattle.std.proofs.Common.{ap, ◌∙◌, arith, sym, subst}
use Rattle.std.specs.List.{AllByRecursion}
use Rattle.ssz_arena.specs.Content.{tree_of}
use Rattle.ssz_prove.specs.Found.{IsSpot, places}
use Rattle.ssz_prove.specs.Proved.{IsProofIn}
use Rattle.ssz_prove.proofs.Gathered.{gathered, ordered, is_proof}
use Rattle.ssz_prove.proofs.Spots.{spots_kept}
use Rattle.ssz_prove.proofs.proving.proof_of.Goals as goal

pub push_entries-requires-2-clause-spots : goal.push_entries-requires-2-clause-spots
push_entries-requires-2-clause-spots g c =
    subst (AllByRecursion (IsSpot c.push_entries.new.arena c.args.root))
    (sym c.deref-2.ensures.value)
    (spots_kept c.args.arena.now c.push_entries.new.arena c.args.root c.args.found.now.nodes.items
    c.push_entries.ensures.takes.keeps c.requires.node c.requires.found.has.node_spots)

pub of_ordered-requires : goal.of_ordered-requires
of_ordered-requires g c =
    let pair_of = g.H.PairHash.pair_of in
    let arena = c.args.arena.now in
    let found = c.args.found.now in
    ordered pair_of (tree_of arena c.args.root) (places found.leaves.items)
    c.push_entries.new.entries.items c.push_entries-2.new.entries.items
    (gathered pair_of arena c.args.root (tree_of c.push_entries.new.arena c.args.root) found
    c.push_entries.new.entries.items c.push_entries-2.new.entries.items c.requires.found
    (c.push_entries.ensures.indices ∙ ap places c.deref.ensures.value)
    (c.push_entries-2.ensures.indices ∙ ap places c.deref-2.ensures.value)
    (c.push_entries.ensures.takes.keeps.trees c.args.root c.requires.node)
    c.push_entries.ensures.chunks c.push_entries-2.ensures.chunks
    c.push_entries.ensures.entries c.push_entries-2.ensures.entries)

pub returns-clause-ok : goal.returns-clause-ok
returns-clause-ok g c =
    let pair_of = g.H.PairHash.pair_of in
    let arena = c.args.arena.now in
    let found = c.args.found.now in
    subst (IsProofIn pair_of (tree_of arena c.args.root) (places found.leaves.items))
    (sym c.of_ordered.ensures)
    (is_proof pair_of (tree_of arena c.args.root) (places found.leaves.items)
    c.push_entries.new.entries.items c.push_entries-2.new.entries.items
    (gathered pair_of arena c.args.root (tree_of c.push_entries.new.arena c.args.root) found
    c.push_entries.new.entries.items c.push_entries-2.new.entries.items c.requires.found
    (c.push_entries.ensures.indices ∙ ap places c.deref.ensures.value)
    (c.push_entries-2.ensures.indices ∙ ap places c.deref-2.ensures.value)
    (c.push_entries.ensures.takes.keeps.trees c.args.root c.requires.node)
    c.push_entries.ensures.chunks c.push_entries-2.ensures.chunks
    c.push_entries.ensures.entries c.push_entries-2.ensures.entries))

pub returns-clause-due : goal.returns-clause-due
returns-clause-due g c =
    omega (arith, c.push_entries.ensures.due, c.push_entries-2.ensures.due)
