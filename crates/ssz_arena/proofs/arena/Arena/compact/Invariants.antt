use Rattle.std.proofs.Common.{◌≡◌, map, take}
use Rattle.ssz_arena.specs.Copied.{place_of}
use Rattle.ssz_arena.proofs.arena.Arena.compact.Given as goal

abbrev pub invariant-loop-root : goal.invariant-loop-root
invariant-loop-root g l = l.ids.items ≡ map (place_of l.places.items) (take l.root-index l.roots)
