-- A name that is there stays there.
use Rattle.std.proofs.Common.{◌≡◌, ℕ, List, Bool, true, false, cond}
use Rattle.std.proofs.Common.{Option, Some, IsSome, refl, ◌∙◌}
use Rattle.std.specs.Ordering.{nat_cmp, eq_by_cmp}
use Rattle.std.specs.Cmp.Lexicographic.{slice_cmp, nat_list_cmp_total}
use Rattle.std.specs.FinMap as map
use Rattle.ssz_outside.specs.Memory.{FilesState, IsReadable}

-- bytes put in the place of what may be there leave something there
either : (put : Bool) (bytes : List ℕ) (held : Option (List ℕ))
    → IsSome held → IsSome (cond put (Some bytes) held)
either true bytes held there = refl
either false bytes held there = there

-- a `put` under any name leaves each name readable that was
pub IsReadable-insert : (before after : FilesState) (name bytes other : List ℕ)
    → after.failing ≡ before.failing
    → after.named ≡ map.insert before.named name bytes
    → IsReadable before other → IsReadable after other
IsReadable-insert before after name bytes other same put readable =
    let same_name = eq_by_cmp (slice_cmp nat_cmp) other name in
    record {
      quiet = same ∙ readable.quiet;
      there = rw (put, map.get-insert nat_list_cmp_total before.named name bytes other)
          (either same_name bytes (map.get before.named other) readable.there);
    }
