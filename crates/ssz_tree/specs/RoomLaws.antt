-- There is room for the next part.
use Rattle.std.proofs.Common.{◌≡◌, ℕ, zero, suc, ◌+◌, ◌≤◌, List, ◌∷◌, ◌++◌, length, ap, subst, arith, length-append}
use Rattle.std.proofs.lemmas.List.Sums.{sum_by-append, sum_by-cons}
use Rattle.ssz_merkle.specs.Frontier.{whole_pairs}
use Rattle.ssz_merkle.proofs.WholePairs.{whole_pairs-rises, whole_pairs-le-grow}
use Rattle.ssz_arena.specs.Content.{ArenaContent}
use Rattle.ssz_making.specs.Parts.{MadePart, whole_of}
use Rattle.ssz_tree.specs.Stack.{Stack}
use Rattle.ssz_tree.specs.Making.{PushesNodes}

-- whole pairs above more places
pub whole_pairs-mono : (d n k : ℕ) → whole_pairs d n ≤ whole_pairs d (n + k)
whole_pairs-mono d n zero = let same : n ≡ n + 0 = omega arith in
    subst (λ m. whole_pairs d n ≤ whole_pairs d m) same (omega arith)
whole_pairs-mono d n (suc k) = let more : n + k + 1 ≡ n + suc k = omega arith in
    omega (
      arith,
      whole_pairs-mono d n k,
      whole_pairs-rises d (n + k),
      ap (whole_pairs d) more,
    )

pub less_room : (now : ArenaContent) (n m : ℕ) → n ≤ m → m ≤ now.spare → n ≤ now.spare
less_room now n m less room = omega arith

pub next_room : (start now : ArenaContent) (d : ℕ) (before rest : List MadePart) (one : MadePart)
    (rows : Stack) → PushesNodes start now d before rows
    → (whole_of d (before ++ one ∷ rest)).nodes ≤ start.spare → one.nodes ≤ now.spare
next_room start now d before rest one rows h room =
    let long = length-append before (one ∷ rest) in
    omega (
      arith,
      h.adds.spare,
      room,
      sum_by-append (λ (part : MadePart). part.nodes) before (one ∷ rest),
      sum_by-cons (λ (part : MadePart). part.nodes) one rest,
      whole_pairs-mono d (length before) (length (one ∷ rest)),
      ap (whole_pairs d) long,
      whole_pairs-le-grow d (length (before ++ one ∷ rest)),
    )
