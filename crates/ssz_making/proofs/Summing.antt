-- Tallies of parts that are added up.
use Rattle.std.proofs.Common.{◌≡◌, ℕ, suc, ◌+◌, ◌*◌, List, [], ◌∷◌, ◌++◌, length, subst, arith}
use Rattle.std.specs.List.{AllByRecursion}
use Rattle.std.proofs.lemmas.List.Sums.{sum_by-append, sum_by-cons}
use Rattle.ssz_making.specs.Parts.{MadePart, IsLike, costs, part_nodes}
use Rattle.ssz_making.specs.declared.tally.Tally.{Tally}
use Rattle.ssz_making.specs.Tallies.{IsTallyOf, Tallies}
use Rattle.ssz_making.proofs.Tallying.{Tallies-same}

-- the pairs above all, and the first parts
abbrev pub Sums : ℕ → List MadePart → Tally → Type 0
Sums above parts rows = Tallies (above + costs parts) (above + part_nodes parts) rows

pub sums_none : (above : ℕ) (rows : Tally) → Tallies above above rows → Sums above [] rows
sums_none above rows counted = Tallies-same above above _ _ rows counted (omega arith) (omega arith)

pub sums_more : (above : ℕ) (parts : List MadePart) (one : MadePart) (rows out after : Tally)
    → Sums above parts rows → IsTallyOf one out
    → ((p n q m : ℕ) → Tallies p n rows → Tallies q m out → Tallies (p + q) (n + m) after)
    → Sums above (parts ++ one ∷ []) after
sums_more above parts one rows out after h is adds =
    Tallies-same _ _ _ _ after (adds _ _ _ _ h is)
    (omega (
      arith,
      sum_by-append (λ (part : MadePart). part.cost) parts (one ∷ []),
      sum_by-cons (λ (part : MadePart). part.cost) one [],
    ))
    (omega (
      arith,
      sum_by-append (λ (part : MadePart). part.nodes) parts (one ∷ []),
      sum_by-cons (λ (part : MadePart). part.nodes) one [],
    ))

-- parts like one have so many times as much
times_one : (a one b n : ℕ) → a ≡ one → b ≡ one * n → a + b ≡ one * suc n
times_one a one b n first rest = omega (arith, first, rest)

costs_alike : (one : MadePart) (alike : List MadePart) → AllByRecursion (IsLike one) alike
    → costs alike ≡ one.cost * length alike
costs_alike one [] all = omega arith
costs_alike one (part ∷ alike) all = omega (
  arith,
  sum_by-cons (λ (part : MadePart). part.cost) part alike,
  times_one part.cost one.cost (costs alike) (length alike) all.0.0
      (costs_alike one alike all.1),
)

nodes_alike : (one : MadePart) (alike : List MadePart) → AllByRecursion (IsLike one) alike
    → part_nodes alike ≡ one.nodes * length alike
nodes_alike one [] all = omega arith
nodes_alike one (part ∷ alike) all = omega (
  arith,
  sum_by-cons (λ (part : MadePart). part.nodes) part alike,
  times_one part.nodes one.nodes (part_nodes alike) (length alike) all.0.1
      (nodes_alike one alike all.1),
)

pub sums_alike : (above more : ℕ) (parts alike : List MadePart) (one : MadePart)
    (rows out many after : Tally) → Sums above parts rows → IsTallyOf one out
    → AllByRecursion (IsLike one) alike → length alike ≡ more
    → ((p n : ℕ) → Tallies p n out → Tallies (p * more) (n * more) many)
    → ((p n q m : ℕ) → Tallies p n rows → Tallies q m many → Tallies (p + q) (n + m) after)
    → Sums above (parts ++ alike) after
sums_alike above more parts alike one rows out many after h is all long times adds =
    let cost : costs alike ≡ one.cost * more =
    subst (λ n. costs alike ≡ one.cost * n) long (costs_alike one alike all) in
    let nodes : part_nodes alike ≡ one.nodes * more =
    subst (λ n. part_nodes alike ≡ one.nodes * n) long (nodes_alike one alike all) in
    Tallies-same _ _ _ _ after (adds _ _ _ _ h (times _ _ is))
    (omega (arith, cost, sum_by-append (λ (part : MadePart). part.cost) parts alike))
    (omega (arith, nodes, sum_by-append (λ (part : MadePart). part.nodes) parts alike))
