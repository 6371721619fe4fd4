-- Under what a version is held: a writer and a name.
use Rattle.std.specs.Prelude.{ℕ, List}
use Rattle.std.proofs.lemmas.Map.Lookups.{CmpEqualImpliesEq, exact_pairs, exact_unsigned, exact_bytes}
use Rattle.std.specs.Cmp.{IsTotalOrder, then_total, on_total, nat_cmp_total}
use Rattle.std.specs.Cmp.Lexicographic.{slice_cmp, nat_list_cmp_total}
use Rattle.std.specs.Coded.{Coded, coded×, coded_list, coded_ℕ}
use Rattle.std.specs.Ordering.{nat_cmp, ordering_then}
use Rattle.std.specs.declared.cmp.Ordering.{Ordering}

-- a writer's number and the bytes of a name
abbrev pub Key : Type 0
Key = ℕ × List ℕ

abbrev pub key_code : Coded Key
key_code = coded× coded_ℕ (coded_list coded_ℕ)

-- by writer, and then by the bytes of the name
abbrev pub key_cmp : Key → Key → Ordering
key_cmp a b = ordering_then (nat_cmp a.0 b.0) (slice_cmp nat_cmp a.1 b.1)

pub key_cmp-total : IsTotalOrder key_cmp
key_cmp-total =
    then_total (on_total (λ key. key.0) nat_cmp_total) (on_total (λ key. key.1) nat_list_cmp_total)

-- keys that compare alike are one
pub key_cmp-exact : CmpEqualImpliesEq key_cmp
key_cmp-exact = exact_pairs nat_cmp (slice_cmp nat_cmp) exact_unsigned exact_bytes
