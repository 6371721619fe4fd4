-- The way from the root of a partial tree to a part.
use Rattle.std.proofs.Common.{◌≡◌, ℕ, ◌+◌, ◌*◌, ◌^◌, ◌<◌, ◌≤◌, length, drop, get_or, Option, Some, None, option_map, is_some, Err, refl, sym, ap, ◌∙◌, subst, arith, pow-add}
use Rattle.std.specs.Prelude.{option_and_then, unwrap_or, IsSome}
use Rattle.std.proofs.Math.Nat.{pow-le-pow_right}
use Rattle.std.proofs.lemmas.Bool.{false≢true}
use Rattle.std.proofs.lemmas.List.{drop_all}
use Rattle.std.proofs.lemmas.Option.{same_Some}
use Rattle.ssz_schema.specs.declared.path.PathStep.{PathStep}
use Rattle.ssz_schema.specs.Types.{SszType}
use Rattle.ssz_schema.specs.Sizes.{type_levels}
use Rattle.ssz_schema.specs.Unfolding.{Types, type_of}
use Rattle.ssz_schema.specs.Paths.{Path, path_type, step_type}
use Rattle.ssz_schema.specs.Indices.{Spot, whole, step_index, step_spot}
use Rattle.ssz_gindex.proofs.StepRoom.{step_room}
use Rattle.ssz_proof.specs.Calculation.{Known, chunk_at}
use Rattle.ssz_partial.specs.declared.fault.PartialFault.{PartialFault}
use Rattle.ssz_partial.specs.Partial.{found_at, found_from, step_fault, unless_partial}
use Rattle.ssz_partial.specs.Spots.{SpotSuits}
use Rattle.ssz_partial.proofs.Paths.{goes_on}
use Rattle.ssz_partial.proofs.Suiting.{step_suits}

-- The steps before the rest lead to the node at k, which has a value of type u.
pub record LeadsTo (known : Known) (t : SszType) (path : Path) (k : ℕ) (s : Spot) (u : SszType)
    (rest : Path) : Type 0 where
  pub room : (k + 1) * 2 ^ type_levels u ≤ 2 ^ 127
  pub fits : path_type t path ≡ path_type u rest
  pub same : found_from known 1 whole t path ≡ found_from known k s u rest
  pub suits : SpotSuits u s

pub leads-start : (known : Known) (t : SszType) (path : Path) → type_levels t ≤ 126
    → LeadsTo known t path 1 whole t path
leads-start known t path few = record {
  room = let most : 2 ^ (1 + type_levels t) ≤ 2 ^ 127 =
      pow-le-pow_right (omega arith) (let le : 1 + type_levels t ≤ 127 = omega arith in le) in
      omega (arith, most, pow-add 2 1 (type_levels t));
  fits = refl;
  same = refl;
  suits = tt;
}

-- a step that fits, of which nothing is refused
pub leads-next : (types : Types) (known : Known) (t : SszType) (path : Path) (k : ℕ) (s : Spot)
    (id next i : ℕ) (step : PathStep) (found : Option ℕ)
    → LeadsTo known t path k s (type_of types id) (drop i path) → i < length path
    → step ≡ get_or path i step
    → option_map (type_of types) found ≡ step_type (type_of types id) step → found ≡ Some next
    → step_fault known k (type_of types id) step ≡ None
    → LeadsTo known t path (step_index k (type_of types id) step)
    (step_spot (type_of types id) step) (type_of types next) (drop (i + 1) path)
leads-next types known t path k s id next i step found leads below item exact is free =
    let u = type_of types id in
    let more = drop (i + 1) path in
    let fits : step_type u step ≡ Some (type_of types next) =
    sym exact ∙ ap (option_map (type_of types)) is in
    let rest = (goes_on path i step below item).rest in
    record {
      room = (step_room k u (type_of types next) step leads.room fits).next;
      fits = leads.fits ∙ ap (path_type u) rest ∙ ap (option_and_then (λ p. path_type p more)) fits;
      same = leads.same ∙ ap (found_from known k s u) rest
          ∙ ap (λ f. unless_partial f (found_from known (step_index k u step) (step_spot u step)
          (unwrap_or (step_type u step) u) more)) free
          ∙ ap (λ o. found_from known (step_index k u step) (step_spot u step) (unwrap_or o u) more)
          fits;
      suits = step_suits u (type_of types next) step fits;
    }

-- the same of an index and a spot that are those
pub leads-on : (types : Types) (known : Known) (t : SszType) (path : Path) (k : ℕ) (s : Spot)
    (id next i : ℕ) (step : PathStep) (found : Option ℕ) (j : ℕ) (r : Spot)
    → LeadsTo known t path k s (type_of types id) (drop i path) → i < length path
    → step ≡ get_or path i step
    → option_map (type_of types) found ≡ step_type (type_of types id) step → found ≡ Some next
    → step_fault known k (type_of types id) step ≡ None
    → j ≡ step_index k (type_of types id) step → r ≡ step_spot (type_of types id) step
    → LeadsTo known t path j r (type_of types next) (drop (i + 1) path)
leads-on types known t path k s id next i step found j r leads below item exact is free at there =
    subst (λ x. LeadsTo known t path j x (type_of types next) (drop (i + 1) path)) (sym there)
    (subst (λ x. LeadsTo known t path x (step_spot (type_of types id) step) (type_of types next)
    (drop (i + 1) path)) (sym at)
    (leads-next types known t path k s id next i step found leads below item exact is free))

-- what is refused of a step is refused of the path
pub leads-fault : (known : Known) (t : SszType) (path : Path) (k : ℕ) (s : Spot) (u : SszType)
    (i : ℕ) (step : PathStep) (fault : PartialFault) → LeadsTo known t path k s u (drop i path)
    → i < length path → step ≡ get_or path i step → step_fault known k u step ≡ Some fault
    → Err fault ≡ found_from known 1 whole t path
leads-fault known t path k s u i step fault leads below item is =
    sym (leads.same ∙ ap (found_from known k s u) (goes_on path i step below item).rest
    ∙ ap (λ f. unless_partial f (found_from known (step_index k u step) (step_spot u step)
    (unwrap_or (step_type u step) u) (drop (i + 1) path))) is)

-- a path that fits has no step that does not
pub leads-bad : (types : Types) (known : Known) (t : SszType) (path : Path) (k : ℕ) (s : Spot)
    (id i : ℕ) (step : PathStep) (found : Option ℕ) → IsSome (path_type t path)
    → LeadsTo known t path k s (type_of types id) (drop i path) → i < length path
    → step ≡ get_or path i step
    → option_map (type_of types) found ≡ step_type (type_of types id) step → found ≡ None → ⊥
leads-bad types known t path k s id i step found some leads below item exact is =
    let none : path_type t path ≡ None =
    leads.fits ∙ ap (path_type (type_of types id)) (goes_on path i step below item).rest
    ∙ ap (option_and_then (λ p. path_type p (drop (i + 1) path)))
    (sym exact ∙ ap (option_map (type_of types)) is) in
    false≢true (sym (ap is_some none) ∙ some)

pub leads-end : (known : Known) (t : SszType) (path : Path) (k : ℕ) (s : Spot) (u : SszType)
    (i : ℕ) → LeadsTo known t path k s u (drop i path) → length path ≤ i
    → found_at k s (chunk_at known k) ≡ found_from known 1 whole t path
leads-end known t path k s u i leads all =
    sym (leads.same ∙ ap (found_from known k s u) (drop_all i path all))

pub leads-suits : (types : Types) (known : Known) (t : SszType) (path : Path) (k : ℕ) (s : Spot)
    (id i : ℕ) → LeadsTo known t path k s (type_of types id) (drop i path) → length path ≤ i
    → (u : SszType) → path_type t path ≡ Some u → SpotSuits u s
leads-suits types known t path k s id i leads all u is =
    let same : type_of types id ≡ u =
    same_Some (type_of types id) u (sym (ap (path_type (type_of types id)) (drop_all i path all))
    ∙ sym leads.fits ∙ is) in
    subst (λ v. SpotSuits v s) same leads.suits
