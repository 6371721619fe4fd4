-- Lists of basic elements, by their bytes.
use Rattle.std.proofs.Common.{ℕ, ◌*◌, ◌≡◌, ◌++◌, List, map, Some, Result, OnOk, sym, ap, ◌∙◌, subst}
use Rattle.std.specs.List.{concat}
use Rattle.ssz_chunk.specs.Tree.{Tree}
use Rattle.ssz_schema.specs.format.Format.{Format}
use Rattle.ssz_schema.specs.Types.{SszType}
use Rattle.ssz_schema.specs.Sizes.{basic_size, fixed_size, depth}
use Rattle.ssz_schema.specs.Legal.{IsLegal}
use Rattle.ssz_value.specs.Encoding.{serialize, joined_alike}
use Rattle.ssz_packing.proofs.BasicTrees.{joined_alike-concat}
use Rattle.ssz_nodes.specs.Shown.{ForValue, ArePacked, ForElements}
use Rattle.ssz_nodes.proofs.Chunked.{on_ok}
use Rattle.ssz_nodes.proofs.Formed.{Unmixes}
use Rattle.ssz_writing.specs.Leaves.{IsListOf}
use Rattle.ssz_writing.specs.Offsets.{AddsBytes}
use Rattle.ssz_writing.proofs.Written.{packed_elements}
use Rattle.ssz_writing.proofs.FieldsWritten.{list_adds}
use Rattle.ssz_writing.proofs.Leafed.{basic_fixed_size}

-- basic elements whose packed bytes were appended
basics_add : {E : Type 0} (t : SszType) (z d count len : ℕ) (node : Tree) (old new : List ℕ)
    (result : Result Unit E) → basic_size t ≡ Some z → len ≡ count * z
    → ((bytes : List ℕ) → ArePacked d len bytes node → OnOk result (new ≡ old ++ bytes))
    → ForElements t d count node
    (λ vs. AddsBytes (joined_alike (fixed_size t) (map (serialize t) vs)) old new result)
basics_add t z d count len node old new result size long adds = λ vs are.
    let bytes : joined_alike (fixed_size t) (map (serialize t) vs) ≡ concat (map (serialize t) vs) =
    ap (λ s. joined_alike s (map (serialize t) vs)) (basic_fixed_size t z size)
    ∙ joined_alike-concat z (map (serialize t) vs) in
    on_ok result (λ is. is ∙ ap (λ xs. old ++ xs) (sym bytes))
    (adds (concat (map (serialize t) vs))
    (subst (λ n. ArePacked d n (concat (map (serialize t) vs)) node) (sym long)
    (packed_elements t z d count vs node size are)))

-- a list of such elements
pub items_add : {E : Type 0} (format : Format) (t : SszType) (z d count len : ℕ)
    (node content : Tree) (old new : List ℕ) (result : Result Unit E) → IsLegal format t
    → IsListOf t z → d ≡ depth t → Unmixes node content count → len ≡ count * z
    → ((bytes : List ℕ) → ArePacked d len bytes content → OnOk result (new ≡ old ++ bytes))
    → ForValue t node (λ v. AddsBytes (serialize t v) old new result)
items_add format t z d count len node content old new result legal of deep mixed long adds =
    subst (λ (ty : SszType). ForValue ty node (λ v. AddsBytes (serialize ty v) old new result))
    (sym of.is)
    (list_adds format of.elem of.most d count node content old new result
    (subst (IsLegal format) of.is legal) (deep ∙ ap depth of.is) mixed
    (basics_add of.elem z d count len content old new result of.basic long adds))
