-- Look-ups in a map with text keys and byte vectors, and in the finite map that it is seen as.
use Rattle.std.proofs.Common.{◌≡◌, ℕ, Bool, true, false, cond, List, [], ◌∷◌, Some}
use Rattle.std.proofs.Common.{string_bytes, Vec, refl, sym, ap, ◌∙◌}
use Rattle.std.specs.Ordering.{nat_cmp, is_eq}
use Rattle.std.specs.Cmp.{eq_by_cmp_equiv}
use Rattle.std.specs.Cmp.Lexicographic.{slice_cmp, nat_list_cmp_total}
use Rattle.std.specs.Str.{bytes_eq}
use Rattle.std.specs.String.{string_cmp}
use Rattle.std.specs.Map.{lookup}
use Rattle.std.specs.BTreeMap as tree
use Rattle.std.specs.FinMap as map
use Rattle.std.specs.declared.alloc.Global.{Global}
use Rattle.std.proofs.lemmas.Map.Text.{text_cmp, btree_map_updates_text, is_eq-slice_cmp}
use Rattle.ssz_outside.specs.Stored.{StoredEntries, ByText, stored_pairs, named_of, items_of}

-- a look-up in the pairs finds the bytes that the entries have
find-pairs : (entries : StoredEntries) (name : List ℕ)
    → map.find (slice_cmp nat_cmp) name (stored_pairs entries)
    ≡ items_of (lookup (tree.is_at (text_cmp name)) entries)
find-pairs [] name = refl
find-pairs (e ∷ entries) name =
    let here = lookup (tree.is_at (text_cmp name)) entries in
    let there = map.find (slice_cmp nat_cmp) name (stored_pairs entries) in
    elim (is_eq (slice_cmp nat_cmp name (string_bytes e.0))) as
    (λ b. cond b (Some e.1.items) there ≡ items_of (cond b (Some e.1) here)) [
      | true ↦ refl
      | false ↦ find-pairs entries name
    ]

-- a look-up in the finite map finds the bytes that the tree map has
pub get-named_of : (m : ByText) (name : List ℕ)
    → map.get (named_of m) name ≡ items_of (tree.get_by_text m name)
get-named_of m name =
    map.get-from_entries nat_list_cmp_total (stored_pairs m.entries) name
    ∙ find-pairs m.entries name

-- what one name reads as after an insert: the new bytes under that key, or what it read as
get_either : (key : List ℕ) (value : Vec ℕ Global) (m : ByText) (b : Bool) (name : List ℕ)
    → items_of (cond b (Some value) (tree.get_by_text m name))
    ≡ cond b (Some value.items) (map.get (named_of m) name)
get_either key value m true name = refl
get_either key value m false name = sym (get-named_of m name)

-- an insert at a text key is an insert of its bytes
pub named_of-insert : (key : List ℕ) (value : Vec ℕ Global) (m n : ByText)
    → tree.UpdatesBy string_cmp (text_cmp key) m n (Some value)
    → named_of n ≡ map.insert (named_of m) key value.items
named_of-insert key value m n updates =
    let ordered = map.slice_cmp-IsAntisymmetric map.nat_cmp-IsAntisymmetric in
    map.same_map nat_list_cmp_total ordered _ _ (λ name.
    let same_test = sym (is_eq-slice_cmp key name)
    ∙ (eq_by_cmp_equiv nat_list_cmp_total).symm key name in
    get-named_of n name
    ∙ ap items_of (btree_map_updates_text key m n (Some value) updates name)
    ∙ get_either key value m (bytes_eq key name) name
    ∙ ap (λ b. cond b (Some value.items) (map.get (named_of m) name)) same_test
    ∙ sym (map.get-insert nat_list_cmp_total (named_of m) key value.items name))
