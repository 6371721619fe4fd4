use Rattle.std.proofs.Common.{rules, ◌≡◌, ◌∙◌, ◌+◌, ◌-◌, ◌*◌, ◌<◌, ◌≤◌, ◌^◌, ℕ, List, [], length, replicate, slice_get, Option, Some, None, refl, sym, ap, subst, arith}
use Rattle.std.specs.List.{AllByRecursion}
use Rattle.ssz_chunk.specs.Tree.{merkle_pairs}
use Rattle.ssz_schema.specs.Types.{container, union}
use Rattle.ssz_schema.specs.Sizes.{basic_size, element_chunks, depth}
use Rattle.ssz_schema.specs.Legal.{IsLegal}
use Rattle.ssz_schema.specs.Unfolding.{type_of, type_tree_at, tree_over, fields_over, options_over, AreBelow}
use Rattle.ssz_arena.specs.Content.{todo, tree_of}
use Rattle.ssz_merkle.specs.Frontier.{whole_pairs}
use Rattle.ssz_value.specs.Defaults.{default_of}
use Rattle.ssz_value.proofs.DefaultLemmas.{union_default_none, union_default_empty}
use Rattle.ssz_value.proofs.PartLemmas.{part_known}
use Rattle.ssz_packing.proofs.Arms.{container_room}
use Rattle.ssz_packing.proofs.Bounds.{vector_room}
use Rattle.ssz_packing.proofs.Options.{below_at}
use Rattle.ssz_tree.specs.Added.{AddsNodes, IsPartNode}
use Rattle.ssz_making.specs.Parts.{whole_of, elements_part}
use Rattle.ssz_tree.specs.Shared.{shared, shared_fields, shared_vector, default_part}
use Rattle.ssz_tree.specs.Given.{IsGiven, made_at, left_fields}
use Rattle.ssz_tree.proofs.Adding.{makes_pair}
use Rattle.ssz_tree.proofs.Copies.{grow-few}
use Rattle.ssz_tree.proofs.DefaultForms.{MakesWith-zero, MakesWith-same, MakesWith-joined, MakesWith-copies, zero-leaf, copies_room, basic-default, bitvector-default, list-default, bitlist-default, elements-zeros, elements-copies, vector-default, container-default, union-default, union-none, shared-chosen, shared-none, shared-empty, shared-container, shared-of-vector, count-fields}
use Rattle.ssz_tree.proofs.FieldPieces.{pieces, pieces-many, piece-stands, given_there, given-kept, field-made, taken_there, nothing_given}
use Rattle.ssz_tree.proofs.GivenGathering.{FirstPieces-start, FirstPieces-room, FirstPieces-push, FirstPieces-more, FirstPieces-finish, FirstPieces-done, pushed, fields_room, fields_made, default_made}
use Rattle.ssz_tree.proofs.defaults.+default.Goals as goal

-- fields

pub container_node-loop-i-init : goal.container_node-loop-i-init
container_node-loop-i-init g t c = FirstPieces-start _ _ _ _ c.new-nodes.ensures.depth
    c.new-nodes.ensures.holds

pub container_node-field_node-node-requires : goal.container_node-field_node-node-requires
container_node-field_node-node-requires g t c κs within =
    let trees = c.args.schema.now.trees in
    let field = c.index-fields-i.result in
    let before : field.1 < c.args.id =
    part_known c.args.id c.args.fields.now c.loop-i.i field c.loop-i-test.true
    c.index-fields-i.is c.requires.before in
    let room = fields_room c.args.arena.now c.args.depth trees c.args.fields.now c.args.given.now
    c.requires.few c.requires.room in
    let stands = piece-stands c.args.arena.now trees c.args.fields.now c.args.given.now c.loop-i.i
    field c.loop-i-test.true c.index-fields-i.is in
    let node : IsGiven c.loop-i.arena c.given_at.result =
    subst (IsGiven c.loop-i.arena) (sym c.given_at.ensures)
    (given-kept c.args.arena.now c.loop-i.arena _ c.loop-i.invariant.adds.keeps
    (given_there c.args.arena.now c.args.given.now c.loop-i.i c.requires.given)) in
    let spare : made_at (type_tree_at trees field.1) c.given_at.result ≤ c.loop-i.arena.spare =
    subst (λ node. made_at (type_tree_at trees field.1) node ≤ c.loop-i.arena.spare)
    (sym c.given_at.ensures) (FirstPieces-room _ _ _ _ _ _ _ c.loop-i.invariant stands room) in
    search rules

pub container_node-push-requires-clause-room : goal.container_node-push-requires-clause-room
container_node-push-requires-clause-room g t c =
    let trees = c.args.schema.now.trees in
    let field = c.index-fields-i.result in
    let room = fields_room c.args.arena.now c.args.depth trees c.args.fields.now c.args.given.now
    c.requires.few c.requires.room in
    let stands = piece-stands c.args.arena.now trees c.args.fields.now c.args.given.now c.loop-i.i
    field c.loop-i-test.true c.index-fields-i.is in
    let made = field-made c.args.arena.now c.loop-i.arena c.field_node-node.new.arena
    (type_tree_at trees field.1) c.args.given.now c.loop-i.i c.given_at.result
    c.field_node-node.result
    c.loop-i.invariant.adds.keeps c.requires.given c.given_at.ensures c.field_node-node.ensures in
    (FirstPieces-push _ _ _ _ _ _ _ _ _ c.loop-i.invariant stands room made).room

pub container_node-push-requires-clause-counted : goal.container_node-push-requires-clause-counted
container_node-push-requires-clause-counted g t c =
    omega (arith, pushed _ _ _ _ _ _ c.loop-i.invariant, c.loop-i-test.true)

pub container_node-loop-i-preserved : goal.container_node-loop-i-preserved
container_node-loop-i-preserved g t c =
    let trees = c.args.schema.now.trees in
    let field = c.index-fields-i.result in
    let stands = piece-stands c.args.arena.now trees c.args.fields.now c.args.given.now c.loop-i.i
    field c.loop-i-test.true c.index-fields-i.is in
    let made = field-made c.args.arena.now c.loop-i.arena c.field_node-node.new.arena
    (type_tree_at trees field.1) c.args.given.now c.loop-i.i c.given_at.result
    c.field_node-node.result
    c.loop-i.invariant.adds.keeps c.requires.given c.given_at.ensures c.field_node-node.ensures in
    FirstPieces-more _ _ _ _ _ _ _ _ _ _ _ c.loop-i.invariant stands made c.push.ensures.depth
    c.push.ensures.holds c.push.ensures.adds

pub container_node-finish-requires-clause-room : goal.container_node-finish-requires-clause-room
container_node-finish-requires-clause-room g t c =
    let trees = c.args.schema.now.trees in
    let room = fields_room c.args.arena.now c.args.depth trees c.args.fields.now c.args.given.now
    c.requires.few c.requires.room in
    let last : c.loop-i.i ≡ length (pieces c.args.arena.now trees c.args.fields.now
    c.args.given.now) =
    omega (
      arith,
      pieces-many c.args.arena.now trees c.args.fields.now c.args.given.now,
      c.loop-i.invariant.within,
    ) in
    (FirstPieces-finish c.args.arena.now c.loop-i.arena _ _ _ _ c.loop-i.invariant last room).room

pub container_node-returns : goal.container_node-returns
container_node-returns g t c =
    let trees = c.args.schema.now.trees in
    let last : c.loop-i.i ≡ length (pieces c.args.arena.now trees c.args.fields.now
    c.args.given.now) =
    omega (
      arith,
      pieces-many c.args.arena.now trees c.args.fields.now c.args.given.now,
      c.loop-i.invariant.within,
    ) in
    fields_made c.args.arena.now _ c.args.depth trees c.args.fields.now c.args.given.now _
    (FirstPieces-done c.args.arena.now c.loop-i.arena _ _ _ _ _ _ c.loop-i.invariant last
    c.finish.ensures.part c.finish.ensures.adds)

pub field_node-returns-in-Some : goal.field_node-returns-in-Some
field_node-returns-in-Some g t c =
    taken_there c.args.arena.now (type_of c.args.schema.now c.args.id) c.args.given
    c.in-Some.node c.in-Some.is c.requires.given

-- elements

pub vector_node-of_copies-nodes-requires-clause-room :
    goal.vector_node-of_copies-nodes-requires-clause-room
vector_node-of_copies-nodes-requires-clause-room g t c =
    let ty = type_of c.args.schema.now c.args.elem in
    let room : shared ty + 2 * c.args.depth ≤ c.args.arena.now.spare =
    subst (λ (s : Option ℕ). shared_vector s (shared ty) c.args.depth ≤ c.args.arena.now.spare)
    (sym c.basic_size.ensures.exact ∙ c.in-None.is) c.requires.room in
    omega (arith, room, c.default_node-part.ensures.adds.spare)

pub vector_node-of_copies-nodes-requires-clause-few :
    goal.vector_node-of_copies-nodes-requires-clause-few
vector_node-of_copies-nodes-requires-clause-few g t c =
    subst (λ (s : Option ℕ). element_chunks s c.args.count ≤ 2 ^ c.args.depth)
    (sym c.basic_size.ensures.exact ∙ c.in-None.is) c.requires.few

pub vector_node-finish-requires-clause-nodes : goal.vector_node-finish-requires-clause-nodes
vector_node-finish-requires-clause-nodes g t c =
    (c.of_copies-nodes.ensures.holds (record {
      tree = tree_of c.default_node-part.new.arena c.default_node-part.result;
      cost = todo c.default_node-part.new.arena c.default_node-part.result;
      nodes = 0;
    }) (record {
      node = c.default_node-part.ensures.is.node;
      tree = refl;
      todo = omega arith;
    })).nodes

pub vector_node-finish-requires-clause-room : goal.vector_node-finish-requires-clause-room
vector_node-finish-requires-clause-room g t c =
    let ty = type_of c.args.schema.now c.args.elem in
    let room : shared ty + 2 * c.args.depth ≤ c.args.arena.now.spare =
    subst (λ (s : Option ℕ). shared_vector s (shared ty) c.args.depth ≤ c.args.arena.now.spare)
    (sym c.basic_size.ensures.exact ∙ c.in-None.is) c.requires.room in
    let few : merkle_pairs c.of_copies-nodes.result.depth c.of_copies-nodes.result.pushed
    - whole_pairs c.of_copies-nodes.result.depth c.of_copies-nodes.result.pushed
    ≤ c.args.depth =
    subst (λ d. merkle_pairs c.of_copies-nodes.result.depth c.of_copies-nodes.result.pushed
    - whole_pairs c.of_copies-nodes.result.depth c.of_copies-nodes.result.pushed ≤ d)
    c.of_copies-nodes.ensures.depth
    (grow-few c.of_copies-nodes.result.depth c.of_copies-nodes.result.pushed) in
    (copies_room c.args.arena.now c.default_node-part.new.arena c.of_copies-nodes.new.arena _ _ _
    room c.default_node-part.ensures.adds.spare c.of_copies-nodes.ensures.adds.spare few).1

pub vector_node-returns-in-Some : goal.vector_node-returns-in-Some
vector_node-returns-in-Some g t c =
    let ty = type_of c.args.schema.now c.args.elem in
    let basic : basic_size ty ≡ Some _ = sym c.basic_size.ensures.exact ∙ c.in-Some.is in
    let z = c.zero.ensures in
    MakesWith-same 0 _ _ _ _ _ _ (ap (λ (s : Option ℕ). shared_vector s (shared ty) c.args.depth)
    (sym basic)) refl
    (MakesWith-zero c.args.arena.now c.args.depth
    (elements_part ty c.args.depth (replicate c.args.count (default_of ty))) c.zero.result z.node
    z.tree z.todo (elements-zeros ty _ c.args.depth c.args.count basic))

pub vector_node-returns-in-None : goal.vector_node-returns-in-None
vector_node-returns-in-None g t c =
    let ty = type_of c.args.schema.now c.args.elem in
    let none : basic_size ty ≡ None = sym c.basic_size.ensures.exact ∙ c.in-None.is in
    let made = subst (λ d. IsPartNode c.finish.new.arena (whole_of d (replicate c.args.count
    (default_part ty))) c.finish.result) c.of_copies-nodes.ensures.depth
    (c.finish.ensures.part (replicate c.args.count (default_part ty))
    (c.of_copies-nodes.ensures.holds (default_part ty) c.default_node-part.ensures.is)) in
    let ends = subst (λ n. AddsNodes (merkle_pairs c.args.depth n - whole_pairs c.args.depth n)
    (merkle_pairs c.args.depth n - whole_pairs c.args.depth n) c.of_copies-nodes.new.arena
    c.finish.new.arena) c.of_copies-nodes.ensures.pushed
    (subst (λ d. AddsNodes (merkle_pairs d c.of_copies-nodes.result.pushed
    - whole_pairs d c.of_copies-nodes.result.pushed) (merkle_pairs d c.of_copies-nodes.result.pushed
    - whole_pairs d c.of_copies-nodes.result.pushed) c.of_copies-nodes.new.arena
    c.finish.new.arena) c.of_copies-nodes.ensures.depth c.finish.ensures.adds) in
    MakesWith-same _ _ _ _ _ _ _ (ap (λ (s : Option ℕ). shared_vector s (shared ty) c.args.depth)
    (sym none)) (elements-copies ty c.args.depth c.args.count none)
    (MakesWith-copies (shared ty) _ _ _ _ c.args.depth c.args.count (default_part ty) _ _
    c.default_node-part.ensures c.requires.some c.of_copies-nodes.ensures.adds ends made)

-- unions

pub union_node-default_node-node-requires : goal.union_node-default_node-node-requires
union_node-default_node-node-requires g t c κs within =
    let here : Some (Some c.in-Some-Some.option) ≡ slice_get c.args.options.now 0 =
    ap Some (sym c.in-Some-Some.field-0-is) ∙ sym c.in-Some-Some.is ∙ c.option_at.ensures in
    let below : c.in-Some-Some.option < c.args.id =
    below_at c.args.id c.args.options.now 0 (Some c.in-Some-Some.option) (sym here)
    c.requires.before in
    let spare : shared (type_tree_at c.args.schema.now.trees c.in-Some-Some.option)
    ≤ c.args.arena.now.spare =
    omega (
      arith,
      c.requires.room,
      shared-chosen c.args.schema.now.trees c.args.options.now
          c.in-Some-Some.option here,
    ) in
    search rules

pub union_node-pair-requires-clause-room : goal.union_node-pair-requires-clause-room
union_node-pair-requires-clause-room g t c =
    let here : Some (Some c.in-Some-Some.option) ≡ slice_get c.args.options.now 0 =
    ap Some (sym c.in-Some-Some.field-0-is) ∙ sym c.in-Some-Some.is ∙ c.option_at.ensures in
    omega (
      arith,
      c.requires.room,
      shared-chosen c.args.schema.now.trees c.args.options.now c.in-Some-Some.option here,
      c.default_node-node.ensures.adds.spare,
    )

pub union_node-returns-in-Some-Some : goal.union_node-returns-in-Some-Some
union_node-returns-in-Some-Some g t c =
    let here : Some (Some c.in-Some-Some.option) ≡ slice_get c.args.options.now 0 =
    ap Some (sym c.in-Some-Some.field-0-is) ∙ sym c.in-Some-Some.is ∙ c.option_at.ensures in
    let z = c.zero-selector.ensures in
    let p = c.pair.ensures in
    let ty = type_tree_at c.args.schema.now.trees c.in-Some-Some.option in
    let count : shared ty + 1
    ≡ shared (union (options_over c.args.schema.now.trees c.args.options.now)) =
    omega (
      arith,
      shared-chosen c.args.schema.now.trees c.args.options.now
          c.in-Some-Some.option here,
    ) in
    MakesWith-same _ _ _ _ _ _ _ count
    (union-default c.args.schema.now.trees c.args.options.now c.in-Some-Some.option here)
    (MakesWith-joined (shared ty) _ _ _ (default_part ty) _ c.zero-selector.result _
    c.default_node-node.ensures z.node z.tree z.todo zero-leaf
    (makes_pair _ _ _ _ _ p.node p.tree p.todo p.keeps p.same p.unhashed p.count p.spare))

pub union_node-returns-in-Some-None : goal.union_node-returns-in-Some-None
union_node-returns-in-Some-None g t c =
    let here : Some None ≡ slice_get c.args.options.now 0 =
    ap Some (sym c.in-Some-None.field-0-is) ∙ sym c.in-Some-None.is ∙ c.option_at.ensures in
    MakesWith-same _ _ _ _ _ _ _
    (sym (shared-none c.args.schema.now.trees c.args.options.now here))
    (union-none c.args.schema.now.trees c.args.options.now
    (union_default_none c.args.schema.now.trees c.args.options.now here)) c.empty_node.ensures

pub union_node-returns-in-None : goal.union_node-returns-in-None
union_node-returns-in-None g t c =
    let here : None ≡ slice_get c.args.options.now 0 = sym c.in-None.is ∙ c.option_at.ensures in
    MakesWith-same _ _ _ _ _ _ _
    (sym (shared-empty c.args.schema.now.trees c.args.options.now here))
    (union-none c.args.schema.now.trees c.args.options.now
    (union_default_empty c.args.schema.now.trees c.args.options.now here))
    c.empty_node-in-None.ensures

-- each form of a type

pub default_node-vector_node-requires : goal.default_node-vector_node-requires
default_node-vector_node-requires g t c κs within =
    let form = sym c.ty.ensures.form ∙ ap (tree_over c.args.schema.now.trees) c.in-Vector.is in
    let ty = type_tree_at c.args.schema.now.trees c.in-Vector.elem in
    let law = subst (IsLegal c.args.schema.now.format) form c.ty.ensures.legal in
    let h = vector_room c.args.schema.now.format ty c.in-Vector.count law in
    let deep = c.depth-in-Vector.ensures.exact ∙ ap depth form in
    let some : 0 < c.in-Vector.count = law.1 in
    let few : element_chunks (basic_size (type_tree_at c.args.schema.now.trees c.in-Vector.elem))
    c.in-Vector.count ≤ 2 ^ c.depth-in-Vector.result =
    subst (λ d. element_chunks (basic_size (type_tree_at c.args.schema.now.trees c.in-Vector.elem))
    c.in-Vector.count ≤ 2 ^ d) (sym deep) h.few in
    let shallow : c.depth-in-Vector.result ≤ 126 = subst (λ d. d ≤ 126) (sym deep) h.shallow in
    let below : c.in-Vector.elem < c.args.id = subst (AreBelow c.args.id)
    c.in-Vector.is c.ty.ensures.before in
    let room : shared_vector (basic_size (type_tree_at c.args.schema.now.trees c.in-Vector.elem))
    (shared (type_tree_at c.args.schema.now.trees c.in-Vector.elem)) c.depth-in-Vector.result
    ≤ c.args.arena.now.spare =
    omega (
      arith,
      c.requires.room,
      shared-of-vector (type_of c.args.schema.now c.args.id) ty
          c.in-Vector.count c.depth-in-Vector.result form c.depth-in-Vector.ensures.exact,
    ) in
    search rules

pub default_node-returns-in-Vector : goal.default_node-returns-in-Vector
default_node-returns-in-Vector g t c =
    let form = sym c.ty.ensures.form ∙ ap (tree_over c.args.schema.now.trees) c.in-Vector.is in
    let ty = type_tree_at c.args.schema.now.trees c.in-Vector.elem in
    MakesWith-same _ _ _ _ _ _ _
    (shared-of-vector (type_of c.args.schema.now c.args.id) ty c.in-Vector.count
    c.depth-in-Vector.result form c.depth-in-Vector.ensures.exact)
    (vector-default (type_of c.args.schema.now c.args.id) ty c.in-Vector.count
    c.depth-in-Vector.result form c.depth-in-Vector.ensures.exact) c.vector_node.ensures

pub default_node-container_node-requires : goal.default_node-container_node-requires
default_node-container_node-requires g t c κs within =
    let trees = c.args.schema.now.trees in
    let fields : c.in-Container.fields.items ≡ c.as_slice.result.now =
    sym c.as_slice.ensures.value in
    let form = sym c.ty.ensures.form ∙ ap (tree_over trees) c.in-Container.is
    ∙ ap (λ (parts : List (List ℕ × ℕ)). container (fields_over trees parts)) fields in
    let h = container_room c.args.schema.now.format (type_of c.args.schema.now c.args.id)
    trees c.as_slice.result.now c.depth-in-Container.result form c.ty.ensures.legal
    c.depth-in-Container.ensures.exact in
    let P : List (List ℕ × ℕ) → Type 0 = AllByRecursion
    (λ (part : List ℕ × ℕ). part.1 < c.args.id) in
    let all : P c.in-Container.fields.items = subst (AreBelow c.args.id)
    c.in-Container.is c.ty.ensures.before in
    let known : P c.as_slice.result.now = subst P fields all in
    let room : merkle_pairs c.depth-in-Container.result (length c.as_slice.result.now)
    + shared_fields (left_fields (fields_over trees c.as_slice.result.now) [])
    ≤ c.args.arena.now.spare =
    omega (
      arith,
      c.requires.room,
      ap shared_fields (nothing_given (fields_over trees c.as_slice.result.now)),
      shared-container (type_of c.args.schema.now c.args.id) trees
          c.as_slice.result.now c.depth-in-Container.result form c.depth-in-Container.ensures.exact,
    ) in
    search rules

pub default_node-returns-in-Container : goal.default_node-returns-in-Container
default_node-returns-in-Container g t c =
    let trees = c.args.schema.now.trees in
    let fields : c.in-Container.fields.items ≡ c.as_slice.result.now =
    sym c.as_slice.ensures.value in
    let form = sym c.ty.ensures.form ∙ ap (tree_over trees) c.in-Container.is
    ∙ ap (λ (parts : List (List ℕ × ℕ)). container (fields_over trees parts)) fields in
    MakesWith-same _ _ _ _ _ _ _
    (ap (λ n. merkle_pairs c.depth-in-Container.result n
    + shared_fields (fields_over trees c.as_slice.result.now))
    (count-fields trees c.as_slice.result.now)
    ∙ shared-container (type_of c.args.schema.now c.args.id) trees c.as_slice.result.now
    c.depth-in-Container.result form c.depth-in-Container.ensures.exact)
    (container-default (type_of c.args.schema.now c.args.id)
    (fields_over trees c.as_slice.result.now) c.depth-in-Container.result form
    c.depth-in-Container.ensures.exact)
    (default_made _ _ c.depth-in-Container.result (fields_over trees c.as_slice.result.now) _
    c.container_node.ensures)

pub default_node-returns-in-Uint : goal.default_node-returns-in-Uint
default_node-returns-in-Uint g t c =
    let form = sym c.ty.ensures.form ∙ ap (tree_over c.args.schema.now.trees) c.in-Uint.is in
    let z = c.zero.ensures in
    MakesWith-same 0 _ _ _ _ _ _ (sym (ap shared form)) refl
    (MakesWith-zero c.args.arena.now 0 (default_part (type_of c.args.schema.now c.args.id))
    c.zero.result z.node z.tree z.todo
    (basic-default (type_of c.args.schema.now c.args.id) _ (ap basic_size form)))

pub default_node-returns-in-Boolean : goal.default_node-returns-in-Boolean
default_node-returns-in-Boolean g t c =
    let form = sym c.ty.ensures.form ∙ ap (tree_over c.args.schema.now.trees) c.in-Boolean.is in
    let z = c.zero-in-Boolean.ensures in
    MakesWith-same 0 _ _ _ _ _ _ (sym (ap shared form)) refl
    (MakesWith-zero c.args.arena.now 0 (default_part (type_of c.args.schema.now c.args.id))
    c.zero-in-Boolean.result z.node z.tree z.todo
    (basic-default (type_of c.args.schema.now c.args.id) _ (ap basic_size form)))

pub default_node-returns-in-Bitvector : goal.default_node-returns-in-Bitvector
default_node-returns-in-Bitvector g t c =
    let form = sym c.ty.ensures.form ∙ ap (tree_over c.args.schema.now.trees) c.in-Bitvector.is in
    let z = c.zero-in-Bitvector.ensures in
    MakesWith-same 0 _ _ _ _ _ _ (sym (ap shared form)) refl
    (MakesWith-zero c.args.arena.now c.depth.result
    (default_part (type_of c.args.schema.now c.args.id))
    c.zero-in-Bitvector.result z.node z.tree z.todo
    (bitvector-default (type_of c.args.schema.now c.args.id) c.in-Bitvector.field-0
    c.depth.result form c.depth.ensures.exact))

pub default_node-returns-in-Bitlist : goal.default_node-returns-in-Bitlist
default_node-returns-in-Bitlist g t c =
    let form = sym c.ty.ensures.form ∙ ap (tree_over c.args.schema.now.trees) c.in-Bitlist.is in
    MakesWith-same 1 _ _ _ _ _ _ (sym (ap shared form))
    (bitlist-default (type_of c.args.schema.now c.args.id) c.in-Bitlist.field-0
    c.depth-in-Bitlist.result form c.depth-in-Bitlist.ensures.exact) c.empty_node.ensures

pub default_node-returns-in-List : goal.default_node-returns-in-List
default_node-returns-in-List g t c =
    let form = sym c.ty.ensures.form ∙ ap (tree_over c.args.schema.now.trees) c.in-List.is in
    MakesWith-same 1 _ _ _ _ _ _ (sym (ap shared form))
    (list-default (type_of c.args.schema.now c.args.id)
    (type_tree_at c.args.schema.now.trees c.in-List.field-0) c.in-List.field-1
    c.depth-in-List.result form c.depth-in-List.ensures.exact) c.empty_node-in-List.ensures
