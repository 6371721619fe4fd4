use Rattle.std.proofs.Common.{◌≡◌, ◌∙◌, ◌<◌, ℕ, List, Option, refl, sym, ap, subst, arith}
use Rattle.ssz_schema.specs.declared.path.PathStep.TheVariants.{Index}
use Rattle.ssz_schema.specs.Types.{SszType, container, vector, list, bitvector, bitlist, union}
use Rattle.ssz_schema.specs.Legal.{IsLegal}
use Rattle.ssz_schema.specs.Unfolding.{type_of, tree_over, fields_over, options_over, AreBelow}
use Rattle.ssz_schema.proofs.OptionLemmas.{option_count-over}
use Rattle.ssz_schema.proofs.SumLemmas.{Part}
use Rattle.ssz_value.specs.Values.{Fits}
use Rattle.ssz_arena.specs.Content.{tree_of}
use Rattle.ssz_machine.specs.Drawing.{drawn_below, drawn_bit, next_seed, seed_after}
use Rattle.ssz_draws.specs.declared.turn.Turn.{Turn}
use Rattle.ssz_draws.specs.declared.turn.Turn.TheVariants.{On, SetBit}
use Rattle.ssz_draws.specs.Turns.{IsDrawnTurn, IsSeen, IsChosen, HasLength}
use Rattle.ssz_draws.proofs.Turning.{answer_of_type, turn_of_type, turn_known, vector_turn, vector_bit, if_ok, list_seen, bits_seen, union_seen}
use Rattle.ssz_draws.proofs.generator.Generator.turn.Goals as goal

pub turn_of_union-requires-clause-few : goal.turn_of_union-requires-clause-few
turn_of_union-requires-clause-few g c =
    let types = c.args.schema.now in
    let ids = c.as_slice-in-Union.result.now in
    let t : SszType = union (options_over types.trees ids) in
    let same : t ≡ type_of types c.args.id =
    ap (λ (os : List (Option ℕ)). union (options_over types.trees os))
    c.as_slice-in-Union.ensures.value
    ∙ sym (ap (tree_over types.trees) c.in-Union.is) ∙ c.ty.ensures.form in
    let legal : IsLegal types.format t =
    subst (IsLegal types.format) (sym same) c.ty.ensures.legal in
    omega (arith, legal.1, option_count-over types.trees ids)

pub returns-in-Container : goal.returns-in-Container
returns-in-Container g c =
    let types = c.args.schema.now in
    let t : SszType = container (fields_over types.trees c.as_slice.result.now) in
    let same : t ≡ type_of types c.args.id =
    ap (λ (ps : List Part). container (fields_over types.trees ps)) c.as_slice.ensures.value
    ∙ sym (ap (tree_over types.trees) c.in-Container.is) ∙ c.ty.ensures.form in
    answer_of_type types c.args.id t (tree_of c.args.arena.now c.args.node) c.args.self.now
    c.turn_to_field.new.self c.turn_to_field.result (Fits t) same (λ v seen. (seen refl).fits)
    c.turn_to_field.ensures

pub returns-in-Vector : goal.returns-in-Vector
returns-in-Vector g c =
    let types = c.args.schema.now in
    let elem = c.in-Vector.elem in
    let t : SszType = vector (type_of types elem) c.in-Vector.n in
    let same : t ≡ type_of types c.args.id =
    sym (ap (tree_over types.trees) c.in-Vector.is) ∙ c.ty.ensures.form in
    let less : elem < c.args.id = subst (AreBelow c.args.id) c.in-Vector.is c.ty.ensures.before in
    let tree = tree_of c.args.arena.now c.args.node in
    turn_of_type types c.args.id t tree c.args.self.now c.draw_below.new.self
    (On elem (Index c.draw_below.result)) same
    (vector_turn types c.args.id elem c.in-Vector.n c.args.self.now c.draw_below.new.self
    c.draw_below.result tree less c.draw_below.ensures.drawn c.draw_below.ensures.below
    c.draw_below.ensures.next)

pub returns-in-List : goal.returns-in-List
returns-in-List g c =
    let types = c.args.schema.now in
    let elem : SszType = type_of types c.in-List.elem in
    let t : SszType = list elem c.in-List.limit in
    let same : t ≡ type_of types c.args.id =
    sym (ap (tree_over types.trees) c.in-List.is) ∙ c.ty.ensures.form in
    let legal : IsLegal types.format t =
    subst (IsLegal types.format) (sym same) c.ty.ensures.legal in
    let tree = tree_of c.args.arena.now c.args.node in
    answer_of_type types c.args.id t tree c.args.self.now c.turn_of_list.new.self
    c.turn_of_list.result (λ v. Fits t v × HasLength c.beside.result v) same
    (list_seen types.format elem c.in-List.limit c.beside.result tree legal c.beside.ensures)
    c.turn_of_list.ensures

pub returns-in-Bitvector : goal.returns-in-Bitvector
returns-in-Bitvector g c =
    let types = c.args.schema.now in
    let n : ℕ = c.in-Bitvector.n in
    let t : SszType = bitvector n in
    let x : ℕ = c.args.self.now in
    let same : t ≡ type_of types c.args.id =
    sym (ap (tree_over types.trees) c.in-Bitvector.is) ∙ c.ty.ensures.form in
    let tree = tree_of c.args.arena.now c.args.node in
    answer_of_type types c.args.id t tree x c.turn_to_bit.new.self c.turn_to_bit.result
    (IsSeen t tree) same (λ v seen. seen)
    (if_ok c.turn_to_bit.result
    (λ (turn : Turn). turn ≡ SetBit (drawn_below n x) (drawn_bit (next_seed x)))
    (IsDrawnTurn types c.args.id t (IsSeen t tree) x c.turn_to_bit.new.self)
    (c.turn_to_bit.new.self ≡ seed_after 2 x) c.turn_to_bit.ensures.drawn
    c.turn_to_bit.ensures.next
    (λ turn drawn next. vector_bit types c.args.id n (IsSeen t tree) x c.turn_to_bit.new.self turn
    drawn next))

pub returns-in-Bitlist : goal.returns-in-Bitlist
returns-in-Bitlist g c =
    let types = c.args.schema.now in
    let t : SszType = bitlist c.in-Bitlist.limit in
    let same : t ≡ type_of types c.args.id =
    sym (ap (tree_over types.trees) c.in-Bitlist.is) ∙ c.ty.ensures.form in
    let legal : IsLegal types.format t =
    subst (IsLegal types.format) (sym same) c.ty.ensures.legal in
    let tree = tree_of c.args.arena.now c.args.node in
    let n : ℕ = c.beside-in-Bitlist.result in
    answer_of_type types c.args.id t tree c.args.self.now c.turn_of_bits.new.self
    c.turn_of_bits.result (λ v. Fits t v × HasLength n v) same
    (bits_seen types.format c.in-Bitlist.limit n tree legal c.beside-in-Bitlist.ensures)
    (c.turn_of_bits.ensures types c.args.id)

pub returns-in-Union : goal.returns-in-Union
returns-in-Union g c =
    let types = c.args.schema.now in
    let ids = c.as_slice-in-Union.result.now in
    let t : SszType = union (options_over types.trees ids) in
    let same : t ≡ type_of types c.args.id =
    ap (λ (os : List (Option ℕ)). union (options_over types.trees os))
    c.as_slice-in-Union.ensures.value
    ∙ sym (ap (tree_over types.trees) c.in-Union.is) ∙ c.ty.ensures.form in
    let legal : IsLegal types.format t =
    subst (IsLegal types.format) (sym same) c.ty.ensures.legal in
    let tree = tree_of c.args.arena.now c.args.node in
    let n : ℕ = c.beside-in-Union.result in
    turn_of_type types c.args.id t tree c.args.self.now c.turn_of_union.new.self
    c.turn_of_union.result same
    (turn_known types c.args.id t (IsChosen t n) (IsSeen t tree) c.args.self.now
    c.turn_of_union.new.self c.turn_of_union.result
    (union_seen types.format (options_over types.trees ids) n tree legal c.beside-in-Union.ensures)
    c.turn_of_union.ensures)
