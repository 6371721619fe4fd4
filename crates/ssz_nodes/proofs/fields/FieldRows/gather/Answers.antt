use Rattle.std.proofs.Common.{◌≡◌, ℕ, ◌-◌, ◌<◌, ◌≤◌, List, ◌++◌, drop, take, length, sym, ap, ◌∙◌, subst, rules, arith, get_or-take}
use Rattle.std.proofs.lemmas.List.{length-take-le, get_or_append_left}
use Rattle.ssz_arena.specs.declared.node.NodeId.{NodeId}
use Rattle.ssz_arena.specs.Content.{row_node}
use Rattle.ssz_nodes.specs.Ahead.{AheadHolds}
use Rattle.ssz_nodes.specs.Beside.{FieldsAhead, FieldsHold}
use Rattle.ssz_nodes.proofs.Beside.{FieldsHold-filled}
use Rattle.ssz_nodes.proofs.fields.FieldRows.gather.Goals as goal

pub returns-clause-nodes : goal.returns-clause-nodes
returns-clause-nodes g c = (
  c.spread_each.ensures.nodes,
  c.skip.ensures.nodes c.args.arena.now c.refill.ensures.nodes,
)

-- the nodes that were put at the front
front : (next row : List NodeId) (count k : ℕ) → count ≤ length next → k < count
    → row_node (take count next ++ drop (length (take count next)) row) k ≡ row_node next k
front next row count k few below =
    get_or_append_left (take count next) (drop (length (take count next)) row)
    (record { 0 = 0 }) k (omega (arith, length-take-le count next few))
    ∙ get_or-take count next k (record { 0 = 0 }) below

pub returns-clause-holds : goal.returns-clause-holds
returns-clause-holds g c = λ trees held.
    let none : c.self.inside.from ≡ c.self.inside.to =
    subst (λ (a : FieldsAhead). a.from ≡ a.to) (sym c.self.view_is) c.requires.taken in
    let all : c.self.inside.to - c.self.inside.from ≡ 0 = omega (arith, none) in
    let start : AheadHolds c.args.arena.now trees c.self.inside.places =
    subst (λ n. AheadHolds c.args.arena.now (drop n trees) c.self.inside.places) all
    ((subst (FieldsHold c.args.arena.now trees) (sym c.self.view_is) held).behind
    (omega (arith, all))) in
    let ahead : AheadHolds c.args.arena.now trees c.refill.new.self =
    c.refill.ensures.holds trees start in
    let within : c.min-count.result ≤ length c.row-next.result.now =
    omega (arith, c.min-count.ensures) in
    let some : 0 < c.min-count.result = search rules in
    FieldsHold-filled c.args.arena.now trees c.self.inside.depth c.min-count.result
    c.row-next.result.now c.put_front.new.row c.spread_each.new.row c.skip.new.self
    (record {
      are = c.row-next.ensures.trees c.args.arena.now trees c.refill.ensures.filled ahead;
      few = within;
      behind = λ few. c.skip.ensures.rest c.args.arena.now trees
          (omega (
            arith,
            within,
            c.row-next.ensures.few c.args.arena.now trees
                c.refill.ensures.filled ahead (omega (arith, few, some)),
          )) ahead;
    })
    (λ k below. ap (λ ns. row_node ns k) c.put_front.ensures
    ∙ front c.row-next.result.now c.self.inside.nodes c.min-count.result k within below)
    (λ k ts below. c.spread_each.ensures.places k ts below)
