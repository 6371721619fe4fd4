use Rattle.std.proofs.Common.{rules, ◌<◌, length, get_or, []}
use Rattle.ssz_json_text.proofs.NameOrder.{in_order_at, name_any}
use Rattle.ssz_json_text.proofs.order.member_at.Goals as goal

pub offset_bounds-row-number : goal.offset_bounds-row-number
offset_bounds-row-number c =
    let below : get_or c.args.row.now.order.now c.args.place 0 < length c.args.row.now.fields.now =
    (in_order_at c.args.row.now.fields.now c.args.row.now.order.now c.args.place c.requires.ordered
    c.requires.within).below in
    search rules

pub bounds-row-number : goal.bounds-row-number
bounds-row-number c =
    (in_order_at c.args.row.now.fields.now c.args.row.now.order.now c.args.place c.requires.ordered
    c.requires.within).below

pub returns-clause-here : goal.returns-clause-here
returns-clause-here c =
    let fields = c.args.row.now.fields.now in
    let order = c.args.row.now.order.now in
    let at = in_order_at fields order c.args.place c.requires.ordered c.requires.within in
    at.here c.as_bytes.result.now (name_any fields (get_or order c.args.place 0)
    c.index-row-number.result c.as_bytes.result.now at.below c.as_bytes.ensures)

pub returns-clause-field : goal.returns-clause-field
returns-clause-field c =
    let fields = c.args.row.now.fields.now in
    let order = c.args.row.now.order.now in
    let at = in_order_at fields order c.args.place c.requires.ordered c.requires.within in (
      at.below,
      name_any fields (get_or order c.args.place 0) c.index-row-number.result
          c.as_bytes.result.now at.below c.as_bytes.ensures ([], 0),
    )
