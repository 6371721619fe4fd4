use Rattle.std.proofs.Common.{rules, ◌≡◌, ◌+◌, ◌-◌, ◌++◌, suc, sym, ap, ◌∙◌, arith}
use Rattle.std.proofs.lemmas.List.{append-nil}
use Rattle.ssz_bytes.specs.Bytes.{offset_bytes}
use Rattle.ssz_writing.specs.Offsets.{offset_rooms}
use Rattle.ssz_nodes.proofs.Chunked.{Extends-same, Extends-more}
use Rattle.ssz_writing.proofs.Rooms.{offset_rooms_step}
use Rattle.ssz_writing.proofs.offsets.append_rooms.Goals as goal

pub loop-i-init : goal.loop-i-init
loop-i-init c =
    let all : c.args.count - 0 ≡ c.args.count = omega arith in (
      Extends-same c.args.out.now.items,
      ap (λ n. c.args.out.now.items ++ offset_rooms n) all,
    )

pub loop-i-preserved : goal.loop-i-preserved
loop-i-preserved c =
    let next : c.extend_from_slice.new.self.items ≡ c.loop-i.out.items ++ offset_bytes 0 =
    search rules in
    let one : c.args.count - c.loop-i._i ≡ suc (c.args.count - (c.loop-i._i + 1)) =
    omega (arith, c.loop-i-test.true) in (
      Extends-more c.args.out.now.items c.loop-i.out.items c.extend_from_slice.new.self.items
          (offset_bytes 0) c.loop-i.invariant.0 next,
      offset_rooms_step (c.args.count - c.loop-i._i) (c.args.count - (c.loop-i._i + 1))
          c.loop-i.out.items c.extend_from_slice.new.self.items _ one c.loop-i.invariant.1 next,
    )

pub returns-clause-rooms : goal.returns-clause-rooms
returns-clause-rooms c =
    let none : c.args.count - c.loop-i._i ≡ 0 = omega (arith, c.loop-i-test.false) in
    sym (append-nil c.loop-i.out.items)
    ∙ ap (λ n. c.loop-i.out.items ++ offset_rooms n) (sym none) ∙ c.loop-i.invariant.1
