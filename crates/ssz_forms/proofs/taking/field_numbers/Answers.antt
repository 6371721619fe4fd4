use Rattle.std.proofs.Common.{ap, sym, ◌∙◌, ◌-◌, arith}
use Rattle.ssz_value.proofs.PartLemmas.{Part}
use Rattle.ssz_forms.proofs.Taken.{numbers_more}
use Rattle.ssz_forms.proofs.taking.field_numbers.Goals as goal

pub loop-i-preserved : goal.loop-i-preserved
loop-i-preserved c = (
  omega arith,
  numbers_more c.args.fields.now (c.loop-i.i - 1) c.loop-i.i c.index-fields-i.result
      c.in_ok-name.name c.loop-i.numbers.entries c.insert.new.self.entries (omega arith)
      (omega arith) c.index-fields-i.is
      (c.in_ok-name.ensures.items_if_clones_equal (λ x y h. h) ∙ c.as_bytes.ensures
      ∙ ap (λ (p : Part). p.0) (sym c.index-fields-i.is))
      c.in_ok-insert.ensures.entries c.loop-i.invariant.1,
)
