use Rattle.ssz_json_text.proofs.Digits.{digits_moved}
use Rattle.ssz_json_text.proofs.Keeping.{keeps_trans}
use Rattle.ssz_json_text.proofs.putting.put_digits.Goals as goal

pub blocks-2-preserved : goal.blocks-2-preserved
blocks-2-preserved c = record {
  text = digits_moved c.blocks-2.out.items c.put.new.out.items c.digits_of_block.result
      c.split_at.result.0.now c.split_at.result.1.now c.blocks-2.rest.now _
      c.in_ok-put.ensures.text c.digits_of_block.ensures c.split_at.ensures.by_index.0
      c.blocks-2.invariant.text;
  front = keeps_trans c.blocks-2.invariant.front c.in_ok-put.ensures.front;
}
