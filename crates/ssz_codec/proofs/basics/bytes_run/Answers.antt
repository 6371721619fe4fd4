use Rattle.std.proofs.Common.{◌∙◌, ap, sym, refl, map, length}
use Rattle.ssz_value.specs.Values.{number, sequence, values}
use Rattle.ssz_value.proofs.ValueLemmas.{bytes_are}
use Rattle.ssz_value.proofs.FormLemmas.{bytes_are_formed}
use Rattle.ssz_codec.proofs.ByteLemmas.{bytes_read}
use Rattle.ssz_codec.proofs.basics.bytes_run.Goals as goal

pub returns : goal.returns
returns c = record {
  value = bytes_are c.in_ok-copy_of.field-0
      ∙ ap (λ bytes. sequence (values (map number bytes))) c.in_ok-copy_of.ensures.copy
      ∙ ap (λ vs. sequence (values vs))
      (sym (bytes_read (length c.args.bytes.now) c.args.bytes.now refl));
  formed = bytes_are_formed (length c.args.bytes.now) c.in_ok-copy_of.field-0;
}
