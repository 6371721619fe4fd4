use Rattle.std.proofs.Common.{ℕ, ◌+◌, ◌≡◌, ◌∙◌, ap, sym, subst}
use Rattle.ssz_schema.specs.Sizes.{fixed_size, head_size}
use Rattle.ssz_schema.specs.Unfolding.{type_tree_at}
use Rattle.ssz_checking.proofs.SoundLemmas.{SoundFrom, SoundFrom-more}
use Rattle.ssz_checking.proofs.sound.+sound.Goals as goal

pub sound_fields-loop-field-preserved : goal.sound_fields-loop-field-preserved
sound_fields-loop-field-preserved t c =
    let size : head_size (fixed_size
    (type_tree_at c.args.schema.now.trees c.field-item.result.1))
    ≡ c.head_len.result = sym (c.head_len.ensures ∙ ap head_size c.fixed_size.ensures.exact) in
    subst (λ (n : ℕ). SoundFrom c.args.schema.now.trees c.args.fields.now c.args.row.step
    c.args.row.count c.args.bytes.now c.args.place (c.loop-field.field-index + 1)
    (c.loop-field.place + n) c.sound_count-count.result) size
    (SoundFrom-more c.args.schema.now.trees c.args.fields.now c.args.row.step c.args.row.count
    c.args.bytes.now c.args.place c.loop-field.field-index c.loop-field.place
    c.loop-field.count c.sound_count-count.result c.field-item.result c.loop-field.invariant
    c.loop-field-test.true c.field-item.is c.sound_count-count.ensures.most
    c.sound_count-count.ensures.exact)
