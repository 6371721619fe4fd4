use Rattle.std.proofs.Common.{◌∙◌, ◌++◌, ◌∷◌, [], ap, ap₂, sym}
use Rattle.ssz_machine.specs.Drawing.{drawn, next_seed}
use Rattle.ssz_draws.proofs.Drawn.{seed_more, bytes_more}
use Rattle.ssz_draws.proofs.generator.Generator.draw_bytes.Goals as goal

pub loop-i-preserved : goal.loop-i-preserved
loop-i-preserved c =
    let x = c.args.self.now in
    let i = c.loop-i._i in
    record {
      drawn = c.in_ok-push.ensures.items
          ∙ ap₂ (λ bytes byte. bytes ++ byte ∷ []) c.loop-i.invariant.drawn
          (c.draw.ensures.drawn ∙ ap (drawn 256) c.loop-i.invariant.next)
          ∙ sym (bytes_more i x);
      next = c.draw.ensures.next ∙ ap next_seed c.loop-i.invariant.next ∙ sym (seed_more i x);
    }
