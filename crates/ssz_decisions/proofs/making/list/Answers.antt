use Rattle.std.proofs.Common.{ap, refl, sym, ◌∙◌, arith}
use Rattle.ssz_script.specs.declared.reply.Reply.TheVariants.{List as Listed}
use Rattle.ssz_versions.specs.Content.{entry_names}
use Rattle.ssz_machine.specs.Rules.{says_reply}
use Rattle.ssz_decisions.specs.Content.{EngineContent}
use Rattle.ssz_decisions.proofs.Names.{names-same}
use Rattle.ssz_decisions.proofs.making.list.Goals as goal

pub returns : goal.returns
returns g c = λ count. record {
  can = tt;
  of = refl;
  comes = λ versions stands. ap (λ names. says_reply versions (Listed names))
      (sym (names-same _ _ _ _ versions stands)
      ∙ ap (λ (v : EngineContent). entry_names v.entries c.args.writer.0) (sym c.store.view_is)
      ∙ sym c.in_ok-names.ensures);
  spends = λ versions stands. omega arith;
  few = λ versions stands. refl;
}
