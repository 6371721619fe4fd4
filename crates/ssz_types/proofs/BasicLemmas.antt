-- Entries of the basic types.
use Rattle.std.proofs.Common.{ℕ, ◌≡◌, [], Some, Vec, Global, refl, sym, ap, ◌∙◌, subst, arith}
use Rattle.ssz_types.specs.declared.facts.Facts.{Facts}
use Rattle.ssz_types.specs.declared.width.Width.{Width}
use Rattle.ssz_types.specs.declared.ty.Ty.TheVariants.{Uint, Boolean}
use Rattle.ssz_types.specs.Types.{boolean, uint}
use Rattle.ssz_types.specs.Sizes.{byte_count}
use Rattle.ssz_types.proofs.DepthLemmas.{depth_of-small}
use Rattle.ssz_types.specs.Facts.{IsBasicEntry, AreFactsOf}

abbrev facts_of_size : ℕ → Facts
facts_of_size size = record {
  fixed_size = Some size;
  default_len = size;
  chunk_count = 1;
  depth =
      0;
  levels = 0;
  nesting = 1;
}

pub IsBasicEntry-boolean : (facts : Facts) (order : Vec ℕ Global) → facts ≡ facts_of_size 1
    → order.items ≡ []
    → IsBasicEntry boolean (record { ty = Boolean; facts = facts; order = order })
IsBasicEntry-boolean facts order e none = record {
  tree = λ done. refl;
  below = λ count. tt;
  legal = λ format. tt;
  facts = subst (λ (f : Facts). AreFactsOf f boolean) (sym e)
      (record {
        fixed_size = refl;
        default_len = refl;
        chunk_count = refl;
        depth =
            sym (depth_of-small 1 (omega arith));
        levels = refl;
        nesting = refl;
      });
  order = none;
}

pub IsBasicEntry-uint : (w : Width) (facts : Facts) (order : Vec ℕ Global) (size : ℕ)
    → size ≡ byte_count w → facts ≡ facts_of_size size → order.items ≡ []
    → IsBasicEntry (uint w) (record { ty = Uint w; facts = facts; order = order })
IsBasicEntry-uint w facts order size sized e none = record {
  tree = λ done. refl;
  below = λ count. tt;
  legal = λ format. tt;
  facts = subst (λ (f : Facts). AreFactsOf f (uint w)) (sym (e ∙ ap facts_of_size sized))
      (record {
        fixed_size = refl;
        default_len = refl;
        chunk_count = refl;
        depth =
            sym (depth_of-small 1 (omega arith));
        levels = refl;
        nesting = refl;
      });
  order = none;
}
