use Rattle.ssz_forms.proofs.Upgrading.{UpgradedSoFar}
use Rattle.ssz_forms.proofs.plain.upgraded_parts.Given as goal

abbrev pub invariant-loop-i : goal.invariant-loop-i
invariant-loop-i l =
    UpgradedSoFar l.schema.trees l.old l.parts l.new l.i l.made.items
