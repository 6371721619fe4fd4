use Rattle.std.proofs.Common.{ℕ, ◌∙◌, refl, arith}
use Rattle.std.proofs.lemmas.List.{length-map, get_or-map}
use Rattle.ssz_lanes.proofs.WordLaws.{zip2-lane, zip2-whole}
use Rattle.ssz_lanes.proofs.words.ch.Goals as goal

pub returns : goal.returns
returns c j lt =
    let x = c.args.x in
    let y = c.args.y in
    let z = c.args.z in
    let negated = length-map x _ ∙ c.fits-x.0 in
    zip2-lane _ _ _ j lt (zip2-whole _ x y c.fits-x.0 c.fits-y.0)
    (zip2-whole _ _ z negated c.fits-z.0)
    ∙ rw (
      zip2-lane _ x y j lt c.fits-x.0 c.fits-y.0,
      zip2-lane _ _ z j lt negated c.fits-z.0,
      get_or-map {Y = ℕ} _ x j 0 0 (omega (arith, c.fits-x.0)),
    )
    refl
