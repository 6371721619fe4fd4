use Rattle.std.proofs.Common.{◌∙◌, slice_index}
use Rattle.ssz_lanes.proofs.WordLaws.{zip2-lane, zip2-whole, maj_short}
use Rattle.ssz_lanes.proofs.words.maj.Goals as goal

pub returns : goal.returns
returns c j lt =
    let x = c.args.x in
    let y = c.args.y in
    let z = c.args.z in
    let xy = zip2-whole _ x y c.fits-x.0 c.fits-y.0 in
    let yz = zip2-whole _ y z c.fits-y.0 c.fits-z.0 in
    zip2-lane _ y _ j lt c.fits-y.0 (zip2-whole _ _ _ xy yz)
    ∙ rw (
      zip2-lane _ _ _ j lt xy yz,
      zip2-lane _ x y j lt c.fits-x.0 c.fits-y.0,
      zip2-lane _ y z j lt c.fits-y.0 c.fits-z.0,
    )
    (maj_short (slice_index x j) (slice_index y j) (slice_index z j))
