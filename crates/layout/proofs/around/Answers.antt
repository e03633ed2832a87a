use Rattle.layout.proofs.Chain.{outer_made}
use Rattle.layout.proofs.around.Goals as goal

pub returns : goal.returns
returns c =
    outer_made c.args.w c.args.buf.now c.requires.fits c.requires.inner_nonzero c.link_place-p.ensures c.from_be_bytes.ensures
