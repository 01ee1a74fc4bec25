use Rattle.tool06.specs.scaffold.Nanograms.{emitted_ng}
use Rattle.nanograms.proofs.emitted_ng.Goals as goal

pub returns-in-Share : goal.returns-in-Share
unfolding emitted_ng
returns-in-Share c =
    rw (c.share_ng.ensures, c.in-Share.is, c.requires.0)

pub returns-in-Measured : goal.returns-in-Measured
unfolding emitted_ng
returns-in-Measured c =
    rw (c.measured_ng.ensures, c.five_lkf.ensures, c.in-Measured.is, c.requires.0)
