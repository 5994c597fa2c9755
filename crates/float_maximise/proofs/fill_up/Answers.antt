-- `fill_up`: the fronts of the four stores, each as long as the tracks. Assumes nothing.
use Rattle.float_maximise.proofs.Filled.{filled-up}
use Rattle.float_maximise.proofs.fill_up.Goals as goal

pub returns : goal.returns
returns c =
    filled-up c.args.free c.args.fits.now c.args.tracks.now _ _ _ _ _ c.requires.few c.new-parts.ensures c.load_sizes.ensures c.load_limits.ensures c.distribute_space_up_to_limits.ensures
