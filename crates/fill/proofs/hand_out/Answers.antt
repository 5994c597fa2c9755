-- `hand_out` meets its contract: the rests are loaded, filled and turned into gains. Assumes nothing.
use Rattle.fill.proofs.Call.{handed}
use Rattle.fill.proofs.hand_out.Goals as goal

pub returns : goal.returns
returns c = handed _ c.args.tracks.now _ _ _ _ _ c.load.ensures c.run_rounds-done.ensures c.to_gains.ensures
