use Rattle.lanes.proofs.ScanSteps.{scan_steps}
use Rattle.lanes.proofs.find_in_word.Goals as goal

pub returns-then-marks-eq0 : goal.returns-then-marks-eq0
returns-then-marks-eq0 g c = search scan_steps

pub returns : goal.returns
returns g c = search scan_steps
