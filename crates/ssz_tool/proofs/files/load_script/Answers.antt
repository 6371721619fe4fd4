use Rattle.ssz_tool.specs.Commands.{script_file}
use Rattle.ssz_tool.proofs.files.load_script.Goals as goal

pub returns : goal.returns
unfolding script_file
returns g c = c.load.ensures
